-- The locks that a removal's change touches are of the call's list.
use Rattle.std.proofs.Common.{◌≡◌, ◌⊎◌, ◌↔◌, inl, inr, ℕ, zero, suc, ◌+◌, ◌<◌, Bool, true, false, true≢false, List, [], ◌∷◌, ◌++◌, length, take, slice_get, Option, Some, refl, sym, ap, ◌∙◌, subst, arith}
use Rattle.std.proofs.Math.Seq.{take-append_seam}
use Rattle.std.proofs.lemmas.Bool.{cases_Bool}
use Rattle.std.proofs.lemmas.List.{length-append, take_all}
use Rattle.std.specs.Prelude.{Contains}
use Rattle.std.specs.FinMap.{get}
use Rattle.file_tree.specs.declared.call.Call.{Call}
use Rattle.file_tree.specs.Tree.{Tree}
use Rattle.drafts.specs.declared.change.Change.{Change}
use Rattle.drafts.specs.declared.fate.Fate.TheVariants.{Put, Freed}
use Rattle.gfs2_layout.specs.declared.rindex.Rindex.{Rindex}
use Rattle.glock_names.specs.Views.{Seen, HasGroup, group_of_entry}
use Rattle.glock_names.specs.declared.LockName.{LockName}
use Rattle.glock_names.specs.declared.State.TheVariants.{Ex}
use Rattle.glock_names.specs.declared.views.Group.{Group}
use Rattle.call_locks.specs.Wants.{want, shared_above, way_to, wanted}
use Rattle.call_locks.specs.WantLaws.{path_of}
use Rattle.call_locks.specs.declared.want.Want.{Want}
use Rattle.resource_groups.specs.Freeing.{HasSome}
use Rattle.resource_groups.specs.Putting.{HasDataBlock}
use Rattle.resource_groups.specs.Shown.{IsHeaderOf, group_lock}
use Rattle.image_model.specs.Flat.{Path, Flat, follow}
use Rattle.image_model.specs.Image.{Image}
use Rattle.image_model.specs.Owners.{Owners, holding}
use Rattle.image_model.specs.Stands.{Layout, flat_of}
use Rattle.image_model.proofs.Counts.{at_in}
use Rattle.image_model.proofs.Held.{some_same}
use Rattle.image_model.proofs.Members.{IsIn, contained, is_in, in_left, in_right, in_flat_map}
use Rattle.image_changes.specs.Does.{IsOf, AreInside, LiesInGroup}
use Rattle.image_changes.specs.Drafted.{IsOfDraft, is_freed, is_gone}
use Rattle.image_changes.specs.Instances.{IsAt, among}
use Rattle.image_changes.proofs.Finishing.{finish_makes}
use Rattle.image_changes.proofs.Inside.{stay_inside}
use Rattle.image_changes.proofs.Nodes.{among_in, in_among}
use Rattle.draft_changes.proofs.Views.{groups_are_listed}
use Rattle.path_walks.specs.Holds.{Hold, hold_of, hold_for, holds_on, holds_in, IsUnder, hold_of_group}
use Rattle.removing_calls.specs.Drafting.{IsRemoval}
use Rattle.group_locks.specs.Groups.{has_some, holds_of_groups, is_block_of}
use Rattle.group_locks.proofs.Listed.{placed_in}
use Rattle.group_locks.proofs.Locks.{so_has}
use Rattle.removing_calls.specs.Removing.{IsRemoving, Goes}
use Rattle.removing_calls.proofs.Doing.{header_among, second_lock, second_place, second_stays}
use Rattle.removing_calls.proofs.Found.{goes_its, own_blocks}
use Rattle.removing_calls.proofs.Wanted.{wants_are}
use Rattle.path_walks.specs.Walks.{IsLastOf}
use Rattle.path_walks.proofs.Lying.{data_lies, header_lies}

-- ---- the path's locks

hold_there : (f : Flat) (root : ℕ) (path : Path) (wants : List Want) (w : Want) (a : ℕ) → IsIn w wants → follow f root (take w.depth path) ≡ Some a → IsIn (hold_of a w.state) (holds_on f root path wants)
hold_there f root path wants w a at leads =
    in_flat_map (λ (x : Want). hold_for (follow f root (take x.depth path)) x.state) w (hold_of a w.state) wants at
    (subst (λ (x : Option ℕ). IsIn (hold_of a w.state) (hold_for x w.state)) (sym leads) (inl refl))

module _ (im : Image) (o : Owners) (l : Layout) (c : Call) (removing : IsRemoving c) (name : List ℕ) (last : IsLastOf (path_of c false) name) where
  -- that of the directory above, and of the inode
  pub directory_listed : (p : ℕ) → IsAt im o l last.0 p → IsIn (hold_of p Ex) (holds_in im o l (path_of c false) (wanted c))
  directory_listed p at =
      let n = length last.0 in
      let front : take n (path_of c false) ≡ last.0 = ap (take n) last.1 ∙ take-append_seam last.0 (name ∷ []) in
      hold_there (flat_of im o) l.root (path_of c false) (wanted c) (want false n Ex) p
      (subst (IsIn (want false n Ex)) (sym (wants_are c name removing last)) (in_left (want false n Ex) (way_to false n Ex) (want false (n + 1) Ex ∷ []) (in_right (want false n Ex) (shared_above false n) (want false n Ex ∷ []) (inl refl))))
      (ap (follow (flat_of im o) l.root) front ∙ at)

  pub inode_listed : (a : ℕ) → IsAt im o l (path_of c false) a → IsIn (hold_of a Ex) (holds_in im o l (path_of c false) (wanted c))
  inode_listed a at =
      let n = length last.0 in
      let long : length (path_of c false) ≡ n + 1 = ap length last.1 ∙ length-append last.0 (name ∷ []) in
      let whole : take (n + 1) (path_of c false) ≡ path_of c false = take_all (n + 1) (path_of c false) (omega (arith, long)) in
      hold_there (flat_of im o) l.root (path_of c false) (wanted c) (want false (n + 1) Ex) a
      (subst (IsIn (want false (n + 1) Ex)) (sym (wants_are c name removing last)) (in_right (want false (n + 1) Ex) (way_to false n Ex) (want false (n + 1) Ex ∷ []) (inl refl)))
      (ap (follow (flat_of im o) l.root) whole ∙ at)

-- ---- the locks of the change

place_of_lock : (x : LockName) (xs : List LockName) → IsIn x xs → (i : ℕ) × (i < length xs) × (slice_get xs i ≡ Some x)
place_of_lock x [] h = elim h [ ]
place_of_lock x (y ∷ ys) (inl e) = (0, omega arith, ap Some (sym e))
place_of_lock x (y ∷ ys) (inr h) = let r = place_of_lock x ys h in (suc r.0, omega (arith, r.1), r.2)

there_at : {X : Type 0} (xs : List X) (i : ℕ) → i < length xs → (x : X) × (slice_get xs i ≡ Some x)
there_at [] i low = absurd (omega (arith, low))
there_at (y ∷ ys) zero low = (y, refl)
there_at (y ∷ ys) (suc i) low = there_at ys i (omega (arith, low))

place_low : {X : Type 0} (xs : List X) (i : ℕ) (x : X) → slice_get xs i ≡ Some x → i < length xs
place_low [] i x e = cc
place_low (y ∷ ys) zero x e = omega arith
place_low (y ∷ ys) (suc i) x e = omega (arith, place_low ys i x e)

put_lock : (x y : LockName) (c d : Bool) (m n : List ℕ) → Some (Put x c m) ≡ Some (Put y d n) → x ≡ y
put_lock x y c d m n e = cc

module _ {V : Type 0} (seen : V → Seen) (view : V) (im : Image) (o : Owners) (l : Layout) (t : Tree) (of : IsOf (seen view) im o l t) (p : ℕ) (name : List ℕ) (path : Path) (a : ℕ) (at : IsAt im o l path a)
    (blocks : List ℕ) (goes : (b : ℕ) → Contains blocks b ↔ Goes (holding im o a) b) {time : ℕ} (change : Change)
    (is : IsRemoval seen view p name time blocks change) where
  -- each is the directory's, or that of a group that has some of the inode's blocks
  abbrev IsOne : LockName → Type 0
  IsOne lock = (lock ≡ record { kind = 2; number = p }) ⊎ ((g : Rindex) × IsIn g l.groups × (has_some (is_block_of (holding im o a)) g ≡ true) × (lock ≡ record { kind = 3; number = g.address }))

  which : (b : ℕ) (lock : LockName) (content : Bool) (bytes : List ℕ) → get is.freed.fates b ≡ Some (Put lock content bytes) → IsOne lock
  which b lock content bytes e = elim (cases_Bool (among blocks b)) [
    | inl freed ↦ absurd (differ (some_same (sym e ∙ is.freed.frees.freed b (contained b blocks (among_in blocks b freed)))))
    | inr other ↦ elim (header_among (seen view).groups b) [
      | inl h ↦ of_group h.0 (contained h.0 (seen view).groups h.1) h.2 (is.freed.frees.headers h.0 b (contained h.0 (seen view).groups h.1) h.2)
      | inr none ↦ inl (second_lock seen view p name blocks change is b lock content bytes (sym (is.freed.rest.others b (λ c. true≢false (sym (in_among blocks b (is_in b blocks c)) ∙ other))
          (λ g has some head. none g (is_in g (seen view).groups has) head)) ∙ e))
    ]
  ]
    where
      differ : Put lock content bytes ≡ Freed → ⊥
      differ e = cc

      of_group : (g : Group) → HasGroup (seen view) g → IsHeaderOf g b
          → (get is.freed.fates b ≡ get is.fates b) ⊎ ((bytes' : List ℕ) × (get is.freed.fates b ≡ Some (Put (group_lock g) false bytes'))) → IsOne lock
      of_group g has head (inl same) = inl (second_lock seen view p name blocks change is b lock content bytes (sym same ∙ e))
      of_group g has head (inr put) =
          let f = (groups_are_listed (seen view) im o l t g of).0 has in
          elim (cases_Bool (has_some (is_block_of (holding im o a)) f.0)) [
            | inl some ↦ inr (f.0, at_in f.0 l.groups f.1.0 f.1.1, some, put_lock lock (group_lock g) content false bytes put.0 (sym e ∙ put.1) ∙ ap group_lock f.2)
            | inr lacks ↦ inl (second_lock seen view p name blocks change is b lock content bytes (sym (is.freed.rest.groups g b has
                (λ some. true≢false (sym (so_has (is_block_of (holding im o a)) blocks (own_blocks (seen view) im o l t of path a at blocks goes) f.0 (subst (λ k. HasSome k blocks) f.2 some)) ∙ lacks)) head) ∙ e))
          ]

  -- what is freed is the inode's
  freed_its : (b : ℕ) → is_freed is.freed.fates b ≡ true → Contains blocks b
  freed_its b gone = elim (cases_Bool (among blocks b)) [
    | inl freed ↦ contained b blocks (among_in blocks b freed)
    | inr other ↦ elim (header_among (seen view).groups b) [
      | inl h ↦ absurd (of_group (is.freed.frees.headers h.0 b (contained h.0 (seen view).groups h.1) h.2))
      | inr none ↦ absurd (true≢false (sym gone ∙ ap is_gone (is.freed.rest.others b (λ c. true≢false (sym (in_among blocks b (is_in b blocks c)) ∙ other))
          (λ g has some head. none g (is_in g (seen view).groups has) head)) ∙ second_stays seen view p name blocks change is b))
    ]
  ]
    where
      of_group : {lock : LockName} → (get is.freed.fates b ≡ get is.fates b) ⊎ ((bytes' : List ℕ) × (get is.freed.fates b ≡ Some (Put lock false bytes'))) → ⊥
      of_group (inl same) = true≢false (sym gone ∙ ap is_gone same ∙ second_stays seen view p name blocks change is b)
      of_group (inr put) = true≢false (sym gone ∙ ap is_gone put.1)

  pub is_under : (list : List Hold) → IsIn (hold_of p Ex) list → IsIn (hold_of a Ex) list → IsUnder o (list ++ holds_of_groups (is_block_of (holding im o a)) l.groups) change
  is_under list dir own = record {
    written = λ lock has.
        let i = place_of_lock lock change.locks.items (is_in lock change.locks.items has) in
        let w = there_at change.blocks.items i.0 (omega (arith, i.1, d.form.locks)) in
        contained (record { lock = lock; state = Ex }) (list ++ more) (listed lock (which w.0.block lock w.0.plain w.0.bytes (d.told i.0 w.0 lock w.1 i.2)));
    freed = λ b x gone its.
        let mine = goes_its (seen view) im o l t of path a b at ((goes b).0 (freed_its b (sym (d.gone b) ∙ gone))) in
        contained (hold_of x Ex) (list ++ more) (in_left (hold_of x Ex) list more (subst (λ y. IsIn (hold_of y Ex) list) (some_same (sym mine ∙ its)) own));
  }
    where
      more : List Hold
      more = holds_of_groups (is_block_of (holding im o a)) l.groups

      d : IsOfDraft is.freed.fates change
      d = finish_makes is.freed.fates change is.freed.finished

      listed : (lock : LockName) → IsOne lock → IsIn (record { lock = lock; state = Ex }) (list ++ more)
      listed lock (inl e) = in_left (record { lock = lock; state = Ex }) list more (subst (λ k. IsIn (record { lock = k; state = Ex }) list) (sym e) dir)
      listed lock (inr g) =
          let place = placed_in (has_some (is_block_of (holding im o a))) l.groups g.0 g.1 g.2 in
          let x = hold_of_group (group_of_entry g.0) in
          let there : IsIn x more = subst (IsIn x) (sym place.split) (in_right x place.front (x ∷ place.back) (inl refl)) in
          subst (λ k. IsIn (record { lock = k; state = Ex }) (list ++ more)) (sym g.3) (in_right x list more there)

-- ---- what is written lies in the view's groups

module _ {V : Type 0} (seen : V → Seen) (view : V) (p : ℕ) (name : List ℕ) (blocks : List ℕ) {time : ℕ} (change : Change) (is : IsRemoval seen view p name time blocks change) (inside : HasDataBlock (seen view) p) where
  put_inside : (b : ℕ) (lock : LockName) (content : Bool) (bytes : List ℕ) → get is.freed.fates b ≡ Some (Put lock content bytes) → LiesInGroup (seen view) b
  put_inside b lock content bytes e = elim (header_among (seen view).groups b) [
    | inl h ↦
        let has : HasGroup (seen view) h.0 = contained h.0 (seen view).groups h.1 in
        header_lies (seen view) h.0 b is.shows has h.2
    | inr none ↦ elim (cases_Bool (among blocks b)) [
      | inl freed ↦ absurd (differ (some_same (sym e ∙ is.freed.frees.freed b (contained b blocks (among_in blocks b freed)))))
      | inr other ↦
          let before = sym (is.freed.rest.others b (λ c. true≢false (sym (in_among blocks b (is_in b blocks c)) ∙ other)) (λ g has some head. none g (is_in g (seen view).groups has) head)) ∙ e in
          elim (second_place seen view p name blocks change is b lock content bytes before) [
            | inl here ↦ subst (LiesInGroup (seen view)) (sym here) (data_lies (seen view) p is.shows inside)
            | inr here ↦ subst (LiesInGroup (seen view)) (sym here) (data_lies (seen view) is.leaf is.shows leaf_inside)
          ]
    ]
  ]
    where
      differ : Put lock content bytes ≡ Freed → ⊥
      differ e = cc

      leaf_inside : HasDataBlock (seen view) is.leaf
      leaf_inside = elim is.taken.inside [ inl e ↦ subst (HasDataBlock (seen view)) (sym e) inside | inr there ↦ there ]

  pub writes_inside : AreInside (seen view) change
  writes_inside = stay_inside (seen view) is.freed.fates change is.freed.finished is.freed.whole put_inside
