-- The draft of a removal does what the call should.
use Rattle.std.proofs.Common.{◌≡◌, ◌⊎◌, ◌↔◌, inl, inr, ℕ, ◌+◌, Bool, true, false, true≢false, List, [], ◌∷◌, None, Some, refl, sym, ap, ◌∙◌, subst, arith}
use Rattle.std.proofs.lemmas.Bool.{cases_Bool, cases_eq, cases_lt}
use Rattle.std.specs.Prelude.{Contains, is_some}
use Rattle.std.specs.FinMap.{get}
use Rattle.file_tree.specs.Apply.{apply, remove_at}
use Rattle.file_tree.specs.Tree.{Tree}
use Rattle.file_tree.specs.declared.call.Call.{Call}
use Rattle.file_tree.specs.declared.reply.Reply.TheVariants.{Ok}
use Rattle.cluster_history.specs.Changes.{Changes}
use Rattle.drafts.specs.Fates.{block_with}
use Rattle.drafts.specs.declared.change.Change.{Change}
use Rattle.drafts.specs.declared.fate.Fate.TheVariants.{Put, Freed}
use Rattle.gfs2_layout.specs.Records.{Record, record_named}
use Rattle.glock_names.specs.Views.{Seen, HasGroup}
use Rattle.glock_names.specs.declared.LockName.{LockName}
use Rattle.glock_names.specs.declared.State.TheVariants.{Ex}
use Rattle.glock_names.specs.declared.views.Group.{Group}
use Rattle.resource_groups.specs.Freeing.{HasSome}
use Rattle.resource_groups.specs.Putting.{HasDataBlock}
use Rattle.resource_groups.specs.Shown.{IsHeaderOf, group_lock}
use Rattle.image_model.specs.Flat.{Path}
use Rattle.image_model.specs.Image.{Image}
use Rattle.image_model.specs.Owners.{Owners, holding}
use Rattle.image_model.specs.Stands.{Layout}
use Rattle.image_model.proofs.Held.{none_some, some_same}
use Rattle.image_model.proofs.Members.{IsIn, contained, is_in}
use Rattle.image_changes.specs.Does.{IsOf, Does}
use Rattle.image_changes.specs.Drafted.{is_gone}
use Rattle.image_changes.specs.Flats.{in_directory}
use Rattle.image_changes.specs.Instances.{IsAt, IsChildless, among, records_at}
use Rattle.image_changes.proofs.Drafting.{drafts_do}
use Rattle.image_changes.proofs.Nodes.{among_in, in_among}
use Rattle.directory_changes.proofs.Shrunk.{shrinking_makes}
use Rattle.path_walks.specs.Holds.{holds, hold_of_group}
use Rattle.removing_calls.specs.Drafting.{IsRemoval}
use Rattle.group_locks.specs.Groups.{GroupsAreHeld}
use Rattle.removing_calls.specs.Removing.{Goes}
use Rattle.removing_calls.proofs.Imaged.{removes}
use Rattle.path_walks.proofs.Wants.{exclusive}

in_header_or_not : (g : Group) (b : ℕ) → IsHeaderOf g b ⊎ ¬ (IsHeaderOf g b)
in_header_or_not g b = elim (cases_lt b g.addr) [
  | inl under ↦ inr (λ h. absurd (omega (arith, under, h.low)))
  | inr over ↦ elim (cases_lt b (g.addr + g.length)) [
    | inl less ↦ inl (record { low = over; high = less })
    | inr more ↦ inr (λ h. absurd (omega (arith, more, h.high)))
  ]
]

-- the block is of the header and bitmap of a group of these, or of none
pub header_among : (gs : List Group) (b : ℕ) → ((g : Group) × IsIn g gs × IsHeaderOf g b) ⊎ ((g : Group) → IsIn g gs → IsHeaderOf g b → ⊥)
header_among [] b = inr (λ g at h. elim at [ ])
header_among (k ∷ gs) b = elim (in_header_or_not k b) [
  | inl h ↦ inl (k, inl refl, h)
  | inr away ↦ elim (header_among gs b) [
    | inl there ↦ inl (there.0, inr there.1, there.2)
    | inr none ↦ inr (λ g at h. elim at [ inl e ↦ away (subst (λ r. IsHeaderOf r b) e h) | inr later ↦ none g later h ])
  ]
]

module _ {V : Type 0} (seen : V → Seen) (view : V) (p : ℕ) (name : List ℕ) (blocks : List ℕ) {time : ℕ} (change : Change) (is : IsRemoval seen view p name time blocks change) where
  -- what becomes of a block before is put, under the directory's lock: its dinode's, or the one that had the record
  pub second_lock : (b : ℕ) (lock : LockName) (plain : Bool) (bytes : List ℕ) → get is.fates b ≡ Some (Put lock plain bytes) → lock ≡ record { kind = 2; number = p }
  second_lock b lock plain bytes e = elim (cases_eq b p) [
    | inl same ↦ put_lock lock _ plain false bytes _ (sym e ∙ ap (get is.fates) same ∙ is.taken.put)
    | inr other ↦ elim (cases_eq b is.leaf) [
      | inl same ↦ put_lock lock _ plain false bytes _ (sym e ∙ ap (get is.fates) same ∙ is.taken.leaf_put.1)
      | inr away ↦ absurd (none_some (sym (is.taken.others b other away) ∙ e))
    ]
  ]
    where
      put_lock : (x y : LockName) (c d : Bool) (m n : List ℕ) → Some (Put x c m) ≡ Some (Put y d n) → x ≡ y
      put_lock x y c d m n e = cc

  pub second_place : (b : ℕ) (lock : LockName) (plain : Bool) (bytes : List ℕ) → get is.fates b ≡ Some (Put lock plain bytes) → (b ≡ p) ⊎ (b ≡ is.leaf)
  second_place b lock plain bytes e = elim (cases_eq b p) [
    | inl same ↦ inl same
    | inr other ↦ elim (cases_eq b is.leaf) [
      | inl same ↦ inr same
      | inr away ↦ absurd (none_some (sym (is.taken.others b other away) ∙ e))
    ]
  ]

  -- and none was freed before
  pub second_stays : (b : ℕ) → is_gone (get is.fates b) ≡ false
  second_stays b = elim (cases_eq b p) [
    | inl same ↦ ap is_gone (ap (get is.fates) same ∙ is.taken.put)
    | inr other ↦ elim (cases_eq b is.leaf) [
      | inl same ↦ ap is_gone (ap (get is.fates) same ∙ is.taken.leaf_put.1)
      | inr away ↦ ap is_gone (is.taken.others b other away)
    ]
  ]

module _ {V : Type 0} (seen : V → Seen) (view : V) (p : ℕ) (name : List ℕ) (blocks : List ℕ) {time : ℕ} (change : Change) (is : IsRemoval seen view p name time blocks change)
    (dir_held : (seen view).state_of (record { kind = 2; number = p }) ≡ Ex) (groups_held : GroupsAreHeld (seen view) blocks) where
  second_held : (b : ℕ) (lock : LockName) (plain : Bool) (bytes : List ℕ) → get is.fates b ≡ Some (Put lock plain bytes) → (seen view).state_of lock ≡ Ex
  second_held b lock plain bytes e = ap (seen view).state_of (second_lock seen view p name blocks change is b lock plain bytes e) ∙ dir_held

  group_held : (g : Group) → HasGroup (seen view) g → HasSome g blocks → (seen view).state_of (group_lock g) ≡ Ex
  group_held g has some = exclusive ((seen view).state_of (group_lock g)) (groups_held g has some)

  -- each lock with which a block is put is held exclusive
  all_held : (b : ℕ) (lock : LockName) (plain : Bool) (bytes : List ℕ) → get is.freed.fates b ≡ Some (Put lock plain bytes) → (seen view).state_of lock ≡ Ex
  all_held b lock plain bytes e = elim (cases_Bool (among blocks b)) [
    | inl freed ↦ absurd (differ (some_same (sym e ∙ is.freed.frees.freed b (contained b blocks (among_in blocks b freed)))))
    | inr other ↦ elim (header_among (seen view).groups b) [
      | inl h ↦ of_group h.0 (contained h.0 (seen view).groups h.1) h.2 (is.freed.frees.headers h.0 b (contained h.0 (seen view).groups h.1) h.2)
      | inr none ↦ second_held b lock plain bytes (sym (is.freed.rest.others b (λ c. true≢false (sym (in_among blocks b (is_in b blocks c)) ∙ other))
          (λ g has some head. none g (is_in g (seen view).groups has) head)) ∙ e)
    ]
  ]
    where
      differ : Put lock plain bytes ≡ Freed → ⊥
      differ e = cc

      put_lock : (x y : LockName) (c d : Bool) (m n : List ℕ) → Some (Put x c m) ≡ Some (Put y d n) → x ≡ y
      put_lock x y c d m n e = cc

      of_group : (g : Group) → HasGroup (seen view) g → IsHeaderOf g b
          → (get is.freed.fates b ≡ get is.fates b) ⊎ ((bytes' : List ℕ) × (get is.freed.fates b ≡ Some (Put (group_lock g) false bytes'))) → (seen view).state_of lock ≡ Ex
      of_group g has head (inl same) = second_held b lock plain bytes (sym same ∙ e)
      of_group g has head (inr put) = elim (cases_Bool (holds (seen view) (hold_of_group g))) [
        | inl held ↦ ap (seen view).state_of (put_lock lock (group_lock g) plain false bytes put.0 (sym e ∙ put.1)) ∙ exclusive ((seen view).state_of (group_lock g)) held
        | inr lacks ↦ second_held b lock plain bytes (sym (is.freed.rest.groups g b has (λ some. true≢false (sym (groups_held g has some) ∙ lacks)) head) ∙ e)
      ]

  -- what is owed in each image that the view may be of
  pub record IsRemovedIn (call : Call) (front : Path) (a : ℕ) (im : Image) (o : Owners) (l : Layout) (t : Tree) : Type 0 where
    pub at : IsAt im o l front p
    pub at_a : IsAt im o l (in_directory front name) a
    pub record_is : Record
    pub named : record_named (records_at im o p) name ≡ Some record_is
    pub childless : IsChildless im o a
    pub goes : (b : ℕ) → Contains blocks b ↔ Goes (holding im o a) b
    pub applies : apply call t ≡ record { reply = Ok; tree = remove_at (in_directory front name) t }

  pub removal_does : (call : Call) (front : Path) (a : ℕ) → Changes (record { call = call; reply = Ok }) ≡ true → (seen view).state_of (record { kind = 2; number = a }) ≡ Ex
      → Contains blocks a → HasDataBlock (seen view) a
      → ((im : Image) (o : Owners) (l : Layout) (t : Tree) → IsOf (seen view) im o l t → IsRemovedIn call front a im o l t) → Does (seen view) call Ok change
  removal_does call front a changing held has inside images =
      let put = is.freed.frees.counts inside.0 inside.1 (a, has, inside.2) in
      drafts_do (seen view) call Ok is.freed.fates change is.freed.finished changing inside.0.addr (ap (λ f. is_some (block_with f None)) put.1) (λ im o l t of. all_held)
      (λ im o l t of. let r = images im o l t of in
      shrinking_makes (seen view) call is.freed.fates im o l t front p name a of r.at r.at_a
      (removes seen view im o l t of front p name a r.at r.at_a r.record_is r.named r.childless blocks r.goes change is) held r.applies)
