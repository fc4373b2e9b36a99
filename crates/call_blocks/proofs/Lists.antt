-- The locks of inodes in a call's list.
use Rattle.std.proofs.Common.{◌≡◌, ◌⊎◌, ℕ, inl, inr, Bool, true, false, List, [], ◌∷◌, ◌++◌, length, Option, None, Some, slice_get, take, refl, sym, ap, subst, ◌∙◌, arith}
use Rattle.std.specs.Prelude.{◌==◌, filter, map, nat_lt, if◌then◌else◌}
use Rattle.std.proofs.lemmas.Bool.{eqb-true}
use Rattle.cluster_history.specs.Changes.{is_ok}
use Rattle.file_tree.specs.Apply.{apply}
use Rattle.file_tree.specs.Tree.{Tree}
use Rattle.file_tree.specs.declared.call.Call.{Call}
use Rattle.file_tree.specs.declared.call.Call.TheVariants as calls
use Rattle.glock_names.specs.Views.{group_of_entry}
use Rattle.glock_names.specs.declared.State.{State}
use Rattle.glock_names.specs.declared.State.TheVariants.{Ex}
use Rattle.glock_names.specs.declared.views.Group.{Group}
use Rattle.call_locks.specs.Wants.{wanted}
use Rattle.call_locks.specs.declared.want.Want.{Want}
use Rattle.image_model.specs.Flat.{Path, follow}
use Rattle.image_model.specs.Groups.{state_of}
use Rattle.image_model.specs.Image.{Image}
use Rattle.image_model.specs.Owners.{Below, Chained, Free, InGroup, Master, Named, Nobody, Owner, Owners, Root, Super, holding}
use Rattle.image_model.specs.Stands.{Layout, flat_of}
use Rattle.image_model.proofs.Counts.{at_in}
use Rattle.image_model.proofs.Members.{IsIn, from_filter, from_flat_map, in_either, is_in}
use Rattle.image_changes.specs.Instances.{dinode_at}
use Rattle.lone_answers.specs.Calls.{IsCallList}
use Rattle.lone_answers.specs.Holds.{Hold, hold_for, hold_of, hold_of_group, holds_in}
use Rattle.lone_answers.specs.Making as making
use Rattle.lone_answers.specs.MoveEnds as ends
use Rattle.lone_answers.specs.Removing as removing
use Rattle.lone_answers.specs.Writing as writing
use Rattle.lone_answers.specs.MakingBlocks.{block_holds, first_of, holds_from, new_holds}
use Rattle.lone_answers.specs.PairOrders.{beside, in_both, left_after, merged, pair_holds}
use Rattle.growth_laws.specs.Need.{needed}
use Rattle.lone_answers.specs.FoundBlocks.{free_first, free_for, free_in, free_in_all, first_holds, group_of_node, own_first, states_by}
use Rattle.lone_answers.proofs.FoundLists.{from_take}
use Rattle.call_blocks.specs.Replaying.{IsOfTree, ListsAreOfTheTree}

state_free : (x : Owner) → state_of x ≡ 0 → (g : ℕ) × (x ≡ Free g)
state_free (Free g) e = (g, refl)
state_free Super e = absurd (omega (arith, e))
state_free (InGroup g) e = absurd (omega (arith, e))
state_free Nobody e = absurd (omega (arith, e))
state_free Root e = absurd (omega (arith, e))
state_free Master e = absurd (omega (arith, e))
state_free (Named p name) e = absurd (omega (arith, e))
state_free (Below a p k level first) e = absurd (omega (arith, e))
state_free (Chained a hash place) e = absurd (omega (arith, e))

in_if : {X : Type 0} (t : Bool) (x : X) (xs ys : List X) → IsIn x (if t then xs else ys) → IsIn x xs ⊎ IsIn x ys
in_if true x xs ys h = inl h
in_if false x xs ys h = inr h

module _ (im : Image) (o : Owners) (l : Layout) where
  -- where the lock is an inode's, that is of the tree
  abbrev IsTreeHold : Hold → Type 0
  IsTreeHold h = (a : ℕ) → h.lock ≡ record { kind = 2; number = a } → IsOfTree im o l a

  record AllOfTree (list : List Hold) : Type 0 where
    each : (h : Hold) → IsIn h list → IsTreeHold h

  none_there : AllOfTree []
  none_there = record { each = λ h there. elim there [ ] }

  one_more : (h : Hold) (list : List Hold) → IsTreeHold h → AllOfTree list → AllOfTree (h ∷ list)
  one_more h list first rest = record { each = by }
    where
      by : (x : Hold) → IsIn x (h ∷ list) → IsTreeHold x
      by x (inl e) = subst IsTreeHold (sym e) first
      by x (inr later) = rest.each x later

  both : (xs ys : List Hold) → AllOfTree xs → AllOfTree ys → AllOfTree (xs ++ ys)
  both xs ys first second = record { each = λ h there. elim (in_either h xs ys there) [ inl e ↦ first.each h e | inr e ↦ second.each h e ] }

  either : (t : Bool) (xs ys : List Hold) → AllOfTree xs → AllOfTree ys → AllOfTree (if t then xs else ys)
  either true xs ys first second = first
  either false xs ys first second = second

  -- ---- groups

  group_hold : (g : Group) → IsTreeHold (hold_of_group g)
  group_hold g a e = absurd (omega (arith, ap (λ k. k.kind) e))

  of_groups : {X : Type 0} (f : X → Group) (xs : List X) → AllOfTree (map (λ x. hold_of_group (f x)) xs)
  of_groups f [] = none_there
  of_groups f (x ∷ xs) = one_more (hold_of_group (f x)) (map (λ y. hold_of_group (f y)) xs) (group_hold (f x)) (of_groups f xs)

  all_groups : (gs : List Group) → AllOfTree (map hold_of_group gs)
  all_groups = of_groups (λ g. g)

  room : (says : Group → ℕ → ℕ) (groups first : List Group) (need : ℕ) → AllOfTree (first_holds says groups first need)
  room says groups first need =
      either _ _ _ none_there (both _ _ (all_groups first) (either _ _ _ (all_groups groups) none_there))

  -- ---- inodes

  inode_hold : (path : Path) (a : ℕ) (state : State) → follow (flat_of im o) l.root path ≡ Some a → IsTreeHold (hold_of a state)
  inode_hold path a state at b e = inl (path, at ∙ ap (λ k. Some k.number) e)

  of_want : (path : Path) (state : State) (x : Option ℕ) → follow (flat_of im o) l.root path ≡ x → AllOfTree (hold_for x state)
  of_want path state None at = none_there
  of_want path state (Some a) at = one_more (hold_of a state) [] (inode_hold path a state at) none_there

  on_path : (path : Path) (wants : List Want) → AllOfTree (holds_in im o l path wants)
  on_path path wants = record {
    each = λ h there.
        let w = from_flat_map (λ (w : Want). hold_for (follow (flat_of im o) l.root (take w.depth path)) w.state) h wants there in
        (of_want (take w.0.depth path) w.0.state (follow (flat_of im o) l.root (take w.0.depth path)) refl).each h w.2;
  }

  -- ---- a new inode

  is_free : (gs : List Group) (x : ℕ) → IsIn x (free_in_all (states_by o) gs) → (g : ℕ) × (o x ≡ Free g)
  is_free gs x there =
      let g = from_flat_map (free_in (states_by o)) x gs there in
      state_free (o x) (eqb-true (state_of (o x)) 0 (from_filter (λ b. states_by o g.0 b == 0) x _ g.2).1)

  taken_free : (groups first : List Group) (need x : ℕ) → IsIn x (free_first (states_by o) groups first need) → (g : ℕ) × (o x ≡ Free g)
  taken_free groups first need x there = elim (in_if _ x _ _ (from_take need _ x there)) [ inl e ↦ is_free groups x e | inr e ↦ is_free first x e ]

  first_in : (need : ℕ) (blocks : List ℕ) (x : ℕ) → first_of need blocks ≡ Some x → IsIn x blocks
  first_in need blocks x = by (nat_lt _ _)
    where
      by : (t : Bool) → (if t then None else slice_get blocks 0) ≡ Some x → IsIn x blocks
      by true e = cc
      by false e = at_in x blocks 0 e

  of_first : (blocks : List ℕ) (state : State) (x : Option ℕ) → ((a : ℕ) → x ≡ Some a → (g : ℕ) × (o a ≡ Free g)) → AllOfTree (hold_for x state)
  of_first blocks state None free = none_there
  of_first blocks state (Some a) free = one_more (hold_of a state) [] (λ b e. let same : a ≡ b = ap (λ k. k.number) e in inr (subst (λ z. (g : ℕ) × (o z ≡ Free g)) same (free a refl))) none_there

  new_room : (groups : List Group) (own : Group) (need : ℕ) → AllOfTree (block_holds (states_by o) groups own need)
  new_room groups own need =
      let blocks = free_for (states_by o) groups own need in
      both _ _ (room (states_by o) groups (own ∷ []) need) (of_first blocks Ex (first_of need blocks) (λ a e. taken_free groups (own ∷ []) need a (first_in need blocks a e)))

  of_node : (groups : List Group) (own : Option Group) (need : ℕ) → AllOfTree (holds_from (states_by o) groups own need)
  of_node groups None need = none_there
  of_node groups (Some own) need = new_room groups own need

  -- ---- two paths

  beside_all : (x : Hold) (later : List Hold → List Hold) → IsTreeHold x → ((zs : List Hold) → AllOfTree zs → AllOfTree (later zs)) → (ys : List Hold) → AllOfTree ys → AllOfTree (beside x later ys)
  beside_all x later first rest [] all = one_more x (later []) first (rest [] none_there)
  beside_all x later first rest (y ∷ ys) all =
      let below : AllOfTree ys = record { each = λ h there. all.each h (inr there) } in
      let head : IsTreeHold y = all.each y (inl refl) in
      let of_second : AllOfTree (y ∷ beside x later ys) = one_more y (beside x later ys) head (beside_all x later first rest ys below) in
      let of_both : AllOfTree (in_both x y ∷ later ys) = one_more (in_both x y) (later ys) first (rest ys below) in
      either (x.lock.number == y.lock.number) (in_both x y ∷ later ys) (if nat_lt x.lock.number y.lock.number then x ∷ later (y ∷ ys) else y ∷ beside x later ys) of_both
      (either (nat_lt x.lock.number y.lock.number) (x ∷ later (y ∷ ys)) (y ∷ beside x later ys) (one_more x (later (y ∷ ys)) first (rest (y ∷ ys) all)) of_second)

  merged_all : (left : List Hold → List Hold) → ((zs : List Hold) → AllOfTree zs → AllOfTree (left zs)) → (xs ys : List Hold) → AllOfTree xs → AllOfTree ys → AllOfTree (merged left xs ys)
  merged_all left ends [] ys first second = ends ys second
  merged_all left ends (x ∷ xs) ys first second =
      beside_all x (λ zs. merged left xs zs) (first.each x (inl refl)) (λ zs all. merged_all left ends xs zs (record { each = λ h there. first.each h (inr there) }) all) ys second

  left_all : (t : Bool) (ys : List Hold) → AllOfTree ys → AllOfTree (left_after t ys)
  left_all true ys all = none_there
  left_all false ys all = all

  on_paths : (p q : Path) (first second : List Want) → AllOfTree (pair_holds im o l p q first second)
  on_paths p q first second = merged_all _ (left_all _) _ _ (on_path p first) (on_path q second)

  order : IsTreeHold ends.order_hold
  order a e = absurd (omega (arith, ap (λ k. k.kind) e))

  of_ends : (call : Call) → AllOfTree (ends.inode_holds im o l call)
  of_ends call = either _ _ _ none_there (either _ _ _ none_there (one_more _ _ order (on_paths (ends.from_path call) (ends.to_path call) (ends.first_wants call) (ends.second_wants call))))

  -- ---- the calls

  made : (t : Tree) (call : Call) (node : ℕ) → AllOfTree (making.call_holds im o l t call node)
  made t call node =
      both (making.path_holds im o l call) (making.inode_holds im o l t call node) (on_path (making.directory_path call) (wanted call))
      (either (is_ok (apply call t).reply) (new_holds o l node (making.blocks_needed im o l call)) []
      (of_node (map group_of_entry l.groups) (group_of_node (map group_of_entry l.groups) node) (making.blocks_needed im o l call)) none_there)

  gone : (x : Option ℕ) → AllOfTree (removing.group_holds_of im o l x)
  gone None = none_there
  gone (Some a) = of_groups group_of_entry (filter _ l.groups)

  edited : (call : Call) (node : ℕ) (x : Option ℕ) → ((a : ℕ) → AllOfTree (writing.group_holds_of im o l call node a)) → AllOfTree (writing.group_holds_at im o l call node x)
  edited call node None all = none_there
  edited call node (Some a) all = all a

  written : (path : Path) (at : ℕ) (new : List ℕ) (node a : ℕ) → AllOfTree (writing.group_holds_of im o l (calls.Write path at new) node a)
  written path at new node a = room (states_by o) (map group_of_entry l.groups) (own_first l node) (needed (holding im o a) at (length new))

  cut : (path : Path) (size node a : ℕ) → AllOfTree (writing.group_holds_of im o l (calls.Truncate path size) node a)
  cut path size node a =
      either (nat_lt (dinode_at im o a).size size) _ _ (room (states_by o) (map group_of_entry l.groups) (own_first l node) (needed (holding im o a) size 0)) (of_groups group_of_entry (filter _ l.groups))

  list_all : (t : Tree) (call : Call) (node : ℕ) (list : List Hold) → IsCallList im o l t call node list → AllOfTree list
  list_all t (calls.Create path) node list e = subst AllOfTree (sym e) (made t (calls.Create path) node)
  list_all t (calls.Mkdir path) node list e = subst AllOfTree (sym e) (made t (calls.Mkdir path) node)
  list_all t (calls.Unlink path) node list e = subst AllOfTree (sym e) (both _ _ (on_path _ _) (either _ _ _ (gone _) none_there))
  list_all t (calls.Rmdir path) node list e = subst AllOfTree (sym e) (both _ _ (on_path _ _) (either _ _ _ (gone _) none_there))
  list_all t (calls.Write path at new) node list e = subst AllOfTree (sym e) (both _ _ (on_path _ _) (either _ _ _ (edited (calls.Write path at new) node _ (written path at new node)) none_there))
  list_all t (calls.Truncate path size) node list e = subst AllOfTree (sym e) (both _ _ (on_path _ _) (either _ _ _ (edited (calls.Truncate path size) node _ (cut path size node)) none_there))
  list_all t calls.Sync node list e = subst AllOfTree (sym e) none_there
  list_all t (calls.Rename from to) node list e =
      subst AllOfTree (sym e.2) (both _ _ (of_ends (calls.Rename from to)) (either _ _ _ (both _ _ (of_groups group_of_entry (filter _ l.groups)) (either _ _ _ (all_groups _) none_there)) none_there))
  list_all t (calls.Read path at count) node list e = subst AllOfTree (sym e) (on_path _ _)
  list_all t (calls.Dread path at count) node list e = subst AllOfTree (sym e) (on_path _ _)
  list_all t (calls.Stat path) node list e = subst AllOfTree (sym e) (on_path _ _)
  list_all t (calls.List path) node list e = subst AllOfTree (sym e) (on_path _ _)

pub lists_are_of_the_tree : ListsAreOfTheTree
lists_are_of_the_tree im o l t call node list is a state there = (list_all im o l t call node list is).each (hold_of a state) (is_in (hold_of a state) list there) a refl
