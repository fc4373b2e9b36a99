-- The groups that come first as a name moves: those of a view are those of each image that it may be of.
use Rattle.std.proofs.Common.{◌≡◌, ◌↔◌, ◌==◌, ◌&&◌, ◌||◌, inl, inr, ℕ, Bool, true, false, true≢false, List, [], ◌∷◌, Option, None, Some, map, refl, sym, ap, ◌∙◌, subst}
use Rattle.std.proofs.lemmas.Bool.{cases_Bool, cond-false, cond-true, eq-eqb, eqb-true}
use Rattle.std.specs.Prelude.{Contains, filter, not}
use Rattle.file_tree.specs.Tree.{Tree}
use Rattle.file_tree.specs.declared.call.Call.{Call}
use Rattle.gfs2_layout.specs.declared.rindex.Rindex.{Rindex}
use Rattle.glock_names.specs.Views.{Seen, group_of_entry}
use Rattle.glock_names.specs.declared.views.Group.{Group}
use Rattle.image_model.specs.Image.{Image}
use Rattle.image_model.specs.Owners.{Owners}
use Rattle.image_model.specs.Stands.{Layout}
use Rattle.image_model.proofs.Held.{some_same}
use Rattle.image_changes.specs.Does.{IsOf}
use Rattle.resource_groups.specs.Shown.{said}
use Rattle.name_moves.specs.Groups.{IsOneOrHas, has_some}
use Rattle.name_moves.proofs.Locks.{has_so, so_has}
use Rattle.room_search.specs.Blocks.{first_holds, free_first, group_of_node, holds_of_first}
use Rattle.room_search.specs.Parts.{AreGroupsOf}
use Rattle.room_search.proofs.InImage.{blocks_said, holds_said}
use Rattle.move_ends.specs.Ends.{StoodIn}
use Rattle.name_moves.specs.Moving.{blocks_or_none}
use Rattle.move_calls.specs.Carrying.{IsOwnGroup, where_needed}
use Rattle.move_calls.specs.Firsts.{is_one_or_has, those_of}
use Rattle.move_calls.specs.Locks.{comes_first, first_in, goes_with, is_this, replaced_in, taken_in}
use Rattle.move_calls.proofs.Gone.{none_in}
use Rattle.move_calls.proofs.Tests.{passes_so, passing_are_of, so_passes}

-- ---- tests

or_left : (x y : Bool) → x ≡ true → (x || y) ≡ true
or_left x y is = ap (λ z. z || y) is

or_right : (x y : Bool) → y ≡ true → (x || y) ≡ true
or_right true y is = refl
or_right false y is = is

same_bool : (x y : Bool) → (x ≡ true → y ≡ true) → (y ≡ true → x ≡ true) → x ≡ y
same_bool true y so back = sym (so refl)
same_bool false true so back = back refl
same_bool false false so back = refl

-- the entries of groups that pass a test are those of which the groups pass it
entries_pass : (p : Group → Bool) (q : Rindex → Bool) → ((g : Rindex) → p (group_of_entry g) ≡ q g) → (gs : List Rindex) → filter p (map group_of_entry gs) ≡ map group_of_entry (filter q gs)
entries_pass p q same [] = refl
entries_pass p q same (g ∷ gs) =
    let later = entries_pass p q same gs in
    let k : Group = group_of_entry g in
    elim (cases_Bool (q g)) [
      | inl is ↦
          cond-true (p k) (k ∷ filter p (map group_of_entry gs)) (filter p (map group_of_entry gs)) (same g ∙ is) ∙ ap (λ (xs : List Group). k ∷ xs) later
          ∙ sym (ap (map group_of_entry) (cond-true (q g) (g ∷ filter q gs) (filter q gs) is))
      | inr is ↦
          cond-false (p k) (k ∷ filter p (map group_of_entry gs)) (filter p (map group_of_entry gs)) (same g ∙ is) ∙ later
          ∙ sym (ap (map group_of_entry) (cond-false (q g) (g ∷ filter q gs) (filter q gs) is))
    ]

-- ---- what goes

pub freed_goes : (im : Image) (o : Owners) (l : Layout) (c : Call) (a : ℕ) (r : Option (List ℕ)) → StoodIn im o l c a r → (b : ℕ) → Contains (blocks_or_none r) b ↔ (goes_with im o (replaced_in im o l c) b ≡ true)
freed_goes im o l c a _ (StoodIn.nothing child none) b = (
  (λ there. absurd (none_in b there)),
  (λ goes. absurd (true≢false (sym goes ∙ ap (λ x. goes_with im o x b) none))),
)
freed_goes im o l c a _ (StoodIn.an_inode d blocks at childless own) b = (
  (λ there. ap (λ x. goes_with im o x b) at ∙ (own b).0 there),
  (λ goes. (own b).1 (sym (ap (λ x. goes_with im o x b) at) ∙ goes)),
)

-- ---- the groups

module _ (v : Seen) (im : Image) (o : Owners) (l : Layout) (t : Tree) (of : IsOf v im o l t) (c : Call) (node : ℕ) (freed : List ℕ)
    (those : (b : ℕ) → Contains freed b ↔ (goes_with im o (replaced_in im o l c) b ≡ true)) (need : ℕ) (own : Group) (is_own : IsOwnGroup v node own) where
  abbrev number : Option ℕ
  number = where_needed own.addr need

  own_there : group_of_node (map group_of_entry l.groups) node ≡ Some own
  own_there = ap (λ gs. group_of_node gs node) of.groups ∙ is_own.of_node

  abbrev goes : ℕ → Bool
  goes = goes_with im o (replaced_in im o l c)

  abbrev its : Rindex → Bool
  its g = is_this (group_of_node (map group_of_entry l.groups) node) g

  pub passes_first : (g : Rindex) → comes_first im o l c node need g ≡ true → IsOneOrHas number freed (group_of_entry g)
  passes_first g is = elim (cases_Bool (has_some goes g)) [
    | inl some ↦ inr (has_so goes freed those g some)
    | inr none ↦
        let rest : (not (need == 0) && its g) ≡ true = sym (ap (λ x. x || (not (need == 0) && its g)) none) ∙ is in
        elim (cases_Bool (need == 0)) [
          | inl nothing ↦ absurd (true≢false (sym rest ∙ ap (λ x. not x && its g) nothing))
          | inr blocks ↦
              let same : (own.addr == g.address) ≡ true = sym (ap (λ x. not x && its g) blocks ∙ ap (λ x. is_this x g) own_there) ∙ rest in
              inl (cond-false (need == 0) None (Some own.addr) blocks ∙ ap Some (eqb-true own.addr g.address same))
        ]
  ]

  pub first_passes : (g : Rindex) → IsOneOrHas number freed (group_of_entry g) → comes_first im o l c node need g ≡ true
  first_passes g (inr some) = or_left (has_some goes g) (not (need == 0) && its g) (so_has goes freed those g some)
  first_passes g (inl is) = or_right (has_some goes g) (not (need == 0) && its g) (elim (cases_Bool (need == 0)) [
    | inl nothing ↦ absurd (let never : ◌≡◌ {A = Option ℕ} None (Some g.address) = sym (cond-true (need == 0) None (Some own.addr) nothing) ∙ is in cc)
    | inr blocks ↦
        ap (λ x. not x && its g) blocks ∙ ap (λ x. is_this x g) own_there
        ∙ eq-eqb own.addr g.address (some_same (sym (cond-false (need == 0) None (Some own.addr) blocks) ∙ is))
  ])

  same_test : (g : Rindex) → is_one_or_has number freed (group_of_entry g) ≡ comes_first im o l c node need g
  same_test g =
      same_bool (is_one_or_has number freed (group_of_entry g)) (comes_first im o l c node need g)
      (λ is. first_passes g (passes_so number freed (group_of_entry g) is)) (λ is. so_passes number freed (group_of_entry g) (passes_first g is))

  firsts_are : those_of number freed v.groups ≡ first_in im o l c node need
  firsts_are = ap (λ gs. those_of number freed gs) (sym of.groups) ∙ entries_pass (is_one_or_has number freed) (comes_first im o l c node need) same_test l.groups

  first_of_view : AreGroupsOf v (first_in im o l c node need)
  first_of_view = subst (AreGroupsOf v) firsts_are (λ g has. passing_are_of v (is_one_or_has number freed) g has)

  -- the locks under which blocks are found
  pub room_is : first_holds (said im.at) v.groups (those_of number freed v.groups) need ≡ holds_of_first o l (first_in im o l c node need) need
  room_is = ap (λ first. first_holds (said im.at) v.groups first need) firsts_are ∙ holds_said v im o l t of (first_in im o l c node need) need first_of_view

  -- and the blocks
  pub blocks_are : free_first (said im.at) v.groups (those_of number freed v.groups) need ≡ taken_in im o l c node need
  blocks_are = ap (λ first. free_first (said im.at) v.groups first need) firsts_are ∙ blocks_said v im o l t of (first_in im o l c node need) need first_of_view
