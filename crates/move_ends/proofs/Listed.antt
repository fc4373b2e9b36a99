-- The locks of the inodes that a move touches are of the call's list, exclusive.
use Rattle.std.proofs.Common.{◌≡◌, ◌≢◌, inl, inr, ℕ, Bool, true, false, List, [], ◌∷◌, ◌++◌, length, take, Option, Some, refl, sym, ap, ◌∙◌, subst}
use Rattle.std.proofs.lemmas.Bool.{cases_Bool, cond-true, cond-false, eqb-true}
use Rattle.std.proofs.Math.Seq.{take-append_seam, take-length}
use Rattle.std.specs.Prelude.{◌==◌, ◌||◌, is_none, nat_lt}
use Rattle.file_tree.specs.Names.{last_of, leads_to, parent_of}
use Rattle.file_tree.specs.declared.call.Call.{Call}
use Rattle.glock_names.specs.Views.{Seen}
use Rattle.glock_names.specs.declared.State.{State}
use Rattle.glock_names.specs.declared.State.TheVariants.{Df, Ex, Sh, Un}
use Rattle.call_locks.specs.Wants.{at_old_name, shared_above, want, way_to}
use Rattle.call_locks.specs.declared.want.Want.{Want}
use Rattle.image_model.specs.Flat.{Flat, Path, follow}
use Rattle.image_model.specs.Image.{Image}
use Rattle.image_model.specs.Owners.{Owners}
use Rattle.image_model.specs.Stands.{Layout, flat_of}
use Rattle.image_model.proofs.Members.{IsIn, in_flat_map, in_left, in_right}
use Rattle.image_changes.specs.Instances.{IsAt}
use Rattle.pair_walks.specs.Holds.{Hold, hold_for, hold_of, holds_in, holds_on}
use Rattle.pair_walks.specs.Orders.{beside, in_both, left_after, merged, pair_holds, stronger}
use Rattle.pair_walks.proofs.Paths.{ends_so}
use Rattle.move_ends.specs.Ends.{IsElsewhere, first_wants, from_path, inode_holds, second_wants, to_path}
use Rattle.move_ends.proofs.Locks.{AreInodes, are_inodes, list_is, same_lock}

-- ---- two ways as one

strong_first : (s : State) → stronger Ex s ≡ Ex
strong_first Un = refl
strong_first Sh = refl
strong_first Df = refl
strong_first Ex = refl

strong_second : (s : State) → stronger s Ex ≡ Ex
strong_second Un = refl
strong_second Sh = refl
strong_second Df = refl
strong_second Ex = refl

same_list : (z : Hold) (xs ys : List Hold) → xs ≡ ys → IsIn z ys → IsIn z xs
same_list z xs ys e = subst (IsIn z) (sym e)

-- an exclusive lock of an inode is not made weaker
module _ (z : Hold) (kind : z.lock.kind ≡ 2) (ex : z.state ≡ Ex) where
  both_first : (y : Hold) → in_both z y ≡ z
  both_first y = λ i. record { lock = z.lock; state = (ap (λ s. stronger s y.state) ex ∙ strong_first y.state ∙ sym ex) i }

  both_second : (x : Hold) → x.lock.kind ≡ 2 → x.lock.number ≡ z.lock.number → in_both x z ≡ z
  both_second x its same = λ i. record { lock = same_lock x.lock z.lock its kind same i; state = (ap (stronger x.state) ex ∙ strong_second x.state ∙ sym ex) i }

  first_beside : (later : List Hold → List Hold) (ys : List Hold) → IsIn z (beside z later ys)
  first_beside later [] = inl refl
  first_beside later (y ∷ ys) = elim (cases_Bool (z.lock.number == y.lock.number)) [
    | inl same ↦ same_list z _ _ (cond-true _ _ _ same) (inl (sym (both_first y)))
    | inr other ↦ elim (cases_Bool (nat_lt z.lock.number y.lock.number)) [
      | inl low ↦ same_list z _ _ (cond-false _ _ _ other ∙ cond-true _ _ _ low) (inl refl)
      | inr high ↦ same_list z _ _ (cond-false _ _ _ other ∙ cond-false _ _ _ high) (inr (first_beside later ys))
    ]
  ]

  later_beside : (x : Hold) (later : List Hold → List Hold) → ((ys : List Hold) → IsIn z (later ys)) → (ys : List Hold) → IsIn z (beside x later ys)
  later_beside x later so [] = inr (so [])
  later_beside x later so (y ∷ ys) = elim (cases_Bool (x.lock.number == y.lock.number)) [
    | inl same ↦ same_list z _ _ (cond-true _ _ _ same) (inr (so ys))
    | inr other ↦ elim (cases_Bool (nat_lt x.lock.number y.lock.number)) [
      | inl low ↦ same_list z _ _ (cond-false _ _ _ other ∙ cond-true _ _ _ low) (inr (so (y ∷ ys)))
      | inr high ↦ same_list z _ _ (cond-false _ _ _ other ∙ cond-false _ _ _ high) (inr (later_beside x later so ys))
    ]
  ]

  second_beside : (x : Hold) → x.lock.kind ≡ 2 → (later : List Hold → List Hold) → ((ys : List Hold) → IsIn z ys → IsIn z (later ys)) → (ys : List Hold) → IsIn z ys → IsIn z (beside x later ys)
  second_beside x its later so [] at = elim at [ ]
  second_beside x its later so (y ∷ ys) at = elim (cases_Bool (x.lock.number == y.lock.number)) [
    | inl same ↦ same_list z _ _ (cond-true _ _ _ same) (in_same at (eqb-true x.lock.number y.lock.number same))
    | inr other ↦ elim (cases_Bool (nat_lt x.lock.number y.lock.number)) [
      | inl low ↦ same_list z _ _ (cond-false _ _ _ other ∙ cond-true _ _ _ low) (inr (so (y ∷ ys) at))
      | inr high ↦ same_list z _ _ (cond-false _ _ _ other ∙ cond-false _ _ _ high) (elim at [ inl e ↦ inl e | inr more ↦ inr (second_beside x its later so ys more) ])
    ]
  ]
    where
      in_same : IsIn z (y ∷ ys) → x.lock.number ≡ y.lock.number → IsIn z (in_both x y ∷ later ys)
      in_same (inl e) same = inl (sym (both_second x its (same ∙ ap (λ (h : Hold). h.lock.number) (sym e))) ∙ ap (in_both x) e)
      in_same (inr more) same = inr (so ys more)

  first_merged : (xs : List Hold) → IsIn z xs → (ys : List Hold) → IsIn z (merged (left_after false) xs ys)
  first_merged [] at ys = elim at [ ]
  first_merged (x ∷ xs) (inl e) ys = subst (λ h. IsIn z (merged (left_after false) (h ∷ xs) ys)) e (first_beside (λ zs. merged (left_after false) xs zs) ys)
  first_merged (x ∷ xs) (inr at) ys = later_beside x (λ zs. merged (left_after false) xs zs) (first_merged xs at) ys

  second_merged : (xs : List Hold) → AreInodes xs → (ys : List Hold) → IsIn z ys → IsIn z (merged (left_after false) xs ys)
  second_merged [] are ys at = at
  second_merged (x ∷ xs) are ys at = second_beside x are.0 (λ zs. merged (left_after false) xs zs) (second_merged xs are.1) ys at

-- ---- the locks of a path

hold_there : (f : Flat) (root : ℕ) (path : Path) (wants : List Want) (w : Want) (a : ℕ) → IsIn w wants → follow f root (take w.depth path) ≡ Some a → IsIn (hold_of a w.state) (holds_on f root path wants)
hold_there f root path wants w a at leads =
    in_flat_map (λ (x : Want). hold_for (follow f root (take x.depth path)) x.state) w (hold_of a w.state) wants at
    (subst (λ (x : Option ℕ). IsIn (hold_of a w.state) (hold_for x w.state)) (sym leads) (inl refl))

module _ (im : Image) (o : Owners) (l : Layout) (second : Bool) (path : Path) (some : path ≢ []) where
  wants_are : (q : Path) → q ≢ [] → at_old_name second q ≡ way_to second (length (parent_of q)) Ex ++ want second (length q) Ex ∷ []
  wants_are [] other = absurd (other refl)
  wants_are (n ∷ ns) other = refl

  -- those of the inode at its end, and of that above it
  end_there : (a : ℕ) → IsAt im o l path a → IsIn (hold_of a Ex) (holds_in im o l path (at_old_name second path))
  end_there a at =
      let w = want second (length path) Ex in
      hold_there (flat_of im o) l.root path (at_old_name second path) w a
      (subst (IsIn w) (sym (wants_are path some)) (in_right w (way_to second (length (parent_of path)) Ex) (w ∷ []) (inl refl)))
      (ap (follow (flat_of im o) l.root) (take-length path) ∙ at)

  above_there : (a : ℕ) → IsAt im o l (parent_of path) a → IsIn (hold_of a Ex) (holds_in im o l path (at_old_name second path))
  above_there a at =
      let n = length (parent_of path) in
      let w = want second n Ex in
      let front : take n path ≡ parent_of path = ap (take n) (ends_so path some) ∙ take-append_seam (parent_of path) (last_of path ∷ []) in
      hold_there (flat_of im o) l.root path (at_old_name second path) w a
      (subst (IsIn w) (sym (wants_are path some)) (in_left w (way_to second n Ex) (want second (length path) Ex ∷ []) (in_right w (shared_above second n) (w ∷ []) (inl refl))))
      (ap (follow (flat_of im o) l.root) front ∙ at)

-- ---- and of both

module _ (v : Seen) (im : Image) (o : Owners) (l : Layout) (c : Call) (some : from_path c ≢ []) (some' : to_path c ≢ []) (elsewhere : IsElsewhere c) (from : ℕ) (there : IsAt im o l (from_path c) from) where
  abbrev ones : List Hold
  ones = holds_in im o l (from_path c) (first_wants c)

  abbrev others : List Hold
  others = holds_in im o l (to_path c) (second_wants c)

  paths_are : pair_holds im o l (from_path c) (to_path c) (first_wants c) (second_wants c) ≡ merged (left_after false) ones others
  paths_are = ap (λ e. merged (left_after e) ones others) (ap (λ x. is_none x || leads_to (from_path c) (to_path c)) there ∙ elsewhere)

  is_of_first : (a : ℕ) → IsIn (hold_of a Ex) ones → IsIn (hold_of a Ex) (inode_holds im o l c)
  is_of_first a at =
      same_list (hold_of a Ex) (inode_holds im o l c) _ (list_is v im o l c some some') (inr
      (same_list (hold_of a Ex) _ _ paths_are (first_merged (hold_of a Ex) refl refl ones at others)))

  is_of_second : (a : ℕ) → IsIn (hold_of a Ex) others → IsIn (hold_of a Ex) (inode_holds im o l c)
  is_of_second a at =
      same_list (hold_of a Ex) (inode_holds im o l c) _ (list_is v im o l c some some') (inr
      (same_list (hold_of a Ex) _ _ paths_are (second_merged (hold_of a Ex) refl refl ones (are_inodes (flat_of im o) l.root (from_path c) (first_wants c)) others at)))

  pub inode_listed : IsIn (hold_of from Ex) (inode_holds im o l c)
  inode_listed = is_of_first from (end_there im o l false (from_path c) some from there)

  pub source_listed : (a : ℕ) → IsAt im o l (parent_of (from_path c)) a → IsIn (hold_of a Ex) (inode_holds im o l c)
  source_listed a at = is_of_first a (above_there im o l false (from_path c) some a at)

  pub target_listed : (a : ℕ) → IsAt im o l (parent_of (to_path c)) a → IsIn (hold_of a Ex) (inode_holds im o l c)
  target_listed a at = is_of_second a (above_there im o l true (to_path c) some' a at)

  pub replaced_listed : (a : ℕ) → IsAt im o l (to_path c) a → IsIn (hold_of a Ex) (inode_holds im o l c)
  replaced_listed a at = is_of_second a (end_there im o l true (to_path c) some' a at)
