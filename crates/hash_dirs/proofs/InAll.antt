-- The records in all leaves of a sound directory are its own.
use Rattle.std.proofs.Common.{◌≡◌, ℕ, ◌<◌, inl, inr, Bool, true, false, true≢false, List, [], ◌∷◌, ◌++◌, Some, refl, sym, ap, ◌∙◌, subst, arith}
use Rattle.std.proofs.lemmas.Bool.{cases_Bool, ne_eqb}
use Rattle.std.proofs.lemmas.List.Concat.{flat_map-cons}
use Rattle.std.proofs.lemmas.List.Sorted.{IsPermutation-refl, IsPermutation-trans, IsPermutation-append_right, IsPermutation-append_comm, IsPermutation-sym}
use Rattle.std.specs.Prelude.{Contains, ◌==◌, ◌||◌, filter, flat_map}
use Rattle.std.specs.List.{list_any, range_with_len}
use Rattle.std.specs.List.Sorted.{IsPermutation}
use Rattle.growth_drafts.specs.Taken.{IsDistinct}
use Rattle.gfs2_layout.specs.Holding.{Holding, InChain, part_at}
use Rattle.gfs2_layout.specs.Inode.{first_hash, is_hashed_in, is_leaf_part, leaf_area, records_of}
use Rattle.gfs2_layout.specs.Records.{records_in}
use Rattle.gfs2_layout.proofs.StatePuts.{any_has, has_any}
use Rattle.image_model.proofs.Members.{contained, is_in}
use Rattle.hash_dirs.specs.Leaves.{AreLeaves, IsLeaf, records_among}
use Rattle.hash_dirs.specs.Shown.{IsSound}
use Rattle.hash_dirs.proofs.Chained.{headed, in_chain, inside, leaf_part, rules}
use Rattle.hash_dirs.proofs.Named.{records_are}
use Rattle.hash_dirs.proofs.Permuted.{filter_none, filter_same, one_more}

-- whether a list has a block
abbrev has : List ℕ → ℕ → Bool
has xs b = list_any (λ y. y == b) xs

has_not : (xs : List ℕ) (b : ℕ) → (Contains xs b → ⊥) → has xs b ≡ false
has_not xs b none = elim (cases_Bool (has xs b)) [ inl is ↦ absurd (none (has_any xs b is)) | inr lacks ↦ lacks ]

-- what a list of blocks, each once, gives, is what the same blocks give in rising order
module _ {Y : Type 0} (f : ℕ → List Y) (n : ℕ) where
  pub in_order : (xs : List ℕ) → IsDistinct xs → ((x : ℕ) → Contains xs x → x < n) → IsPermutation (flat_map f xs) (flat_map f (filter (has xs) (range_with_len 0 n)))
  in_order [] once low = subst (λ bs. IsPermutation (flat_map f []) (flat_map f bs)) (sym (filter_none (has []) (range_with_len 0 n) (λ x. refl))) (IsPermutation-refl (flat_map f []))
  in_order (x ∷ xs) once low =
      let rest : List ℕ = filter (has xs) (range_with_len 0 n) in
      let all : List ℕ = filter (has (x ∷ xs)) (range_with_len 0 n) in
      let first : x < n = low x (contained x (x ∷ xs) (inl refl)) in
      let more = one_more f (has xs) (has (x ∷ xs)) x (has_not xs x once.0) (any_has (x ∷ xs) x (contained x (x ∷ xs) (inl refl))) (λ y other. ap (λ b. b || has xs y) (ne_eqb x y (λ e. other (sym e)))) 0 n (omega arith) (omega (arith, first)) in
      let later = in_order xs once.1 (λ y at. low y (contained y (x ∷ xs) (inr (is_in y xs at)))) in
      let one : IsPermutation (f x ++ flat_map f xs) (f x ++ flat_map f rest) = IsPermutation-append_right (f x) (flat_map f xs) (flat_map f rest) later in
      let two : IsPermutation (f x ++ flat_map f xs) (flat_map f rest ++ f x) = IsPermutation-trans (f x ++ flat_map f xs) (f x ++ flat_map f rest) (flat_map f rest ++ f x) one (IsPermutation-append_comm (f x) (flat_map f rest)) in
      subst (λ ys. IsPermutation ys (flat_map f all)) (sym (flat_map-cons f x xs))
      (IsPermutation-trans (f x ++ flat_map f xs) (flat_map f rest ++ f x) (flat_map f all) two (IsPermutation-sym (flat_map f all) (flat_map f rest ++ f x) more))

module _ (h : Holding) (leaves : List ℕ) (sound : IsSound h) (hashed : is_hashed_in h ≡ true) (are : AreLeaves h leaves) where
  part_of : (x : ℕ) (leaf : IsLeaf h x) → part_at h x ≡ Some (InChain (first_hash h leaf.0) leaf.1)
  part_of x leaf = in_chain h sound hashed leaf.0 leaf.1 x leaf.2

  leaf_of_part : (x hash place : ℕ) → part_at h x ≡ Some (InChain hash place) → IsLeaf h x
  leaf_of_part x hash place part =
      let up = headed h sound hashed place x hash part in
      let led = (rules h sound hashed).headed up.first hash up.part in
      (led.0, place, up.chain led.0 led.1 led.2)

  same_test : (x : ℕ) → has leaves x ≡ is_leaf_part (part_at h x)
  same_test x = elim (cases_Bool (has leaves x)) [
    | inl is ↦ is ∙ sym (ap is_leaf_part (part_of x ((are.each x).0 (has_any leaves x is))))
    | inr lacks ↦ lacks ∙ sym (elim (cases_Bool (is_leaf_part (part_at h x))) [
      | inl leaf ↦ absurd (true≢false (sym (any_has leaves x ((are.each x).1 (by_part x leaf))) ∙ lacks))
      | inr other ↦ other
    ])
  ]
    where
      by_part : (x : ℕ) → is_leaf_part (part_at h x) ≡ true → IsLeaf h x
      by_part x leaf = let p = leaf_part (part_at h x) leaf in leaf_of_part x p.0 p.1 p.2

  pub all_records : IsPermutation (records_among h leaves) (records_of h)
  all_records = subst (IsPermutation (records_among h leaves))
      (ap (flat_map (λ x. records_in (leaf_area h x))) (filter_same (has leaves) (λ b. is_leaf_part (part_at h b)) (range_with_len 0 h.count) same_test) ∙ sym (records_are h hashed))
      (in_order (λ x. records_in (leaf_area h x)) h.count leaves are.once (λ x at. let leaf = (are.each x).0 at in inside h sound hashed x (first_hash h leaf.0) leaf.1 (part_of x leaf)))
