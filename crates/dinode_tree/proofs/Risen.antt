-- Lists of blocks by rising number, each once.
use Rattle.std.proofs.Common.{◌≡◌, ℕ, ◌+◌, ◌<◌, Bool, true, false, cond, List, [], ◌∷◌, length, refl, sym, ap, subst, subst₂, eqb, arith}
use Rattle.std.specs.Prelude.{◌==◌, Contains, map}
use Rattle.std.specs.Cmp.{IsEquivalence}
use Rattle.std.specs.List.{dedup, dedup_from}
use Rattle.std.specs.List.Sorted.{IsSorted, IsSortedByKey, IsStrictlyIncreasing}
use Rattle.std.specs.Ordering.{is_lt, nat_cmp}
use Rattle.std.proofs.lemmas.Bool.{eqb-true}
use Rattle.std.proofs.lemmas.Cmp.{nat_eq_equiv}
use Rattle.std.proofs.lemmas.List.{get_or-map, length-map}
use Rattle.std.proofs.lemmas.List.Kept.{Any-dedup}
use Rattle.std.proofs.lemmas.Map.Keys.{IsStrictlyIncreasing-dedup}

module _ {X : Type 0} (key : X → ℕ) where
  -- whether two elements have one key
  abbrev pub same_key : X → X → Bool
  same_key x y = key x == key y

  pub same_key_equiv : IsEquivalence same_key
  same_key_equiv = record {
    refl = λ x. nat_eq_equiv.refl (key x);
    symm = λ x y. nat_eq_equiv.symm (key x) (key y);
    congr = λ x y z. nat_eq_equiv.congr (key x) (key y) (key z);
  }

  -- of each key an element is kept
  pub one_of_each : (xs kept : List X) (x : X) → kept ≡ dedup same_key xs → Contains xs x → (y : X) × Contains kept y × (key y ≡ key x)
  one_of_each xs kept x is has =
      let found = Any-dedup same_key_equiv xs x has in
      (found.1, subst (λ ys. Contains ys found.1) (sym is) (found.0, found.2, found.3), sym (eqb-true (key x) (key found.1) found.4))

  -- keys of what is kept are what is kept of the keys
  keys_kept : (x : X) (xs : List X) → map key (dedup_from same_key x xs) ≡ dedup_from eqb (key x) (map key xs)
  keys_kept x [] = refl
  keys_kept x (y ∷ xs) =
      elim (key y == key x) as (λ b. map key (cond b (dedup_from same_key x xs) (x ∷ dedup_from same_key y xs)) ≡ cond b (dedup_from eqb (key x) (map key xs)) (key x ∷ dedup_from eqb (key y) (map key xs))) [
        | true ↦ keys_kept x xs
        | false ↦ ap (λ ks. key x ∷ ks) (keys_kept y xs)
      ]

  keys_of_kept : (xs : List X) → map key (dedup same_key xs) ≡ dedup eqb (map key xs)
  keys_of_kept [] = refl
  keys_of_kept (x ∷ xs) = keys_kept x xs

  keys_sorted : (xs : List X) → IsSortedByKey key nat_cmp xs → IsSorted nat_cmp (map key xs)
  keys_sorted [] sorted k d low more = absurd (omega (arith, more))
  keys_sorted (x ∷ xs) sorted k d low more =
      let long : k + 1 < length (x ∷ xs) = omega (arith, more, length-map (x ∷ xs) key) in
      let this = get_or-map key (x ∷ xs) k x d (omega (arith, long)) in
      let next = get_or-map key (x ∷ xs) (k + 1) x d long in
      subst₂ (λ a b. is_lt (nat_cmp a b) ≡ false) (sym next) (sym this) (sorted k x low long)

  -- of a list that is sorted by the key, what is kept rises
  pub kept_rise : (xs kept : List X) → IsSortedByKey key nat_cmp xs → kept ≡ dedup same_key xs → IsStrictlyIncreasing (map key kept)
  kept_rise xs kept sorted is =
      subst (λ ys. IsStrictlyIncreasing (map key ys)) (sym is)
      (subst IsStrictlyIncreasing (sym (keys_of_kept xs)) (IsStrictlyIncreasing-dedup (map key xs) (keys_sorted xs sorted)))
