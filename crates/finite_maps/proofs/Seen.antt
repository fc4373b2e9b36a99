-- The entries of a table, seen as a finite map: what a look-up, a write and a removal in the table are there.
use Rattle.std.proofs.Common.{◌≡◌, ℕ, Bool, cond, List, [], ◌∷◌, Option, None, Some, eqb, refl, sym, ap, ◌∙◌}
use Rattle.std.specs.declared.cmp.Ordering.{Ordering}
use Rattle.std.specs.Ordering.{eq_by_cmp, nat_cmp}
use Rattle.std.specs.Cmp.{IsTotalOrder, eq_by_cmp_equiv, nat_cmp_total, unsigned_ties}
use Rattle.std.specs.Map.{lookup}
use Rattle.std.specs.FinMap.{IsAntisymmetric, find, get, insert, remove, from_entries, get-from_entries, get-insert, get-remove, same_map, nat_cmp-IsAntisymmetric}

module _ {K V : Type 0} {R : K → K → Ordering} (total : IsTotalOrder R) (exact : IsAntisymmetric R) (same : K → K → Bool)
    (ties : (x y : K) → same x y ≡ eq_by_cmp R x y) where
  find-lookup : (es : List (K × V)) (q : K) → find R q es ≡ lookup (same q) es
  find-lookup [] q = refl
  find-lookup (e ∷ es) q = (λ i. cond (sym (ties q e.0) i) (Some e.1) (find-lookup es q i))

  -- a look-up in the table is one in the map
  pub get-seen : (es : List (K × V)) (q : K) → get (from_entries {R = R} es) q ≡ lookup (same q) es
  get-seen es q = get-from_entries total es q ∙ find-lookup es q

  turned : (k q : K) (a b : Option V) → cond (same k q) a b ≡ cond (eq_by_cmp R q k) a b
  turned k q a b = ap (λ t. cond t a b) (ties k q ∙ (eq_by_cmp_equiv total).symm k q)

  -- tables with equal look-ups are one map
  pub seen_alike : (es fs : List (K × V)) → ((q : K) → lookup (same q) fs ≡ lookup (same q) es) → from_entries {R = R} fs ≡ from_entries es
  seen_alike es fs is = same_map total exact _ _ (λ q. get-seen fs q ∙ is q ∙ sym (get-seen es q))

  -- a write is an insertion
  pub seen_insert : (es fs : List (K × V)) (k : K) (v : V) → ((q : K) → lookup (same q) fs ≡ cond (same k q) (Some v) (lookup (same q) es))
      → from_entries {R = R} fs ≡ insert (from_entries es) k v
  seen_insert es fs k v is = same_map total exact _ _ (λ q. get-seen fs q ∙ is q ∙ turned k q (Some v) (lookup (same q) es)
      ∙ ap (cond (eq_by_cmp R q k) (Some v)) (sym (get-seen es q)) ∙ sym (get-insert total (from_entries es) k v q))

  -- a removal is one
  pub seen_remove : (es fs : List (K × V)) (k : K) → ((q : K) → lookup (same q) fs ≡ cond (same k q) None (lookup (same q) es))
      → from_entries {R = R} fs ≡ remove (from_entries es) k
  seen_remove es fs k is = same_map total exact _ _ (λ q. get-seen fs q ∙ is q ∙ turned k q None (lookup (same q) es)
      ∙ ap (cond (eq_by_cmp R q k) None) (sym (get-seen es q)) ∙ sym (get-remove total (from_entries es) k q))

-- the same of tables whose keys are unsigned numbers
module _ {V : Type 0} where
  pub get-numbers : (es : List (ℕ × V)) (q : ℕ) → get (from_entries {R = nat_cmp} es) q ≡ lookup (eqb q) es
  get-numbers = get-seen nat_cmp_total nat_cmp-IsAntisymmetric eqb unsigned_ties

  pub numbers_alike : (es fs : List (ℕ × V)) → ((q : ℕ) → lookup (eqb q) fs ≡ lookup (eqb q) es) → from_entries {R = nat_cmp} fs ≡ from_entries es
  numbers_alike = seen_alike nat_cmp_total nat_cmp-IsAntisymmetric eqb unsigned_ties

  pub numbers_insert : (es fs : List (ℕ × V)) (k : ℕ) (v : V) → ((q : ℕ) → lookup (eqb q) fs ≡ cond (eqb k q) (Some v) (lookup (eqb q) es))
      → from_entries {R = nat_cmp} fs ≡ insert (from_entries es) k v
  numbers_insert = seen_insert nat_cmp_total nat_cmp-IsAntisymmetric eqb unsigned_ties

  pub numbers_remove : (es fs : List (ℕ × V)) (k : ℕ) → ((q : ℕ) → lookup (eqb q) fs ≡ cond (eqb k q) None (lookup (eqb q) es))
      → from_entries {R = nat_cmp} fs ≡ remove (from_entries es) k
  numbers_remove = seen_remove nat_cmp_total nat_cmp-IsAntisymmetric eqb unsigned_ties
