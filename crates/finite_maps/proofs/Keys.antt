-- What a finite map has at a key that was written or removed, and at each other key.
use Rattle.std.proofs.Common.{◌≡◌, ℕ, zero, suc, ◌+◌, ◌<◌, ◌≤◌, Bool, true, false, cond, ltb, Option, None, Some, ◌⊎◌, inl, inr, refl, sym, ap, subst, ◌∙◌, arith}
use Rattle.std.proofs.lemmas.Bool.{false_from_ne_true, cases_eq, cases_lt}
use Rattle.std.specs.declared.cmp.Ordering.{Ordering}
use Rattle.std.specs.Ordering.{eq_by_cmp, nat_cmp}
use Rattle.std.specs.Cmp.{IsTotalOrder, Equal-is, eq_by_cmp_equiv, nat_cmp_total}
use Rattle.std.specs.FinMap.{FinMap, IsAntisymmetric, empty, get, insert, remove, get-empty, get-insert, get-remove, same_map, nat_cmp-IsAntisymmetric}
use Rattle.finite_maps.specs.Below.{map_below, entered}

pub tied : {K : Type 0} {R : K → K → Ordering} → IsTotalOrder R → (k : K) → eq_by_cmp R k k ≡ true
tied total k = (eq_by_cmp_equiv total).refl k

pub untied : {K : Type 0} {R : K → K → Ordering} → IsAntisymmetric R → (q k : K) → (q ≡ k → ⊥) → eq_by_cmp R q k ≡ false
untied {R = R} exact q k apart = false_from_ne_true _ (λ e. apart (exact q k ((Equal-is (R q k)).0 e)))

module _ {K V : Type 0} {R : K → K → Ordering} (total : IsTotalOrder R) (exact : IsAntisymmetric R) where
  pub inserted_at : (m : FinMap R V) (k : K) (v : V) → get (insert m k v) k ≡ Some v
  inserted_at m k v = get-insert total m k v k ∙ ap (λ t. cond t (Some v) (get m k)) (tied total k)

  pub inserted_apart : (m : FinMap R V) (k : K) (v : V) (q : K) → (q ≡ k → ⊥) → get (insert m k v) q ≡ get m q
  inserted_apart m k v q apart = get-insert total m k v q ∙ ap (λ t. cond t (Some v) (get m q)) (untied exact q k apart)

  pub removed_at : (m : FinMap R V) (k : K) → get (remove m k) k ≡ None
  removed_at m k = get-remove total m k k ∙ ap (λ t. cond t None (get m k)) (tied total k)

  pub removed_apart : (m : FinMap R V) (k q : K) → (q ≡ k → ⊥) → get (remove m k) q ≡ get m q
  removed_apart m k q apart = get-remove total m k q ∙ ap (λ t. cond t None (get m q)) (untied exact q k apart)

module _ {V : Type 0} where
  number_at : (m : FinMap nat_cmp V) (k : ℕ) (v : V) → get (insert m k v) k ≡ Some v
  number_at = inserted_at nat_cmp_total nat_cmp-IsAntisymmetric

  number_apart : (m : FinMap nat_cmp V) (k : ℕ) (v : V) (q : ℕ) → (q ≡ k → ⊥) → get (insert m k v) q ≡ get m q
  number_apart = inserted_apart nat_cmp_total nat_cmp-IsAntisymmetric

  entered_at : (n : ℕ) (o : Option V) (m : FinMap nat_cmp V) → get m n ≡ None → get (entered n o m) n ≡ o
  entered_at n None m none = none
  entered_at n (Some v) m none = number_at m n v

  entered_apart : (n : ℕ) (o : Option V) (m : FinMap nat_cmp V) (q : ℕ) → (q ≡ n → ⊥) → get (entered n o m) q ≡ get m q
  entered_apart n None m q apart = refl
  entered_apart n (Some v) m q apart = number_apart m n v q apart

  module _ (f : ℕ → Option V) where
    pub past_map : (n q : ℕ) → n ≤ q → get (map_below f n) q ≡ None
    past_map zero q h = get-empty nat_cmp q
    past_map (suc n) q h = entered_apart n (f n) (map_below f n) q (λ e. omega arith) ∙ past_map n q (omega arith)

    pub in_map : (n q : ℕ) → q < n → get (map_below f n) q ≡ f q
    in_map zero q h = absurd (omega arith)
    in_map (suc n) q h = by (cases_eq q n) (in_map n q)
      where
        by : (q ≡ n) ⊎ (q ≡ n → ⊥) → (q < n → get (map_below f n) q ≡ f q) → get (map_below f (suc n)) q ≡ f q
        by (inl e) below = subst (λ k. get (map_below f (suc n)) k ≡ f k) (sym e) (entered_at n (f n) (map_below f n) (past_map n n (omega arith)))
        by (inr apart) below = entered_apart n (f n) (map_below f n) q apart ∙ below (omega arith)

  module _ (f g : ℕ → Option V) (n : ℕ) where
    pub map_below_alike : ((q : ℕ) → q < n → g q ≡ f q) → map_below g n ≡ map_below f n
    map_below_alike is = same_map nat_cmp_total nat_cmp-IsAntisymmetric _ _ (λ q. by q (cases_lt q n))
      where
        by : (q : ℕ) → (q < n) ⊎ (n ≤ q) → get (map_below g n) q ≡ get (map_below f n) q
        by q (inl h) = in_map g n q h ∙ is q h ∙ sym (in_map f n q h)
        by q (inr h) = past_map g n q h ∙ sym (past_map f n q h)

    -- one value more
    pub map_below-insert : (k : ℕ) (v : V) → k < n → g k ≡ Some v → ((q : ℕ) → q < n → (q ≡ k → ⊥) → g q ≡ f q) → map_below g n ≡ insert (map_below f n) k v
    map_below-insert k v within at others = same_map nat_cmp_total nat_cmp-IsAntisymmetric _ _ (λ q. by q (cases_eq q k) (cases_lt q n))
      where
        by : (q : ℕ) → (q ≡ k) ⊎ (q ≡ k → ⊥) → (q < n) ⊎ (n ≤ q) → get (map_below g n) q ≡ get (insert (map_below f n) k v) q
        by q (inl e) h = subst (λ w. get (map_below g n) w ≡ get (insert (map_below f n) k v) w) (sym e) (in_map g n k within ∙ at ∙ sym (number_at (map_below f n) k v))
        by q (inr apart) (inl h) = in_map g n q h ∙ others q h apart ∙ sym (in_map f n q h) ∙ sym (number_apart (map_below f n) k v q apart)
        by q (inr apart) (inr h) = past_map g n q h ∙ sym (past_map f n q h) ∙ sym (number_apart (map_below f n) k v q apart)

    -- one value less
    pub map_below-remove : (k : ℕ) → k < n → g k ≡ None → ((q : ℕ) → q < n → (q ≡ k → ⊥) → g q ≡ f q) → map_below g n ≡ remove (map_below f n) k
    map_below-remove k within at others = same_map nat_cmp_total nat_cmp-IsAntisymmetric _ _ (λ q. by q (cases_eq q k) (cases_lt q n))
      where
        left : (q : ℕ) → (q ≡ k → ⊥) → get (remove (map_below f n) k) q ≡ get (map_below f n) q
        left = removed_apart nat_cmp_total nat_cmp-IsAntisymmetric (map_below f n) k

        by : (q : ℕ) → (q ≡ k) ⊎ (q ≡ k → ⊥) → (q < n) ⊎ (n ≤ q) → get (map_below g n) q ≡ get (remove (map_below f n) k) q
        by q (inl e) h = subst (λ w. get (map_below g n) w ≡ get (remove (map_below f n) k) w) (sym e)
            (in_map g n k within ∙ at ∙ sym (removed_at nat_cmp_total nat_cmp-IsAntisymmetric (map_below f n) k))
        by q (inr apart) (inl h) = in_map g n q h ∙ others q h apart ∙ sym (in_map f n q h) ∙ sym (left q apart)
        by q (inr apart) (inr h) = past_map g n q h ∙ sym (past_map f n q h) ∙ sym (left q apart)
