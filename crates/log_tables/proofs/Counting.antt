-- How many keys a map has, and how many of its values pass a test.
use Rattle.std.proofs.Common.{◌≡◌, ℕ, zero, suc, ◌+◌, ◌<◌, ◌≤◌, Bool, true, cond, List, [], ◌∷◌, Option, None, Some, ◌⊎◌, inl, inr, refl, sym, ap, subst, ◌∙◌, true≢false, is_some, arith}
use Rattle.std.proofs.lemmas.Bool.{cases_eq}
use Rattle.std.proofs.lemmas.List.Sums.{sum_by-cons}
use Rattle.std.specs.declared.cmp.Ordering.{Ordering}
use Rattle.std.specs.declared.cmp.Ordering.TheVariants.{Less, Equal, Greater}
use Rattle.std.specs.List.{count_by}
use Rattle.std.specs.Option.{IsSome}
use Rattle.std.specs.Ordering.{is_eq, nat_cmp}
use Rattle.std.specs.Cmp.{nat_cmp_total}
use Rattle.std.specs.FinMap.{FinMap, entries, entries-insert, find, get, get-entries, insert, len, len-insert, remove, put, same_map, nat_cmp-IsAntisymmetric}
use Rattle.finite_maps.proofs.Keys.{inserted_apart, inserted_at, removed_apart, removed_at}

abbrev by_order : {A : Type 0} → Ordering → A → A → A → A
by_order Less a b c = a
by_order Equal a b c = b
by_order Greater a b c = c

abbrev pub one : Bool → ℕ
one b = cond b 1 0

module _ {V : Type 0} where
  pub at_key : (m : FinMap nat_cmp V) (k : ℕ) (v : V) → get (insert m k v) k ≡ Some v
  at_key = inserted_at nat_cmp_total nat_cmp-IsAntisymmetric

  pub apart : (m : FinMap nat_cmp V) (k : ℕ) (v : V) (q : ℕ) → (q ≡ k → ⊥) → get (insert m k v) q ≡ get m q
  apart = inserted_apart nat_cmp_total nat_cmp-IsAntisymmetric

  pub gone : (m : FinMap nat_cmp V) (k : ℕ) → get (remove m k) k ≡ None
  gone = removed_at nat_cmp_total nat_cmp-IsAntisymmetric

  pub left : (m : FinMap nat_cmp V) (k q : ℕ) → (q ≡ k → ⊥) → get (remove m k) q ≡ get m q
  left = removed_apart nat_cmp_total nat_cmp-IsAntisymmetric

  -- a removal where there is nothing changes nothing
  pub remove_absent : (m : FinMap nat_cmp V) (k : ℕ) → get m k ≡ None → remove m k ≡ m
  remove_absent m k none = same_map nat_cmp_total nat_cmp-IsAntisymmetric _ _ (λ q. by q (cases_eq q k))
    where
      by : (q : ℕ) → (q ≡ k) ⊎ (q ≡ k → ⊥) → get (remove m k) q ≡ get m q
      by q (inl e) = subst (λ x. get (remove m k) x ≡ get m x) (sym e) (gone m k ∙ sym none)
      by q (inr ne) = left m k q ne

  -- what was removed, put back
  pub put_back : (m : FinMap nat_cmp V) (k : ℕ) (v : V) → get m k ≡ Some v → m ≡ insert (remove m k) k v
  put_back m k v at = same_map nat_cmp_total nat_cmp-IsAntisymmetric _ _ (λ q. by q (cases_eq q k))
    where
      by : (q : ℕ) → (q ≡ k) ⊎ (q ≡ k → ⊥) → get m q ≡ get (insert (remove m k) k v) q
      by q (inl e) = subst (λ x. get m x ≡ get (insert (remove m k) k v) x) (sym e) (at ∙ sym (at_key (remove m k) k v))
      by q (inr ne) = sym (left m k q ne) ∙ sym (apart (remove m k) k v q ne)

  -- one key more
  pub len_with : (m : FinMap nat_cmp V) (k : ℕ) (v : V) → get m k ≡ None → len (insert m k v) ≡ len m + 1
  len_with m k v none = len-insert nat_cmp_total m k v ∙ ap (λ o. cond (is_some o) (len m) (len m + 1)) none

  -- one key less
  pub len_without : (m : FinMap nat_cmp V) (k : ℕ) (v : V) → get m k ≡ Some v → len m ≡ len (remove m k) + 1
  len_without m k v at = ap len (put_back m k v at) ∙ len_with (remove m k) k v (gone m k)

  pub some_value : (o : Option V) → IsSome o → (v : V) × (o ≡ Some v)
  some_value None h = absurd (true≢false (sym h))
  some_value (Some v) h = (v, refl)

  -- a map that has all numbers below n as keys has as many keys
  pub all_below : (n : ℕ) (m : FinMap nat_cmp V) → ((k : ℕ) → k < n → IsSome (get m k)) → n ≤ len m
  all_below zero m all = omega arith
  all_below (suc n) m all =
      let less : n ≤ len (remove m n) = all_below n (remove m n) (λ k h. subst (λ (o : Option V). is_some o ≡ true) (sym (left m n k (λ e. omega arith))) (all k (omega arith))) in
      let here = some_value (get m n) (all n (omega arith)) in
      let one : len m ≡ len (remove m n) + 1 = len_without m n here.0 here.1 in
      omega arith

  -- ---- the values that pass a test

  abbrev pub passing : (V → Bool) → FinMap nat_cmp V → ℕ
  passing p m = count_by (λ (e : ℕ × V). p e.1) (entries m)

  no_some : (v : V) → Some v ≡ None → ⊥
  no_some v e = true≢false (ap is_some e)

  count_put : (p : V → Bool) (k : ℕ) (v : V) (es : List (ℕ × V)) → find nat_cmp k es ≡ None → count_by (λ (e : ℕ × V). p e.1) (put nat_cmp k v es) ≡ one (p v) + count_by (λ (e : ℕ × V). p e.1) es
  count_put p k v [] none = sum_by-cons (λ (e : ℕ × V). one (p e.1)) (k, v) []
  count_put p k v (e ∷ es) none =
      let rest = count_by (λ (f : ℕ × V). p f.1) in
      elim (nat_cmp k e.0) as (λ r. cond (is_eq r) (Some e.1) (find nat_cmp k es) ≡ None
      → rest (by_order r ((k, v) ∷ e ∷ es) ((e.0, v) ∷ es) (e ∷ put nat_cmp k v es)) ≡ one (p v) + rest (e ∷ es)) [
        | Less ↦ λ _. sum_by-cons (λ (f : ℕ × V). one (p f.1)) (k, v) (e ∷ es)
        | Equal ↦ λ is. absurd (no_some e.1 is)
        | Greater ↦ λ is. later (one (p e.1)) (one (p v)) _ _ _ _ (sum_by-cons (λ (f : ℕ × V). one (p f.1)) e (put nat_cmp k v es)) (sum_by-cons (λ (f : ℕ × V). one (p f.1)) e es) (count_put p k v es is)
      ] none
    where
      later : (a b s t x y : ℕ) → x ≡ a + s → y ≡ a + t → s ≡ b + t → x ≡ b + y
      later a b s t x y front back e = omega arith

  -- one value more
  pub passing_with : (p : V → Bool) (m : FinMap nat_cmp V) (k : ℕ) (v : V) → get m k ≡ None → passing p (insert m k v) ≡ one (p v) + passing p m
  passing_with p m k v none = ap (count_by (λ (e : ℕ × V). p e.1)) (entries-insert nat_cmp_total m k v) ∙ count_put p k v (entries m) (sym (get-entries m k) ∙ none)

  -- one value less
  pub passing_without : (p : V → Bool) (m : FinMap nat_cmp V) (k : ℕ) (v : V) → get m k ≡ Some v → passing p m ≡ one (p v) + passing p (remove m k)
  passing_without p m k v at = ap (passing p) (put_back m k v at) ∙ passing_with p (remove m k) k v (gone m k)

  -- what was removed, and put in anew
  pub insert_removed : (m : FinMap nat_cmp V) (k : ℕ) (v : V) → insert (remove m k) k v ≡ insert m k v
  insert_removed m k v = same_map nat_cmp_total nat_cmp-IsAntisymmetric _ _ (λ q. by q (cases_eq q k))
    where
      by : (q : ℕ) → (q ≡ k) ⊎ (q ≡ k → ⊥) → get (insert (remove m k) k v) q ≡ get (insert m k v) q
      by q (inl e) = subst (λ x. get (insert (remove m k) k v) x ≡ get (insert m k v) x) (sym e) (at_key (remove m k) k v ∙ sym (at_key m k v))
      by q (inr ne) = apart (remove m k) k v q ne ∙ left m k q ne ∙ sym (apart m k v q ne)
