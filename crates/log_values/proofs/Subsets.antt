-- How many keys a finite map has whose keys are all among those of two others.
use Rattle.std.proofs.Common.{◌≡◌, ℕ, zero, suc, ◌+◌, ◌-◌, ◌≤◌, true, cond, List, [], ◌∷◌, None, Some, ◌⊎◌, inl, inr, refl, sym, ap, subst, ◌∙◌, true≢false, is_some, length, arith}
use Rattle.std.specs.Ordering.{nat_cmp}
use Rattle.std.specs.FinMap as table
use Rattle.finite_maps.proofs.Keys.{removed_apart, removed_at, tied}
use Rattle.std.proofs.lemmas.Cmp.{nat_cmp_total}

module _ {V : Type 0} where
  pub gone : (m : table.FinMap nat_cmp V) (k : ℕ) → table.get (table.remove m k) k ≡ None
  gone = removed_at nat_cmp_total table.nat_cmp-IsAntisymmetric

  pub left : (m : table.FinMap nat_cmp V) (k q : ℕ) → (q ≡ k → ⊥) → table.get (table.remove m k) q ≡ table.get m q
  left = removed_apart nat_cmp_total table.nat_cmp-IsAntisymmetric

  -- a map with a key has one at least
  some_entry : (es : List (ℕ × V)) (k : ℕ) → is_some (table.find nat_cmp k es) ≡ true → 1 ≤ length es
  some_entry [] k there = absurd (true≢false (sym there))
  some_entry (e ∷ es) k there = omega arith

  pub some_len : (m : table.FinMap nat_cmp V) (k : ℕ) → table.contains_key m k ≡ true → 1 ≤ table.len m
  some_len m k there = subst (λ n. 1 ≤ n) (sym (table.len-entries m)) (some_entry (table.entries m) k (ap is_some (sym (table.get-entries m k)) ∙ there))

  pub one_less : (m : table.FinMap nat_cmp V) (k : ℕ) → table.contains_key m k ≡ true → table.len m ≡ table.len (table.remove m k) + 1
  one_less m k there =
      sum _ _ (table.len-remove nat_cmp_total m k ∙ ap (λ b. cond b (table.len m - 1) (table.len m)) there)
      (subst (λ n. 1 ≤ n) (sym (table.len-entries m)) (some_entry (table.entries m) k (ap is_some (sym (table.get-entries m k)) ∙ there)))
    where
      sum : (n r : ℕ) → r ≡ n - 1 → 1 ≤ n → n ≡ r + 1
      sum n r e some = omega arith

  -- the key of an entry
  first_key : (es : List (ℕ × V)) → 1 ≤ length es → (k : ℕ) × (is_some (table.find nat_cmp k es) ≡ true)
  first_key [] some = absurd (omega arith)
  first_key (e ∷ es) some = (e.0, ap (λ b. is_some (cond b (Some e.1) (table.find nat_cmp e.0 es))) (tied nat_cmp_total e.0))

  pub some_key : (m : table.FinMap nat_cmp V) → 1 ≤ table.len m → (k : ℕ) × (table.contains_key m k ≡ true)
  some_key m some =
      let key = first_key (table.entries m) (subst (λ n. 1 ≤ n) (table.len-entries m) some) in
      (key.0, ap is_some (table.get-entries m key.0) ∙ key.1)

  still : (m : table.FinMap nat_cmp V) (k q : ℕ) → table.contains_key (table.remove m k) q ≡ true → (q ≡ k → ⊥) × (table.contains_key m q ≡ true)
  still m k q there = (apart, ap is_some (sym (left m k q apart)) ∙ there)
    where
      apart : q ≡ k → ⊥
      apart e = true≢false (sym there ∙ ap (λ n. is_some (table.get (table.remove m k) n)) e ∙ ap is_some (gone m k))

  less_left : (m : table.FinMap nat_cmp V) (k q : ℕ) → (q ≡ k → ⊥) → table.contains_key m q ≡ true → table.contains_key (table.remove m k) q ≡ true
  less_left m k q apart there = ap is_some (left m k q apart) ∙ there

module _ {A B C : Type 0} where
  abbrev Within : table.FinMap nat_cmp A → table.FinMap nat_cmp B → table.FinMap nat_cmp C → Type 0
  Within g a b = (q : ℕ) → table.contains_key g q ≡ true → (table.contains_key a q ≡ true) ⊎ (table.contains_key b q ≡ true)

  by_count : (n : ℕ) (g : table.FinMap nat_cmp A) (a : table.FinMap nat_cmp B) (b : table.FinMap nat_cmp C) → table.len g ≡ n → Within g a b → n ≤ table.len a + table.len b
  by_count zero g a b count within = omega arith
  by_count (suc n) g a b count within =
      let some = some_key g (subst (λ k. 1 ≤ k) (sym count) (omega arith)) in
      let fewer : table.len (table.remove g some.0) ≡ n = let less = one_less g some.0 some.1 in omega arith in
      chosen some.0 some.1 (within some.0 some.1)
      (λ inside. by_count n (table.remove g some.0) (table.remove a some.0) b fewer inside)
      (λ inside. by_count n (table.remove g some.0) a (table.remove b some.0) fewer inside)
    where
      in_first : (k : ℕ) → Within (table.remove g k) (table.remove a k) b
      in_first k q there = let is = still g k q there in by is.0 (within q is.1)
        where
          by : (q ≡ k → ⊥) → (table.contains_key a q ≡ true) ⊎ (table.contains_key b q ≡ true) → (table.contains_key (table.remove a k) q ≡ true) ⊎ (table.contains_key b q ≡ true)
          by apart (inl x) = inl (less_left a k q apart x)
          by apart (inr x) = inr x

      in_second : (k : ℕ) → Within (table.remove g k) a (table.remove b k)
      in_second k q there = let is = still g k q there in by is.0 (within q is.1)
        where
          by : (q ≡ k → ⊥) → (table.contains_key a q ≡ true) ⊎ (table.contains_key b q ≡ true) → (table.contains_key a q ≡ true) ⊎ (table.contains_key (table.remove b k) q ≡ true)
          by apart (inl x) = inl x
          by apart (inr x) = inr (less_left b k q apart x)

      chosen : (k : ℕ) → table.contains_key g k ≡ true → (table.contains_key a k ≡ true) ⊎ (table.contains_key b k ≡ true)
          → (Within (table.remove g k) (table.remove a k) b → n ≤ table.len (table.remove a k) + table.len b)
          → (Within (table.remove g k) a (table.remove b k) → n ≤ table.len a + table.len (table.remove b k)) → suc n ≤ table.len a + table.len b
      chosen k there (inl x) one two = let less = one_less a k x in let rest = one (in_first k) in omega arith
      chosen k there (inr x) one two = let less = one_less b k x in let rest = two (in_second k) in omega arith

  -- no more keys than both
  pub within_both : (g : table.FinMap nat_cmp A) (a : table.FinMap nat_cmp B) (b : table.FinMap nat_cmp C)
      → ((q : ℕ) → table.contains_key g q ≡ true → (table.contains_key a q ≡ true) ⊎ (table.contains_key b q ≡ true)) → table.len g ≤ table.len a + table.len b
  within_both g a b within = by_count (table.len g) g a b refl within
