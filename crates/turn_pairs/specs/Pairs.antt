-- Two numbers, of which the first is above the second by a gap.
use Rattle.std.specs.Prelude.{◌≡◌, ◌≢◌, ℕ, ◌+◌, ◌-◌, ◌^◌, ◌≤◌, ◌⊎◌, List, [], ◌∷◌, Some, slice_get, slice_set}
use Rattle.turn_table.specs.Sitting.{Sitting, HasSeen}
use Rattle.std.proofs.Common.{zero, suc, sym, ap, ◌∙◌, subst, arith}

-- there are two numbers, this far apart
abbrev pub AreApart : ℕ → List ℕ → Type 0
AreApart gap parts = (low : ℕ) × (parts ≡ (low + gap) ∷ low ∷ [])

-- two numbers rise by the same
abbrev pub RiseTogether : ℕ → ℕ → ℕ → ℕ → Type 0
RiseTogether a b x y = (by : ℕ) × (x ≡ a + by) × (y ≡ b + by)

-- the greatest number of 64 bits
abbrev pub greatest : ℕ
greatest = 2 ^ 64 - 1

-- of two numbers that were found, the low one is at least n, or the high one can't rise any more
abbrev pub HaveReached : ℕ → ℕ → ℕ → Type 0
HaveReached n high low = (greatest ≤ high) ⊎ (n ≤ low)

-- the seat has seen the low number at n or above, or the high one where it can't rise any more
abbrev pub HasReached : Sitting ℕ → ℕ → Type 0
HasReached seat n = ((high : ℕ) × HasSeen seat 0 high × (greatest ≤ high)) ⊎ ((low : ℕ) × HasSeen seat 1 low × (n ≤ low))

-- a number that didn't change leaves the parts as they are
pub unchanged_keeps : (gap : ℕ) (parts : List ℕ) (p old new : ℕ) → AreApart gap parts → slice_get parts p ≡ Some old → new ≡ old → AreApart gap (slice_set parts p new)
unchanged_keeps gap parts p old new apart at same = subst (AreApart gap) (sym (stays parts p at)) apart
  where
    stays : (xs : List ℕ) (k : ℕ) → slice_get xs k ≡ Some old → slice_set xs k new ≡ xs
    stays [] k e = absurd (cc)
    stays (x ∷ xs) zero e = let is : new ≡ x = cc in (λ i. is i ∷ xs)
    stays (x ∷ xs) (suc k) e = ap (λ ys. x ∷ ys) (stays xs k e)

-- two numbers that rise by the same stay as far apart
pub together_keeps : (gap : ℕ) (parts : List ℕ) (a b old_a old_b new_a new_b : ℕ) → a ≢ b → AreApart gap parts → slice_get parts a ≡ Some old_a → slice_get parts b ≡ Some old_b
    → RiseTogether old_a old_b new_a new_b → AreApart gap (slice_set (slice_set parts a new_a) b new_b)
together_keeps gap parts a b old_a old_b new_a new_b two apart at_a at_b rise =
    subst (λ xs. AreApart gap (slice_set (slice_set xs a new_a) b new_b)) (sym apart.1)
    (go a b two (ap (λ xs. slice_get xs a) (sym apart.1) ∙ at_a) (ap (λ xs. slice_get xs b) (sym apart.1) ∙ at_b))
  where
    go : (a b : ℕ) → a ≢ b → slice_get ((apart.0 + gap) ∷ apart.0 ∷ []) a ≡ Some old_a → slice_get ((apart.0 + gap) ∷ apart.0 ∷ []) b ≡ Some old_b
        → AreApart gap (slice_set (slice_set ((apart.0 + gap) ∷ apart.0 ∷ []) a new_a) b new_b)
    go zero zero m e f = absurd (m (λ _. zero))
    go zero (suc zero) m e f = let low : apart.0 ≡ old_b = cc in let high : apart.0 + gap ≡ old_a = cc in let r = rise.1 in let s = rise.2 in
        let is : new_a ≡ new_b + gap = omega arith in (new_b, λ i. is i ∷ new_b ∷ [])
    go (suc zero) zero m e f = let low : apart.0 ≡ old_a = cc in let high : apart.0 + gap ≡ old_b = cc in let r = rise.1 in let s = rise.2 in
        let is : new_b ≡ new_a + gap = omega arith in (new_a, λ i. is i ∷ new_a ∷ [])
    go (suc zero) (suc zero) m e f = absurd (m (λ _. suc zero))
    go (suc (suc a)) b m e f = absurd (cc)
    go zero (suc (suc b)) m e f = absurd (cc)
    go (suc zero) (suc (suc b)) m e f = absurd (cc)

pub together_grows : (a b x y : ℕ) → RiseTogether a b x y → (a ≤ x) × (b ≤ y)
together_grows a b x y rise = let r = rise.1 in let s = rise.2 in ((omega arith), (omega arith))
