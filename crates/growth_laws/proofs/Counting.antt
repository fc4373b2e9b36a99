-- How many of a range of numbers pass a test.
use Rattle.std.proofs.Common.{◌≡◌, ◌≢◌, ℕ, zero, suc, ◌+◌, ◌<◌, ◌≤◌, inl, inr, Bool, true, false, cond, List, ◌++◌, refl, sym, ap, ap₂, ◌∙◌, arith}
use Rattle.std.proofs.lemmas.Bool.{cases_eq}
use Rattle.std.proofs.lemmas.List.Sums.{sum_by-cons}
use Rattle.std.specs.Prelude.{count_by, flat_map}
use Rattle.std.specs.List.{range_with_len}

abbrev pub one_if : Bool → ℕ
one_if b = cond b 1 0

pub step_of : (p : ℕ → Bool) (a n : ℕ) → count_by p (range_with_len a (suc n)) ≡ one_if (p a) + count_by p (range_with_len (a + 1) n)
step_of p a n = sum_by-cons (λ x. one_if (p x)) a (range_with_len (a + 1) n)

-- tests that agree on the range pass as many
pub count_same : (p q : ℕ → Bool) (a n : ℕ) → ((x : ℕ) → a ≤ x → x < a + n → q x ≡ p x) → count_by q (range_with_len a n) ≡ count_by p (range_with_len a n)
count_same p q a zero same = refl
count_same p q a (suc n) same =
    let rest = count_same p q (a + 1) n (λ x low high. same x (omega (arith, low)) (omega (arith, high))) in
    let head : one_if (q a) ≡ one_if (p a) = ap one_if (same a (omega arith) (omega arith)) in
    omega (arith, step_of p a n, step_of q a n, head, rest)

-- a test that passes one number more
pub count_more : (p q : ℕ → Bool) (b a n : ℕ) → a ≤ b → b < a + n → p b ≡ false → q b ≡ true → ((x : ℕ) → x ≢ b → q x ≡ p x)
    → count_by q (range_with_len a n) ≡ count_by p (range_with_len a n) + 1
count_more p q b a zero low high before after same = absurd (omega (arith, low, high))
count_more p q b a (suc n) low high before after same = elim (cases_eq b a) [
  | inl e ↦
      let rest = count_same p q (a + 1) n (λ x low' high'. same x (λ is. omega (arith, is, e, low'))) in
      let new : one_if (q a) ≡ 1 = ap one_if (ap q (sym e) ∙ after) in
      let old : one_if (p a) ≡ 0 = ap one_if (ap p (sym e) ∙ before) in
      omega (arith, step_of p a n, step_of q a n, rest, new, old)
  | inr d ↦
      let rest = count_more p q b (a + 1) n (omega (arith, low, d)) (omega (arith, high)) before after same in
      let head : one_if (q a) ≡ one_if (p a) = ap one_if (same a (λ is. d (sym is))) in
      omega (arith, step_of p a n, step_of q a n, head, rest)
]

-- where one passes, not none do
pub count_some : (p : ℕ → Bool) (b a n : ℕ) → a ≤ b → b < a + n → p b ≡ true → count_by p (range_with_len a n) ≢ 0
count_some p b a zero low high passes none = omega (arith, low, high)
count_some p b a (suc n) low high passes none = elim (cases_eq b a) [
  | inl e ↦ let head : one_if (p a) ≡ 1 = ap one_if (ap p (sym e) ∙ passes) in omega (arith, step_of p a n, head, none)
  | inr d ↦ count_some p b (a + 1) n (omega (arith, low, d)) (omega (arith, high)) passes (omega (arith, step_of p a n, none))
]

-- pieces that are the same joined are the same
pub joined_same : (f g : ℕ → List ℕ) (a n : ℕ) → ((x : ℕ) → a ≤ x → x < a + n → f x ≡ g x) → flat_map f (range_with_len a n) ≡ flat_map g (range_with_len a n)
joined_same f g a zero same = refl
joined_same f g a (suc n) same =
    ap₂ ◌++◌ (same a (omega arith) (omega arith)) (joined_same f g (a + 1) n (λ x low high. same x (omega (arith, low)) (omega (arith, high))))
