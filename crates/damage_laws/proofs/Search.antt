-- Looks among the numbers below a bound, and marks on some of them.
use Rattle.std.proofs.Common.{◌≡◌, ◌≢◌, ℕ, zero, suc, ◌+◌, ◌<◌, ◌≤◌, ◌⊎◌, inl, inr, Bool, true, false, sym, ap, ◌∙◌, arith}
use Rattle.std.proofs.lemmas.Bool.{cases_Bool, cases_eq, cond-true, cond-false, eq-eqb, ne_eqb}
use Rattle.std.specs.Prelude.{◌==◌, if◌then◌else◌}

-- a number below n passes the test, or none does
pub seek : (p : ℕ → Bool) (n : ℕ) → ((i : ℕ) × (i < n) × (p i ≡ true)) ⊎ ((i : ℕ) → i < n → p i ≡ false)
seek p zero = inr (λ i low. absurd (omega (arith, low)))
seek p (suc n) = elim (cases_Bool (p n)) [
  | inl is ↦ inl (n, omega arith, is)
  | inr non ↦ elim (seek p n) [
    | inl found ↦ inl (found.0, omega (arith, found.1), found.2)
    | inr none ↦ inr (λ i low. elim (cases_eq i n) [ inl e ↦ ap p e ∙ non | inr d ↦ none i (omega (arith, low, d)) ])
  ]
]

-- how many numbers below n have no mark
abbrev pub bare : (ℕ → Bool) → ℕ → ℕ
bare m zero = 0
bare m (suc n) = (if m n then 0 else 1) + bare m n

-- one more mark
abbrev pub with_mark : (ℕ → Bool) → ℕ → ℕ → Bool
with_mark m y z = if z == y then true else m z

pub mark_here : (m : ℕ → Bool) (y z : ℕ) → z ≡ y → with_mark m y z ≡ true
mark_here m y z is = cond-true (z == y) true (m z) (eq-eqb z y is)

mark_apart : (m : ℕ → Bool) (y z : ℕ) → z ≢ y → with_mark m y z ≡ m z
mark_apart m y z other = cond-false (z == y) true (m z) (ne_eqb z y other)

pub mark_stays : (m : ℕ → Bool) (y z : ℕ) → m z ≡ true → with_mark m y z ≡ true
mark_stays m y z is = elim (cases_eq z y) [ inl e ↦ mark_here m y z e | inr d ↦ mark_apart m y z d ∙ is ]

pub mark_before : (m : ℕ → Bool) (y z : ℕ) → with_mark m y z ≡ true → (z ≡ y) ⊎ (m z ≡ true)
mark_before m y z is = elim (cases_eq z y) [ inl e ↦ inl e | inr d ↦ inr (sym (mark_apart m y z d) ∙ is) ]

bare_marked : (m : ℕ → Bool) (n : ℕ) → m n ≡ true → bare m (suc n) ≡ bare m n
bare_marked m n is = omega (arith, cond-true {A = ℕ} (m n) 0 1 is)

bare_other : (m : ℕ → Bool) (n : ℕ) → m n ≡ false → bare m (suc n) ≡ suc (bare m n)
bare_other m n is = omega (arith, cond-false {A = ℕ} (m n) 0 1 is)

bare_less : (m : ℕ → Bool) (y n : ℕ) → bare (with_mark m y) n ≤ bare m n
bare_less m y zero = omega arith
bare_less m y (suc n) =
    let below = bare_less m y n in
    elim (cases_Bool (m n)) [
      | inl is ↦ omega (arith, below, bare_marked m n is, bare_marked (with_mark m y) n (mark_stays m y n is))
      | inr non ↦ elim (cases_Bool (with_mark m y n)) [
        | inl is ↦ omega (arith, below, bare_other m n non, bare_marked (with_mark m y) n is)
        | inr still ↦ omega (arith, below, bare_other m n non, bare_other (with_mark m y) n still)
      ]
    ]

pub bare_fewer : (m : ℕ → Bool) (y n : ℕ) → y < n → m y ≡ false → bare (with_mark m y) n < bare m n
bare_fewer m y zero low none = absurd (omega (arith, low))
bare_fewer m y (suc n) low none = elim (cases_eq n y) [
  | inl e ↦ omega (arith, bare_less m y n, bare_other m n (ap m e ∙ none), bare_marked (with_mark m y) n (mark_here m y n e))
  | inr d ↦
      let below = bare_fewer m y n (omega (arith, low, d)) none in
      elim (cases_Bool (m n)) [
        | inl is ↦ omega (arith, below, bare_marked m n is, bare_marked (with_mark m y) n (mark_stays m y n is))
        | inr non ↦ omega (arith, below, bare_other m n non, bare_other (with_mark m y) n (mark_apart m y n d ∙ non))
      ]
]
