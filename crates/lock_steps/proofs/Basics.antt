-- Functions with one value changed, and tests of numbers.
use Rattle.std.proofs.Common.{ℕ, ◌≡◌, ◌⊎◌, ◌<◌, ◌≤◌, nat_lt, inl, inr, Bool, true, false, refl, sym, ap, ◌∙◌}
use Rattle.std.specs.Prelude.{◌==◌, ◌&&◌}
use Rattle.std.proofs.lemmas.Bool.{cases_eq, cond-true, cond-false, eq-eqb, ltb-true, ltb-false}
use Rattle.std.proofs.lemmas.Bool.Decides.{eqb_tells}
use Rattle.glock_names.specs.declared.LockName.{LockName}
use Rattle.glock_names.specs.LockMaps.{same_lock}
use Rattle.glock_names.proofs.LockMapLaws.{same_lock_tells}
use Rattle.lock_laws.specs.Lock.{at}
use Rattle.lock_steps.specs.Parts.{at_pair}

pub true-false : {A : Type 0} {b : Bool} → b ≡ true → b ≡ false → A
true-false e f = absurd (let h : true ≡ false = sym e ∙ f in cc)

pub eqb-self : (i : ℕ) → (i == i) ≡ true
eqb-self i = eq-eqb i i refl

pub eqb-other : (i j : ℕ) → (i ≡ j → ⊥) → (i == j) ≡ false
eqb-other i j ne = elim (eqb_tells i j) [ inl h ↦ absurd (ne h.1) | inr h ↦ h.0 ]

pub same-self : (lock : LockName) → same_lock lock lock ≡ true
same-self lock = elim (same_lock_tells lock lock) [ inl e ↦ e.0 | inr ne ↦ absurd (ne.1 refl) ]

module _ {A : Type 0} (f : ℕ → A) (j : ℕ) (x : A) where
  pub at-here : at f j x j ≡ x
  at-here = cond-true _ _ _ (eqb-self j)

  pub at-away : (i : ℕ) → (i ≡ j → ⊥) → at f j x i ≡ f i
  at-away i ne = cond-false _ _ _ (eqb-other i j ne)

module _ {A : Type 0} (f : ℕ → ℕ → A) (a b : ℕ) (x : A) where
  pub pair-here : at_pair f a b x a b ≡ x
  pair-here = cond-true _ _ _ (ap (λ t. t && (b == b)) (eqb-self a) ∙ eqb-self b)

  pub pair-away : (i k : ℕ) → (i ≡ a → k ≡ b → ⊥) → at_pair f a b x i k ≡ f i k
  pair-away i k ne = cond-false _ _ _ (elim (eqb_tells i a) [
    | inl e ↦ ap (λ t. t && (k == b)) e.0 ∙ eqb-other k b (ne e.1)
    | inr e ↦ ap (λ t. t && (k == b)) e.0
  ])

-- whether two pairs are one
pub pairs : (i k a b : ℕ) → ((i ≡ a) × (k ≡ b)) ⊎ (i ≡ a → k ≡ b → ⊥)
pairs i k a b = elim (cases_eq i a) [
  | inl e ↦ elim (cases_eq k b) [ inl f ↦ inl (e, f) | inr ne ↦ inr (λ p q. ne q) ]
  | inr ne ↦ inr (λ p q. ne p)
]

-- a node is one of the cluster's or beyond them
pub up-to : (i : ℕ) → (i ≤ 8) ⊎ (8 < i)
up-to i = by (nat_lt 8 i) refl
  where
    by : (b : Bool) → nat_lt 8 i ≡ b → (i ≤ 8) ⊎ (8 < i)
    by true e = inr (ltb-true 8 i e)
    by false e = inl (ltb-false 8 i e)
