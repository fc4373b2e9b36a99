-- The head of a journal, by its accepted headers.
use Rattle.std.proofs.Common.{◌≡◌, ◌≢◌, ◌⊎◌, ◌+◌, ◌<◌, ◌≤◌, ℕ, zero, suc, true, false, Option, None, Some, refl, sym, ap, ◌∙◌, inl, inr, arith}
use Rattle.std.specs.Prelude.{nat_lt}
use Rattle.std.proofs.lemmas.Bool.{cases_Bool, cases_lt, cond-true, cond-false}
use Rattle.std.proofs.lemmas.Bool.Decides.{nat_tests}
use Rattle.log_layout.specs.Journal.{Ring, accepted, best_from, better, head_in}
use Rattle.log_layout.specs.declared.log_header.LogHeader.{LogHeader}

some_is : {A : Type 0} {x y : A} → ◌≡◌ {A = Option A} (Some x) (Some y) → x ≡ y
some_is e = cc

none_is : {A : Type 0} {x : A} → ◌≡◌ {A = Option A} None (Some x) → ⊥
none_is e = cc

-- a header that is accepted at one of these places
record IsAcceptedIn (ring : Ring) (p n : ℕ) (g : LogHeader) : Type 0 where
  place : ℕ
  from : p ≤ place
  below : place < p + n
  is : accepted place (ring.at place) ≡ Some g

later : (ring : Ring) (p n : ℕ) (g : LogHeader) → IsAcceptedIn ring (p + 1) n g → IsAcceptedIn ring p (suc n) g
later ring p n g a = record { place = a.place; from = omega (arith, a.from); below = omega (arith, a.below); is = a.is }

-- the better of two is one of them
one_of : (x y : Option LogHeader) (g : LogHeader) → better x y ≡ Some g → (x ≡ Some g) ⊎ (y ≡ Some g)
one_of None y g e = inr e
one_of (Some a) None g e = inl e
one_of (Some a) (Some b) g e = elim (cases_Bool (nat_lt a.sequence b.sequence)) [
  | inl t ↦ inr (sym (cond-true _ (Some b) (Some a) t) ∙ e)
  | inr t ↦ inl (sym (cond-false _ (Some b) (Some a) t) ∙ e)
]

-- and neither is of higher sequence
no_less : (x y : Option LogHeader) (h : LogHeader) → (x ≡ Some h) ⊎ (y ≡ Some h) → (g : LogHeader) × (better x y ≡ Some g) × (h.sequence ≤ g.sequence)
no_less None y h (inl e) = absurd (none_is e)
no_less None y h (inr e) = (h, e, omega arith)
no_less (Some a) None h (inl e) = (h, e, omega arith)
no_less (Some a) None h (inr e) = absurd (none_is e)
no_less (Some a) (Some b) h which = elim (cases_Bool (nat_lt a.sequence b.sequence)) [
  | inl t ↦ (
    b,
    cond-true _ (Some b) (Some a) t,
    elim which [
      | inl e ↦ (let s : a.sequence ≡ h.sequence = ap (λ (g : LogHeader). g.sequence) (some_is e) in let less : a.sequence < b.sequence = grind (arith, nat_tests, t) in omega (arith, s, less))
      | inr e ↦ (let s : b.sequence ≡ h.sequence = ap (λ (g : LogHeader). g.sequence) (some_is e) in omega (arith, s))
    ],
  )
  | inr t ↦ (
    a,
    cond-false _ (Some b) (Some a) t,
    elim which [
      | inl e ↦ (let s : a.sequence ≡ h.sequence = ap (λ (g : LogHeader). g.sequence) (some_is e) in omega (arith, s))
      | inr e ↦ (let s : b.sequence ≡ h.sequence = ap (λ (g : LogHeader). g.sequence) (some_is e) in let less : b.sequence ≤ a.sequence = grind (arith, nat_tests, t) in omega (arith, s, less))
    ],
  )
]

best_accepted : (ring : Ring) (p n : ℕ) (g : LogHeader) → best_from ring p n ≡ Some g → IsAcceptedIn ring p n g
best_accepted ring p zero g e = absurd (none_is e)
best_accepted ring p (suc n) g e = elim (one_of (accepted p (ring.at p)) (best_from ring (p + 1) n) g e) [
  | inl here ↦ record { place = p; from = omega arith; below = omega arith; is = here }
  | inr there ↦ later ring p n g (best_accepted ring (p + 1) n g there)
]

-- the best is of no less a sequence than any
best_upper : (ring : Ring) (p n q : ℕ) (h : LogHeader) → p ≤ q → q < p + n → accepted q (ring.at q) ≡ Some h → (g : LogHeader) × (best_from ring p n ≡ Some g) × (h.sequence ≤ g.sequence)
best_upper ring p zero q h low high e = absurd (omega (arith, low, high))
best_upper ring p (suc n) q h low high e = elim (cases_lt p q) [
  | inl less ↦
      let rest = best_upper ring (p + 1) n q h (omega (arith, less)) (omega (arith, high)) e in
      let both = no_less (accepted p (ring.at p)) (best_from ring (p + 1) n) rest.0 (inr rest.1) in
      (both.0, both.1, omega (arith, rest.2, both.2))
  | inr at ↦
      let same : q ≡ p = omega (arith, low, at) in
      no_less (accepted p (ring.at p)) (best_from ring (p + 1) n) h (inl (ap (λ r. accepted r (ring.at r)) (sym same) ∙ e))
]

pub head_upper : (ring : Ring) (q : ℕ) (h : LogHeader) → q < ring.places → accepted q (ring.at q) ≡ Some h → (g : LogHeader) × (head_in ring ≡ Some g) × (h.sequence ≤ g.sequence)
unfolding head_in
head_upper ring q h inside e = best_upper ring 0 ring.places q h (omega arith) (omega (arith, inside)) e

-- one that is of higher sequence than all others is the best
best_is : (ring : Ring) (p n q : ℕ) (H : LogHeader) → p ≤ q → q < p + n → accepted q (ring.at q) ≡ Some H
    → ((r : ℕ) (h : LogHeader) → r ≢ q → p ≤ r → r < p + n → accepted r (ring.at r) ≡ Some h → h.sequence < H.sequence) → best_from ring p n ≡ Some H
best_is ring p zero q H low high is others = absurd (omega (arith, low, high))
best_is ring p (suc n) q H low high is others = elim (cases_lt p q) [
  | inl less ↦
      let rest = best_is ring (p + 1) n q H (omega (arith, less)) (omega (arith, high)) is (λ r h off from below e. others r h off (omega (arith, from)) (omega (arith, below)) e) in
      first (accepted p (ring.at p)) refl (λ e. omega (arith, less, e)) (best_from ring (p + 1) n) rest
  | inr at ↦
      let same : q ≡ p = omega (arith, low, at) in
      (λ i. better (accepted (sym same i) (ring.at (sym same i))) (best_from ring (p + 1) n)) ∙ (λ i. better (is i) (best_from ring (p + 1) n))
      ∙ second (best_from ring (p + 1) n) (λ g e. let a = best_accepted ring (p + 1) n g e in others a.place g (λ z. omega (arith, a.from, z, same)) (omega (arith, a.from)) (omega (arith, a.below)) a.is)
]
  where
    first : (x : Option LogHeader) → accepted p (ring.at p) ≡ x → p ≢ q → (y : Option LogHeader) → y ≡ Some H → better (accepted p (ring.at p)) y ≡ Some H
    first None e off y rest = ap (λ z. better z y) e ∙ rest
    first (Some a) e off y rest =
        let less : a.sequence < H.sequence = others p a off (omega arith) (omega arith) e in
        (λ i. better (e i) (rest i)) ∙ cond-true _ (Some H) (Some a) (let t : nat_lt a.sequence H.sequence ≡ true = grind (arith, nat_tests, less) in t)

    second : (y : Option LogHeader) → ((g : LogHeader) → y ≡ Some g → g.sequence < H.sequence) → better (Some H) y ≡ Some H
    second None each = refl
    second (Some g) each =
        let less : g.sequence < H.sequence = each g refl in
        cond-false _ (Some g) (Some H) (let t : nat_lt H.sequence g.sequence ≡ false = grind (arith, nat_tests, less) in t)

pub head_is : (ring : Ring) (q : ℕ) (H : LogHeader) → q < ring.places → accepted q (ring.at q) ≡ Some H
    → ((r : ℕ) (h : LogHeader) → r ≢ q → r < ring.places → accepted r (ring.at r) ≡ Some h → h.sequence < H.sequence) → head_in ring ≡ Some H
unfolding head_in
head_is ring q H inside is others = best_is ring 0 ring.places q H (omega arith) (omega (arith, inside)) is (λ r h off from below e. others r h off (omega (arith, below)) e)
