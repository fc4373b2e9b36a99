-- Ways round a ring.
use Rattle.std.proofs.Common.{◌≡◌, ℕ, suc, ◌+◌, ◌-◌, ◌<◌, ◌≤◌, ◌⊎◌, inl, inr, ap, ◌∙◌, arith, if◌then◌else◌}
use Rattle.std.proofs.lemmas.Bool.Decides.{leb_tells}
use Rattle.log_layout.specs.Journal.{way}
use Rattle.node_journal.specs.Places.{place_on}
use Rattle.node_journal.proofs.Arounds.{around}

module _ (n : ℕ) where
  -- which of its two values a way has
  pub way_is : (f t : ℕ) → ((f ≤ t) × (way n f t ≡ t - f)) ⊎ ((t < f) × (way n f t ≡ (t + n) - f))
  way_is f t = elim (leb_tells f t) [
    | inl e ↦ inl (e.1, ap (λ b. if b then t - f else (t + n) - f) e.0)
    | inr e ↦ inr (e.1, ap (λ b. if b then t - f else (t + n) - f) e.0)
  ]

  pub way_below : (f t : ℕ) → f < n → t < n → way n f t < n
  way_below f t a b = elim (way_is f t) [ inl e ↦ omega arith | inr e ↦ omega arith ]

  -- from a place further on it is as much less
  pub way_less : (f g p : ℕ) → f < n → g < n → p < n → way n f g ≤ way n f p → way n g p ≡ way n f p - way n f g
  way_less f g p a b c less =
      elim (way_is f g) [
        | inl x ↦ elim (way_is f p) [
          | inl y ↦ elim (way_is g p) [ inl z ↦ omega arith | inr z ↦ omega arith ]
          | inr y ↦ elim (way_is g p) [ inl z ↦ omega arith | inr z ↦ omega arith ]
        ]
        | inr x ↦ elim (way_is f p) [
          | inl y ↦ elim (way_is g p) [ inl z ↦ omega arith | inr z ↦ omega arith ]
          | inr y ↦ elim (way_is g p) [ inl z ↦ omega arith | inr z ↦ omega arith ]
        ]
      ]

  pub way_self : (p : ℕ) → way n p p ≡ 0
  way_self p = elim (way_is p p) [ inl e ↦ omega arith | inr e ↦ absurd (omega arith) ]

  -- of two places that are as far
  pub same_way : (f p q : ℕ) → f < n → p < n → q < n → way n f p ≡ way n f q → p ≡ q
  same_way f p q a b c e =
      elim (way_is f p) [
        | inl x ↦ elim (way_is f q) [ inl y ↦ omega arith | inr y ↦ omega arith ]
        | inr x ↦ elim (way_is f q) [ inl y ↦ omega arith | inr y ↦ omega arith ]
      ]

  -- ---- so many places on

  on_is : (p k : ℕ) → p < n → k < n → ((p + k < n) × (place_on n p k ≡ p + k)) ⊎ ((n ≤ p + k) × (place_on n p k ≡ k - (n - p)))
  on_is p k a b = elim (leb_tells (suc k) (n - p)) [
    | inl e ↦ inl (omega arith, around n p k a b ∙ ap (λ t. if t then p + k else k - (n - p)) e.0)
    | inr e ↦ inr (omega arith, around n p k a b ∙ ap (λ t. if t then p + k else k - (n - p)) e.0)
  ]

  pub on_below : (p k : ℕ) → p < n → k < n → place_on n p k < n
  on_below p k a b = elim (on_is p k a b) [ inl e ↦ omega arith | inr e ↦ omega arith ]

  -- so many places further from where one is
  pub way_on : (f p k : ℕ) → f < n → p < n → way n f p + k < n → way n f (place_on n p k) ≡ way n f p + k
  way_on f p k a b less =
      let few : k < n = omega arith in
      elim (on_is p k b few) [
        | inl e ↦ elim (way_is f p) [
          | inl x ↦ elim (way_is f (place_on n p k)) [ inl y ↦ omega arith | inr y ↦ omega arith ]
          | inr x ↦ elim (way_is f (place_on n p k)) [ inl y ↦ omega arith | inr y ↦ omega arith ]
        ]
        | inr e ↦ elim (way_is f p) [
          | inl x ↦ elim (way_is f (place_on n p k)) [ inl y ↦ omega arith | inr y ↦ omega arith ]
          | inr x ↦ elim (way_is f (place_on n p k)) [ inl y ↦ omega arith | inr y ↦ omega arith ]
        ]
      ]
