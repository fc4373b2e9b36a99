-- Whether a block is a place of a ring, and whether some journal has it live: searches.
use Rattle.std.proofs.Common.{◌≡◌, ◌⊎◌, ℕ, zero, suc, ◌<◌, inl, inr, List, [], ◌∷◌, length, Option, None, Some, slice_get, refl, sym, ap, subst, ◌∙◌, arith}
use Rattle.std.proofs.lemmas.Bool.{cases_eq, cases_lt}
use Rattle.std.proofs.lemmas.Option.{slice_get_within}
use Rattle.image_model.proofs.Held.{none_some, some_same}
use Rattle.image_machine.specs.Volumes.{IsPlace, Volume}

-- the first where it is the first
abbrev pub pick : {A B C : Type 0} → A ⊎ B → C → C → C
pick (inl a) x y = x
pick (inr b) x y = y

among_places : (v : Volume) (k b n : ℕ) → ((p : ℕ) × (p < n) × (v.place k p ≡ b)) ⊎ ((p : ℕ) → p < n → v.place k p ≡ b → ⊥)
among_places v k b zero = inr (λ p low e. absurd (omega (arith, low)))
among_places v k b (suc n) = elim (cases_eq (v.place k n) b) [
  | inl e ↦ inl (n, omega arith, e)
  | inr off ↦ elim (among_places v k b n) [
    | inl f ↦ inl (f.0, omega (arith, f.1), f.2)
    | inr none ↦ inr (λ p low e. elim (cases_eq p n) [ inl same ↦ off (ap (v.place k) (sym same) ∙ e) | inr apart ↦ none p (omega (arith, low, apart)) e ])
  ]
]

among_rings : (v : Volume) (b : ℕ) (ks : List ℕ) → ((j k p : ℕ) × (slice_get ks j ≡ Some k) × (p < v.places k) × (v.place k p ≡ b))
    ⊎ ((j k p : ℕ) → slice_get ks j ≡ Some k → p < v.places k → v.place k p ≡ b → ⊥)
among_rings v b [] = inr (λ j k p at low e. none_some at)
among_rings v b (c ∷ ks) = elim (among_places v c b (v.places c)) [
  | inl f ↦ inl (0, c, f.0, refl, f.1, f.2)
  | inr off ↦ elim (among_rings v b ks) [
    | inl f ↦ inl (suc f.0, f.1, f.2, f.3, f.4, f.5)
    | inr none ↦ inr (λ j k p at low e. by off none j k p at low e)
  ]
]
  where
    by : ((p : ℕ) → p < v.places c → v.place c p ≡ b → ⊥) → ((j k p : ℕ) → slice_get ks j ≡ Some k → p < v.places k → v.place k p ≡ b → ⊥)
        → (j k p : ℕ) → slice_get (c ∷ ks) j ≡ Some k → p < v.places k → v.place k p ≡ b → ⊥
    by off none zero k p at low e = here off k (some_same at) p low e
      where
        here : ((p : ℕ) → p < v.places c → v.place c p ≡ b → ⊥) → (k : ℕ) → c ≡ k → (p : ℕ) → p < v.places k → v.place k p ≡ b → ⊥
        here off k same = subst (λ z. (p : ℕ) → p < v.places z → v.place z p ≡ b → ⊥) same off
    by off none (suc j) k p at low e = none j k p at low e

pub place_or_not : (v : Volume) (b : ℕ) → IsPlace v b ⊎ (IsPlace v b → ⊥)
place_or_not v b = elim (among_rings v b v.layout.journals) [
  | inl f ↦ inl (record { journal = f.0; dinode = f.1; place = f.2; at = f.3; low = f.4; is = f.5 })
  | inr none ↦ inr (λ is. none is.journal is.dinode is.place is.at is.low is.is)
]

among : (f : ℕ → Option (List ℕ)) (n : ℕ) → ((j : ℕ) × (bytes : List ℕ) × (f j ≡ Some bytes)) ⊎ ((j : ℕ) → j < n → f j ≡ None)
among f zero = inr (λ j low. absurd (omega (arith, low)))
among f (suc n) = by (f n) refl (among f n)
  where
    by : (x : Option (List ℕ)) → f n ≡ x → ((j : ℕ) × (bytes : List ℕ) × (f j ≡ Some bytes)) ⊎ ((j : ℕ) → j < n → f j ≡ None)
        → ((j : ℕ) × (bytes : List ℕ) × (f j ≡ Some bytes)) ⊎ ((j : ℕ) → j < suc n → f j ≡ None)
    by (Some bytes) e rest = inl (n, bytes, e)
    by None e (inl found) = inl found
    by None e (inr none) = inr (λ j low. elim (cases_eq j n) [ inl same ↦ ap f same ∙ e | inr apart ↦ none j (omega (arith, low, apart)) ])

-- some journal has it, or none
pub some_or_none : (ks : List ℕ) (f : ℕ → Option (List ℕ)) → ((j : ℕ) → ((k : ℕ) → slice_get ks j ≡ Some k → ⊥) → f j ≡ None)
    → ((j k : ℕ) × (bytes : List ℕ) × (slice_get ks j ≡ Some k) × (f j ≡ Some bytes)) ⊎ ((j : ℕ) → f j ≡ None)
some_or_none ks f outside = elim (among f (length ks)) [
  | inl found ↦ inl (its found.0 found.1 found.2 (slice_get ks found.0) refl)
  | inr none ↦ inr (λ j. elim (cases_lt j (length ks)) [ inl low ↦ none j low | inr high ↦ outside j (λ k at. absurd (omega (arith, high, slice_get_within ks j k at))) ])
]
  where
    its : (j : ℕ) (bytes : List ℕ) → f j ≡ Some bytes → (x : Option ℕ) → slice_get ks j ≡ x → (j k : ℕ) × (bytes : List ℕ) × (slice_get ks j ≡ Some k) × (f j ≡ Some bytes)
    its j bytes e (Some k) at = (j, k, bytes, at, e)
    its j bytes e None at = absurd (none_some (sym (outside j (λ k at'. none_some (sym at ∙ at'))) ∙ e))
