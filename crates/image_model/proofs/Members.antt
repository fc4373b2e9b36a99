-- Elements of lists.
use Rattle.std.proofs.Common.{◌≡◌, ℕ, zero, suc, ◌+◌, ◌<◌, ◌≤◌, ◌⊎◌, inl, inr, Bool, true, false, List, [], ◌∷◌, ◌++◌, length, get_or, refl, sym, ap, ◌∙◌, subst, arith, cond}
use Rattle.std.specs.Prelude.{Contains, filter, flat_map}
use Rattle.std.specs.List.{range_with_len}
use Rattle.std.proofs.lemmas.Bool.{cases_eq, true≢false}

abbrev pub IsIn : {X : Type 0} → X → List X → Type 0
IsIn x [] = ⊥
IsIn x (y ∷ ys) = (x ≡ y) ⊎ IsIn x ys

pub contained : {X : Type 0} (x : X) (xs : List X) → IsIn x xs → Contains xs x
contained x [] h = elim h [ ]
contained x (y ∷ ys) (inl e) = (0, omega arith, sym e)
contained x (y ∷ ys) (inr h) = let c = contained x ys h in (suc c.0, omega (arith, c.1), c.2)

found_at : {X : Type 0} (x : X) (xs : List X) (k : ℕ) → k < length xs → get_or xs k x ≡ x → IsIn x xs
found_at x [] k low e = absurd (omega (arith, low))
found_at x (y ∷ ys) zero low e = inl (sym e)
found_at x (y ∷ ys) (suc k) low e = inr (found_at x ys k (omega (arith, low)) e)

pub is_in : {X : Type 0} (x : X) (xs : List X) → Contains xs x → IsIn x xs
is_in x xs c = found_at x xs c.0 c.1 c.2

-- ---- in lists that are made of others

pub in_left : {X : Type 0} (x : X) (xs ys : List X) → IsIn x xs → IsIn x (xs ++ ys)
in_left x [] ys h = elim h [ ]
in_left x (z ∷ xs) ys (inl e) = inl e
in_left x (z ∷ xs) ys (inr h) = inr (in_left x xs ys h)

pub in_right : {X : Type 0} (x : X) (xs ys : List X) → IsIn x ys → IsIn x (xs ++ ys)
in_right x [] ys h = h
in_right x (z ∷ xs) ys h = inr (in_right x xs ys h)

pub in_either : {X : Type 0} (x : X) (xs ys : List X) → IsIn x (xs ++ ys) → IsIn x xs ⊎ IsIn x ys
in_either x [] ys h = inr h
in_either x (z ∷ xs) ys (inl e) = inl (inl e)
in_either x (z ∷ xs) ys (inr h) = elim (in_either x xs ys h) [ inl l ↦ inl (inr l) | inr r ↦ inr r ]

pub in_flat_map : {X Y : Type 0} (f : X → List Y) (x : X) (y : Y) (xs : List X) → IsIn x xs → IsIn y (f x) → IsIn y (flat_map f xs)
in_flat_map f x y [] h g = elim h [ ]
in_flat_map f x y (z ∷ xs) (inl e) g = in_left y (f z) (flat_map f xs) (subst (λ w. IsIn y (f w)) e g)
in_flat_map f x y (z ∷ xs) (inr h) g = in_right y (f z) (flat_map f xs) (in_flat_map f x y xs h g)

pub from_flat_map : {X Y : Type 0} (f : X → List Y) (y : Y) (xs : List X) → IsIn y (flat_map f xs) → (x : X) × IsIn x xs × IsIn y (f x)
from_flat_map f y [] h = elim h [ ]
from_flat_map f y (z ∷ xs) h = elim (in_either y (f z) (flat_map f xs) h) [
  | inl l ↦ (z, inl refl, l)
  | inr r ↦ let g = from_flat_map f y xs r in (g.0, inr g.1, g.2)
]

pub in_filter : {X : Type 0} (test : X → Bool) (x : X) (xs : List X) → IsIn x xs → test x ≡ true → IsIn x (filter test xs)
in_filter test x [] h e = elim h [ ]
in_filter test x (z ∷ xs) h e = each (test z) refl h (λ g. in_filter test x xs g e)
  where
    each : (b : Bool) → test z ≡ b → IsIn x (z ∷ xs) → (IsIn x xs → IsIn x (filter test xs)) → IsIn x (cond b (z ∷ filter test xs) (filter test xs))
    each true t (inl s) more = inl s
    each true t (inr g) more = inr (more g)
    each false t (inl s) more = absurd (true≢false (sym e ∙ ap test s ∙ t))
    each false t (inr g) more = more g

pub from_filter : {X : Type 0} (test : X → Bool) (x : X) (xs : List X) → IsIn x (filter test xs) → IsIn x xs × (test x ≡ true)
from_filter test x [] h = elim h [ ]
from_filter test x (z ∷ xs) h = each (test z) refl h (from_filter test x xs)
  where
    each : (b : Bool) → test z ≡ b → IsIn x (cond b (z ∷ filter test xs) (filter test xs)) → (IsIn x (filter test xs) → IsIn x xs × (test x ≡ true)) → IsIn x (z ∷ xs) × (test x ≡ true)
    each true t (inl s) more = (inl s, ap test s ∙ t)
    each true t (inr g) more = let f = more g in (inr f.0, f.1)
    each false t g more = let f = more g in (inr f.0, f.1)

pub in_range : (a n b : ℕ) → a ≤ b → b < a + n → IsIn b (range_with_len a n)
in_range a zero b low high = absurd (omega (arith, low, high))
in_range a (suc n) b low high = elim (cases_eq b a) [ inl e ↦ inl e | inr d ↦ inr (in_range (a + 1) n b (omega (arith, low, d)) (omega (arith, high))) ]

pub from_range : (a n b : ℕ) → IsIn b (range_with_len a n) → (a ≤ b) × (b < a + n)
from_range a zero b h = elim h [ ]
from_range a (suc n) b (inl e) = (omega (arith, e), omega (arith, e))
from_range a (suc n) b (inr h) = let g = from_range (a + 1) n b h in (omega (arith, g.0), omega (arith, g.1))
