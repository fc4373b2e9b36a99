-- Lists of rising numbers.
use Rattle.std.proofs.Common.{◌≡◌, ℕ, zero, suc, ◌+◌, ◌<◌, ◌≤◌, ◌==◌, inl, inr, Bool, List, [], ◌∷◌, length, get_or, refl, sym, ap, subst, arith, cond}
use Rattle.std.specs.Prelude.{count_by, filter, ⊤}
use Rattle.std.specs.List.{AllByRecursion, range_with_len}
use Rattle.std.specs.List.Sorted.{IsStrictlyIncreasing}
use Rattle.std.proofs.lemmas.Bool.{cases_Bool, cases_eq, cond-true, cond-false, eq-eqb, ne_eqb}
use Rattle.std.proofs.lemmas.List.Sums.{sum_by-cons}
use Rattle.image_model.proofs.Members.{IsIn, from_filter, from_range}
use Rattle.image_model.proofs.Counts.{all_in}

abbrev pub Rising : List ℕ → Type 0
Rising [] = ⊤
Rising (x ∷ xs) = AllByRecursion (λ y. x < y) xs × Rising xs

pub all_above : (x y : ℕ) (xs : List ℕ) → x < y → AllByRecursion (λ z. y < z) xs → AllByRecursion (λ z. x < z) xs
all_above x y [] low all = tt
all_above x y (z ∷ zs) low all = (omega (arith, low, all.0), all_above x y zs low all.1)

pub rising : (xs : List ℕ) → IsStrictlyIncreasing xs → Rising xs
rising [] is = tt
rising (x ∷ []) is = (tt, tt)
rising (x ∷ y ∷ ys) is =
    let more = rising (y ∷ ys) (λ k low. let one : suc k + 1 ≡ suc (k + 1) = omega arith in subst (λ n. get_or (x ∷ y ∷ ys) (suc k) 0 < get_or (x ∷ y ∷ ys) n 0) one (is (suc k) (omega (arith, low)))) in
    let first : x < y = is 0 (omega arith) in
    ((first, all_above x y ys first more.0), more)

pub all_of : {X : Type 0} (P : X → Type 0) (xs : List X) → ((x : X) → IsIn x xs → P x) → AllByRecursion P xs
all_of P [] each = tt
all_of P (x ∷ xs) each = (each x (inl refl), all_of P xs (λ y h. each y (inr h)))

pub rising_range : (a n : ℕ) → Rising (range_with_len a n)
rising_range a zero = tt
rising_range a (suc n) = (all_of (λ y. a < y) (range_with_len (a + 1) n) (λ y h. let g = from_range (a + 1) n y h in omega (arith, g.0)), rising_range (a + 1) n)

pub rising_filter : (test : ℕ → Bool) (xs : List ℕ) → Rising xs → Rising (filter test xs)
rising_filter test [] is = tt
rising_filter test (x ∷ xs) is = elim (cases_Bool (test x)) [
  | inl so ↦ subst Rising (sym (cond-true _ _ _ so))
      (all_of (λ y. x < y) (filter test xs) (λ y h. all_in (λ z. x < z) y xs is.0 (from_filter test y xs h).0), rising_filter test xs is.1)
  | inr non ↦ subst Rising (sym (cond-false _ _ _ non)) (rising_filter test xs is.1)
]

-- two rising lists of the same numbers are one
pub same_rising : (xs ys : List ℕ) → Rising xs → Rising ys → ((x : ℕ) → IsIn x xs → IsIn x ys) → ((y : ℕ) → IsIn y ys → IsIn y xs) → xs ≡ ys
same_rising [] [] is is' to from = refl
same_rising [] (y ∷ ys) is is' to from = absurd (from y (inl refl))
same_rising (x ∷ xs) [] is is' to from = absurd (to x (inl refl))
same_rising (x ∷ xs) (y ∷ ys) is is' to from = joined first (same_rising xs ys is.1 is'.1 to' from')
  where
    not_above : (z w : ℕ) (ws : List ℕ) → AllByRecursion (λ v. w < v) ws → IsIn z (w ∷ ws) → w ≤ z
    not_above z w ws all (inl e) = omega (arith, e)
    not_above z w ws all (inr h) = omega (arith, all_in (λ v. w < v) z ws all h)

    first : x ≡ y
    first = omega (arith, not_above x y ys is'.0 (to x (inl refl)), not_above y x xs is.0 (from y (inl refl)))

    later : (z w : ℕ) (zs ws : List ℕ) → z ≡ w → AllByRecursion (λ v. z < v) zs → (v : ℕ) → IsIn v zs → IsIn v (w ∷ ws) → IsIn v ws
    later z w zs ws e all v h (inl s) = absurd (omega (arith, e, s, all_in (λ u. z < u) v zs all h))
    later z w zs ws e all v h (inr g) = g

    to' : (v : ℕ) → IsIn v xs → IsIn v ys
    to' v h = later x y xs ys first is.0 v h (to v (inr h))

    from' : (v : ℕ) → IsIn v ys → IsIn v xs
    from' v h = later y x ys xs (sym first) is'.0 v h (from v (inr h))

    joined : x ≡ y → xs ≡ ys → x ∷ xs ≡ y ∷ ys
    joined e f = λ i. e i ∷ f i

-- ---- counts

pub count_filter : {X : Type 0} (test : X → Bool) (xs : List X) → count_by test xs ≡ length (filter test xs)
count_filter test [] = refl
count_filter test (x ∷ xs) = elim (cases_Bool (test x)) [
  | inl so ↦ omega (arith, sum_by-cons (λ y. cond (test y) 1 0) x xs, cond-true {A = ℕ} _ 1 0 so, count_filter test xs, ap length (cond-true _ (x ∷ filter test xs) (filter test xs) so))
  | inr non ↦ omega (arith, sum_by-cons (λ y. cond (test y) 1 0) x xs, cond-false {A = ℕ} _ 1 0 non, count_filter test xs, ap length (cond-false _ (x ∷ filter test xs) (filter test xs) non))
]

abbrev pub one_if : Bool → ℕ
one_if b = cond b 1 0

-- a test that is one of two, never both
pub count_split : (all some other : ℕ → Bool) (xs : List ℕ) → ((x : ℕ) → one_if (all x) ≡ one_if (some x) + one_if (other x)) → count_by all xs ≡ count_by some xs + count_by other xs
count_split all some other [] each = omega arith
count_split all some other (x ∷ xs) each = omega (arith, sum_by-cons (λ y. one_if (all y)) x xs, sum_by-cons (λ y. one_if (some y)) x xs, sum_by-cons (λ y. one_if (other y)) x xs, each x, count_split all some other xs each)

none_there : (a b n : ℕ) → a < b → count_by (λ x. x == a) (range_with_len b n) ≡ 0
none_there a b zero low = refl
none_there a b (suc n) low = omega (arith, sum_by-cons (λ x. one_if (x == a)) b (range_with_len (b + 1) n), cond-false {A = ℕ} _ 1 0 (ne_eqb b a (λ e. absurd (omega (arith, e, low)))), none_there a (b + 1) n (omega (arith, low)))

pub one_there : (a b n : ℕ) → b ≤ a → a < b + n → count_by (λ x. x == a) (range_with_len b n) ≡ 1
one_there a b zero low high = absurd (omega (arith, low, high))
one_there a b (suc n) low high = elim (cases_eq b a) [
  | inl e ↦ omega (arith, sum_by-cons (λ x. one_if (x == a)) b (range_with_len (b + 1) n), cond-true {A = ℕ} _ 1 0 (eq-eqb b a e), none_there a (b + 1) n (omega (arith, e)))
  | inr d ↦ omega (arith, sum_by-cons (λ x. one_if (x == a)) b (range_with_len (b + 1) n), cond-false {A = ℕ} _ 1 0 (ne_eqb b a d), one_there a (b + 1) n (omega (arith, low, d)) (omega (arith, high)))
]
