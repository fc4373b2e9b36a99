-- Elements of lists, and how many of them pass a test.
use Rattle.std.proofs.Common.{ℕ, zero, suc, ◌≡◌, ◌+◌, ◌<◌, ◌≤◌, inl, inr, List, [], ◌∷◌, ◌++◌, map, refl, sym, arith}
use Rattle.std.specs.Prelude.{◌==◌, count_by}
use Rattle.std.specs.List.{AllByRecursion, range_with_len}
use Rattle.std.proofs.lemmas.Bool.{cond-true, cond-false, eq-eqb, ne_eqb}
use Rattle.std.proofs.lemmas.List.Sums.{sum_by-cons}
pub use Rattle.image_model.proofs.Members.{IsIn, contained, is_in, in_range, from_range}
pub use Rattle.image_model.proofs.Held.{none_some, some_same}
pub use Rattle.image_model.proofs.Rising.{Rising, one_if, rising_range as range_rises, count_split}
pub use Rattle.image_model.proofs.Same.{flat_map_same}
pub use Rattle.image_model.proofs.Counts.{all_in}
pub use Rattle.image_model.proofs.Reach.{found_in}

pub map_same : {X Y : Type 0} (f g : X → Y) (xs : List X) → ((x : X) → IsIn x xs → f x ≡ g x) → map f xs ≡ map g xs
map_same f g [] same = refl
map_same f g (x ∷ xs) same = λ t. same x (inl refl) t ∷ map_same f g xs (λ y h. same y (inr h)) t

pub all_append : {X : Type 0} (P : X → Type 0) (xs ys : List X) → AllByRecursion P xs → AllByRecursion P ys → AllByRecursion P (xs ++ ys)
all_append P [] ys first later = later
all_append P (x ∷ xs) ys first later = (first.0, all_append P xs ys first.1 later)

-- ---- counts

none_before : (b x : ℕ) (xs : List ℕ) → b ≤ x → AllByRecursion (λ y. x < y) xs → count_by (λ q. q == b) xs ≡ 0
none_before b x [] le all = refl
none_before b x (y ∷ ys) le all = none (count_by (λ q. q == b) (y ∷ ys)) (one_if (y == b)) (count_by (λ q. q == b) ys) (sum_by-cons (λ q. one_if (q == b)) y ys)
    (cond-false {A = ℕ} _ 1 0 (ne_eqb y b (λ e. absurd (differ b x y le all.0 e)))) (none_before b x ys le all.1)
  where
    none : (c u v : ℕ) → c ≡ u + v → u ≡ 0 → v ≡ 0 → c ≡ 0
    none c u v e f g = omega (arith, e, f, g)

    differ : (b x y : ℕ) → b ≤ x → x < y → y ≡ b → ⊥
    differ b x y le less e = absurd (omega (arith, le, less, e))

-- a number is once in a rising list, or not at all
pub count_in : (b : ℕ) (xs : List ℕ) → Rising xs → IsIn b xs → count_by (λ q. q == b) xs ≡ 1
count_in b [] all there = elim there [ ]
count_in b (x ∷ xs) all (inl e) = one (count_by (λ q. q == b) (x ∷ xs)) (one_if (x == b)) (count_by (λ q. q == b) xs) (sum_by-cons (λ q. one_if (q == b)) x xs)
    (cond-true {A = ℕ} _ 1 0 (eq-eqb x b (sym e))) (none_before b x xs (same b x e) all.0)
  where
    one : (c u v : ℕ) → c ≡ u + v → u ≡ 1 → v ≡ 0 → c ≡ 1
    one c u v e f g = omega (arith, e, f, g)

    same : (b x : ℕ) → b ≡ x → b ≤ x
    same b x e = omega (arith, e)
count_in b (x ∷ xs) all (inr h) = one (count_by (λ q. q == b) (x ∷ xs)) (one_if (x == b)) (count_by (λ q. q == b) xs) (sum_by-cons (λ q. one_if (q == b)) x xs)
    (cond-false {A = ℕ} _ 1 0 (ne_eqb x b (λ e. absurd (differ x b (all_in (λ y. x < y) b xs all.0 h) e)))) (count_in b xs all.1 h)
  where
    one : (c u v : ℕ) → c ≡ u + v → u ≡ 0 → v ≡ 1 → c ≡ 1
    one c u v e f g = omega (arith, e, f, g)

    differ : (x b : ℕ) → x < b → x ≡ b → ⊥
    differ x b less e = absurd (omega (arith, less, e))

pub count_out : (b : ℕ) (xs : List ℕ) → (IsIn b xs → ⊥) → count_by (λ q. q == b) xs ≡ 0
count_out b [] out = refl
count_out b (x ∷ xs) out = none (count_by (λ q. q == b) (x ∷ xs)) (one_if (x == b)) (count_by (λ q. q == b) xs) (sum_by-cons (λ q. one_if (q == b)) x xs)
    (cond-false {A = ℕ} _ 1 0 (ne_eqb x b (λ e. absurd (out (inl (sym e)))))) (count_out b xs (λ h. out (inr h)))
  where
    none : (c u v : ℕ) → c ≡ u + v → u ≡ 0 → v ≡ 0 → c ≡ 0
    none c u v e f g = omega (arith, e, f, g)

-- a range rises, and has the numbers from its start on
above_range : (x a n : ℕ) → x < a → AllByRecursion (λ y. x < y) (range_with_len a n)
above_range x a zero low = tt
above_range x a (suc n) low = (low, above_range x (a + 1) n (omega (arith, low)))

pub one_there : (b a n : ℕ) → a ≤ b → b < a + n → count_by (λ q. q == b) (range_with_len a n) ≡ 1
one_there b a n low high = count_in b (range_with_len a n) (range_rises a n) (in_range a n b low high)
