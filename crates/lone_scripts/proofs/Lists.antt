-- Fronts of lists, and where their elements stand.
use Rattle.std.proofs.Common.{◌≡◌, ℕ, zero, suc, ◌+◌, ◌<◌, ◌≤◌, Bool, true, false, List, [], ◌∷◌, ◌++◌, length, take, drop, cond, map, Some, refl, sym, ap, ◌∙◌, subst, arith, length-take}
use Rattle.std.specs.Prelude.{slice_get, count_by}
use Rattle.std.specs.List.{AllByRecursion, filter}
use Rattle.std.proofs.lemmas.List.{take_all, take-append-le, take-append-drop}
use Rattle.std.proofs.lemmas.List.Elements.{filter-append}
use Rattle.std.proofs.lemmas.List.Sums.{sum_by-append}

-- ---- fronts of lists

pub take_front : {A : Type 0} (k q : ℕ) (xs : List A) → q ≤ k → take q (take k xs) ≡ take q xs
take_front k zero xs within = refl
take_front zero (suc q) xs within = absurd (omega (arith, within))
take_front (suc k) (suc q) [] within = refl
take_front {A} (suc k) (suc q) (x ∷ xs) within = ap (λ (ys : List A). x ∷ ys) (take_front k q xs (omega (arith, within)))

pub take_past : {A : Type 0} (k q : ℕ) (xs : List A) → k ≤ q → take q (take k xs) ≡ take k xs
take_past {A} k q xs past = take_all q (take k xs) (omega (arith, length-take k xs))

-- a front is as many elements as it is long
pub is_front : {A : Type 0} (xs ys zs : List A) → xs ++ ys ≡ zs → xs ≡ take (length xs) zs
is_front xs ys zs whole = sym (ap (take (length xs)) (sym whole) ∙ take-append-le (length xs) xs ys (omega arith) ∙ take_all (length xs) xs (omega arith))

pub filter_front : {A : Type 0} (p : A → Bool) (n : ℕ) (xs : List A) → filter p (take n xs) ≡ take (length (filter p (take n xs))) (filter p xs)
filter_front p n xs =
    is_front (filter p (take n xs)) (filter p (drop n xs)) (filter p xs) (sym (filter-append p (take n xs) (drop n xs)) ∙ ap (filter p) (take-append-drop n xs))

-- the front with the next element
pub take_next : {A : Type 0} (n : ℕ) (xs : List A) (x : A) → slice_get xs n ≡ Some x → take (suc n) xs ≡ take n xs ++ x ∷ []
take_next n [] x at = cc
take_next {A} zero (y ∷ ys) x at = let same : y ≡ x = cc in ap (λ (z : A). z ∷ []) same
take_next {A} (suc n) (y ∷ ys) x at = ap (λ (zs : List A). y ∷ zs) (take_next n ys x at)

-- ---- what holds of all elements

pub all_take : {A : Type 0} (P : A → Type 0) (k : ℕ) (xs : List A) → AllByRecursion P xs → AllByRecursion P (take k xs)
all_take P zero xs all = tt
all_take P (suc k) [] all = tt
all_take P (suc k) (x ∷ xs) all = (all.0, all_take P k xs all.1)

filter_by : {A : Type 0} (P : A → Type 0) (b : Bool) (x : A) (xs : List A) → P x → AllByRecursion P xs → AllByRecursion P (cond b (x ∷ xs) xs)
filter_by P true x xs one all = (one, all)
filter_by P false x xs one all = all

pub all_filter : {A : Type 0} (P : A → Type 0) (p : A → Bool) (xs : List A) → AllByRecursion P xs → AllByRecursion P (filter p xs)
all_filter P p [] all = tt
all_filter P p (x ∷ xs) all = filter_by P (p x) x (filter p xs) all.0 (all_filter P p xs all.1)

pub all_map : {A B : Type 0} (P : B → Type 0) (f : A → B) (xs : List A) → AllByRecursion P (map f xs) → AllByRecursion (λ x. P (f x)) xs
all_map P f [] all = tt
all_map P f (x ∷ xs) all = (all.0, all_map P f xs all.1)

pub all_both : {A : Type 0} (P : A → Type 0) (xs ys : List A) → AllByRecursion P xs → AllByRecursion P ys → AllByRecursion P (xs ++ ys)
all_both P [] ys all more = more
all_both P (x ∷ xs) ys all more = (all.0, all_both P xs ys all.1 more)

pub all_at : {A : Type 0} (P : A → Type 0) (xs : List A) (p : ℕ) (x : A) → AllByRecursion P xs → slice_get xs p ≡ Some x → P x
all_at P [] p x all at = cc
all_at P (y ∷ ys) zero x all at = let same : y ≡ x = cc in subst P same all.0
all_at P (y ∷ ys) (suc p) x all at = all_at P ys p x all.1 at

-- ---- where an element stands in a list with one in its midst

pub data Stands {A : Type 0} (xs : List A) (y : A) (ys : List A) (p : ℕ) (x : A) : Type 0 where
  before : p < length xs → slice_get xs p ≡ Some x → Stands xs y ys p x
  there : p ≡ length xs → y ≡ x → Stands xs y ys p x
  behind : (k : ℕ) → p ≡ suc (length xs + k) → slice_get ys k ≡ Some x → Stands xs y ys p x

pub stands : {A : Type 0} (xs : List A) (y : A) (ys : List A) (p : ℕ) (x : A) → slice_get (xs ++ y ∷ ys) p ≡ Some x → Stands xs y ys p x
stands [] y ys zero x at = let same : y ≡ x = cc in there refl same
stands [] y ys (suc p) x at = behind p (omega arith) at
stands (z ∷ zs) y ys zero x at = before (omega arith) at
stands (z ∷ zs) y ys (suc p) x at = elim (stands zs y ys p x at) [
  | before low is ↦ before (omega (arith, low)) is
  | there here is ↦ there (omega (arith, here)) is
  | behind k past is ↦ behind k (omega (arith, past)) is
]

pub in_midst : {A : Type 0} (xs : List A) (y : A) (ys : List A) → slice_get (xs ++ y ∷ ys) (length xs) ≡ Some y
in_midst [] y ys = refl
in_midst (x ∷ xs) y ys = in_midst xs y ys

-- ---- counts

pub count_both : {A : Type 0} (p : A → Bool) (xs ys : List A) → count_by p (xs ++ ys) ≡ count_by p xs + count_by p ys
count_both p xs ys = sum_by-append (λ x. cond (p x) 1 0) xs ys

pub count_front : {A : Type 0} (p : A → Bool) (n m : ℕ) (xs : List A) → n ≤ m → count_by p (take n xs) ≤ count_by p (take m xs)
count_front p n m xs less =
    let whole = ap (count_by p) (take-append-drop n (take m xs)) in
    let front = ap (count_by p) (take_front m n xs less) in
    let both = count_both p (take n (take m xs)) (drop n (take m xs)) in
    omega (arith, whole, front, both)
