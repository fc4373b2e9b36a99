-- Lists that a loop fills, number by number.
use Rattle.std.proofs.Common.{◌≡◌, ℕ, zero, suc, ◌+◌, ◌<◌, ◌≤◌, Bool, true, false, List, [], ◌∷◌, ◌++◌, refl, sym, ap, ◌∙◌, inl, inr, arith}
use Rattle.std.specs.Prelude.{map, nat_le, ◌&&◌}
use Rattle.std.specs.List.{AllByRecursion, list_all, range_with_len}
use Rattle.std.proofs.lemmas.Bool.{cases_Bool}
use Rattle.std.proofs.lemmas.Bool.Decides.{nat_tests}
use Rattle.std.proofs.lemmas.List.{append_assoc}
use Rattle.std.proofs.lemmas.List.FromFn.{map-range_with_len_more}

pub grown : {X : Type 0} (f : ℕ → X) (i : ℕ) (start now new : List X) (x : X) → now ≡ start ++ map f (range_with_len 0 i) → new ≡ now ++ x ∷ [] → x ≡ f i → new ≡ start ++ map f (range_with_len 0 (i + 1))
grown f i start now new x so one is =
    let z : 0 + i ≡ i = omega arith in
    one ∙ (λ t. so t ++ is t ∷ []) ∙ append_assoc start (map f (range_with_len 0 i)) (f i ∷ []) ∙ ap (λ l. start ++ l) (sym (map-range_with_len_more f 0 i i z))

pub map_twice : {X Y Z : Type 0} (f : Y → Z) (g : X → Y) (xs : List X) → map f (map g xs) ≡ map (λ x. f (g x)) xs
map_twice f g [] = refl
map_twice f g (x ∷ xs) = ap (λ l. f (g x) ∷ l) (map_twice f g xs)

pub not_one : (x : ℕ) → 1 < x → nat_le x 1 ≡ false
not_one x h = grind (arith, nat_tests, h)

pub one_at_most : (x : ℕ) → x ≤ 1 → nat_le x 1 ≡ true
one_at_most x h = grind (arith, nat_tests, h)

and_false : (b : Bool) → (b && false) ≡ false
and_false true = refl
and_false false = refl

all_append : {X : Type 0} (p : X → Bool) (xs : List X) (x : X) → list_all p xs ≡ true → p x ≡ true → list_all p (xs ++ x ∷ []) ≡ true
all_append p [] x so one = ap (λ b. b && true) one
all_append p (y ∷ xs) x so one = elim (cases_Bool (p y)) [
  | inl is ↦ ap (λ b. b && list_all p (xs ++ x ∷ [])) is ∙ all_append p xs x (sym (ap (λ b. b && list_all p xs) is) ∙ so) one
  | inr off ↦ absurd (let e : false ≡ true = sym (ap (λ b. b && list_all p xs) off) ∙ so in cc)
]

-- a test that fails for one of the numbers
pub all_stops : {X : Type 0} (p : X → Bool) (f : ℕ → X) (a n i j : ℕ) → i < n → a + i ≡ j → p (f j) ≡ false → list_all p (map f (range_with_len a n)) ≡ false
all_stops p f a zero i j less at fails = absurd (omega (arith, less))
all_stops p f a (suc n) zero j less at fails = let here : a ≡ j = omega (arith, at) in ap (λ b. b && list_all p (map f (range_with_len (a + 1) n))) (ap (λ k. p (f k)) here ∙ fails)
all_stops p f a (suc n) (suc i) j less at fails =
    let rest = all_stops p f (a + 1) n i j (omega (arith, less)) (omega (arith, at)) fails in
    ap (λ b. p (f a) && b) rest ∙ and_false (p (f a))

-- a test that holds of one number more
pub all_more : {X : Type 0} (p : X → Bool) (f : ℕ → X) (n : ℕ) → list_all p (map f (range_with_len 0 n)) ≡ true → p (f n) ≡ true → list_all p (map f (range_with_len 0 (n + 1))) ≡ true
all_more p f n so one =
    let z : 0 + n ≡ n = omega arith in
    ap (list_all p) (map-range_with_len_more f 0 n n z) ∙ all_append p (map f (range_with_len 0 n)) (f n) so one

-- what holds of each value holds of all that are listed
pub all_of : {X Y : Type 0} (P : Y → Type 0) (f : X → Y) → ((x : X) → P (f x)) → (xs : List X) → AllByRecursion P (map f xs)
all_of P f each [] = tt
all_of P f each (x ∷ xs) = (each x, all_of P f each xs)
