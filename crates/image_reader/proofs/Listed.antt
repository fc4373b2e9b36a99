-- Elements of lists by their places.
use Rattle.std.proofs.Common.{◌≡◌, ℕ, zero, suc, ◌-◌, ◌<◌, List, [], ◌∷◌, ◌++◌, length, take, drop, get_or, Some, refl, sym, ap, ◌∙◌, arith}
use Rattle.std.proofs.lemmas.List.{take_all, length_push, length-drop}
use Rattle.std.specs.Prelude.{slice_get}

some_same : {X : Type 0} (x y : X) → Some x ≡ Some y → x ≡ y
some_same x y e = cc

pub get_at : {X : Type 0} (xs : List X) (i : ℕ) (x : X) → i < length xs → x ≡ get_or xs i x → slice_get xs i ≡ Some x
get_at [] i x low is = absurd (omega arith)
get_at (y ∷ xs) zero x low is = ap Some (sym is)
get_at (y ∷ xs) (suc i) x low is = get_at xs i x (omega arith) is

pub got_low : {X : Type 0} (xs : List X) (i : ℕ) (x : X) → slice_get xs i ≡ Some x → i < length xs
got_low [] i x is = cc
got_low (y ∷ xs) zero x is = omega arith
got_low (y ∷ xs) (suc i) x is = omega (arith, got_low xs i x is)

pub got_is : {X : Type 0} (xs : List X) (i : ℕ) (x d : X) → slice_get xs i ≡ Some x → get_or xs i d ≡ x
got_is [] i x d is = cc
got_is (y ∷ xs) zero x d is = some_same y x is
got_is (y ∷ xs) (suc i) x d is = got_is xs i x d is

pub got_one : {X : Type 0} (xs : List X) (i j : ℕ) (x y : X) → i ≡ j → slice_get xs i ≡ Some x → slice_get xs j ≡ Some y → x ≡ y
got_one xs i j x y same is other = some_same x y (sym is ∙ ap (slice_get xs) same ∙ other)

heads : {X : Type 0} (x y : X) (xs ys : List X) → x ∷ xs ≡ y ∷ ys → x ≡ y
heads x y xs ys e = cc

tails : {X : Type 0} (x y : X) (xs ys : List X) → x ∷ xs ≡ y ∷ ys → xs ≡ ys
tails x y xs ys e = cc

split : {X : Type 0} (all rest : List X) (x : X) → rest ++ x ∷ [] ≡ take (suc (length rest)) all → (rest ≡ take (length rest) all) × (slice_get all (length rest) ≡ Some x)
split [] [] x e = cc
split [] (y ∷ rest) x e = cc
split (z ∷ all) [] x e = (refl, ap Some (sym (heads x z [] (take 0 all) e)))
split (z ∷ all) (y ∷ rest) x e =
    let more = split all rest x (tails y z (rest ++ x ∷ []) (take (suc (length rest)) all) e) in
    ((λ i. heads y z (rest ++ x ∷ []) (take (suc (length rest)) all) e i ∷ more.0 i), more.1)

-- the last of the first so many
pub record IsPopped {X : Type 0} (all now rest : List X) (x : X) : Type 0 where
  pub count : length now ≡ suc (length rest)
  pub left : rest ≡ take (length rest) all
  pub last : slice_get all (length rest) ≡ Some x

pub popped : {X : Type 0} (all now rest : List X) (x : X) → now ≡ take (length now) all → now ≡ rest ++ x ∷ [] → IsPopped all now rest x
popped all now rest x first is =
    let long : length now ≡ suc (length rest) = ap length is ∙ length_push rest x ∙ omega arith in
    let parts = split all rest x (sym is ∙ first ∙ ap (λ n. take n all) long) in
    record { count = long; left = parts.0; last = parts.1 }

pub none_left : {X : Type 0} (xs ys : List X) (x : X) → length xs ≡ 1 → xs ≡ ys ++ x ∷ [] → (d : X) → x ≡ get_or xs 0 d
none_left xs [] x one is d = sym (ap (λ l. get_or l 0 d) is)
none_left xs (y ∷ ys) x one is d = absurd (omega (arith, one, ap length is, length_push ys x))

pub take_whole : {X : Type 0} (xs : List X) → xs ≡ take (length xs) xs
take_whole xs = sym (take_all (length xs) xs (omega arith))

-- all that is behind the first so many
pub behind : {X : Type 0} (n : ℕ) (xs : List X) → take (length xs - n) (drop n xs) ≡ drop n xs
behind n xs = ap (λ k. take k (drop n xs)) (sym (length-drop n xs)) ∙ take_all (length (drop n xs)) (drop n xs) (omega arith)
