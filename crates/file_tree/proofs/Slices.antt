-- A slice and its first element.
use Rattle.std.proofs.Common.{◌≡◌, ℕ, Bool, true, false, ◌-◌, ◌<◌, ◌≤◌, List, [], ◌∷◌, ◌++◌, length, take, drop, get_or, refl, sym, ap, ◌∙◌, arith}
use Rattle.std.specs.Prelude.{not}
use Rattle.std.specs.Str.{bytes_eq}
use Rattle.std.proofs.lemmas.Slice.Eq.{bytes_eq-Decides}
use Rattle.std.proofs.lemmas.List.{take_rest, take_all, drop_all, append-nil}

pub cons_is : {A : Type 0} (xs : List A) (x : A) → 1 ≤ length xs → x ≡ get_or xs 0 x → xs ≡ x ∷ take (length xs - 1) (drop 1 xs)
cons_is [] x some is = absurd (omega arith)
cons_is (y ∷ xs) x some is = λ i. sym is i ∷ sym (take_rest (y ∷ xs) 1) i

pub nil_is : {A : Type 0} (xs : List A) → length xs < 1 → xs ≡ []
nil_is [] below = refl
nil_is (x ∷ xs) below = absurd (omega arith)

-- names that aren't told apart by their bytes
pub same_bytes : (a b : List ℕ) (differ : Bool) → differ ≡ not (bytes_eq a b) → differ ≡ false → a ≡ b
same_bytes a b differ e f = each (bytes_eq a b) refl (sym e ∙ f)
  where
    each : (t : Bool) → bytes_eq a b ≡ t → not t ≡ false → a ≡ b
    each true is e = (bytes_eq-Decides a b).0 is
    each false is e = absurd (let g : true ≡ false = e in cc)

-- a slice written whole, as the vector that it is of
pub whole_put : {A : Type 0} (n : ℕ) (xs ys : List A) → length xs ≡ length ys → length ys ≡ n → take n (xs ++ drop (length xs) ys) ≡ xs
whole_put n xs ys same is =
    ap (λ zs. take n (xs ++ zs)) (drop_all (length xs) ys (omega (arith, same))) ∙ ap (take n) (append-nil xs) ∙ take_all n xs (omega (arith, same, is))
