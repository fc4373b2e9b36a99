-- The elements of a list up to a place.
use Rattle.std.proofs.Common.{◌≡◌, ℕ, zero, suc, ◌+◌, ◌<◌, ◌≤◌, inl, inr, List, [], ◌∷◌, ◌++◌, length, get_or, take, drop, refl, sym, ap, subst, arith}
use Rattle.std.proofs.lemmas.List.{take_more, take_all}
use Rattle.std.proofs.lemmas.List.Elements.{Contains-append_cases}
use Rattle.std.specs.Prelude.{Contains}
use Rattle.image_model.proofs.Members.{is_in}

pub only_one : {X : Type 0} (y x : X) → Contains (y ∷ []) x → x ≡ y
only_one y x has = elim (is_in x (y ∷ []) has) [ inl e ↦ e | inr none ↦ absurd none ]

-- what holds of the elements up to a place, and of the one there, holds up to the next place
pub each_next : {X : Type 0} (xs : List X) (n : ℕ) (e : X) (P : X → Type 0) → n < length xs → ((x : X) → Contains (take n xs) x → P x) → P (get_or xs n e) → (x : X) → Contains (take (n + 1) xs) x → P x
each_next xs n e P low before here x has =
    elim (Contains-append_cases (take n xs) (get_or xs n e ∷ []) x (subst (λ ys. Contains ys x) (take_more xs n e low) has)) [
      | inl early ↦ before x early
      | inr last ↦ subst P (sym (only_one (get_or xs n e) x last)) here
    ]

-- and up to the end it holds of all
pub each_all : {X : Type 0} (xs : List X) (n : ℕ) (P : X → Type 0) → length xs ≤ n → ((x : X) → Contains (take n xs) x → P x) → (x : X) → Contains xs x → P x
each_all xs n P past each x has = each x (subst (λ ys. Contains ys x) (sym (take_all n xs past)) has)

-- a list at one of its places
pub split_there : {X : Type 0} (xs : List X) (n : ℕ) (e : X) → n < length xs → xs ≡ take n xs ++ get_or xs n e ∷ drop (suc n) xs
split_there [] n e low = absurd (omega (arith, low))
split_there (y ∷ ys) zero e low = refl
split_there (y ∷ ys) (suc n) e low = ap (λ zs. y ∷ zs) (split_there ys n e (omega (arith, low)))
