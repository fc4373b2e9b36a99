-- What is selected of a list.
use Rattle.std.proofs.Common.{◌≡◌, ◌<◌, ◌+◌, ◌++◌, ℕ, Bool, true, false, List, [], ◌∷◌, length, get_or, drop, map, filter, refl, sym, ap, ◌∙◌, append_assoc}
use mathlib.Core.Bool.{beq}
use Rattle.std.specs.Prelude.{not, if◌then◌else◌}
use Rattle.std.proofs.lemmas.List.{drop_more, map-append}
use Rattle.std.proofs.lemmas.Bool.{cond-true, cond-false}

-- what is looked for
pub wanted : (plain is : Bool) → beq is plain ≡ true → (if plain then is else not is) ≡ true
wanted true true e = refl
wanted true false e = e
wanted false true e = e
wanted false false e = refl

pub unwanted : (plain is : Bool) → beq is plain ≡ false → (if plain then is else not is) ≡ false
unwanted true true e = e
unwanted true false e = refl
unwanted false true e = refl
unwanted false false e = e

module _ {A B C : Type 0} (f : A → B) (g : C → B) (p : B → Bool) (xs : List A) (i : ℕ) (x : A) (inside : i < length xs) (at : x ≡ get_or xs i x) where
  split : filter p (map f (drop i xs)) ≡ (if p (f x) then f x ∷ filter p (map f (drop (i + 1) xs)) else filter p (map f (drop (i + 1) xs)))
  split = ap (λ ys. filter p (map f ys)) (drop_more xs i x inside ∙ ap (λ y. y ∷ drop (i + 1) xs) (sym at))

  -- it is taken
  pub takes : (done after : List C) (c : C) (whole : List B) → p (f x) ≡ true → g c ≡ f x → after ≡ done ++ c ∷ []
      → map g done ++ filter p (map f (drop i xs)) ≡ whole → map g after ++ filter p (map f (drop (i + 1) xs)) ≡ whole
  takes done after c whole holds same put so =
      ap (λ cs. map g cs ++ filter p (map f (drop (i + 1) xs))) put
      ∙ ap (λ bs. bs ++ filter p (map f (drop (i + 1) xs))) (map-append g done (c ∷ []))
      ∙ append_assoc (map g done) (g c ∷ []) (filter p (map f (drop (i + 1) xs)))
      ∙ ap (λ b. map g done ++ b ∷ filter p (map f (drop (i + 1) xs))) same
      ∙ ap (λ bs. map g done ++ bs) (sym (split ∙ cond-true _ _ _ holds))
      ∙ so

  -- it is passed over
  pub passes : (done : List C) (whole : List B) → p (f x) ≡ false
      → map g done ++ filter p (map f (drop i xs)) ≡ whole → map g done ++ filter p (map f (drop (i + 1) xs)) ≡ whole
  passes done whole fails so = ap (λ bs. map g done ++ bs) (sym (split ∙ cond-false _ _ _ fails)) ∙ so
