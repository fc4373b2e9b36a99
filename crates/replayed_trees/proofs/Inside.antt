-- Whether the dinodes and places of journals are inside, as the code tests it.
use Rattle.std.proofs.Common.{◌≡◌, ◌<◌, ℕ, zero, suc, Bool, true, false, List, [], ◌∷◌, Some, refl, sym, ap, ap₂, subst, ◌∙◌, arith}
use Rattle.std.specs.Prelude.{◌&&◌, nat_lt, slice_get}
use Rattle.std.specs.List.{list_all}
use Rattle.std.proofs.lemmas.Bool.Decides.{nat_tests}
use Rattle.std.proofs.lemmas.List.{get_or_default}
use Rattle.image_journals.specs.declared.finding.JournalPlaces.{JournalPlaces}
use Rattle.image_replays.proofs.Lists.{all_inside, false_true, inside_each, none_some, some_is}
use Rattle.replayed_trees.specs.Planning.{AreInside, are_below, is_inside}

first_of : (p q : Bool) → (p && q) ≡ true → p ≡ true
first_of true q e = refl
first_of false q e = absurd (false_true e)

second_of : (p q : Bool) → (p && q) ≡ true → q ≡ true
second_of true q e = e
second_of false q e = absurd (false_true e)

-- where they are, the test is passed
pub tested_inside : (count : ℕ) (journals : List JournalPlaces) → AreInside count journals → list_all (is_inside count) journals ≡ true
tested_inside count [] inside = refl
tested_inside count (x ∷ xs) inside =
    let low : x.dinode < count = inside.dinodes 0 x refl in
    let dinode : nat_lt x.dinode count ≡ true = grind (arith, nat_tests, low) in
    let places : are_below count x.blocks.items ≡ true = all_inside x.blocks.items count (λ k d less. inside.places 0 x refl k d less) in
    ap₂ (λ (a b : Bool). (a && b) && list_all (is_inside count) xs) dinode places
    ∙ tested_inside count xs (record { dinodes = λ j found there. inside.dinodes (suc j) found there; places = λ j found there. inside.places (suc j) found there })

-- what passes it is
passes_at : (count : ℕ) (journals : List JournalPlaces) → list_all (is_inside count) journals ≡ true → (j : ℕ) (found : JournalPlaces) → slice_get journals j ≡ Some found → is_inside count found ≡ true
passes_at count [] all j found there = absurd (none_some found there)
passes_at count (x ∷ xs) all zero found there = ap (is_inside count) (sym (some_is there)) ∙ first_of (is_inside count x) (list_all (is_inside count) xs) all
passes_at count (x ∷ xs) all (suc j) found there = passes_at count xs (second_of (is_inside count x) (list_all (is_inside count) xs) all) j found there

pub inside_tested : (count : ℕ) (journals : List JournalPlaces) → list_all (is_inside count) journals ≡ true → AreInside count journals
inside_tested count journals all = record {
  dinodes = λ j found there.
      let here : nat_lt found.dinode count ≡ true = first_of (nat_lt found.dinode count) (are_below count found.blocks.items) (passes_at count journals all j found there) in
      grind (arith, nat_tests, here);
  places = λ j found there k d low.
      let below = second_of (nat_lt found.dinode count) (are_below count found.blocks.items) (passes_at count journals all j found there) in
      subst (λ b. b < count) (get_or_default found.blocks.items k 0 d low) (inside_each found.blocks.items count below k low);
}
