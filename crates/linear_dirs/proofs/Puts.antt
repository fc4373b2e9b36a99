-- What the records say after one was put in.
use Rattle.std.proofs.Common.{◌≡◌, ℕ, inl, inr, List, [], ◌∷◌, ◌++◌, refl, sym, ap, ◌∙◌, subst}
use Rattle.std.specs.Prelude.{map}
use Rattle.std.specs.List.Sorted.{IsPermutation}
use Rattle.std.proofs.lemmas.Bool.{cases_Bool}
use Rattle.std.proofs.lemmas.List.{map-append}
use Rattle.std.proofs.lemmas.List.Sorted.{IsPermutation-refl, IsPermutation-middle}
use Rattle.gfs2_layout.specs.Putting.{says, HasOneMore, new_says, told}
use Rattle.gfs2_layout.specs.Area.{Slot, slots_of}
use Rattle.gfs2_layout.specs.Exchanges.{IsExchanged}
use Rattle.gfs2_layout.specs.Records.{Record, record_of, records_in, said_by}
use Rattle.gfs2_layout.specs.Structures.{is_in_use}
use Rattle.gfs2_layout.specs.declared.dirent.Dirent.{Dirent}
use Rattle.linear_dirs.specs.Reading.{told_in}

-- ---- the records

-- what a record said, of what a record says
abbrev said_of : Dirent × List ℕ → Record
said_of p = said_by p.0 p.1

told_by : (slots : List Slot) → told_in slots ≡ map said_of (told slots)
told_by [] = refl
told_by (s ∷ later) = elim (cases_Bool (is_in_use s.head)) [
  | inr unused ↦ rw unused (told_by later)
  | inl used ↦ rw used (ap (λ (rs : List Record). record_of s ∷ rs) (told_by later))
]

one_came : {X Y : Type 0} (f : X → Y) (x : X) (before after : List X) → HasOneMore x before after → IsPermutation (map f after) ((f x ∷ []) ++ map f before)
one_came {X} {Y} f x before after more =
    subst (λ ys. IsPermutation ys (f x ∷ map f before)) (sym (ap (map f) more.is ∙ map-append f more.front (x ∷ more.back)))
    (subst (λ ys. IsPermutation (map f more.front ++ f x ∷ map f more.back) (f x ∷ ys)) (sym (ap (map f) more.was ∙ map-append f more.front more.back)) (IsPermutation-middle (map f more.front) (f x) (map f more.back)))

-- what the records say after one was put: that one came
pub came : (head : Dirent) (name area new : List ℕ) → HasOneMore (new_says head name) (told (slots_of area)) (told (slots_of new))
    → IsExchanged (records_in area) (records_in new) [] (said_by head name ∷ [])
unfolding records_in
came head name area new more = record {
  rest = told_in (slots_of area);
  before = IsPermutation-refl (told_in (slots_of area));
  after = subst (λ rs. IsPermutation rs (said_by head name ∷ told_in (slots_of area))) (sym (told_by (slots_of new)))
      (subst (λ rs. IsPermutation (map said_of (told (slots_of new))) (said_by head name ∷ rs)) (sym (told_by (slots_of area)))
      (one_came said_of (new_says head name) (told (slots_of area)) (told (slots_of new)) more));
}

-- and after one was cut: that one went
pub went : (s : Slot) (area new : List ℕ) → HasOneMore (says s) (told (slots_of new)) (told (slots_of area)) → IsExchanged (records_in area) (records_in new) (record_of s ∷ []) []
unfolding records_in
went s area new more = record {
  rest = told_in (slots_of new);
  before = subst (λ rs. IsPermutation rs (record_of s ∷ told_in (slots_of new))) (sym (told_by (slots_of area)))
      (subst (λ rs. IsPermutation (map said_of (told (slots_of area))) (record_of s ∷ rs)) (sym (told_by (slots_of new)))
      (one_came said_of (says s) (told (slots_of new)) (told (slots_of area)) more));
  after = IsPermutation-refl (told_in (slots_of new));
}
