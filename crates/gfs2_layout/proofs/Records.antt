-- From one record of an area to the next.
use Rattle.std.proofs.Common.{◌≡◌, ℕ, zero, suc, ◌+◌, ◌≤◌, Bool, true, false, List, [], ◌∷◌, length, drop, Some, None, refl, sym, ap, ◌∙◌, subst, arith}
use Rattle.std.specs.Prelude.{sum_by, ◌↔◌}
use Rattle.std.specs.List.{AllByRecursion}
use Rattle.std.proofs.lemmas.Bool.Decides.{nat_tests}
use Rattle.std.proofs.lemmas.List.{length-drop}
use Rattle.std.proofs.lemmas.List.Sums.{sum_by-cons}
use Rattle.gfs2_layout.specs.Bytes.{u16_at}
use Rattle.gfs2_layout.specs.Area.{Slot, slot_at, slot_length, has_no_record, slots_within, slots_of, HasItsName, IsArea, has_name, first_named}

-- the records from here on, of which there are at most so many, fill the rest and have their names in them
pub record IsRest (most : ℕ) (rest : List ℕ) : Type 0 where
  pub filled : sum_by slot_length (slots_within most rest) ≡ length rest
  pub named : AllByRecursion HasItsName (slots_within most rest)

-- the bytes behind the record that begins here
abbrev pub behind : List ℕ → List ℕ
behind rest = drop (u16_at 20 rest) rest

pub record_length : (rest : List ℕ) → has_no_record rest ≡ false → (40 ≤ u16_at 20 rest) × (u16_at 20 rest ≤ length rest)
record_length rest good = (grind (arith, nat_tests), grind (arith, nat_tests))

none_here : (most : ℕ) (rest : List ℕ) → has_no_record rest ≡ true → slots_within most rest ≡ []
none_here zero rest bad = refl
none_here (suc most) rest bad = rw bad refl

pub one_here : (most : ℕ) (rest : List ℕ) → has_no_record rest ≡ false → slots_within (suc most) rest ≡ slot_at rest ∷ slots_within most (behind rest)
one_here most rest good = rw good refl

-- nothing is left of an area that was filled
pub rest_of_none : (most : ℕ) (rest : List ℕ) → length rest ≡ 0 → IsRest most rest
rest_of_none most rest none = let slots : slots_within most rest ≡ [] = none_here most rest (grind (arith, nat_tests)) in record {
  filled = ap (sum_by slot_length) slots ∙ sym none;
  named = rw slots tt;
}

-- a rest begins with a record, unless nothing is left
pub not_rest : (most : ℕ) (rest : List ℕ) → 1 ≤ length rest → has_no_record rest ≡ true → IsRest most rest → ⊥
not_rest most rest some bad is = absurd (omega (arith, is.filled, ap (sum_by slot_length) (none_here most rest bad)))

filled_more : (most : ℕ) (rest : List ℕ) → has_no_record rest ≡ false → sum_by slot_length (slots_within (suc most) rest) ≡ u16_at 20 rest + sum_by slot_length (slots_within most (behind rest))
filled_more most rest good = ap (sum_by slot_length) (one_here most rest good) ∙ sum_by-cons slot_length (slot_at rest) (slots_within most (behind rest))

pub length_behind : (rest : List ℕ) → has_no_record rest ≡ false → u16_at 20 rest + length (behind rest) ≡ length rest
length_behind rest good = omega (arith, length-drop (u16_at 20 rest) rest, (record_length rest good).1)

pub rest_on : (most : ℕ) (rest : List ℕ) → has_no_record rest ≡ false → IsRest (suc most) rest → HasItsName (slot_at rest) × IsRest most (behind rest)
rest_on most rest good is =
    let both : AllByRecursion HasItsName (slot_at rest ∷ slots_within most (behind rest)) = subst (AllByRecursion HasItsName) (one_here most rest good) is.named in (
      both.0,
      record { filled = omega (arith, is.filled, filled_more most rest good, length_behind rest good); named = both.1 },
    )

pub rest_back : (most : ℕ) (rest : List ℕ) → has_no_record rest ≡ false → HasItsName (slot_at rest) → IsRest most (behind rest) → IsRest (suc most) rest
rest_back most rest good here is = record {
  filled = omega (arith, is.filled, filled_more most rest good, length_behind rest good);
  named = subst (AllByRecursion HasItsName) (sym (one_here most rest good)) (here, is.named);
}

-- at a place of an area from which on it is filled
pub record Opens (most : ℕ) (rest : List ℕ) : Type 0 where
  pub good : has_no_record rest ≡ false
  pub fewer : ℕ
  pub slots : slots_within most rest ≡ slot_at rest ∷ slots_within fewer (behind rest)
  pub here : HasItsName (slot_at rest)
  pub later : IsRest fewer (behind rest)

pub opens : (most : ℕ) (rest : List ℕ) → 1 ≤ length rest → IsRest most rest → Opens most rest
opens most rest some is = by_test (has_no_record rest) refl most is
  where
    by_test : (b : Bool) → has_no_record rest ≡ b → (most : ℕ) → IsRest most rest → Opens most rest
    by_test true bad most is = absurd (not_rest most rest some bad is)
    by_test false good zero is = absurd (omega (arith, is.filled))
    by_test false good (suc most) is = let on = rest_on most rest good is in record { good = good; fewer = most; slots = one_here most rest good; here = on.0; later = on.1 }

-- ---- a whole area

pub area_is_rest : (area : List ℕ) → IsArea area → IsRest (length area) area
unfolding slots_of
area_is_rest area is = record { filled = is.filled; named = is.named }

pub rest_is_area : (area : List ℕ) → IsRest (length area) area → IsArea area
unfolding slots_of
rest_is_area area is = record { filled = is.filled; named = is.named }

-- ---- the first record of a name

pub named_in_area : (name area : List ℕ) → first_named name (slots_of area) ≡ first_named name (slots_within (length area) area)
unfolding slots_of
named_in_area name area = refl

pub named_here : (name : List ℕ) (most : ℕ) (rest : List ℕ) (o : Opens most rest) → has_name name (slot_at rest) ≡ true → first_named name (slots_within most rest) ≡ Some (slot_at rest)
named_here name most rest o is = ap (first_named name) o.slots ∙ rw is refl

pub named_behind : (name : List ℕ) (most : ℕ) (rest : List ℕ) (o : Opens most rest) → has_name name (slot_at rest) ≡ false → first_named name (slots_within most rest) ≡ first_named name (slots_within o.fewer (behind rest))
named_behind name most rest o other = ap (first_named name) o.slots ∙ rw other refl

pub named_nowhere : (name : List ℕ) (most : ℕ) (rest : List ℕ) → length rest ≡ 0 → first_named name (slots_within most rest) ≡ None
named_nowhere name most rest none = ap (first_named name) (none_here most rest (grind (arith, nat_tests)))

-- what a nonempty rest begins with
pub opens_well : (most : ℕ) (rest : List ℕ) → IsRest most rest → 1 ≤ length rest → (has_no_record rest ≡ false) × HasItsName (slot_at rest)
opens_well most rest is some = let o = opens most rest some is in (o.good, o.here)

-- ---- a loop over an area that may be none: the rest is filled exactly where the area is

abbrev pub TellsArea : List ℕ → List ℕ → Type 0
TellsArea area rest = (most : ℕ) × (length rest ≤ most) × (IsRest most rest ↔ IsArea area)

pub tells-all : (area : List ℕ) → TellsArea area area
tells-all area = (length area, omega arith, (rest_is_area area, area_is_rest area))

pub tells-on : (area rest : List ℕ) → has_no_record rest ≡ false → HasItsName (slot_at rest) → TellsArea area rest → TellsArea area (behind rest)
tells-on area rest good here (zero, few, same) = absurd (omega (arith, few, (record_length rest good).0, (record_length rest good).1))
tells-on area rest good here (suc most, few, same) = (
  most,
  omega (arith, few, length_behind rest good, (record_length rest good).0),
  (λ is. same.0 (rest_back most rest good here is), λ is. (rest_on most rest good (same.1 is)).1),
)

pub tells-end : (area rest : List ℕ) → length rest ≡ 0 → TellsArea area rest → IsArea area
tells-end area rest none (most, few, same) = same.0 (rest_of_none most rest none)

pub tells-bad : (area rest : List ℕ) → 1 ≤ length rest → has_no_record rest ≡ true → TellsArea area rest → IsArea area → ⊥
tells-bad area rest some bad (most, few, same) is = not_rest most rest some bad (same.1 is)

pub tells-unnamed : (area rest : List ℕ) → 1 ≤ length rest → (HasItsName (slot_at rest) → ⊥) → TellsArea area rest → IsArea area → ⊥
tells-unnamed area rest some unnamed (most, few, same) is = unnamed (opens_well most rest (same.1 is) some).1

-- ---- the records do not depend on how many there are at most, if that is enough

short_has_none : (rest : List ℕ) → length rest ≡ 0 → has_no_record rest ≡ true
short_has_none rest none = grind (arith, nat_tests)

pub same_slots : (n m : ℕ) (rest : List ℕ) → length rest ≤ n → length rest ≤ m → slots_within n rest ≡ slots_within m rest
same_slots zero m rest few enough = sym (none_here m rest (short_has_none rest (omega arith)))
same_slots (suc n) zero rest few enough = none_here (suc n) rest (short_has_none rest (omega arith))
same_slots (suc n) (suc m) rest few enough = by_test (has_no_record rest) refl (same_slots n m (behind rest))
  where
    by_test : (b : Bool) → has_no_record rest ≡ b → (length (behind rest) ≤ n → length (behind rest) ≤ m → slots_within n (behind rest) ≡ slots_within m (behind rest))
        → slots_within (suc n) rest ≡ slots_within (suc m) rest
    by_test true bad more = none_here (suc n) rest bad ∙ sym (none_here (suc m) rest bad)
    by_test false good more =
        let shorter = length_behind rest good in
        let long = (record_length rest good).0 in
        one_here n rest good ∙ ap (λ (ss : List Slot). slot_at rest ∷ ss) (more (omega (arith, few, shorter, long)) (omega (arith, enough, shorter, long))) ∙ sym (one_here m rest good)

-- a nonempty area: its first record, and the area behind it
pub record AreaOn (area : List ℕ) : Type 0 where
  pub good : has_no_record area ≡ false
  pub slots : slots_of area ≡ slot_at area ∷ slots_of (behind area)
  pub here : HasItsName (slot_at area)
  pub later : IsArea (behind area)

pub area_on : (area : List ℕ) → 1 ≤ length area → IsArea area → AreaOn area
unfolding slots_of
area_on area some is = by_length (length area) refl
  where
    by_length : (n : ℕ) → length area ≡ n → AreaOn area
    by_length zero none = absurd (omega arith)
    by_length (suc n) long =
        let o = opens (length area) area some (area_is_rest area is) in
        let shorter : length (behind area) ≤ n = omega (arith, length_behind area o.good, (record_length area o.good).0) in
        let same : slots_within n (behind area) ≡ slots_within (length (behind area)) (behind area) = same_slots n (length (behind area)) (behind area) shorter (omega arith) in
        let rest : IsRest (suc n) area = subst (λ (k : ℕ). IsRest k area) long (area_is_rest area is) in
        let on = rest_on n area o.good rest in
        record {
          good = o.good;
          slots = ap (λ (k : ℕ). slots_within k area) long ∙ one_here n area o.good ∙ ap (λ (ss : List Slot). slot_at area ∷ ss) same;
          here = on.0;
          later = rest_is_area (behind area) (record { filled = ap (sum_by slot_length) (sym same) ∙ on.1.filled; named = subst (AllByRecursion HasItsName) same on.1.named });
        }

pub area_ends : (area : List ℕ) → length area ≡ 0 → slots_of area ≡ []
unfolding slots_of
area_ends area none = none_here (length area) area (short_has_none area none)
