-- The first of the records that are meant.
use Rattle.std.proofs.Common.{◌≡◌, ℕ, ◌+◌, ◌≤◌, Bool, true, false, List, ◌∷◌, length, refl, ap, ◌∙◌, subst, arith}
use Rattle.std.specs.Prelude.{sum_by, filter}
use Rattle.std.specs.List.{AllByRecursion}
use Rattle.std.proofs.lemmas.List.{length-take-le}
use Rattle.std.proofs.lemmas.List.Sums.{sum_by-cons}
use Rattle.gfs2_layout.specs.Structures.{is_in_use}
use Rattle.gfs2_layout.specs.Area.{Slot, slot_at, slot_length, slots_of, HasItsName, IsArea, IsFirstRecord}
use Rattle.gfs2_layout.specs.declared.dirent.Dirent.{Dirent}
use Rattle.gfs2_layout.proofs.CutAfter.{HoldsName, names_held}
use Rattle.leaf_areas.specs.declared.parts.Part.{Part}
use Rattle.leaf_areas.specs.declared.parts.Part.TheVariants.{InUse, Lower}
use Rattle.leaf_areas.specs.Parts.{belongs, HoldsItsName, IsNextOf}

pub belongs_used : (part : Part) (s : Slot) → belongs part s ≡ true → is_in_use s.head ≡ true
belongs_used InUse s is = is
belongs_used (Lower depth) s is = by_test (is_in_use s.head) refl
  where
    by_test : (b : Bool) → is_in_use s.head ≡ b → is_in_use s.head ≡ true
    by_test true used = used
    by_test false unused = absurd (let e = rw unused at is in cc)

-- what a list keeps of its first
pub kept : {X : Type 0} (p : X → Bool) (x : X) (xs : List X) → p x ≡ true → filter p (x ∷ xs) ≡ x ∷ filter p xs
kept p x xs is = rw is refl

pub dropped : {X : Type 0} (p : X → Bool) (x : X) (xs : List X) → p x ≡ false → filter p (x ∷ xs) ≡ filter p xs
dropped p x xs not_it = rw not_it refl

module _ (area : List ℕ) (head : Dirent) (name rest : List ℕ) (is : IsArea area) (first : IsFirstRecord area head name rest) where
  abbrev s : Slot
  s = slot_at area

  pub length_on : s.head.rec_len + length rest ≡ length area
  length_on = omega (arith, is.filled, ap (sum_by slot_length) first.slots, sum_by-cons slot_length s (slots_of rest), first.later.filled)

  pub holds_on : is_in_use s.head ≡ true → HoldsItsName s
  holds_on used =
      let held : AllByRecursion HoldsName (s ∷ slots_of rest) = subst (AllByRecursion HoldsName) first.slots (names_held area is) in
      let named : AllByRecursion HasItsName (s ∷ slots_of rest) = subst (AllByRecursion HasItsName) first.slots is.named in
      record { used = used; whole = length-take-le s.head.name_len s.body (held.0 used); within = named.0 used }

-- one step on
pub none_yet : (part : Part) (area rest : List ℕ) (head : Dirent) (name behind : List ℕ) → filter (belongs part) (slots_of area) ≡ filter (belongs part) (slots_of rest) → IsFirstRecord rest head name behind
    → belongs part (slot_at rest) ≡ false → filter (belongs part) (slots_of area) ≡ filter (belongs part) (slots_of behind)
none_yet part area rest head name behind same first other = same ∙ ap (filter (belongs part)) first.slots ∙ dropped (belongs part) (slot_at rest) (slots_of behind) other

pub is_next : (part : Part) (area rest : List ℕ) (head : Dirent) (name behind : List ℕ) → filter (belongs part) (slots_of area) ≡ filter (belongs part) (slots_of rest) → length rest ≤ length area → IsArea rest
    → IsFirstRecord rest head name behind → belongs part (slot_at rest) ≡ true → IsNextOf part area head name behind
is_next part area rest head name behind same few is first it =
    let used = belongs_used part (slot_at rest) it in
    record {
      next = slot_at rest;
      slots = same ∙ ap (filter (belongs part)) first.slots ∙ kept (belongs part) (slot_at rest) (slots_of behind) it;
      head_is = first.shown.head_is;
      name_is = first.shown.name_is used;
      holds = holds_on rest head name behind is first used;
      later = first.later;
      within = omega (arith, length_on rest head name behind is first, few);
    }
