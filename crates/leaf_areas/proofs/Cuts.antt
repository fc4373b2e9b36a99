-- Records of an area that are cut, one after another.
use Rattle.std.proofs.Common.{◌≡◌, ℕ, ◌+◌, ◌≤◌, Bool, true, false, List, [], ◌∷◌, ◌++◌, length, take, drop, refl, sym, ap, ◌∙◌, subst, arith}
use Rattle.std.specs.Prelude.{sum_by, filter}
use Rattle.std.proofs.lemmas.List.{length-drop, length-take-le, take_all}
use Rattle.std.proofs.lemmas.List.Sums.{sum_by-cons}
use Rattle.gfs2_layout.specs.Bytes.{u16_at}
use Rattle.gfs2_layout.specs.Structures.{is_in_use}
use Rattle.gfs2_layout.specs.Area.{Slot, slot_at, slot_length, slots_of, IsArea, IsRecordAt}
use Rattle.gfs2_layout.specs.Area.{IsFirstRecord, name_of}
use Rattle.gfs2_layout.specs.Cutting.{without, slots_without}
use Rattle.gfs2_layout.specs.declared.dirent.Dirent.{Dirent}
use Rattle.gfs2_layout.proofs.Records.{behind, record_length, area_on, area_ends}
use Rattle.gfs2_layout.proofs.Places.{GoesOn, goes_on, area_none, behind_place}
use Rattle.leaf_areas.specs.Splitting.{is_lower, is_lower_name, is_upper, cut_each, upper_half}
use Rattle.leaf_areas.specs.Moving.{in_use}
use Rattle.leaf_areas.proofs.Next.{kept, dropped}
use Rattle.leaf_areas.proofs.Between.{AreParted, parted}

-- the record before it grows by as much as one that goes had
sum_without : (before : List Slot) (s : Slot) → sum_by slot_length (without before s) ≡ sum_by slot_length before + slot_length s
sum_without [] s = refl
sum_without (b ∷ []) s = omega arith
sum_without (b ∷ c ∷ before) s = omega (arith, sum_without (c ∷ before) s, sum_by-cons slot_length b (c ∷ before), sum_by-cons slot_length b (without (c ∷ before) s))

-- up to a place the records that go are cut
pub record IsCutting (depth : ℕ) (was old : List ℕ) (at upper : ℕ) : Type 0 where
  pub within : at ≤ length old
  pub front : IsArea (take at old)
  pub back : IsArea (drop at old)
  pub slots : cut_each (is_lower depth) (slots_of (take at old)) (slots_of (drop at old)) ≡ upper_half depth (slots_of was)
  pub counted : upper + length (filter (is_upper depth) (slots_of (drop at old))) ≡ length (filter (is_upper depth) (slots_of was))
  pub few : upper ≤ at
  pub area : IsArea old
  pub size : length old ≡ length was

pub cutting_begins : (depth : ℕ) (was : List ℕ) → IsArea was → IsCutting depth was was 0 0
cutting_begins depth was is = record {
  within = omega arith;
  front = area_none [] refl;
  back = is;
  slots = ap (λ (ss : List Slot). cut_each (is_lower depth) ss (slots_of was)) (area_ends [] refl);
  counted = omega arith;
  few = omega arith;
  area = is;
  size = refl;
}

-- what is cut of a list, and what is counted, one record on
module _ (depth : ℕ) (front : List Slot) (s : Slot) (later : List Slot) where
  cut_one : is_lower depth s ≡ true → cut_each (is_lower depth) front (s ∷ later) ≡ cut_each (is_lower depth) (without front s) later
  cut_one goes = rw goes refl

  keep_one : is_lower depth s ≡ false → cut_each (is_lower depth) front (s ∷ later) ≡ cut_each (is_lower depth) (front ++ s ∷ []) later
  keep_one stays = rw stays refl

-- a record of the lower half isn't one of the upper half, and one in use is of either
lower_not_upper : (depth : ℕ) (s : Slot) → is_lower depth s ≡ true → is_upper depth s ≡ false
lower_not_upper depth s lower = by_tests (is_in_use s.head) (is_lower_name depth (name_of s)) refl refl
  where
    by_tests : (a b : Bool) → is_in_use s.head ≡ a → is_lower_name depth (name_of s) ≡ b → is_upper depth s ≡ false
    by_tests false b used low = rw used refl
    by_tests true true used low = rw (used, low) refl
    by_tests true false used low = absurd (let e = rw (used, low) at lower in cc)

pub used_is_upper : (depth : ℕ) (s : Slot) → is_in_use s.head ≡ true → is_lower depth s ≡ false → is_upper depth s ≡ true
used_is_upper depth s used other = by_test (is_lower_name depth (name_of s)) refl
  where
    by_test : (b : Bool) → is_lower_name depth (name_of s) ≡ b → is_upper depth s ≡ true
    by_test true low = absurd (let e = rw (used, low) at other in cc)
    by_test false low = rw (used, low) refl

pub unused_not_upper : (depth : ℕ) (s : Slot) → is_in_use s.head ≡ false → is_upper depth s ≡ false
unused_not_upper depth s unused = rw unused refl

-- the two halves are the records in use
pub halves_count : (depth : ℕ) (slots : List Slot) → length (filter (is_lower depth) slots) + length (filter (is_upper depth) slots) ≡ length (in_use slots)
halves_count depth [] = refl
halves_count depth (s ∷ later) = by_tests (is_in_use s.head) (is_lower_name depth (name_of s)) refl refl (halves_count depth later)
  where
    by_tests : (a b : Bool) → is_in_use s.head ≡ a → is_lower_name depth (name_of s) ≡ b → length (filter (is_lower depth) later) + length (filter (is_upper depth) later) ≡ length (in_use later)
        → length (filter (is_lower depth) (s ∷ later)) + length (filter (is_upper depth) (s ∷ later)) ≡ length (in_use (s ∷ later))
    by_tests false b used low more = rw used more
    by_tests true true used low more = rw (used, low) (omega (arith, more))
    by_tests true false used low more = rw (used, low) (omega (arith, more))

module _ (depth : ℕ) (was old : List ℕ) (at upper : ℕ) (so : IsCutting depth was old at upper) (head : Dirent) (name rest : List ℕ) (first : IsFirstRecord (drop at old) head name rest) where
  abbrev s : Slot
  s = slot_at (drop at old)

  some : 1 ≤ length (drop at old)
  some = omega (arith, first.shorter)

  long : (40 ≤ u16_at 20 (drop at old)) × (u16_at 20 (drop at old) ≤ length (drop at old))
  long = record_length (drop at old) (area_on (drop at old) some so.back).good

  head_length : head.rec_len ≡ u16_at 20 (drop at old)
  head_length = ap (λ (d : Dirent). d.rec_len) first.shown.head_is

  pub record_here : IsRecordAt old at
  record_here = record { within = omega (arith, some, length-drop at old, so.within); before = so.front; later = so.back }

  pub inside : at + head.rec_len ≤ length old
  inside = omega (arith, head_length, long.1, length-drop at old, so.within)

  later_is : slots_of rest ≡ slots_of (behind (drop at old))
  later_is = let e = sym first.slots ∙ (area_on (drop at old) some so.back).slots in cc

  -- it goes
  pub cutting_cuts : (new : List ℕ) → is_lower depth s ≡ true → slots_of new ≡ slots_without at old → IsArea new → length new ≡ length old → IsCutting depth was new (at + head.rec_len) upper
  cutting_cuts new goes cut area size =
      let front = slots_of (take at old) in
      let later = slots_of (drop (at + u16_at 20 (drop at old)) old) in
      let parts = parted (without front s) later new area cut in
      let rest_is : slots_of rest ≡ later = later_is ∙ ap slots_of (behind_place old at) in
      let place : sum_by slot_length (without front s) ≡ at + head.rec_len = omega (arith, sum_without front s, so.front.filled, length-take-le at old so.within, head_length) in
      let here : AreParted new (at + head.rec_len) (without front s) later = subst (λ (n : ℕ). AreParted new n (without front s) later) place parts in
      record {
        within = here.within;
        front = here.front;
        back = here.back;
        slots = (λ i. cut_each (is_lower depth) (here.front_slots i) ((here.back_slots ∙ sym rest_is) i)) ∙ sym (cut_one depth front s (slots_of rest) goes)
            ∙ ap (cut_each (is_lower depth) front) (sym first.slots) ∙ so.slots;
        counted = let e : filter (is_upper depth) (slots_of (drop at old)) ≡ filter (is_upper depth) (slots_of (drop (at + head.rec_len) new)) =
            ap (filter (is_upper depth)) first.slots ∙ dropped (is_upper depth) s (slots_of rest) (lower_not_upper depth s goes) ∙ ap (filter (is_upper depth)) (rest_is ∙ sym here.back_slots) in
            ap (λ (ss : List Slot). upper + length ss) (sym e) ∙ so.counted;
        few = omega (arith, so.few);
        area = area;
        size = size ∙ so.size;
      }

  -- it stays
  on : GoesOn old at (drop at old)
  on = goes_on old at (drop at old) (record { within = omega (arith, length-drop at old, so.within); rest_is = refl; before = so.front; later = so.back; opens = λ some. (area_on (drop at old) some so.back).good }) some

  pub cutting_keeps : (more : ℕ) → is_lower depth s ≡ false → length (filter (is_upper depth) (s ∷ slots_of rest)) ≡ more + length (filter (is_upper depth) (slots_of rest)) → more ≤ 1
      → IsCutting depth was old (at + head.rec_len) (upper + more)
  cutting_keeps more stays counts one =
      let n = at + u16_at 20 (drop at old) in
      let back : drop n old ≡ behind (drop at old) = sym (behind_place old at) in
      let rest_is : slots_of (drop n old) ≡ slots_of rest = ap slots_of back ∙ sym later_is in
      let place : n ≡ at + head.rec_len = omega (arith, head_length) in
      let there : IsCutting depth was old n (upper + more) = record {
        within = omega (arith, place, inside);
        front = on.place.before;
        back = subst IsArea (sym back) on.place.later;
        slots = (λ i. cut_each (is_lower depth) (on.slots i) (rest_is i)) ∙ sym (keep_one depth (slots_of (take at old)) s (slots_of rest) stays)
            ∙ ap (cut_each (is_lower depth) (slots_of (take at old))) (sym first.slots) ∙ so.slots;
        counted = omega (arith, so.counted, ap (λ (ss : List Slot). length (filter (is_upper depth) ss)) first.slots, ap (λ (ss : List Slot). length (filter (is_upper depth) ss)) rest_is, counts);
        few = omega (arith, so.few, one, long.0);
        area = so.area;
        size = so.size;
      } in
      subst (λ (m : ℕ). IsCutting depth was old m (upper + more)) place there

  pub cutting_counts : is_lower depth s ≡ false → is_in_use s.head ≡ true → IsCutting depth was old (at + head.rec_len) (upper + 1)
  cutting_counts stays used =
      let one = kept (is_upper depth) s (slots_of rest) (used_is_upper depth s used stays) in
      let rests : ℕ = length (filter (is_upper depth) (slots_of rest)) in
      let more : length (filter (is_upper depth) (s ∷ slots_of rest)) ≡ 1 + rests = ap length one ∙ omega arith in
      cutting_keeps 1 stays more (omega arith)

  pub cutting_passes : is_lower depth s ≡ false → is_in_use s.head ≡ false → IsCutting depth was old (at + head.rec_len) upper
  cutting_passes stays unused =
      let none = dropped (is_upper depth) s (slots_of rest) (unused_not_upper depth s unused) in
      let rests : ℕ = length (filter (is_upper depth) (slots_of rest)) in
      let more : length (filter (is_upper depth) (s ∷ slots_of rest)) ≡ 0 + rests = ap length none ∙ omega arith in
      let same : upper + 0 ≡ upper = omega arith in
      subst (λ (n : ℕ). IsCutting depth was old (at + head.rec_len) n) same (cutting_keeps 0 stays more (omega arith))

-- by what the code holds
pub cutting_is : (depth : ℕ) (was old old' : List ℕ) (at at' upper upper' : ℕ) → old ≡ old' → at ≡ at' → upper ≡ upper' → IsCutting depth was old' at' upper' → IsCutting depth was old at upper
cutting_is depth was old old' at at' upper upper' e f g so =
    subst (λ (b : List ℕ). IsCutting depth was b at upper) (sym e) (subst (λ (n : ℕ). IsCutting depth was old' n upper) (sym f) (subst (λ (n : ℕ). IsCutting depth was old' at' n) (sym g) so))

-- at the end
module _ (depth : ℕ) (was old : List ℕ) (at upper : ℕ) (so : IsCutting depth was old at upper) (none : slots_of (drop at old) ≡ []) where
  ended : length old ≡ at
  ended = omega (arith, so.back.filled, ap (sum_by slot_length) none, length-drop at old, so.within)

  pub all_cut : slots_of old ≡ upper_half depth (slots_of was)
  all_cut = ap slots_of (sym (take_all at old (omega (arith, ended)))) ∙ ap (cut_each (is_lower depth) (slots_of (take at old))) (sym none) ∙ so.slots

  pub all_counted : upper ≡ length (filter (is_upper depth) (slots_of was))
  all_counted = omega (arith, so.counted, ap (λ (ss : List Slot). length (filter (is_upper depth) ss)) none)
