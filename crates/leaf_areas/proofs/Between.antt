-- A place between two records of an area, by the records before it and those behind it.
use Rattle.std.proofs.Common.{◌≡◌, ℕ, ◌+◌, ◌≤◌, List, [], ◌∷◌, ◌++◌, length, take, drop, refl, sym, ap, ◌∙◌, subst, arith}
use Rattle.std.specs.Prelude.{sum_by}
use Rattle.std.proofs.lemmas.List.{drop-drop, length-drop}
use Rattle.std.proofs.lemmas.List.Sums.{sum_by-cons}
use Rattle.gfs2_layout.specs.Bytes.{u16_at}
use Rattle.gfs2_layout.specs.Area.{Slot, slot_length, slots_of, IsArea}
use Rattle.gfs2_layout.proofs.Records.{behind, record_length, area_on, area_ends}
use Rattle.gfs2_layout.proofs.Places.{alone, area_none, joined, take_on}

-- up to a place an area has these records, and from there on those
pub record AreParted (area : List ℕ) (at : ℕ) (before later : List Slot) : Type 0 where
  pub within : at ≤ length area
  pub front_slots : slots_of (take at area) ≡ before
  pub back_slots : slots_of (drop at area) ≡ later
  pub front : IsArea (take at area)
  pub back : IsArea (drop at area)

first_of : {X : Type 0} {x y : X} {xs ys : List X} → x ∷ xs ≡ y ∷ ys → (x ≡ y) × (xs ≡ ys)
first_of same = (cc, cc)

parted_on : (area : List ℕ) (s : Slot) (before later : List Slot) → 1 ≤ length area → IsArea area → slots_of area ≡ s ∷ (before ++ later)
    → (IsArea (behind area) → slots_of (behind area) ≡ before ++ later → AreParted (behind area) (sum_by slot_length before) before later)
    → AreParted area (sum_by slot_length (s ∷ before)) (s ∷ before) later
parted_on area s before later some is slots more =
    let on = area_on area some is in
    let n = u16_at 20 area in
    let same = first_of (sym on.slots ∙ slots) in
    let rest = more on.later same.1 in
    let k = sum_by slot_length before in
    let long = record_length area on.good in
    let one = alone area on.good on.here in
    let place : n + k ≡ sum_by slot_length (s ∷ before) = omega (arith, ap slot_length same.0, sum_by-cons slot_length s before) in
    let both = joined (take n area) (take k (behind area)) one.area in
    let taken : take (n + k) area ≡ take n area ++ take k (behind area) = take_on n k area long.1 in
    let dropped : drop (n + k) area ≡ drop k (behind area) = sym (drop-drop k n area) in
    subst (λ (m : ℕ). AreParted area m (s ∷ before) later) place (record {
      within = omega (arith, rest.within, long.1, length-drop n area);
      front_slots = ap slots_of taken ∙ both.slots ∙ (λ i. one.slots i ++ rest.front_slots i) ∙ ap (λ (t : Slot). t ∷ before) same.0;
      back_slots = ap slots_of dropped ∙ rest.back_slots;
      front = subst IsArea (sym taken) (both.area rest.front);
      back = subst IsArea (sym dropped) rest.back;
    })

-- an area whose records are so joined is parted behind the first of them
pub parted : (before later : List Slot) (area : List ℕ) → IsArea area → slots_of area ≡ before ++ later → AreParted area (sum_by slot_length before) before later
parted [] later area is slots = record { within = omega arith; front_slots = area_ends [] refl; back_slots = slots; front = area_none [] refl; back = is }
parted (s ∷ before) later [] is slots = absurd (let e = sym (area_ends [] refl) ∙ slots in cc)
parted (s ∷ before) later (x ∷ xs) is slots = parted_on (x ∷ xs) s before later (omega arith) is slots (λ on same. parted before later (behind (x ∷ xs)) on same)
