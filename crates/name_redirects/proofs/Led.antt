-- A record that leads to another inode.
use Rattle.std.proofs.Common.{◌≡◌, ℕ, ◌+◌, ◌-◌, ◌≤◌, ◌<◌, ◌^◌, ◌≢◌, inl, inr, true, List, [], ◌∷◌, ◌++◌, length, take, drop, map, refl, sym, ap, ◌∙◌, subst, subst₂, arith, append_assoc, length-append}
use Rattle.std.specs.Prelude.{filter}
use Rattle.std.specs.Int.{Width, w16, w32, w64, to_be_bytes}
use Rattle.std.specs.List.{AllByRecursion}
use Rattle.std.specs.List.Sorted.{IsPermutation}
use Rattle.std.proofs.lemmas.List.Sorted.{IsPermutation-middle}
use Rattle.std.proofs.lemmas.Bool.Decides.{nat_tests}
use Rattle.std.proofs.lemmas.Bool.{cases_Bool}
use Rattle.std.proofs.lemmas.List.{drop_at, drop-drop, take_at, take-append-drop, length-take-le}
use Rattle.gfs2_layout.specs.Bytes.{slice, put_at, u16_at, with_number}
use Rattle.gfs2_layout.specs.Structures.{is_in_use}
use Rattle.gfs2_layout.specs.Area.{Slot, slot_at, slots_of, IsArea, IsRecordAt}
use Rattle.gfs2_layout.specs.Cutting.{slot_from}
use Rattle.gfs2_layout.specs.Records.{Record, record_of, records_in, HasItsHash, IsRecordArea}
use Rattle.gfs2_layout.specs.Exchanges.{IsExchanged}
use Rattle.name_redirects.specs.Leading.{led_to, record_led_to, slots_led_to, with_inum}
use Rattle.gfs2_layout.specs.declared.inum.Inum.{Inum}
use Rattle.gfs2_layout.proofs.InPlace.{is_width_64, length-with, drop-with, number-with_same, number-with_other, slice-with_other}
use Rattle.gfs2_layout.proofs.Records.{behind, record_length, area_on}
use Rattle.gfs2_layout.proofs.Places.{behind_place, joined as areas_joined, take_on}
use Rattle.gfs2_layout.proofs.Written.{Stands, stands}
use Rattle.gfs2_layout.proofs.CutAfter.{was_split}

-- a record's inum is written: its head else, its pad and the bytes behind it stay
slot_led : (bytes : List ℕ) (inum : Inum) → 40 ≤ length bytes → inum.number < 2 ^ 64 → inum.address < 2 ^ 64 → slot_at (with_inum 0 inum bytes) ≡ led_to inum (slot_at bytes)
slot_led bytes inum long low low' =
    let first = with_number w64 0 inum.number bytes in
    let second = with_number w64 8 inum.address first in
    let fits : 0 + 8 ≤ length bytes = omega (arith, long) in
    let fits' : 8 + 8 ≤ length first = omega (arith, long, length-with w64 0 inum.number bytes is_width_64 fits) in
    let other = λ (w : Width) (k : ℕ) (far : 16 ≤ k). number-with_other w64 8 inum.address first is_width_64 fits' w k (inl (omega (arith, far))) ∙ number-with_other w64 0 inum.number bytes is_width_64 fits w k (inl (omega (arith, far))) in
    let stay = λ (k m : ℕ) (far : 16 ≤ k). slice-with_other w64 8 inum.address first is_width_64 fits' k m (inl (omega (arith, far))) ∙ slice-with_other w64 0 inum.number bytes is_width_64 fits k m (inl (omega (arith, far))) in
    λ i. record {
      head = record {
        inum = record {
          number = (number-with_other w64 8 inum.address first is_width_64 fits' w64 0 (inr (omega arith)) ∙ number-with_same w64 0 inum.number bytes is_width_64 fits low) i;
          address = number-with_same w64 8 inum.address first is_width_64 fits' low' i;
        };
        hash = other w32 16 (omega arith) i;
        rec_len = other w16 20 (omega arith) i;
        name_len = other w16 22 (omega arith) i;
        kind = other w16 24 (omega arith) i;
        rahead = other w16 26 (omega arith) i;
      };
      pad = stay 28 12 (omega arith) i;
      body = (ap (λ (n : ℕ). slice 40 (n - 40) second) (other w16 20 (omega arith)) ∙ stay 40 (u16_at 20 bytes - 40) (omega arith)) i;
    }

pub led_here : (bytes : List ℕ) (inum : Inum) → IsArea bytes → 1 ≤ length bytes → is_in_use (slot_at bytes).head ≡ true → inum.number < 2 ^ 64 → inum.address < 2 ^ 64
    → Stands (with_inum 0 inum bytes) (led_to inum (slot_at bytes)) (behind bytes)
led_here bytes inum is some used low low' =
    let on = area_on bytes some is in
    let long = record_length bytes on.good in
    let first = with_number w64 0 inum.number bytes in
    let fits : 0 + 8 ≤ length bytes = omega (arith, long.0, long.1) in
    let size = length-with w64 0 inum.number bytes is_width_64 fits in
    let fits' : 8 + 8 ≤ length first = omega (arith, long.0, long.1, size) in
    stands (with_inum 0 inum bytes) (led_to inum (slot_at bytes)) (behind bytes) (slot_led bytes inum (omega (arith, long.0, long.1)) low low') long.0
    (omega (arith, long.1, size, length-with w64 8 inum.address first is_width_64 fits')) (λ then. on.here used)
    (drop-with w64 8 inum.address first is_width_64 fits' (u16_at 20 bytes) (omega (arith, long.0)) ∙ drop-with w64 0 inum.number bytes is_width_64 fits (u16_at 20 bytes) (omega (arith, long.0))) on.later

-- ---- in the area

-- bytes at a place of the rest from another place on
put_in_rest : (at k : ℕ) (part xs : List ℕ) → at ≤ length xs → take at xs ++ put_at k part (drop at xs) ≡ put_at (at + k) part xs
put_in_rest at k part xs within =
    let behind_is : drop (k + length part) (drop at xs) ≡ drop (at + k + length part) xs = drop-drop (k + length part) at xs ∙ ap (λ (n : ℕ). drop n xs) (omega arith) in
    sym (append_assoc (take at xs) (take k (drop at xs)) (part ++ drop (k + length part) (drop at xs)))
    ∙ (λ i. sym (take_on at k xs within) i ++ (part ++ behind_is i))

number_in_rest : (at k n : ℕ) (front rest : List ℕ) → length front ≡ at → front ++ with_number w64 k n rest ≡ with_number w64 (at + k) n (front ++ rest)
unfolding with_number
number_in_rest at k n front rest size =
    let whole = front ++ rest in
    (λ i. sym (take_at front rest at size) i ++ put_at k (to_be_bytes w64 n) (sym (drop_at front rest at size) i))
    ∙ put_in_rest at k (to_be_bytes w64 n) whole (omega (arith, length-append front rest, size))

-- an inum at a place of the rest from another place on
pub inum_in_rest : (at k : ℕ) (inum : Inum) (area : List ℕ) → at ≤ length area → take at area ++ with_inum k inum (drop at area) ≡ with_inum (at + k) inum area
inum_in_rest at k inum area within =
    let front = take at area in
    let size = length-take-le at area within in
    let rest = drop at area in
    let on : at + (k + 8) ≡ at + k + 8 = omega arith in
    number_in_rest at (k + 8) inum.address front (with_number w64 k inum.number rest) size
    ∙ ap (with_number w64 (at + (k + 8)) inum.address) (number_in_rest at k inum.number front rest size ∙ ap (with_number w64 (at + k) inum.number) (take-append-drop at area))
    ∙ ap (λ (n : ℕ). with_number w64 n inum.address (with_number w64 (at + k) inum.number area)) on

pub inum_at_place : (at : ℕ) (inum : Inum) (area tail new : List ℕ) → at ≤ length area → tail ≡ with_inum 0 inum (drop at area) → new ≡ take at area ++ tail → new ≡ with_inum at inum area
inum_at_place at inum area tail new within tail_is is =
    let plain : at + 0 ≡ at = omega arith in
    is ∙ ap (λ (t : List ℕ). take at area ++ t) tail_is ∙ inum_in_rest at 0 inum area within ∙ ap (λ (n : ℕ). with_inum n inum area) plain

module _ (old : List ℕ) (at : ℕ) (here : IsRecordAt old at) (inum : Inum) (tail : List ℕ) (slots : slots_of tail ≡ led_to inum (slot_at (drop at old)) ∷ slots_of (behind (drop at old))) (is : IsArea tail) where
  pub led_at : slots_of (take at old ++ tail) ≡ slots_led_to at inum old
  led_at =
      (areas_joined (take at old) tail here.before).slots ∙ ap (λ (ss : List Slot). slots_of (take at old) ++ ss) slots
      ∙ ap (λ (b : List ℕ). slots_of (take at old) ++ led_to inum (slot_at (drop at old)) ∷ slots_of b) (behind_place old at)

  pub area_at : IsArea (take at old ++ tail)
  area_at = (areas_joined (take at old) tail here.before).area is

-- ---- what it says

-- a record in use that leads to an inode is in use
used_led : (inum : Inum) (s : Slot) → inum.number ≢ 0 → inum.address ≢ 0 → is_in_use (led_to inum s).head ≡ true
used_led inum s some some' = grind (arith, nat_tests)

-- the records in use, before and after
told_led : (inum : Inum) (before : List Slot) (s : Slot) (later : List Slot) → is_in_use s.head ≡ true → is_in_use (led_to inum s).head ≡ true
    → IsExchanged (map record_of (filter (λ r. is_in_use r.head) (before ++ s ∷ later))) (map record_of (filter (λ r. is_in_use r.head) (before ++ led_to inum s ∷ later)))
    (record_of s ∷ []) (record_led_to inum (record_of s) ∷ [])
told_led inum before s later used used' =
    let said : List Slot → List Record = λ ss. map record_of (filter (λ r. is_in_use r.head) ss) in
    let split = λ (x : Slot). λ (u : is_in_use x.head ≡ true). rest_of x u before in
    record {
      rest = said before ++ said later;
      before = subst (λ (rs : List Record). IsPermutation rs (record_of s ∷ (said before ++ said later))) (sym (split s used)) (IsPermutation-middle (said before) (record_of s) (said later));
      after = subst (λ (rs : List Record). IsPermutation rs (record_led_to inum (record_of s) ∷ (said before ++ said later))) (sym (split (led_to inum s) used')) (IsPermutation-middle (said before) (record_led_to inum (record_of s)) (said later));
    }
  where
    rest_of : (x : Slot) → is_in_use x.head ≡ true → (ss : List Slot) → map record_of (filter (λ r. is_in_use r.head) (ss ++ x ∷ later)) ≡ map record_of (filter (λ r. is_in_use r.head) ss) ++ record_of x ∷ map record_of (filter (λ r. is_in_use r.head) later)
    rest_of x u [] = rw u refl
    rest_of x u (t ∷ ss) = elim (cases_Bool (is_in_use t.head)) [
      | inr unused ↦ rw unused (rest_of x u ss)
      | inl it ↦ rw it (ap (λ (rs : List Record). record_of t ∷ rs) (rest_of x u ss))
    ]

module _ (old new : List ℕ) (at : ℕ) (inum : Inum) (here : IsRecordAt old at) (used : is_in_use (slot_from at old).head ≡ true) (some : inum.number ≢ 0) (some' : inum.address ≢ 0)
    (led : slots_of new ≡ slots_led_to at inum old) where
  pub leads : IsExchanged (records_in old) (records_in new) (record_of (slot_from at old) ∷ []) (record_led_to inum (record_of (slot_from at old)) ∷ [])
  unfolding records_in
  leads = subst₂ (λ (a b : List Slot). IsExchanged (map record_of (filter (λ r. is_in_use r.head) a)) (map record_of (filter (λ r. is_in_use r.head) b)) (record_of (slot_from at old) ∷ []) (record_led_to inum (record_of (slot_from at old)) ∷ []))
      (sym (was_split old at here)) (sym led)
      (told_led inum (slots_of (take at old)) (slot_from at old) (slots_of (drop (at + u16_at 20 (drop at old)) old)) used (used_led inum (slot_from at old) some some'))

  hashes_led : (before : List Slot) (s : Slot) (later : List Slot) → is_in_use s.head ≡ true → AllByRecursion HasItsHash (before ++ s ∷ later) → AllByRecursion HasItsHash (before ++ led_to inum s ∷ later)
  hashes_led [] s later u hashes = ((λ _. hashes.0 u), hashes.1)
  hashes_led (t ∷ before) s later u hashes = (hashes.0, hashes_led before s later u hashes.1)

  pub led_area : IsRecordArea old → IsArea new → IsRecordArea new
  led_area is area = record {
    fills = area;
    hashes = subst (AllByRecursion HasItsHash) (sym led)
        (hashes_led (slots_of (take at old)) (slot_from at old) (slots_of (drop (at + u16_at 20 (drop at old)) old)) used (subst (AllByRecursion HasItsHash) (was_split old at here) is.hashes));
  }
