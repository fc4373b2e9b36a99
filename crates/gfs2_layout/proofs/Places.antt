-- Areas that are joined, and places in an area.
use Rattle.std.proofs.Common.{◌≡◌, ℕ, zero, suc, ◌+◌, ◌-◌, ◌≤◌, true, false, List, [], ◌∷◌, ◌++◌, length, take, drop, None, refl, sym, ap, ◌∙◌, subst, arith, length-append, length-drop}
use Rattle.std.specs.Prelude.{sum_by}
use Rattle.std.specs.Int.{Width, w16, w32, w64, byte_len, from_be_bytes}
use Rattle.std.specs.List.{AllByRecursion, list_any}
use Rattle.std.proofs.Math.Seq.{take-append-add}
use Rattle.std.proofs.lemmas.List.Folds.{list_any-append, find-append}
use Rattle.std.proofs.lemmas.Bool.Decides.{nat_tests}
use Rattle.std.proofs.lemmas.List.{take-take, drop-take, drop-drop, take_all, take_at, drop-append-le, take-append-drop, length-take-le, append-nil}
use Rattle.std.proofs.lemmas.List.Sums.{sum_by-cons}
use Rattle.gfs2_layout.specs.Bytes.{slice, number_at, u16_at}
use Rattle.gfs2_layout.specs.Structures.{dirent_of}
use Rattle.gfs2_layout.specs.Area.{Slot, slot_at, slot_length, has_no_record, slots_within, slots_of, HasItsName, IsArea, IsRecordAt, has_name, first_named}
use Rattle.gfs2_layout.specs.declared.dirent.Dirent.{Dirent}
use Rattle.gfs2_layout.specs.Putting.{has_room, IsFirstWithRoom}
use Rattle.gfs2_layout.proofs.Records.{behind, record_length, length_behind, one_here, same_slots, area_on, area_ends}

-- ---- bytes that begin alike

pub slice_front : (at n k : ℕ) (a b : List ℕ) → at + n ≤ k → take k a ≡ take k b → slice at n a ≡ slice at n b
slice_front at n k a b within same =
    sym (drop-take at n a) ∙ ap (drop at) (sym (take-take (at + n) k a within) ∙ ap (take (at + n)) same ∙ take-take (at + n) k b within) ∙ drop-take at n b

pub number_front : (w : Width) (at k : ℕ) (a b : List ℕ) → at + byte_len w ≤ k → take k a ≡ take k b → number_at w at a ≡ number_at w at b
unfolding number_at
number_front w at k a b within same = ap (from_be_bytes w) (slice_front at (byte_len w) k a b within same)

pub head_front : (k : ℕ) (a b : List ℕ) → 28 ≤ k → take k a ≡ take k b → dirent_of a ≡ dirent_of b
head_front k a b long same =
    let at = λ (w : Width) (place : ℕ) (h : place + byte_len w ≤ 28). number_front w place k a b (omega (arith, h, long)) same in
    λ i. record {
      inum = record { number = at w64 0 (omega arith) i; address = at w64 8 (omega arith) i };
      hash = at w32 16 (omega arith) i;
      rec_len = at w16 20 (omega arith) i;
      name_len = at w16 22 (omega arith) i;
      kind = at w16 24 (omega arith) i;
      rahead = at w16 26 (omega arith) i;
    }

pub slot_front : (k : ℕ) (a b : List ℕ) → 40 ≤ k → u16_at 20 a ≤ k → take k a ≡ take k b → slot_at a ≡ slot_at b
slot_front k a b long within same =
    let head = head_front k a b (omega (arith, long)) same in
    let body : slice 40 (u16_at 20 a - 40) a ≡ slice 40 (u16_at 20 b - 40) b =
    slice_front 40 (u16_at 20 a - 40) k a b (omega (arith, long, within)) same ∙ ap (λ (d : Dirent). slice 40 (d.rec_len - 40) b) head in
    λ i. record { head = head i; pad = slice_front 28 12 k a b (omega (arith, long)) same i; body = body i }

-- ---- one record and the area behind it

pub slots_on : (bytes : List ℕ) → has_no_record bytes ≡ false → slots_of bytes ≡ slot_at bytes ∷ slots_of (behind bytes)
unfolding slots_of
slots_on bytes good = by_length (length bytes) refl
  where
    by_length : (n : ℕ) → length bytes ≡ n → slots_within (length bytes) bytes ≡ slot_at bytes ∷ slots_within (length (behind bytes)) (behind bytes)
    by_length zero none = absurd (omega (arith, (record_length bytes good).0, (record_length bytes good).1))
    by_length (suc n) long =
        ap (λ (k : ℕ). slots_within k bytes) long ∙ one_here n bytes good
        ∙ ap (λ (ss : List Slot). slot_at bytes ∷ ss) (same_slots n (length (behind bytes)) (behind bytes) (omega (arith, length_behind bytes good, (record_length bytes good).0)) (omega arith))

pub area_back : (bytes : List ℕ) → has_no_record bytes ≡ false → HasItsName (slot_at bytes) → IsArea (behind bytes) → IsArea bytes
area_back bytes good here later =
    let slots = slots_on bytes good in
    record {
      filled = omega (arith, ap (sum_by slot_length) slots, sum_by-cons slot_length (slot_at bytes) (slots_of (behind bytes)), later.filled, length_behind bytes good);
      named = subst (AllByRecursion HasItsName) (sym slots) (here, later.named);
    }

pub area_none : (bytes : List ℕ) → length bytes ≡ 0 → IsArea bytes
area_none bytes none = record {
  filled = ap (sum_by slot_length) (area_ends bytes none) ∙ sym none;
  named = subst (AllByRecursion HasItsName) (sym (area_ends bytes none)) tt;
}

-- ---- areas joined

-- a list that begins with a record, before others
pub record IsBefore (a b : List ℕ) : Type 0 where
  pub good : has_no_record (a ++ b) ≡ false
  pub slot : slot_at (a ++ b) ≡ slot_at a
  pub later : behind (a ++ b) ≡ behind a ++ b

pub no_less : (bytes : List ℕ) (n : ℕ) → 40 ≤ n → n ≤ length bytes → u16_at 20 bytes ≡ n → has_no_record bytes ≡ false
no_less bytes n low high is = grind (arith, nat_tests)

pub before_others : (a b : List ℕ) → has_no_record a ≡ false → IsBefore a b
before_others a b good =
    let long = record_length a good in
    let same : take (length a) (a ++ b) ≡ take (length a) a = take_at a b (length a) refl ∙ sym (take_at a [] (length a) refl) ∙ ap (take (length a)) (append-nil a) in
    let slot = slot_front (length a) a (a ++ b) (omega (arith, long.0, long.1)) long.1 (sym same) in
    let size : u16_at 20 (a ++ b) ≡ u16_at 20 a = sym (ap (λ (s : Slot). s.head.rec_len) slot) in
    record {
      good = no_less (a ++ b) (u16_at 20 a) long.0 (omega (arith, long.1, length-append a b)) size;
      slot = sym slot;
      later = ap (λ (n : ℕ). drop n (a ++ b)) size ∙ drop-append-le (u16_at 20 a) a b long.1;
    }

-- an area and what is behind it
pub record AreJoined (a b : List ℕ) : Type 0 where
  pub slots : slots_of (a ++ b) ≡ slots_of a ++ slots_of b
  pub area : IsArea b → IsArea (a ++ b)

join_on : (a b : List ℕ) → has_no_record a ≡ false → HasItsName (slot_at a) → slots_of a ≡ slot_at a ∷ slots_of (behind a) → AreJoined (behind a) b → AreJoined a b
join_on a b good here slots later =
    let at = before_others a b good in
    record {
      slots = slots_on (a ++ b) at.good ∙ (λ i. at.slot i ∷ (ap slots_of at.later ∙ later.slots) i) ∙ ap (λ (ss : List Slot). ss ++ slots_of b) (sym slots);
      area = λ is. area_back (a ++ b) at.good (subst HasItsName (sym at.slot) here) (subst IsArea (sym at.later) (later.area is));
    }

join_within : (n : ℕ) (a b : List ℕ) → length a ≤ n → IsArea a → AreJoined a b
join_within n [] b few is = record { slots = ap (λ (ss : List Slot). ss ++ slots_of b) (sym (area_ends [] refl)); area = λ is. is }
join_within zero (x ∷ xs) b few is = absurd (omega arith)
join_within (suc n) (x ∷ xs) b few is =
    let on = area_on (x ∷ xs) (omega arith) is in
    join_on (x ∷ xs) b on.good on.here on.slots (join_within n (behind (x ∷ xs)) b (omega (arith, length_behind (x ∷ xs) on.good, (record_length (x ∷ xs) on.good).0)) on.later)

pub joined : (a b : List ℕ) → IsArea a → AreJoined a b
joined a b is = join_within (length a) a b (omega arith) is

-- ---- a place, and the next one

-- the first record of a rest, by itself
pub record IsAlone (rest : List ℕ) : Type 0 where
  pub slots : slots_of (take (u16_at 20 rest) rest) ≡ slot_at rest ∷ []
  pub area : IsArea (take (u16_at 20 rest) rest)

pub alone : (rest : List ℕ) → has_no_record rest ≡ false → HasItsName (slot_at rest) → IsAlone rest
alone rest good here =
    let n = u16_at 20 rest in
    let long = record_length rest good in
    let size = length-take-le n rest long.1 in
    let slot = slot_front n rest (take n rest) long.0 (omega arith) (sym (take-take n n rest (omega arith))) in
    let same : u16_at 20 (take n rest) ≡ n = sym (ap (λ (s : Slot). s.head.rec_len) slot) in
    let fine = no_less (take n rest) n long.0 (omega (arith, size)) same in
    let none : length (behind (take n rest)) ≡ 0 = omega (arith, length_behind (take n rest) fine, same, size) in
    record {
      slots = slots_on (take n rest) fine ∙ (λ i. sym slot i ∷ area_ends (behind (take n rest)) none i);
      area = area_back (take n rest) fine (subst HasItsName slot here) (area_none (behind (take n rest)) none);
    }

-- a place between the records of an area, and the rest from there on
pub record IsBetween (area : List ℕ) (at : ℕ) (rest : List ℕ) : Type 0 where
  pub within : at + length rest ≡ length area
  pub rest_is : rest ≡ drop at area
  pub before : IsArea (take at area)
  pub later : IsArea rest
  pub opens : 1 ≤ length rest → has_no_record rest ≡ false

opens_area : (area : List ℕ) → IsArea area → 1 ≤ length area → has_no_record area ≡ false
opens_area area is some = (area_on area some is).good

pub begins : (area : List ℕ) → IsArea area → IsBetween area 0 area
begins area is = record { within = omega arith; rest_is = refl; before = area_none [] refl; later = is; opens = opens_area area is }

pub record_at : (area : List ℕ) (at : ℕ) (rest : List ℕ) → IsBetween area at rest → 1 ≤ length rest → IsRecordAt area at
record_at area at rest is some = record { within = omega (arith, is.within, some); before = is.before; later = subst IsArea is.rest_is is.later }

pub take_on : (at n : ℕ) (bytes : List ℕ) → at ≤ length bytes → take (at + n) bytes ≡ take at bytes ++ take n (drop at bytes)
take_on at n bytes within =
    let size = length-take-le at bytes within in
    (λ i. take (sym size i + n) (sym (take-append-drop at bytes) i)) ∙ take-append-add (take at bytes) (drop at bytes) n

-- the records before a place, the one that begins there, and those behind it
pub split_at : (area : List ℕ) (at : ℕ) → IsRecordAt area at → slots_of area ≡ slots_of (take at area) ++ slot_at (drop at area) ∷ slots_of (behind (drop at area))
split_at area at is =
    ap slots_of (sym (take-append-drop at area)) ∙ (joined (take at area) (drop at area) is.before).slots
    ∙ ap (λ (ss : List Slot). slots_of (take at area) ++ ss) (area_on (drop at area) (omega (arith, length-drop at area, is.within)) is.later).slots

pub behind_place : (area : List ℕ) (at : ℕ) → behind (drop at area) ≡ drop (at + u16_at 20 (drop at area)) area
behind_place area at = drop-drop (u16_at 20 (drop at area)) at area ∙ ap (λ (k : ℕ). drop k area) (omega arith)

-- the place behind the record that begins there
pub record GoesOn (area : List ℕ) (at : ℕ) (rest : List ℕ) : Type 0 where
  pub place : IsBetween area (at + u16_at 20 rest) (behind rest)
  pub slots : slots_of (take (at + u16_at 20 rest) area) ≡ slots_of (take at area) ++ slot_at rest ∷ []

pub goes_on : (area : List ℕ) (at : ℕ) (rest : List ℕ) → IsBetween area at rest → 1 ≤ length rest → GoesOn area at rest
goes_on area at rest is some =
    let n = u16_at 20 rest in
    let on = area_on rest some is.later in
    let one = alone rest on.good on.here in
    let both = joined (take at area) (take n rest) is.before in
    let taken : take (at + n) area ≡ take at area ++ take n rest = take_on at n area (omega (arith, is.within)) ∙ ap (λ (r : List ℕ). take at area ++ take n r) (sym is.rest_is) in
    record {
      place = record {
        within = omega (arith, is.within, length_behind rest on.good);
        rest_is = ap (drop n) is.rest_is ∙ drop-drop n at area;
        before = subst IsArea (sym taken) (both.area one.area);
        later = on.later;
        opens = opens_area (behind rest) on.later;
      };
      slots = ap slots_of taken ∙ both.slots ∙ ap (λ (ss : List Slot). slots_of (take at area) ++ ss) one.slots;
    }

-- no record before the next place has a name where none before this place has it, and the one that begins here hasn't
pub none_on : (name area : List ℕ) (at : ℕ) (rest : List ℕ) → GoesOn area at rest → first_named name (slots_of (take at area)) ≡ None → has_name name (slot_at rest) ≡ false
    → first_named name (slots_of (take (at + u16_at 20 rest) area)) ≡ None
none_on name area at rest on none other =
    ap (first_named name) on.slots ∙ find-append (has_name name) (slots_of (take at area)) (slot_at rest ∷ []) ∙ rw (none, other) refl

-- up to a place the records have no room; from it on the area goes on
pub record IsPlace (needed : ℕ) (area : List ℕ) (at : ℕ) (rest : List ℕ) : Type 0 where
  pub within : at + length rest ≡ length area
  pub rest_is : rest ≡ drop at area
  pub before : IsArea (take at area)
  pub none : list_any (has_room needed) (slots_of (take at area)) ≡ false
  pub later : IsArea rest
  pub opens : 1 ≤ length rest → has_no_record rest ≡ false

pub first_place : (needed : ℕ) (area : List ℕ) → IsArea area → IsPlace needed area 0 area
first_place needed area is = record {
  within = omega arith;
  rest_is = refl;
  before = area_none [] refl;
  none = ap (list_any (has_room needed)) (area_ends [] refl);
  later = is;
  opens = opens_area area is;
}

pub next_place : (needed : ℕ) (area : List ℕ) (at : ℕ) (rest : List ℕ) → IsPlace needed area at rest → 1 ≤ length rest → has_room needed (slot_at rest) ≡ false
    → IsPlace needed area (at + u16_at 20 rest) (behind rest)
next_place needed area at rest is some full =
    let on = goes_on area at rest (record { within = is.within; rest_is = is.rest_is; before = is.before; later = is.later; opens = is.opens }) some in
    record {
      within = on.place.within;
      rest_is = on.place.rest_is;
      before = on.place.before;
      none = ap (list_any (has_room needed)) on.slots ∙ list_any-append (has_room needed) (slots_of (take at area)) (slot_at rest ∷ []) ∙ rw (is.none, full) refl;
      later = on.place.later;
      opens = on.place.opens;
    }

pub last_place : (needed : ℕ) (area : List ℕ) (at : ℕ) (rest : List ℕ) → IsPlace needed area at rest → length rest ≡ 0 → list_any (has_room needed) (slots_of area) ≡ false
last_place needed area at rest is none =
    ap (λ (x : List ℕ). list_any (has_room needed) (slots_of x)) (sym (take_all at area (omega (arith, is.within, none)))) ∙ is.none

pub room_at : (needed : ℕ) (area : List ℕ) (at : ℕ) (rest : List ℕ) → IsPlace needed area at rest → 1 ≤ length rest → has_room needed (slot_at rest) ≡ true → IsFirstWithRoom needed area at
room_at needed area at rest is some room = record {
  within = omega (arith, is.within, some);
  before = is.before;
  none = is.none;
  later = subst IsArea is.rest_is is.later;
  room = subst (λ (r : List ℕ). has_room needed (slot_at r) ≡ true) is.rest_is room;
}
