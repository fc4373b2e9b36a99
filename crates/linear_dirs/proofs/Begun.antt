-- The records of a directory without names.
use Rattle.std.proofs.Common.{◌≡◌, ◌≢◌, ℕ, ◌+◌, ◌-◌, ◌≤◌, true, false, List, [], ◌∷◌, ◌++◌, length, take, drop, replicate, Option, Some, refl, sym, ap, ◌∙◌, arith, length-drop}
use Rattle.std.specs.Prelude.{codes, not, ◌&&◌, ◌==◌}
use Rattle.std.proofs.lemmas.Bool.{le-leb}
use Rattle.std.proofs.lemmas.Bool.Decides.{nat_tests}
use Rattle.std.proofs.lemmas.List.{length-replicate, drop-replicate, take-replicate, take_at, take-take, length-take-le}
use Rattle.gfs2_layout.specs.Area.{Slot, slot_at, slot_length, slots_of}
use Rattle.gfs2_layout.specs.Putting.{least_length, taken_length, has_room, cut_short, new_slot, put_slot}
use Rattle.gfs2_layout.specs.Records.{Record, record_of, records_in}
use Rattle.gfs2_layout.specs.Structures.{is_in_use}
use Rattle.gfs2_layout.specs.declared.dirent.Dirent.{Dirent}
use Rattle.glock_names.specs.declared.steps.Entry.{Entry}
use Rattle.linear_dirs.specs.Reading.{told_in}
use Rattle.linear_dirs.specs.Shown.{record_for, head_for, clear_slot, dots_in}

some_is : {X : Type 0} {x y : X} → ◌≡◌ {A = Option X} (Some x) (Some y) → x ≡ y
some_is e = cc

-- ---- into an unused record, and behind one in use

first_put : (head : Dirent) (name : List ℕ) (s : Slot) → has_room (least_length (length name)) s ≡ true → is_in_use s.head ≡ false → put_slot head name (s ∷ []) ≡ Some (new_slot head name s.body ∷ [])
first_put head name s room unused = rw (room, unused) refl

next_put : (head : Dirent) (name : List ℕ) (s : Slot) → has_room (least_length (length name)) s ≡ true → is_in_use s.head ≡ true
    → put_slot head name (s ∷ []) ≡ Some (cut_short s ∷ (new_slot head name (drop (least_length s.head.name_len) s.body) ∷ []))
next_put head name s room used = rw (room, used) refl

room_in_unused : (needed : ℕ) (s : Slot) → is_in_use s.head ≡ false → needed ≤ slot_length s → has_room needed s ≡ true
room_in_unused needed s unused fits =
    let none : taken_length s ≡ 0 = rw unused refl in
    le-leb (taken_length s + needed) (slot_length s) (omega (arith, none, fits))

room_in_used : (needed : ℕ) (s : Slot) → is_in_use s.head ≡ true → least_length s.head.name_len + needed ≤ slot_length s → has_room needed s ≡ true
room_in_used needed s used fits =
    let some : taken_length s ≡ least_length s.head.name_len = rw used refl in
    le-leb (taken_length s + needed) (slot_length s) (omega (arith, some, fits))

-- ---- what they say

used_by : (name : List ℕ) (e : Entry) (over : List ℕ) → e.number ≢ 0 → e.addr ≢ 0 → is_in_use (new_slot (head_for name e) name over).head ≡ true
used_by name e over number address = tested e.number e.addr number address
  where
    tested : (n a : ℕ) → n ≢ 0 → a ≢ 0 → (not (n == 0) && not (a == 0)) ≡ true
    tested n a number address = grind (arith, nat_tests)

abbrev named : Entry → List ℕ → Record
named e name = record_for name e

said_new : (name : List ℕ) (e : Entry) (over : List ℕ) → record_of (new_slot (head_for name e) name over) ≡ record_for name e
said_new name e over = ap (named e) (take_at name (drop (length name) over) (length name) refl)

least_holds_name : (n : ℕ) → n ≤ least_length n - 40
least_holds_name n = omega arith

abbrev renamed : Record → List ℕ → Record
renamed r name = record r { name = name }

said_cut : (s : Slot) → record_of (cut_short s) ≡ record_of s
said_cut s = ap (renamed (record_of s)) (take-take s.head.name_len (least_length s.head.name_len - 40) s.body (least_holds_name s.head.name_len))

two_told : (a b : Slot) → is_in_use a.head ≡ true → is_in_use b.head ≡ true → told_in (a ∷ (b ∷ [])) ≡ record_of a ∷ (record_of b ∷ [])
two_told a b used_a used_b = rw (used_a, used_b) refl

-- ---- over zeros

pub cleared_body : (area zeros : List ℕ) (room : ℕ) → (slot_at area).head.rec_len ≡ room → drop 40 area ≡ drop 40 zeros → zeros ≡ replicate room 0 → (slot_at area).body ≡ replicate (room - 40) 0
cleared_body area zeros room long behind clear =
    (λ i. take (long i - 40) ((behind ∙ ap (drop 40) clear ∙ drop-replicate 40 room 0) i)) ∙ take-replicate (room - 40) (room - 40) 0 (omega arith)

-- a new record over zeros
new_clear : (name : List ℕ) (e : Entry) (room : ℕ) (over : List ℕ) → 40 ≤ room → over ≡ replicate (room - 40) 0 → new_slot (head_for name e) name over ≡ clear_slot name e room
new_clear name e room over least is = λ i. record { head = record (head_for name e) { rec_len = long i }; pad = replicate 12 0; body = name ++ rest i }
  where
    long : 40 + length over ≡ room
    long = omega (arith, ap length is ∙ length-replicate {A = ℕ} (room - 40) 0, least)

    rest : drop (length name) over ≡ replicate (room - 40 - length name) 0
    rest = ap (drop (length name)) is ∙ drop-replicate (length name) (room - 40) 0

-- `.` that had all of it, cut
cut_clear : (e : Entry) (room : ℕ) → 280 ≤ room → cut_short (clear_slot (codes ".") e room) ≡ clear_slot (codes ".") e 48
cut_clear e room least = λ i. record { head = record (head_for (codes ".") e) { rec_len = 48 }; pad = replicate 12 0; body = codes "." ++ rest i }
  where
    rest : take {A = ℕ} 7 (replicate (room - 40 - 1) 0) ≡ replicate 7 0
    rest = take-replicate 7 (room - 40 - 1) 0 (omega (arith, least))

behind_clear : (e : Entry) (room : ℕ) → 280 ≤ room → drop 48 (clear_slot (codes ".") e room).body ≡ replicate (room - 48 - 40) 0
behind_clear e room least = drop-replicate 47 (room - 40 - 1) 0 ∙ ap (λ n. replicate n 0) (let same : room - 40 - 1 - 47 ≡ room - 48 - 40 = omega (arith, least) in same)

-- ---- both

module _ (cleared one two : List ℕ) (own parent : Entry) (alone : slots_of cleared ≡ slot_at cleared ∷ []) (unused : is_in_use (slot_at cleared).head ≡ false)
    (long : (slot_at cleared).head.rec_len ≡ length cleared) (least : 280 ≤ length cleared) (number : own.number ≢ 0) (address : own.addr ≢ 0) (above : parent.number ≢ 0) (above_address : parent.addr ≢ 0)
    (first : put_slot (head_for (codes ".") own) (codes ".") (slots_of cleared) ≡ Some (slots_of one)) (next : put_slot (head_for (codes "..") parent) (codes "..") (slots_of one) ≡ Some (slots_of two)) where
  abbrev under : Slot
  under = slot_at cleared

  abbrev dot : Slot
  dot = new_slot (head_for (codes ".") own) (codes ".") under.body

  abbrev dots : Slot
  dots = new_slot (head_for (codes "..") parent) (codes "..") (drop (least_length dot.head.name_len) dot.body)

  one_is : slots_of one ≡ dot ∷ []
  one_is = some_is (sym first ∙ ap (put_slot (head_for (codes ".") own) (codes ".")) alone
      ∙ first_put (head_for (codes ".") own) (codes ".") under (room_in_unused (least_length (length (codes "."))) under unused (omega (arith, long, least))) unused)

  body_long : length under.body ≡ length cleared - 40
  body_long = length-take-le (under.head.rec_len - 40) (drop 40 cleared) (omega (arith, length-drop 40 cleared, long)) ∙ ap (λ n. n - 40) long

  two_is : slots_of two ≡ cut_short dot ∷ (dots ∷ [])
  two_is = some_is (sym next ∙ ap (put_slot (head_for (codes "..") parent) (codes "..")) one_is
      ∙ next_put (head_for (codes "..") parent) (codes "..") dot (room_in_used (least_length (length (codes ".."))) dot (used_by (codes ".") own under.body number address) (omega (arith, body_long, least)))
      (used_by (codes ".") own under.body number address))

  pub begun : records_in two ≡ record_for (codes ".") own ∷ (record_for (codes "..") parent ∷ [])
  unfolding records_in
  begun = ap told_in two_is ∙ two_told (cut_short dot) dots (used_by (codes ".") own under.body number address) (used_by (codes "..") parent (drop (least_length dot.head.name_len) dot.body) above above_address)
      ∙ (λ i. (said_cut dot ∙ said_new (codes ".") own under.body) i ∷ (said_new (codes "..") parent (drop (least_length dot.head.name_len) dot.body) i ∷ []))

  pub begun_slots : under.body ≡ replicate (length cleared - 40) 0 → slots_of two ≡ dots_in (length cleared) own parent
  begun_slots clear =
      let first_is : dot ≡ clear_slot (codes ".") own (length cleared) = new_clear (codes ".") own (length cleared) under.body (omega (arith, least)) clear in
      two_is ∙ (λ i. cut_short (first_is i) ∷ (new_slot (head_for (codes "..") parent) (codes "..") (drop 48 (first_is i).body) ∷ []))
      ∙ (λ i. cut_clear own (length cleared) least i ∷ (new_clear (codes "..") parent (length cleared - 48) _ (omega (arith, least)) (behind_clear own (length cleared) least) i ∷ []))
