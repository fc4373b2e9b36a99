-- What a new record's writes leave: the record itself, and the one that was cut before it.
use Rattle.std.proofs.Common.{◌≡◌, ℕ, ◌+◌, ◌-◌, ◌≤◌, ◌<◌, ◌^◌, ◌⊎◌, inl, inr, true, false, List, ◌∷◌, ◌++◌, length, take, drop, replicate, sym, ap, ◌∙◌, subst, arith, length-drop}
use Rattle.std.specs.Int.{Width, w16, w32, w64, byte_len}
use Rattle.std.proofs.lemmas.Bool.Decides.{nat_tests}
use Rattle.std.proofs.lemmas.List.{drop_at, drop-drop, drop-take, take-take, length-take-le}
use Rattle.std.proofs.Math.Seq.{take-append-add}
use Rattle.gfs2_layout.specs.Bytes.{slice, put_at, u16_at, with_number}
use Rattle.gfs2_layout.specs.Structures.{dirent_of, is_in_use}
use Rattle.gfs2_layout.specs.Area.{Slot, slot_at, slots_of, HasItsName, IsArea}
use Rattle.gfs2_layout.specs.Putting.{least_length, has_room, new_slot}
use Rattle.gfs2_layout.specs.declared.dirent.Dirent.{Dirent}
use Rattle.gfs2_layout.proofs.InPlace.{slice-put_same, slice-put_before, drop-put, length-put, is_width_16, is_width_64, length-with, number-with_same, number-with_other, slice-with_other}
use Rattle.gfs2_layout.proofs.Records.{behind}
use Rattle.gfs2_layout.proofs.Places.{head_front, slots_on, area_back, no_less, take_on}

-- a head was written over bytes, then a pad, then a name
module _ (bytes headed pad name : List ℕ) (twelve : length pad ≡ 12) (kept : drop 40 headed ≡ drop 40 bytes) (size : length headed ≡ length bytes) (fits : 40 + length name ≤ length bytes) where
  abbrev pub written : List ℕ
  written = put_at 40 name (put_at 28 pad headed)

  pad_fits : 28 + length pad ≤ length headed
  pad_fits = omega (arith, twelve, size, fits)

  size_padded : length (put_at 28 pad headed) ≡ length bytes
  size_padded = length-put 28 pad headed pad_fits ∙ size

  name_fits : 40 + length name ≤ length (put_at 28 pad headed)
  name_fits = omega (arith, size_padded, fits)

  beyond : (k : ℕ) → 40 ≤ k → drop k headed ≡ drop k bytes
  beyond k far =
      let d : ℕ = k - 40 in
      let e : k ≡ 40 + d = omega (arith, far) in
      ap (λ (n : ℕ). drop n headed) e ∙ sym (drop-drop d 40 headed) ∙ ap (drop d) kept ∙ drop-drop d 40 bytes ∙ ap (λ (n : ℕ). drop n bytes) (sym e)

  beyond_padded : (k : ℕ) → 40 ≤ k → drop k (put_at 28 pad headed) ≡ drop k bytes
  beyond_padded k far = drop-put 28 pad headed pad_fits k (omega (arith, twelve, far)) ∙ beyond k far

  pub behind_written : (k : ℕ) → 40 + length name ≤ k → drop k written ≡ drop k bytes
  behind_written k far = drop-put 40 name (put_at 28 pad headed) name_fits k far ∙ beyond_padded k (omega (arith, far))

  pub head_written : dirent_of written ≡ dirent_of headed
  head_written = head_front 28 written headed (omega arith) (slice-put_before 40 name (put_at 28 pad headed) name_fits 0 28 (omega arith) ∙ slice-put_before 28 pad headed pad_fits 0 28 (omega arith))

  pub pad_written : slice 28 12 written ≡ pad
  pad_written = slice-put_before 40 name (put_at 28 pad headed) name_fits 28 12 (omega arith) ∙ slice-put_same 28 pad headed pad_fits 12 (sym twelve)

  name_written : drop 40 written ≡ name ++ drop (40 + length name) bytes
  name_written =
      drop_at (take 40 (put_at 28 pad headed)) (name ++ drop (40 + length name) (put_at 28 pad headed)) 40 (length-take-le 40 (put_at 28 pad headed) (omega (arith, name_fits)))
      ∙ ap (λ (b : List ℕ). name ++ b) (beyond_padded (40 + length name) (omega arith))

  pub body_written : (n : ℕ) → length name ≤ n → slice 40 n written ≡ name ++ drop (length name) (slice 40 n bytes)
  body_written n long =
      let d : ℕ = n - length name in
      let e : n ≡ length name + d = omega (arith, long) in
      ap (take n) name_written
      ∙ ap (λ (k : ℕ). take k (name ++ drop (40 + length name) bytes)) e
      ∙ take-append-add name (drop (40 + length name) bytes) d
      ∙ ap (λ (b : List ℕ). name ++ take d b) (sym (drop-drop (length name) 40 bytes))
      ∙ ap (λ (b : List ℕ). name ++ b) (sym (drop-take (length name) d (drop 40 bytes)))
      ∙ ap (λ (k : ℕ). name ++ drop (length name) (take k (drop 40 bytes))) (sym e)

-- then a new record stands there
pub slot_written : (bytes headed pad name : List ℕ) (entry : Dirent) (rec_len : ℕ) → pad ≡ replicate 12 0 → drop 40 headed ≡ drop 40 bytes → length headed ≡ length bytes → dirent_of headed ≡ record entry { rec_len = rec_len }
    → 40 + length name ≤ rec_len → rec_len ≤ length bytes → slot_at (put_at 40 name (put_at 28 pad headed)) ≡ new_slot entry name (slice 40 (rec_len - 40) bytes)
slot_written bytes headed pad name entry rec_len zeros kept size head_is named inside =
    let twelve : length pad ≡ 12 = ap length zeros in
    let fits : 40 + length name ≤ length bytes = omega (arith, named, inside) in
    let over : 40 + length (slice 40 (rec_len - 40) bytes) ≡ rec_len = omega (arith, length-take-le (rec_len - 40) (drop 40 bytes) (omega (arith, length-drop 40 bytes, inside)), named) in
    let head : dirent_of (put_at 40 name (put_at 28 pad headed)) ≡ record entry { rec_len = 40 + length (slice 40 (rec_len - 40) bytes) } =
    head_written bytes headed pad name twelve kept size fits ∙ head_is ∙ ap (λ (n : ℕ). record entry { rec_len = n }) (sym over) in
    let long : u16_at 20 (put_at 40 name (put_at 28 pad headed)) ≡ rec_len = ap (λ (d : Dirent). d.rec_len) head ∙ over in
    λ i. record {
      head = head i;
      pad = (pad_written bytes headed pad name twelve kept size fits ∙ zeros) i;
      body = (ap (λ (n : ℕ). slice 40 (n - 40) (put_at 40 name (put_at 28 pad headed))) long ∙ body_written bytes headed pad name twelve kept size fits (rec_len - 40) (omega (arith, named))) i;
    }

-- ---- records that stand before an area

pub record Stands (bytes : List ℕ) (s : Slot) (rest : List ℕ) : Type 0 where
  pub slots : slots_of bytes ≡ s ∷ slots_of rest
  pub area : IsArea bytes

pub stands : (bytes : List ℕ) (s : Slot) (rest : List ℕ) → slot_at bytes ≡ s → 40 ≤ s.head.rec_len → s.head.rec_len ≤ length bytes → HasItsName s → drop s.head.rec_len bytes ≡ rest → IsArea rest → Stands bytes s rest
stands bytes s rest slot low high named further is =
    let size : u16_at 20 bytes ≡ s.head.rec_len = ap (λ (t : Slot). t.head.rec_len) slot in
    let good = no_less bytes s.head.rec_len low high size in
    let later : behind bytes ≡ rest = ap (λ (n : ℕ). drop n bytes) size ∙ further in
    record {
      slots = slots_on bytes good ∙ (λ i. slot i ∷ slots_of (later i));
      area = area_back bytes good (subst HasItsName (sym slot) named) (subst IsArea (sym later) is);
    }

-- a record with room, by its numbers
pub used_room : (needed : ℕ) (s : Slot) → has_room needed s ≡ true → is_in_use s.head ≡ true → least_length s.head.name_len + needed ≤ s.head.rec_len
used_room needed s room used = grind (arith, nat_tests, room, used)

pub unused_room : (needed : ℕ) (s : Slot) → has_room needed s ≡ true → is_in_use s.head ≡ false → needed ≤ s.head.rec_len
unused_room needed s room unused = grind (arith, nat_tests, room, unused)

-- a record's length is changed: its head else, its pad and the bytes behind it stay
pub sized : (bytes : List ℕ) (size : ℕ) → 40 ≤ length bytes → size < 2 ^ 16
    → slot_at (with_number w16 20 size bytes) ≡ record { head = record (slot_at bytes).head { rec_len = size }; pad = (slot_at bytes).pad; body = slice 40 (size - 40) bytes }
sized bytes size long short =
    let fits : 20 + 2 ≤ length bytes = omega (arith, long) in
    let other = λ (w : Width) (k : ℕ) (apart : (22 ≤ k) ⊎ (k + byte_len w ≤ 20)). number-with_other w16 20 size bytes is_width_16 fits w k apart in
    let same = number-with_same w16 20 size bytes is_width_16 fits short in
    let body : slice 40 (u16_at 20 (with_number w16 20 size bytes) - 40) (with_number w16 20 size bytes) ≡ slice 40 (size - 40) bytes =
    ap (λ (n : ℕ). slice 40 (n - 40) (with_number w16 20 size bytes)) same
    ∙ slice-with_other w16 20 size bytes is_width_16 fits 40 (size - 40) (inl (omega arith)) in
    λ i. record {
      head = record {
        inum = record { number = other w64 0 (inr (omega arith)) i; address = other w64 8 (inr (omega arith)) i };
        hash = other w32 16 (inr (omega arith)) i;
        rec_len = same i;
        name_len = other w16 22 (inl (omega arith)) i;
        kind = other w16 24 (inl (omega arith)) i;
        rahead = other w16 26 (inl (omega arith)) i;
      };
      pad = slice-with_other w16 20 size bytes is_width_16 fits 28 12 (inl (omega arith)) i;
      body = body i;
    }

-- a shorter record has the first of its bytes
pub cut : (bytes : List ℕ) (least : ℕ) → 40 ≤ least → least ≤ u16_at 20 bytes → u16_at 20 bytes ≤ length bytes → least < 2 ^ 16
    → slot_at (with_number w16 20 least bytes) ≡ record { head = record (slot_at bytes).head { rec_len = least }; pad = (slot_at bytes).pad; body = take (least - 40) (slot_at bytes).body }
cut bytes least low less inside short =
    sized bytes least (omega (arith, low, less, inside)) short
    ∙ ap (λ (body : List ℕ). let s : Slot = record { head = record (dirent_of bytes) { rec_len = least }; pad = slice 28 12 bytes; body = body } in s)
    (sym (take-take (least - 40) (u16_at 20 bytes - 40) (drop 40 bytes) (omega (arith, less))))

-- a record that grows has the bytes behind its own
pub grown : (bytes : List ℕ) (more : ℕ) → 40 ≤ u16_at 20 bytes → u16_at 20 bytes + more ≤ length bytes → u16_at 20 bytes + more < 2 ^ 16
    → slot_at (with_number w16 20 (u16_at 20 bytes + more) bytes)
    ≡ record { head = record (slot_at bytes).head { rec_len = u16_at 20 bytes + more }; pad = (slot_at bytes).pad; body = (slot_at bytes).body ++ take more (behind bytes) }
grown bytes more low inside short =
    let own : ℕ = u16_at 20 bytes - 40 in
    let e : (u16_at 20 bytes + more) - 40 ≡ own + more = omega (arith, low) in
    let f : own + 40 ≡ u16_at 20 bytes = omega (arith, low) in
    sized bytes (u16_at 20 bytes + more) (omega (arith, low, inside)) short
    ∙ ap (λ (body : List ℕ). let s : Slot = record { head = record (dirent_of bytes) { rec_len = u16_at 20 bytes + more }; pad = slice 28 12 bytes; body = body } in s) (
    ap (λ (n : ℕ). take n (drop 40 bytes)) e ∙ take_on own more (drop 40 bytes) (omega (arith, length-drop 40 bytes, low, inside))
    ∙ ap (λ (b : List ℕ). slice 40 own bytes ++ take more b) (drop-drop own 40 bytes ∙ ap (λ (n : ℕ). drop n bytes) (omega (arith, f)))
    )

-- a record's inum becomes zero
pub unnumbered : (bytes : List ℕ) → 40 ≤ length bytes
    → slot_at (with_number w64 8 0 (with_number w64 0 0 bytes)) ≡ record { head = record (slot_at bytes).head { inum = record { number = 0; address = 0 } }; pad = (slot_at bytes).pad; body = (slot_at bytes).body }
unnumbered bytes long =
    let first = with_number w64 0 0 bytes in
    let second = with_number w64 8 0 first in
    let fits : 0 + 8 ≤ length bytes = omega (arith, long) in
    let fits' : 8 + 8 ≤ length first = omega (arith, long, length-with w64 0 0 bytes is_width_64 fits) in
    let other = λ (w : Width) (k : ℕ) (far : 16 ≤ k). number-with_other w64 8 0 first is_width_64 fits' w k (inl (omega (arith, far))) ∙ number-with_other w64 0 0 bytes is_width_64 fits w k (inl (omega (arith, far))) in
    let stay = λ (k m : ℕ) (far : 16 ≤ k). slice-with_other w64 8 0 first is_width_64 fits' k m (inl (omega (arith, far))) ∙ slice-with_other w64 0 0 bytes is_width_64 fits k m (inl (omega (arith, far))) in
    λ i. record {
      head = record {
        inum = record {
          number = (number-with_other w64 8 0 first is_width_64 fits' w64 0 (inr (omega arith)) ∙ number-with_same w64 0 0 bytes is_width_64 fits (omega arith)) i;
          address = number-with_same w64 8 0 first is_width_64 fits' (omega arith) i;
        };
        hash = other w32 16 (omega arith) i;
        rec_len = other w16 20 (omega arith) i;
        name_len = other w16 22 (omega arith) i;
        kind = other w16 24 (omega arith) i;
        rahead = other w16 26 (omega arith) i;
      };
      pad = stay 28 12 (omega arith) i;
      body = (ap (λ (n : ℕ). slice 40 (n - 40) second) (other w16 20 (omega arith)) ∙ stay 40 (u16_at 20 bytes - 40) (omega arith)) i;
    }
