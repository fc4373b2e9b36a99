-- An area of records: what stands in a linear directory behind its dinode, or in a leaf.
use Rattle.std.specs.Prelude.{ℕ, zero, suc, ◌≡◌, ◌+◌, ◌-◌, ◌<◌, ◌≤◌, ◌||◌, ◌&&◌, Bool, nat_lt, if◌then◌else◌, List, [], ◌∷◌, ◌++◌, length, take, drop, IsTrue, Option, sum_by}
use Rattle.std.specs.List.{AllByRecursion, find}
use Rattle.std.specs.Str.{bytes_eq}
use Rattle.std.specs.Int.{w16, w32, w64, to_be_bytes}
use Rattle.gfs2_layout.specs.Bytes.{u16_at, slice}
use Rattle.gfs2_layout.specs.Structures.{dirent_of, is_in_use}
use Rattle.gfs2_layout.specs.declared.dirent.Dirent.{Dirent}

-- a record: the numbers of its head, the pad that ends the head, and the bytes behind these 40, which begin with the name
pub record Slot : Type 0 where
  pub head : Dirent
  pub pad : List ℕ
  pub body : List ℕ

abbrev pub slot_at : List ℕ → Slot
slot_at bytes = record { head = dirent_of bytes; pad = slice 28 12 bytes; body = slice 40 (u16_at 20 bytes - 40) bytes }

-- the bytes of a record
abbrev pub head_bytes : Dirent → List ℕ
head_bytes d =
    to_be_bytes w64 d.inum.number
    ++ (to_be_bytes w64 d.inum.address
    ++ (to_be_bytes w32 d.hash
    ++ (to_be_bytes w16 d.rec_len
    ++ (to_be_bytes w16 d.name_len
    ++ (to_be_bytes w16 d.kind
    ++ to_be_bytes w16 d.rahead)))))

unfoldable pub slot_bytes : Slot → List ℕ
slot_bytes s = head_bytes s.head ++ (s.pad ++ s.body)

abbrev pub slot_length : Slot → ℕ
slot_length s = s.head.rec_len

abbrev pub name_of : Slot → List ℕ
name_of s = take s.head.name_len s.body

-- no record begins here: there is no room for a head, or its length is too small or too large
abbrev pub has_no_record : List ℕ → Bool
has_no_record bytes = nat_lt (length bytes) 40 || nat_lt (u16_at 20 bytes) 40 || nat_lt (length bytes) (u16_at 20 bytes)

-- the records from here on, each behind the one before, as far as they go; there are at most so many
abbrev pub slots_within : ℕ → List ℕ → List Slot
slots_within zero bytes = []
slots_within (suc most) bytes = if has_no_record bytes then [] else slot_at bytes ∷ slots_within most (drop (u16_at 20 bytes) bytes)

unfoldable pub slots_of : List ℕ → List Slot
slots_of area = slots_within (length area) area

-- a record that is in use has its name in it
abbrev pub HasItsName : Slot → Type 0
HasItsName s = IsTrue (is_in_use s.head) → 40 + s.head.name_len ≤ s.head.rec_len

-- the records fill the area, and each that is in use has its name in it
pub record IsArea (area : List ℕ) : Type 0 where
  pub filled : sum_by slot_length (slots_of area) ≡ length area
  pub named : AllByRecursion HasItsName (slots_of area)

-- at this place of an area a record begins
pub record IsRecordAt (area : List ℕ) (at : ℕ) : Type 0 where
  pub within : at + 1 ≤ length area
  pub before : IsArea (take at area)
  pub later : IsArea (drop at area)

-- the first record in use of this name
abbrev pub has_name : List ℕ → Slot → Bool
has_name name s = is_in_use s.head && bytes_eq (name_of s) name

abbrev pub first_named : List ℕ → List Slot → Option Slot
first_named name slots = find (has_name name) slots

-- this head and, where the record is in use, this name are the record's
pub record IsShown (head : Dirent) (name : List ℕ) (s : Slot) : Type 0 where
  pub head_is : head ≡ s.head
  pub name_is : IsTrue (is_in_use s.head) → name ≡ name_of s

-- the area begins with the record of this head and name, and the rest of it is an area
pub record IsFirstRecord (area : List ℕ) (head : Dirent) (name rest : List ℕ) : Type 0 where
  pub slots : slots_of area ≡ slot_at area ∷ slots_of rest
  pub shown : IsShown head name (slot_at area)
  pub later : IsArea rest
  pub shorter : length rest < length area
