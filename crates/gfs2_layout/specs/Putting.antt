-- A record is put into an area: into the first one that has room for it.
use Rattle.std.specs.Prelude.{◌≡◌, ℕ, ◌+◌, ◌-◌, ◌*◌, ◌/◌, ◌≤◌, Bool, true, false, nat_le, if◌then◌else◌, List, [], ◌∷◌, ◌++◌, length, take, drop, replicate, map, Option, None, Some, IsTrue}
use Rattle.std.specs.List.{filter, list_any}
use Rattle.std.specs.Option.{option_map}
use Rattle.crc_words.specs.Remainder.{crc32_of}
use Rattle.gfs2_layout.specs.Structures.{is_in_use}
use Rattle.gfs2_layout.specs.Area.{Slot, slot_at, slots_of, slot_length, name_of, IsArea}
use Rattle.gfs2_layout.specs.declared.dirent.Dirent.{Dirent}

-- the head of a record in use of this name
pub record IsEntryOf (entry : Dirent) (name : List ℕ) : Type 0 where
  pub some : 1 ≤ length name
  pub short : length name ≤ 255
  pub name_len : entry.name_len ≡ length name
  pub hash : entry.hash ≡ crc32_of name
  pub used : IsTrue (is_in_use entry)

-- what a record of a name of this length takes at least: 40 bytes and the name, filled up to a multiple of 8
abbrev pub least_length : ℕ → ℕ
least_length name_len = (40 + name_len + 7) / 8 * 8

-- how much of a record is taken: of an unused one nothing
abbrev pub taken_length : Slot → ℕ
taken_length s = if is_in_use s.head then least_length s.head.name_len else 0

-- so many bytes have room in a record behind what is taken of it
abbrev pub has_room : ℕ → Slot → Bool
has_room needed s = nat_le (taken_length s + needed) (slot_length s)

-- a record cut to its least length
abbrev pub cut_short : Slot → Slot
cut_short s = record {
  head = record s.head { rec_len = least_length s.head.name_len };
  pad = s.pad;
  body = take (least_length s.head.name_len - 40) s.body;
}

-- a new record, with its head over other bytes and its name over the first of these: its pad is zeros, and behind the name they stay
abbrev pub new_slot : Dirent → List ℕ → List ℕ → Slot
new_slot entry name over = record {
  head = record entry { rec_len = 40 + length over };
  pad = replicate 12 0;
  body = name ++ drop (length name) over;
}

-- a record with room is cut to its least length, and the new one takes the rest; one that is not in use is taken whole
abbrev pub put_into : Dirent → List ℕ → Slot → List Slot
put_into entry name s =
    if is_in_use s.head then cut_short s ∷ new_slot entry name (drop (least_length s.head.name_len) s.body) ∷ []
    else new_slot entry name s.body ∷ []

-- the records with a new one in the first, in order, that has room for it, if there is one
abbrev pub put_slot : Dirent → List ℕ → List Slot → Option (List Slot)
put_slot entry name [] = None
put_slot entry name (s ∷ later) =
    if has_room (least_length (length name)) s then Some (put_into entry name s ++ later)
    else option_map (λ after. s ∷ after) (put_slot entry name later)

-- at this place of an area a record begins that is the first with room for so many bytes
pub record IsFirstWithRoom (needed : ℕ) (area : List ℕ) (at : ℕ) : Type 0 where
  pub within : at + 1 ≤ length area
  pub before : IsArea (take at area)
  pub none : list_any (has_room needed) (slots_of (take at area)) ≡ false
  pub later : IsArea (drop at area)
  pub room : has_room needed (slot_at (drop at area)) ≡ true

-- what a record says: its head but for the length, and its name
abbrev pub says : Slot → Dirent × List ℕ
says s = (record s.head { rec_len = 0 }, name_of s)

-- what a new record says
abbrev pub new_says : Dirent → List ℕ → Dirent × List ℕ
new_says entry name = (record entry { rec_len = 0 }, name)

-- what the records in use say, in their order
abbrev pub told : List Slot → List (Dirent × List ℕ)
told slots = map says (filter (λ s. is_in_use s.head) slots)

-- a list with one more element, somewhere
pub record HasOneMore {X : Type 0} (x : X) (before after : List X) : Type 0 where
  pub front : List X
  pub back : List X
  pub was : before ≡ front ++ back
  pub is : after ≡ front ++ x ∷ back
