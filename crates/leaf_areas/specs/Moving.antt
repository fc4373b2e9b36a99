-- Records that move from one area to another.
use Rattle.std.specs.Prelude.{ℕ, ◌-◌, min, List, [], ◌∷◌, ◌++◌, length, replicate, filter}
use Rattle.gfs2_layout.specs.Area.{Slot, name_of}
use Rattle.gfs2_layout.specs.Putting.{least_length}
use Rattle.gfs2_layout.specs.Structures.{is_in_use}

-- those of some records that are in use
abbrev pub in_use : List Slot → List Slot
in_use slots = filter (λ s. is_in_use s.head) slots

-- A record that moves takes the least that one of its name takes, or the length that it had where that is less. So what had room in one area has room
-- in another that isn't shorter.
abbrev pub moved_length : Slot → ℕ
moved_length s = min (least_length s.head.name_len) s.head.rec_len

-- the record afterwards, of so many bytes: zeros are its pad and stand behind its name, and nothing is read ahead
abbrev pub moved : ℕ → Slot → Slot
moved len s = record {
  head = record s.head { rec_len = len; rahead = 0 };
  pad = replicate 12 0;
  body = name_of s ++ replicate (len - 40 - length (name_of s)) 0;
}

-- a record of so many bytes that isn't in use, all zeros but for its length
abbrev pub unused : ℕ → Slot
unused len = record {
  head = record { inum = record { number = 0; address = 0 }; hash = 0; rec_len = len; name_len = 0; kind = 0; rahead = 0 };
  pad = replicate 12 0;
  body = replicate (len - 40) 0;
}

-- records one behind another in so many bytes, of which the last takes the rest; without any, one that isn't in use
abbrev pub packed : ℕ → List Slot → List Slot
packed room [] = unused room ∷ []
packed room (s ∷ []) = moved room s ∷ []
packed room (s ∷ t ∷ later) = moved (moved_length s) s ∷ packed (room - moved_length s) (t ∷ later)
