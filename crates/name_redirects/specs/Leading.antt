-- A record of an area that leads to another inode: both numbers of its inum change, and nothing else.
use Rattle.std.specs.Prelude.{ℕ, ◌+◌, List, ◌∷◌, ◌++◌, take, drop}
use Rattle.std.specs.Int.{w64}
use Rattle.gfs2_layout.specs.Bytes.{with_number}
use Rattle.gfs2_layout.specs.Area.{Slot, slot_length, slots_of}
use Rattle.gfs2_layout.specs.Cutting.{slot_from}
use Rattle.gfs2_layout.specs.Records.{Record}
use Rattle.gfs2_layout.specs.declared.inum.Inum.{Inum}

-- the sixteen bytes from this place on tell this inum, and all others are as they were
abbrev pub with_inum : ℕ → Inum → List ℕ → List ℕ
with_inum at inum bytes = with_number w64 (at + 8) inum.address (with_number w64 at inum.number bytes)

-- a record that leads there
abbrev pub led_to : Inum → Slot → Slot
led_to inum s = record { head = record s.head { inum = inum }; pad = s.pad; body = s.body }

-- the records of an area when the one at this place leads there
abbrev pub slots_led_to : ℕ → Inum → List ℕ → List Slot
slots_led_to at inum area = slots_of (take at area) ++ led_to inum (slot_from at area) ∷ slots_of (drop (at + slot_length (slot_from at area)) area)

-- what it says then: the kind of the inode stays
abbrev pub record_led_to : Inum → Record → Record
record_led_to inum r = record r { number = inum.number; address = inum.address }
