-- A directory as a view shows it, and as a draft leaves it.
use Rattle.std.specs.Prelude.{ℕ, ◌≡◌, true, false, List, drop, length, Option, None, Some, option_map, ◌-◌, [], ◌∷◌, ◌++◌, replicate, codes}
use Rattle.crc_words.specs.Remainder.{crc32_of}
use Rattle.gfs2_layout.specs.Area.{Slot}
use Rattle.gfs2_layout.specs.Structures.{dinode_of, dinode_length, is_directory}
use Rattle.gfs2_layout.specs.Holding.{Cell, Holding}
use Rattle.gfs2_layout.specs.Inode.{has_hash_flag}
use Rattle.gfs2_layout.specs.Records.{Record, records_in, record_named}
use Rattle.gfs2_layout.specs.declared.dirent.Dirent.{Dirent}
use Rattle.glock_names.specs.Views.{Seen}
use Rattle.glock_names.specs.declared.steps.Entry.{Entry}

-- where the view has this block, it is the dinode of a directory that isn't hashed
abbrev pub IsLinearIn : Seen → ℕ → Type 0
IsLinearIn v dir = (bytes : List ℕ) → v.block_at dir ≡ Some bytes → (is_directory (dinode_of bytes) ≡ true) × (has_hash_flag (dinode_of bytes) ≡ false)

-- where the view has this block, a record behind its dinode has the name
abbrev pub HasNameIn : Seen → ℕ → List ℕ → Type 0
HasNameIn v dir name = (bytes : List ℕ) → v.block_at dir ≡ Some bytes → (r : Record) × (record_named (records_in (drop dinode_length bytes)) name ≡ Some r)

-- ---- what a record says

-- where it leads
abbrev pub entry_of : Record → Entry
entry_of r = record { number = r.number; addr = r.address; kind = r.kind }

-- the record of a name that leads there
abbrev pub record_for : List ℕ → Entry → Record
record_for name e = record { name = name; number = e.number; address = e.addr; kind = e.kind }

-- the head of that record, before it has a length
abbrev pub head_for : List ℕ → Entry → Dirent
head_for name e = record { inum = record { number = e.number; address = e.addr }; hash = crc32_of name; rec_len = 0; name_len = length name; kind = e.kind; rahead = 0 }

-- ---- the records of a directory without names

-- a record of so many bytes, with zeros behind its name
abbrev pub clear_slot : List ℕ → Entry → ℕ → Slot
clear_slot name e room = record { head = record (head_for name e) { rec_len = room }; pad = replicate 12 0; body = name ++ replicate (room - 40 - length name) 0 }

-- `.` has as few bytes as it can, and `..` the rest of so many
abbrev pub dots_in : ℕ → Entry → Entry → List Slot
dots_in room own parent = clear_slot (codes ".") own 48 ∷ clear_slot (codes "..") parent (room - 48) ∷ []

-- ---- what a draft leaves of an inode that keeps its blocks

abbrev pub bytes_over : Option (List ℕ) → Cell → Cell
bytes_over None c = c
bytes_over (Some bytes) c = record c { bytes = bytes }

-- the inode with each of its blocks as it is seen, and as it was where it isn't seen
abbrev pub holding_over : Seen → Holding → Holding
holding_over v h = record h { cell = λ b. option_map (bytes_over (v.block_at b)) (h.cell b) }
