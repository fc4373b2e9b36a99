-- The chunks of a journal: a descriptor, its entries, and what the blocks behind it have to be.
use Rattle.std.specs.Prelude.{ℕ, ◌+◌, ◌-◌, ◌*◌, ◌/◌, ◌==◌, ◌&&◌, nat_le, min, if◌then◌else◌, Bool, true, false, List, [], ◌∷◌, ◌++◌, length, map, Option, None, Some, Result, Ok, Err}
use Rattle.std.specs.List.{list_all, range_with_len}
use Rattle.std.specs.Int.{w32}
use Rattle.gfs2_layout.specs.Bytes.{u32_at, u64_at, with_number}
use Rattle.gfs2_layout.specs.Structures.{magic, header_fault}
use Rattle.gfs2_layout.specs.declared.fault.LayoutFault.{LayoutFault}
use Rattle.log_layout.specs.Descriptors.{descriptor_read}
use Rattle.log_layout.specs.declared.descriptor.ChunkKind.{ChunkKind}
use Rattle.log_layout.specs.declared.descriptor.ChunkKind.TheVariants.{Metadata, Revoke, Journaled}
use Rattle.log_layout.specs.declared.descriptor.LogDescriptor.{LogDescriptor}
use Rattle.log_layout.specs.declared.due.Due.{Due}
use Rattle.log_layout.specs.declared.due.Due.TheVariants as due

-- ---- how many entries there is room for

-- numbers of blocks behind a descriptor, which are eight bytes each
abbrev pub numbers_room : ℕ → ℕ
numbers_room size = (size - 72) / 8

-- numbers with their escapes, of two numbers each
abbrev pub content_room : ℕ → ℕ
content_room size = (size - 72) / 16

-- revokes in a further block, behind its header
abbrev pub further_room : ℕ → ℕ
further_room size = (size - 24) / 8

-- how many further blocks so many revokes take
abbrev pub further_count : ℕ → ℕ → ℕ
further_count size count = ((count - numbers_room size) + (further_room size - 1)) / further_room size

-- how many of them stand in the further block with this index
abbrev pub further_part : ℕ → ℕ → ℕ → ℕ
further_part size count i = min (further_room size) ((count - numbers_room size) - further_room size * i)

-- ---- a transaction's part

-- a block that is logged
pub record Logged : Type 0 where
  pub block : ℕ
  -- whether it is content of a regular file
  pub plain : Bool
  pub bytes : List ℕ

-- the blocks that are logged, in order, and those that are revoked
pub record Transaction : Type 0 where
  pub blocks : List Logged
  pub revokes : List ℕ

abbrev pub nothing : Transaction
nothing = record { blocks = []; revokes = [] }

abbrev pub joined : Transaction → Transaction → Transaction
joined a b = record { blocks = a.blocks ++ b.blocks; revokes = a.revokes ++ b.revokes }

-- ---- what a descriptor says

-- so many numbers of eight bytes, from a place on, each so far behind the one before it
abbrev pub numbers_at : ℕ → ℕ → ℕ → List ℕ → List ℕ
numbers_at at step count bytes = map (λ i. u64_at (at + step * i) bytes) (range_with_len 0 count)

-- what the blocks behind the descriptor have to be, one by one
abbrev pub dues : ChunkKind → ℕ → ℕ → List ℕ → List Due
dues Metadata size count bytes = map due.Metadata (numbers_at 72 8 count bytes)
dues Journaled size count bytes = map (λ i. due.Content (u64_at (72 + 16 * i) bytes) (u64_at (80 + 16 * i) bytes == 1)) (range_with_len 0 count)
dues Revoke size count bytes = map (λ i. due.Further (further_part size count i)) (range_with_len 0 (further_count size count))

-- the revokes in the descriptor's own block
abbrev pub first_revokes : ChunkKind → ℕ → ℕ → List ℕ → List ℕ
first_revokes Revoke size count bytes = numbers_at 72 8 (min count (numbers_room size)) bytes
first_revokes _ size count bytes = []

-- there is room for so many entries, and each escape is 0 or 1
abbrev pub are_entries : ChunkKind → ℕ → ℕ → List ℕ → Bool
are_entries Metadata size count bytes = nat_le count (numbers_room size)
are_entries Journaled size count bytes = nat_le count (content_room size) && list_all (λ escape. nat_le escape 1) (numbers_at 80 16 count bytes)
are_entries Revoke size count bytes = true

-- the chunk that a descriptor begins: what the next blocks have to be, and the revokes that it has itself
pub record Chunk : Type 0 where
  pub due : List Due
  pub revokes : List ℕ

-- the length counts the descriptor and what is due, and there are at least so many places before the head
abbrev pub chunk_of : ℕ → ℕ → LogDescriptor → List ℕ → Option Chunk
chunk_of size left d bytes =
    if are_entries d.kind size d.entries bytes && (d.length == 1 + length (dues d.kind size d.entries bytes)) && nat_le d.length left
    then Some (record { due = dues d.kind size d.entries bytes; revokes = first_revokes d.kind size d.entries bytes })
    else None

abbrev pub if_descriptor : ℕ → ℕ → Result LogDescriptor LayoutFault → List ℕ → Option Chunk
if_descriptor size left (Ok d) bytes = chunk_of size left d bytes
if_descriptor size left (Err fault) bytes = None

-- the chunk that begins with this block, if one does, where so many places are left before the head
abbrev pub chunk_in : ℕ → ℕ → List ℕ → Option Chunk
chunk_in size left bytes = if_descriptor size left (descriptor_read bytes) bytes

-- ---- the blocks behind it

-- a block whose first four bytes were taken out as it was logged, since they were the magic
abbrev pub restored : List ℕ → List ℕ
restored bytes = with_number w32 0 magic bytes

abbrev pub one_block : ℕ → Bool → List ℕ → Transaction
one_block block plain bytes = record { blocks = record { block = block; plain = plain; bytes = bytes } ∷ []; revokes = [] }

-- further revokes have a header of their own
abbrev pub if_headed : Option LayoutFault → List ℕ → Option (List ℕ)
if_headed None numbers = Some numbers
if_headed (Some fault) numbers = None

abbrev pub if_revokes : Option (List ℕ) → Option Transaction
if_revokes None = None
if_revokes (Some revokes) = Some (record { blocks = []; revokes = revokes })

-- what a block adds to its transaction, where it is what is due
abbrev pub part_of : Due → List ℕ → Option Transaction
part_of (due.Metadata block) bytes = if u32_at 0 bytes == magic then Some (one_block block false bytes) else None
part_of (due.Content block escaped) bytes = Some (one_block block true (if escaped then restored bytes else bytes))
part_of (due.Further count) bytes = if_revokes (if_headed (header_fault 24 12 1000 bytes) (numbers_at 24 8 count bytes))
