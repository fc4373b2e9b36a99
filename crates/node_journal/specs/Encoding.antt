-- A transaction as it is written: its blocks in order, each with all its bytes.
use Rattle.std.specs.Prelude.{ℕ, zero, suc, ◌+◌, ◌-◌, ◌*◌, ◌/◌, ◌==◌, not, if◌then◌else◌, Bool, false, List, [], ◌∷◌, ◌++◌, length, take, drop, map, filter, replicate, Some}
use Rattle.std.specs.List.{flat_map, range_with_len}
use Rattle.std.specs.Int.{w32, w64}
use Rattle.gfs2_layout.specs.Bytes.{u32_at, with_number}
use Rattle.gfs2_layout.specs.Structures.{magic}
use Rattle.gfs2_layout.specs.Writing.{header_put}
use Rattle.log_layout.specs.Chunks.{Logged, Transaction, content_room, numbers_room, further_room, further_count}
use Rattle.log_layout.specs.Descriptors.{descriptor_put}
use Rattle.log_layout.specs.Headers.{log_put}
use Rattle.log_layout.specs.Journal.{Placed}
use Rattle.log_layout.specs.declared.descriptor.ChunkKind.{ChunkKind}
use Rattle.log_layout.specs.declared.descriptor.ChunkKind.TheVariants.{Metadata, Revoke, Journaled}
use Rattle.log_layout.specs.declared.log_header.LogHeader.{LogHeader}
use Rattle.node_journal.specs.Places.{placed_from, place_on}
use Rattle.node_journal.specs.declared.place.Place.{Place}

-- ---- parts

-- how many pieces of at most n so many make
abbrev pub piece_count : ℕ → ℕ → ℕ
piece_count n count = (count + (n - 1)) / n

-- a list in pieces of n, and the last with the rest
abbrev pub pieces : {A : Type 0} → ℕ → List A → List (List A)
pieces n xs = map (λ i. take n (drop (n * i) xs)) (range_with_len 0 (piece_count n (length xs)))

-- numbers of eight bytes over those of a block, one behind the other from a place on
unfoldable pub with_numbers : ℕ → List ℕ → List ℕ → List ℕ
with_numbers at [] bytes = bytes
with_numbers at (n ∷ ns) bytes = with_numbers (at + 8) ns (with_number w64 at n bytes)

abbrev pub zeros : ℕ → List ℕ
zeros size = replicate size 0

-- ---- chunks

-- a descriptor and the numbers behind it; all else is zero
abbrev pub descriptor_block : ℕ → ℕ → ChunkKind → ℕ → ℕ → List ℕ → List ℕ
descriptor_block size jid kind length entries numbers =
    with_numbers 72 numbers (descriptor_put (record { jid = jid; kind = kind; length = length; entries = entries }) (zeros size))

abbrev pub begins_with_magic : List ℕ → Bool
begins_with_magic bytes = u32_at 0 bytes == magic

-- content that begins with the magic is written without it, so that no header is seen in it
abbrev pub escaped : List ℕ → List ℕ
escaped bytes = if begins_with_magic bytes then with_number w32 0 0 bytes else bytes

abbrev pub content_numbers : List Logged → List ℕ
content_numbers es = flat_map (λ (e : Logged). e.block ∷ (if begins_with_magic e.bytes then 1 else 0) ∷ []) es

abbrev pub content_chunk : ℕ → ℕ → List Logged → List (List ℕ)
content_chunk size jid es = descriptor_block size jid Journaled (1 + length es) (length es) (content_numbers es) ∷ map (λ (e : Logged). escaped e.bytes) es

abbrev pub metadata_chunk : ℕ → ℕ → List Logged → List (List ℕ)
metadata_chunk size jid es = descriptor_block size jid Metadata (1 + length es) (length es) (map (λ (e : Logged). e.block) es) ∷ map (λ (e : Logged). e.bytes) es

-- further revokes, behind a header of their own
abbrev pub further_block : ℕ → ℕ → List ℕ → List ℕ
further_block size jid revokes = with_numbers 24 revokes (header_put (record { kind = 12; format = 1000; jid = jid }) (zeros size))

abbrev pub revoke_chunk : ℕ → ℕ → List ℕ → List (List ℕ)
revoke_chunk size jid revokes =
    descriptor_block size jid Revoke (1 + further_count size (length revokes)) (length revokes) (take (numbers_room size) revokes)
    ∷ map (further_block size jid) (pieces (further_room size) (drop (numbers_room size) revokes))

-- revokes are one chunk, and none where there are none
abbrev pub revoke_chunks : ℕ → ℕ → List ℕ → List (List ℕ)
revoke_chunks size jid [] = []
revoke_chunks size jid (r ∷ rs) = revoke_chunk size jid (r ∷ rs)

abbrev pub content_of : Transaction → List Logged
content_of t = filter (λ (e : Logged). e.plain) t.blocks

abbrev pub metadata_of : Transaction → List Logged
metadata_of t = filter (λ (e : Logged). not e.plain) t.blocks

-- the blocks of these entries and revokes: content of files, then metadata, then revokes; a kind without entries has no chunk
abbrev pub chunks_with : ℕ → ℕ → List Logged → List Logged → List ℕ → List (List ℕ)
chunks_with size jid content metadata revokes =
    flat_map (content_chunk size jid) (pieces (content_room size) content)
    ++ (flat_map (metadata_chunk size jid) (pieces (numbers_room size) metadata)
    ++ revoke_chunks size jid revokes)

-- those of a transaction
abbrev pub chunks : ℕ → ℕ → Transaction → List (List ℕ)
chunks size jid t = chunks_with size jid (content_of t) (metadata_of t) t.revokes

-- how many blocks a kind takes, of which each chunk has room for so many
abbrev pub kind_size : ℕ → ℕ → ℕ
kind_size room count = piece_count room count + count

abbrev pub revoke_size : ℕ → ℕ → ℕ
revoke_size size zero = 0
revoke_size size (suc n) = 1 + further_count size (suc n)

-- how many places a transaction takes, that of its header among them, with so many blocks of content and of metadata, and so many revokes
abbrev pub size_with : ℕ → ℕ → ℕ → ℕ → ℕ
size_with size content metadata revokes =
    kind_size (content_room size) content
    + (kind_size (numbers_room size) metadata
    + revoke_size size revokes) + 1

abbrev pub size_of : ℕ → Transaction → ℕ
size_of size t = size_with size (length (content_of t)) (length (metadata_of t)) (length t.revokes)

-- ---- the header

-- the header that ends a transaction, at its place
abbrev pub header_of : Place → ℕ → LogHeader
header_of at place = record {
  jid = at.jid;
  sequence = at.sequence;
  clean = false;
  tail = at.tail;
  blkno = place;
  later = Some (record {
    nsec = 0;
    sec = at.time;
    addr = at.head_addr;
    jinode = at.jinode;
    statfs_addr = 0;
    quota_addr = 0;
    local_total = 0;
    local_free = 0;
    local_dinodes = 0;
  });
}

-- the place of the header: that behind the chunks
abbrev pub header_place : ℕ → Place → Transaction → ℕ
header_place size at t = place_on at.length at.first (length (chunks size at.jid t))

abbrev pub header_block : ℕ → Place → Transaction → List ℕ
header_block size at t = log_put (header_of at (header_place size at t)) (zeros size)

-- all that is written, each block at its place, the header last
abbrev pub encoded : ℕ → Place → Transaction → List Placed
encoded size at t = placed_from at.length at.first (chunks size at.jid t ++ header_block size at t ∷ [])
