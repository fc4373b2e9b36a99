-- Where the number of a live block stands: in the descriptor of its entry.
use Rattle.std.specs.Prelude.{ℕ, zero, suc, ◌≡◌, ◌+◌, ◌<◌, ◌==◌, Bool, false, if◌then◌else◌, List, [], ◌∷◌, length, Option, None, Some}
use Rattle.std.specs.List.{list_any}
use Rattle.log_layout.specs.Chunks.{Chunk, chunk_in}
use Rattle.log_layout.specs.Journal.{Placed, Ring, accepted, blocks_from, head_in, way}
use Rattle.log_layout.specs.Live.{IsReadable, live_in}
use Rattle.log_layout.specs.declared.due.Due.{Due}
use Rattle.log_layout.specs.declared.due.Due.TheVariants as due
use Rattle.log_layout.specs.declared.log_header.LogHeader.{LogHeader}

-- what is due is this block
abbrev pub is_for : ℕ → Due → Bool
is_for block (due.Metadata number) = number == block
is_for block (due.Content number escaped) = number == block
is_for block (due.Further count) = false

-- the chunk has an entry of the block, so its descriptor has the block's number
abbrev pub has_number : ℕ → Chunk → Bool
has_number block c = list_any (is_for block) c.due

-- The last place among these blocks at which a descriptor has the number of the block, or else what was found before. The blocks that
-- belong to a chunk are passed: so many are left of one.
unfoldable pub last_number : ℕ → ℕ → ℕ → Option ℕ → List Placed → Option ℕ
last_number size block passed found [] = found
last_number size block (suc passed) found (b ∷ bs) = last_number size block passed found bs
last_number size block zero found (b ∷ bs) = elim (accepted b.place b.bytes) [
  | Some g ↦ last_number size block zero found bs
  | None ↦ elim (chunk_in size (length bs) b.bytes) [
    | Some c ↦ last_number size block (length c.due) (if has_number block c then Some b.place else found) bs
    | None ↦ last_number size block zero found bs
  ]
]

-- The place of the descriptor that has the number of the block, in a journal with this head: the last that has it. Of a block that is live it is
-- that of the live entry, since a revoke cancels what stands before it and nothing behind it.
abbrev pub number_from : Ring → LogHeader → ℕ → Option ℕ
number_from ring head block = last_number ring.size block zero None (blocks_from ring head.tail (way ring.places head.tail head.blkno + 1))

-- the number of a live block stands at this place of the journal
pub record IsNumberAt (ring : Ring) (block place : ℕ) : Type 0 where
  pub head : LogHeader
  pub headed : head_in ring ≡ Some head
  pub tailed : head.tail < ring.places
  pub inside : place < ring.places
  pub found : number_from ring head block ≡ Some place

-- each live block's number stands somewhere
abbrev pub LiveHaveNumbers : Type 0
LiveHaveNumbers = (ring : Ring) → IsReadable ring → (block : ℕ) (bytes : List ℕ) → live_in ring block ≡ Some bytes → (place : ℕ) × IsNumberAt ring block place
