-- A journal: a ring of places with a block each, the log headers that are accepted in it, its head and its tail.
use Rattle.std.specs.Prelude.{ℕ, zero, suc, ◌≡◌, ◌+◌, ◌-◌, ◌/◌, ◌<◌, ◌==◌, ◌||◌, true, nat_lt, nat_le, if◌then◌else◌, Bool, List, [], ◌∷◌, length, Option, None, Some, Result, Ok, Err}
use Rattle.gfs2_layout.specs.declared.fault.LayoutFault.{LayoutFault}
use Rattle.gfs2_layout.specs.Holding.{Holding, bytes_at}
use Rattle.gfs2_layout.specs.Inode.{dinode_in, content_block}
use Rattle.log_layout.specs.Headers.{log_read}
use Rattle.log_layout.specs.declared.log_header.LogHeader.{LogHeader}

-- the bytes of a block, how many places there are, and what stands at each
pub record Ring : Type 0 where
  pub size : ℕ
  pub places : ℕ
  pub at : ℕ → List ℕ

-- each place has a whole block
abbrev pub IsWhole : Ring → Type 0
IsWhole ring = (p : ℕ) → p < ring.places → length (ring.at p) ≡ ring.size

-- the ring of a journal's inode: place p is the block of content with index p
abbrev pub ring_of : Holding → Ring
ring_of h = record { size = h.size; places = (dinode_in h).size / h.size; at = λ p. bytes_at h (content_block h p) }

-- ---- round the ring

-- the place behind one, in a ring of so many
abbrev pub next : ℕ → ℕ → ℕ
next places p = if nat_lt (p + 1) places then p + 1 else 0

-- how many places it is from one on to another
abbrev pub way : ℕ → ℕ → ℕ → ℕ
way places from to = if nat_le from to then to - from else (to + places) - from

-- a place and its block
pub record Placed : Type 0 where
  pub place : ℕ
  pub bytes : List ℕ

-- the blocks at so many places from one on, round the ring
abbrev pub blocks_from : Ring → ℕ → ℕ → List Placed
blocks_from ring p zero = []
blocks_from ring p (suc count) = record { place = p; bytes = ring.at p } ∷ blocks_from ring (next ring.places p) count

-- ---- the head

-- a log header that reads well counts where it is at its own place
abbrev pub if_at : ℕ → Result LogHeader LayoutFault → Option LogHeader
if_at place (Ok header) = if header.blkno == place then Some header else None
if_at place (Err fault) = None

-- the header that is accepted at a place, if one is: magic, kind, format and hash agree, and the place; and its checksum is zero or agrees
unfoldable pub accepted : ℕ → List ℕ → Option LogHeader
accepted place bytes = if_at place (log_read bytes)

-- of two headers that of higher sequence, and of equal ones the first
abbrev pub better : Option LogHeader → Option LogHeader → Option LogHeader
better None later = later
better (Some g) None = Some g
better (Some g) (Some h) = if nat_lt g.sequence h.sequence then Some h else Some g

-- the best of the headers at so many places from one on
abbrev pub best_from : Ring → ℕ → ℕ → Option LogHeader
best_from ring p zero = None
best_from ring p (suc count) = better (accepted p (ring.at p)) (best_from ring (p + 1) count)

-- the head: the accepted header of highest sequence, of several that in the least place
unfoldable pub head_in : Ring → Option LogHeader
head_in ring = best_from ring 0 ring.places

-- nothing is to be replayed
abbrev pub IsClean : Ring → Type 0
IsClean ring = (head : LogHeader) × (head_in ring ≡ Some head) × (head.clean ≡ true)

-- ---- the tail

-- the tail that a head tells; a clean one tells its own place, whatever its field says
abbrev pub tail_of : LogHeader → ℕ
tail_of head = if head.clean then head.blkno else head.tail

-- a head that isn't clean tells no tail that can be one: no place of the journal, or the one behind the head
abbrev pub refuses_tail : ℕ → LogHeader → Bool
refuses_tail places head = nat_le places head.tail || (head.tail == next places head.blkno)

-- how many places are outside tail to head
abbrev pub free_places : ℕ → ℕ → ℕ → ℕ
free_places places tail head = places - (way places tail head + 1)
