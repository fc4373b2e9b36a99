-- Writes in flight to a journal, and what may become of it.
use Rattle.std.specs.Prelude.{ℕ, ◌≡◌, ◌≢◌, ◌⊎◌, ◌↔◌, ◌+◌, ◌<◌, List, length, unwrap_or, Option, None, Some}
use Rattle.log_layout.specs.Headers.{front_of}
use Rattle.log_layout.specs.Journal.{Ring, accepted, head_in, tail_of, way}
use Rattle.log_layout.specs.Live.{IsReadable, live_in}
use Rattle.log_layout.specs.Transactions.{transactions_of}
use Rattle.log_layout.specs.declared.log_header.Later.{Later}
use Rattle.log_layout.specs.declared.log_header.LogHeader.{LogHeader}

-- ---- what is in flight

-- for each place of a journal, or each block of an image, the bytes that are in flight there, if some are
abbrev pub InFlight : Type 0
InFlight = ℕ → Option (List ℕ)

-- the place is outside tail to head: further from the tail than the head is, round the ring
abbrev pub IsFree : ℕ → LogHeader → ℕ → Type 0
IsFree places head p = way places (tail_of head) head.blkno < way places (tail_of head) p

-- Blocks of a transaction are in flight, or none: each goes to a free place, and its bytes are no log header there.
pub record ChunksFly (ring : Ring) (head : LogHeader) (flying : InFlight) : Type 0 where
  pub free : (p : ℕ) (bytes : List ℕ) → p < ring.places → flying p ≡ Some bytes → IsFree ring.places head p
  pub no_header : (p : ℕ) (bytes : List ℕ) → p < ring.places → flying p ≡ Some bytes → accepted p bytes ≡ None

-- One log header is in flight, and nothing else: it goes to a free place, is accepted there, and has the sequence behind the head's.
pub record HeaderFlies (ring : Ring) (head : LogHeader) (flying : InFlight) : Type 0 where
  pub place : ℕ
  pub bytes : List ℕ
  pub header : LogHeader
  pub inside : place < ring.places
  pub free : IsFree ring.places head place
  pub flies : flying place ≡ Some bytes
  pub reads : accepted place bytes ≡ Some header
  pub next : header.sequence ≡ head.sequence + 1
  pub alone : (p : ℕ) → p < ring.places → p ≢ place → flying p ≡ None

-- what may be in flight to a journal, which has an accepted head
pub record MayFly (ring : Ring) (flying : InFlight) : Type 0 where
  pub head : LogHeader
  pub headed : head_in ring ≡ Some head
  pub writes : ChunksFly ring head flying ⊎ HeaderFlies ring head flying

-- ---- what becomes of it

-- a header reads as another one does: in all that the hash guards, and in what is later too where its checksum isn't zero
pub record ReadsAs (h g : LogHeader) : Type 0 where
  pub front : front_of h ≡ front_of g
  pub later : (fields : Later) → h.later ≡ Some fields → g.later ≡ Some fields

-- the bytes are accepted at this place as a header that the first one reads as
abbrev pub IsReadFrom : ℕ → List ℕ → LogHeader → Type 0
IsReadFrom place bytes h = (g : LogHeader) × (accepted place bytes ≡ Some g) × ReadsAs h g

-- No false header: bytes that a write left at a place are accepted there only as the log header that the old bytes are, or those of the write.
abbrev pub ReadsAsEither : (place : ℕ) → (old new left : List ℕ) → Type 0
ReadsAsEither place old new left = (h : LogHeader) → accepted place left ≡ Some h → IsReadFrom place old h ⊎ IsReadFrom place new h

-- An outcome of a journal with writes in flight: where one goes, any whole block that is no false header; each other place as it was.
pub record IsRingOutcome (ring : Ring) (flying : InFlight) (left : Ring) : Type 0 where
  pub size : left.size ≡ ring.size
  pub places : left.places ≡ ring.places
  pub still : (p : ℕ) → p < ring.places → flying p ≡ None → left.at p ≡ ring.at p
  pub whole : (p : ℕ) (bytes : List ℕ) → p < ring.places → flying p ≡ Some bytes → length (left.at p) ≡ ring.size
  pub either : (p : ℕ) (bytes : List ℕ) → p < ring.places → flying p ≡ Some bytes → ReadsAsEither p (ring.at p) bytes (left.at p)

-- the journal with all that is in flight in its place
abbrev pub landed : Ring → InFlight → Ring
landed ring flying = record { size = ring.size; places = ring.places; at = λ p. unwrap_or (flying p) (ring.at p) }

-- The first journal says what the second one does: its head reads as that one's, the transactions from tail to head are the same, so is what is
-- live of each block, and it can be read where that one can.
pub record SaysAs (r s : Ring) : Type 0 where
  pub head : LogHeader
  pub other : LogHeader
  pub headed : head_in r ≡ Some head
  pub headed_other : head_in s ≡ Some other
  pub reads : ReadsAs head other
  pub transactions : transactions_of r head ≡ transactions_of s other
  pub live : (block : ℕ) → live_in r block ≡ live_in s block
  pub readable : IsReadable r ↔ IsReadable s
