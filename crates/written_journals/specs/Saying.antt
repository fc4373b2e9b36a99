-- What a journal says once a transaction was written to it.
use Rattle.std.specs.Prelude.{ℕ, ◌≡◌, ◌+◌, ◌^◌, ◌==◌, ◌<◌, if◌then◌else◌, Bool, List, [], ◌∷◌, ◌++◌, length, find, Option, None, Some, Ok}
use Rattle.std.specs.List.{list_any}
use Rattle.gfs2_layout.specs.Device.{IsBlockSize}
use Rattle.log_layout.specs.Chunks.{Logged, Transaction, nothing}
use Rattle.log_layout.specs.Headers.{as_read}
use Rattle.log_layout.specs.Journal.{Ring, Placed, blocks_from, head_in}
use Rattle.log_layout.specs.Live.{live_entry, live_in}
use Rattle.log_layout.specs.Transactions.{Sequenced, after, reading, transactions_of}
use Rattle.log_layout.specs.declared.log_header.LogHeader.{LogHeader}
use Rattle.node_journal.specs.Encoding.{encoded, content_of, metadata_of, header_of, header_place, header_block, size_of}
use Rattle.node_journal.specs.Places.{place_on}
use Rattle.node_journal.specs.Written.{AreNumbers, IsHeaderRead, IsLoggableAll, IsPlaceFor}
use Rattle.node_journal.specs.declared.place.Place.{Place}

-- ---- what the journal then says

-- what stands at a place among these, the last of them where there are several
abbrev pub block_at : List Placed → ℕ → List ℕ → List ℕ
block_at [] p old = old
block_at (b ∷ bs) p old = block_at bs p (if b.place == p then b.bytes else old)

-- the journal with these blocks at their places
abbrev pub with_blocks : Ring → List Placed → Ring
with_blocks ring blocks = record { size = ring.size; places = ring.places; at = λ p. block_at blocks p (ring.at p) }

-- a transaction as it is read again: content comes before metadata
abbrev pub as_written : Transaction → Transaction
as_written t = record { blocks = content_of t ++ metadata_of t; revokes = t.revokes }

-- The journal is ready for a transaction: from the tail that its header will tell, so many places have whole transactions, of which the
-- last has the sequence before; the first place is behind them; a place is left free; and the head so far is older.
pub record IsReady (ring : Ring) (at : Place) (t : Transaction) (count : ℕ) (before : List Sequenced) : Type 0 where
  pub places : ring.places ≡ at.length
  pub read : reading ring.size [] None nothing (blocks_from ring at.tail count) ≡ Ok before
  pub follows : (ts : List Sequenced) (last : Sequenced) → before ≡ ts ++ last ∷ [] → after last.sequence ≡ at.sequence
  pub first : place_on at.length at.tail count ≡ at.first
  pub room : count + size_of ring.size t < at.length
  pub older : (h : LogHeader) → head_in ring ≡ Some h → h.sequence < at.sequence
  pub sequence : at.sequence < 2 ^ 64

-- the entry of a block in a transaction where there is one, else nothing where it is revoked, and else what was before
abbrev pub or_before : Option Logged → Bool → Option Logged → Option Logged
or_before (Some e) revoked was = Some e
or_before None revoked was = if revoked then None else was

-- what is live of a block behind these transactions and this one: what this one has, else nothing where it revokes the block, else what was
abbrev pub live_after : List Sequenced → Transaction → ℕ → Option Logged
live_after before t block = or_before (find (λ (e : Logged). e.block == block) t.blocks) (list_any (λ r. r == block) t.revokes) (live_entry before block)

abbrev pub sequenced : Place → Transaction → Sequenced
sequenced at t = record { sequence = at.sequence; transaction = as_written t }

-- The journal once the transaction was written: its head is the new header, its transactions are those before and this one, and what is
-- live of each block is as this one leaves it.
pub record IsWritten (size : ℕ) (ring : Ring) (at : Place) (t : Transaction) (before : List Sequenced) : Type 0 where
  pub headed : head_in ring ≡ Some (as_read (header_of at (header_place size at t)) (header_block size at t))
  pub read : (head : LogHeader) → head_in ring ≡ Some head → transactions_of ring head ≡ Ok (before ++ sequenced at t ∷ [])
  pub live : (b : ℕ) → live_entry (before ++ sequenced at t ∷ []) b ≡ live_after before t b

-- what is written to a journal that is ready is what the journal then says
abbrev pub WhatIsWrittenIsSaid : Type 0
WhatIsWrittenIsSaid = (ring : Ring) (at : Place) (t : Transaction) (count : ℕ) (before : List Sequenced) → IsLoggableAll ring.size t → AreNumbers at t → IsPlaceFor ring.size at t
    → IsReady ring at t count before → IsHeaderRead ring.size at t → IsWritten ring.size (with_blocks ring (encoded ring.size at t)) at t before

-- ---- a header that is its own tail

-- The journal is ready for a transaction whose header tells its own place as the tail, as where all that was live is home: the head so far
-- is older.
pub record IsReadyAnew (ring : Ring) (at : Place) (t : Transaction) : Type 0 where
  pub places : ring.places ≡ at.length
  pub own : at.tail ≡ header_place ring.size at t
  pub older : (h : LogHeader) → head_in ring ≡ Some h → h.sequence < at.sequence
  pub sequence : at.sequence < 2 ^ 64

-- Once it was written, its head is the new header, which has nothing before it, and nothing is live.
pub record IsBegunAnew (size : ℕ) (ring : Ring) (at : Place) (t : Transaction) : Type 0 where
  pub headed : head_in ring ≡ Some (as_read (header_of at (header_place size at t)) (header_block size at t))
  pub read : (head : LogHeader) → head_in ring ≡ Some head → transactions_of ring head ≡ Ok (record { sequence = at.sequence; transaction = nothing } ∷ [])
  pub live : (b : ℕ) → live_in ring b ≡ None

-- a journal whose header is its own tail begins anew
abbrev pub OwnTailBeginsAnew : Type 0
OwnTailBeginsAnew = (ring : Ring) (at : Place) (t : Transaction) → IsLoggableAll ring.size t → AreNumbers at t → IsPlaceFor ring.size at t
    → IsReadyAnew ring at t → IsHeaderRead ring.size at t → IsBegunAnew ring.size (with_blocks ring (encoded ring.size at t)) at t

-- ---- how much is written

-- a transaction takes as many places as its size says
abbrev pub SizeIsLength : Type 0
SizeIsLength = (size : ℕ) (at : Place) (t : Transaction) → IsBlockSize size → length (encoded size at t) ≡ size_of size t
