-- What a log's flush brings to its journal, step by step.
use Rattle.std.specs.Prelude.{ℕ, ◌≡◌, ◌≢◌, ◌+◌, ◌<◌, List, slice_get, if◌then◌else◌, Option, None, Some}
use Rattle.std.specs.FinMap as table
use Rattle.log_values.specs.Blocks as set
use Rattle.journal_outcomes.specs.Rings.{IsFree}
use Rattle.log_layout.specs.Journal.{Ring, accepted}
use Rattle.log_layout.specs.Live.{IsReadable, live_in}
use Rattle.log_layout.specs.declared.log_header.LogHeader.{LogHeader}
use Rattle.node_journal.specs.Places.{place_on}
use Rattle.log_values.specs.Log.{Entry, Flush, LogValue, Version}
use Rattle.log_values.specs.Flushing.{first_place, flush_chunks, left_from}
use Rattle.log_rings.specs.Laid.{IsRingOf, Laid}

-- a ring with these bytes at this place, and at each other what another ring has there
pub record HasPut (ring after : Ring) (place : ℕ) (bytes : List ℕ) : Type 0 where
  pub size : after.size ≡ ring.size
  pub places : after.places ≡ ring.places
  pub there : after.at place ≡ bytes
  pub others : (p : ℕ) → p < ring.places → p ≢ place → after.at p ≡ ring.at p

-- where block k of the flush's chunks goes
abbrev pub chunk_place : LogValue → ℕ → ℕ
chunk_place log k = place_on log.journal.length (first_place log) k

-- so many blocks of the flush's chunks stand at their places
abbrev pub AreWritten : Ring → LogValue → Flush → ℕ → Type 0
AreWritten ring log f done = (k : ℕ) (bytes : List ℕ) → k < done → slice_get (flush_chunks log f) k ≡ Some bytes → ring.at (chunk_place log k) ≡ bytes

-- ---- what is in flight

-- a block of a transaction may fly to this place: it is outside tail to head, and the bytes are no log header there
pub record MayFlyTo (ring : Ring) (head : LogHeader) (p : ℕ) (bytes : List ℕ) : Type 0 where
  pub inside : p < ring.places
  pub free : IsFree ring.places head p
  pub no_header : accepted p bytes ≡ None

-- a log header may: it is accepted there, and its sequence is the next
pub record MayHeadAt (ring : Ring) (head : LogHeader) (p : ℕ) (bytes : List ℕ) : Type 0 where
  pub inside : p < ring.places
  pub free : IsFree ring.places head p
  pub header : LogHeader
  pub reads : accepted p bytes ≡ Some header
  pub next : header.sequence ≡ head.sequence + 1

-- ---- what is live behind it

abbrev pub left_live : Option Entry → Option (List ℕ) → Option (List ℕ)
left_live None bytes = None
left_live (Some e) bytes = bytes

abbrev pub logged_bytes : Option Version → Option (List ℕ) → Option (List ℕ)
logged_bytes None was = was
logged_bytes (Some v) was = Some v.bytes

-- What is live in the journal of a block once a flush is in it whose header tells this tail: the bytes that the flush logs; nothing, where it revokes the block; and else what
-- was, if the tail leaves it.
abbrev pub live_with : Ring → LogValue → Flush → ℕ → ℕ → Option (List ℕ)
live_with ring log f tail b =
    logged_bytes (table.get f.versions b) (if set.contains f.revokes b then None else left_live (left_from log tail (table.get log.live b)) (live_in ring b))

-- the journal is that of the log with the flush in it
pub record HasLanded (ring ring' : Ring) (log new : LogValue) (f : Flush) (tail : ℕ) : Type 0 where
  pub laid : List Laid
  pub is : IsRingOf ring' new laid
  pub readable : IsReadable ring'
  pub live : (b : ℕ) → live_in ring' b ≡ live_with ring log f tail b
