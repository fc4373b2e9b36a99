-- Laws of a node's log and its journal on the disk.
use Rattle.std.specs.Prelude.{ℕ, ◌≡◌, ◌≢◌, ◌+◌, ◌^◌, ◌<◌, true, List, [], length, slice_get, None, Some}
use Rattle.journal_outcomes.specs.Rings.{IsFree}
use Rattle.log_layout.specs.Journal.{IsClean, Ring, accepted, head_in}
use Rattle.log_layout.specs.Live.{IsReadable, live_in}
use Rattle.log_layout.specs.declared.log_header.LogHeader.{LogHeader}
use Rattle.node_journal.specs.Written.{AreNumbers, IsHeaderRead}
use Rattle.log_values.specs.Log.{Flush, Journal, LogValue}
use Rattle.log_values.specs.Log.Stage.{Ending, Headed}
use Rattle.log_values.specs.Flushing.{FlushStep, IsTail, flush_chunks, head_place, header_bytes, place_of}
use Rattle.log_values.specs.Laws.{IsJournal, empty_log}
use Rattle.log_values.specs.Sound.{IsSoundLog}
use Rattle.log_values.specs.Transactions.{flushed_as}
use Rattle.log_values.specs.declared.steps.LogStep.TheVariants as step
use Rattle.log_rings.specs.Flights.{AreWritten, HasLanded, HasPut, MayFlyTo, MayHeadAt, chunk_place}
use Rattle.log_rings.specs.Laid.{IsRingOf, Laid}

-- a journal with a clean head is that of an empty log
abbrev pub CleanRingsBegin : Type 0
CleanRingsBegin = (ring : Ring) (journal : Journal) (head : LogHeader) → IsJournal journal → ring.size ≡ journal.size → ring.places ≡ journal.length
    → head_in ring ≡ Some head → head.clean ≡ true → IsRingOf ring (empty_log journal head.blkno head.sequence) []

-- The numbers in what the flush logs, and the journal's, have the widths of their types, so that its header is read as it is written; and there is a sequence for it.
pub record HasNumbers (log : LogValue) (f : Flush) : Type 0 where
  pub numbers : (tail : ℕ) → AreNumbers (place_of log f tail) (flushed_as f)
  pub read : (tail : ℕ) → IsTail log f tail → IsHeaderRead log.journal.size (place_of log f tail) (flushed_as f)
  pub sequence : log.sequence + 1 < 2 ^ 64

-- ---- blocks of a flush

-- each goes to a place of its own, outside tail to head, where it is no log header, and the header's place is another one
pub record AreBlocksOf (ring : Ring) (head : LogHeader) (log : LogValue) (f : Flush) : Type 0 where
  pub fly : (k : ℕ) (bytes : List ℕ) → slice_get (flush_chunks log f) k ≡ Some bytes → MayFlyTo ring head (chunk_place log k) bytes
  pub apart : (k m : ℕ) → k < length (flush_chunks log f) → m < length (flush_chunks log f) → k ≢ m → chunk_place log k ≢ chunk_place log m
  pub before : (k : ℕ) → k < length (flush_chunks log f) → chunk_place log k ≢ head_place log f

abbrev pub FlushesFly : Type 0
FlushesFly = (ring : Ring) (log : LogValue) (f : Flush) (laid : List Laid) (head : LogHeader) → IsSoundLog log → IsRingOf ring log laid → log.flush ≡ Some f → HasNumbers log f → head_in ring ≡ Some head
    → AreBlocksOf ring head log f

-- such a block in its place changes nothing of what the journal says
pub record SaysStill (ring ring' : Ring) (log : LogValue) (laid : List Laid) : Type 0 where
  pub is : IsRingOf ring' log laid
  pub headed : head_in ring' ≡ head_in ring
  pub live : (b : ℕ) → live_in ring' b ≡ live_in ring b

abbrev pub BlocksSayNothing : Type 0
BlocksSayNothing = (ring ring' : Ring) (log : LogValue) (laid : List Laid) (head : LogHeader) (p : ℕ) (bytes : List ℕ) → IsSoundLog log → IsRingOf ring log laid → head_in ring ≡ Some head → MayFlyTo ring head p bytes
    → HasPut ring ring' p bytes → SaysStill ring ring' log laid

-- ---- its header

abbrev pub HeadersFly : Type 0
HeadersFly = (ring : Ring) (log : LogValue) (f : Flush) (laid : List Laid) (tail : ℕ) (head : LogHeader) → IsSoundLog log → IsRingOf ring log laid → log.flush ≡ Some f → HasNumbers log f → IsTail log f tail
    → head_in ring ≡ Some head → MayHeadAt ring head (head_place log f) (header_bytes log f tail)

-- With its blocks in their places, and its header in its place, the flush is in the journal, which is that of the log as the last step of the flush leaves it.
abbrev pub FlushesLand : Type 0
FlushesLand = (ring ring' : Ring) (log new : LogValue) (f : Flush) (laid : List Laid) (tail : ℕ) (bytes : List ℕ) → IsSoundLog log → IsRingOf ring log laid → log.flush ≡ Some f → HasNumbers log f → f.stage ≡ Headed tail
    → AreWritten ring log f (length (flush_chunks log f)) → HasPut ring ring' (head_place log f) (header_bytes log f tail) → FlushStep log new f bytes step.Barrier
    → HasLanded ring ring' log new f tail

-- ---- the journal can be read

abbrev pub RingsOfLogsAreReadable : Type 0
RingsOfLogsAreReadable = (ring : Ring) (log : LogValue) (laid : List Laid) → IsSoundLog log → IsRingOf ring log laid → IsReadable ring
