-- How a log is flushed, step by step.
use Rattle.std.specs.Prelude.{◌≡◌, ◌≢◌, ◌⊎◌, ℕ, ◌+◌, ◌≤◌, false, List, [], length, nat_lt, slice_get, slice_index, Option, None, Some, if◌then◌else◌}
use Rattle.std.specs.FinMap as table
use Rattle.log_values.specs.Blocks as set
use Rattle.log_layout.specs.Chunks.{Transaction}
use Rattle.log_layout.specs.Headers.{log_put}
use Rattle.log_layout.specs.Journal.{free_places, next, way}
use Rattle.log_layout.specs.Transactions.{after}
use Rattle.node_journal.specs.Encoding.{chunks, header_of, size_of, zeros}
use Rattle.node_journal.specs.Places.{place_on}
use Rattle.node_journal.specs.declared.place.Place.{Place}
use Rattle.log_values.specs.Log.{Entry, Flush, Journal, LogValue, Stage, Version, Way}
use Rattle.log_values.specs.Log.Stage.{Writing, Ending, Headed}
use Rattle.log_tables.specs.Versions.Way.{Home, Away, Flying}
use Rattle.log_tables.specs.Kept.{is_home}
use Rattle.log_values.specs.Transactions.{due, flushed_as, live_among}
use Rattle.log_values.specs.declared.steps.LogStep.{LogStep}
use Rattle.log_values.specs.declared.steps.LogStep.TheVariants as step

-- ---- what is to be done

-- a change or a revoke isn't flushed, nor in the flush that was begun
abbrev pub IsDue : LogValue → Type 0
IsDue log = ((due log).blocks ≢ []) ⊎ ((due log).revokes ≢ [])

-- how many places are outside tail to head
abbrev pub free_in : LogValue → ℕ
free_in log = free_places log.journal.length log.tail log.head

-- as many places are free as the transaction takes, and one more, which a flush leaves
abbrev pub HasRoom : LogValue → Transaction → Type 0
HasRoom log t = size_of log.journal.size t + 1 ≤ free_in log

abbrev pub AllAreHome : LogValue → Type 0
AllAreHome log = (b : ℕ) (e : Entry) → table.get log.live b ≡ Some e → e.way ≡ Home

abbrev pub NothingIsLive : LogValue → Type 0
NothingIsLive log = log.live ≡ table.empty

-- ---- a flush begins

-- with all that is due
abbrev pub begun : LogValue → LogValue
begun log = record log {
  fresh = table.empty;
  gone = set.empty;
  flush = Some (record { versions = log.fresh; revokes = log.gone; stage = Writing 0 });
}

-- a header alone, which moves the tail
abbrev pub begun_alone : LogValue → LogValue
begun_alone log = record log { flush = Some (record { versions = table.empty; revokes = set.empty; stage = Ending }) }

-- What a flush that is due begins with, where none was begun. A header alone is due where all that is live is home, and nothing else is to be flushed or there is no room for it.
pub data Begins (log : LogValue) : LogValue → Type 0 where
  with_all : log.flush ≡ None → IsDue log → HasRoom log (due log) → Begins log (begun log)
  alone : log.flush ≡ None → AllAreHome log → (NothingIsLive log → ⊥) → (IsDue log → HasRoom log (due log) → ⊥) → Begins log (begun_alone log)
  goes_on : (f : Flush) → log.flush ≡ Some f → Begins log log

-- ---- its places

-- the block of a place of the journal
abbrev pub block_at : Journal → ℕ → ℕ
block_at journal place = slice_index journal.places place

-- where the flush begins, and where its header goes: behind its chunks
abbrev pub first_place : LogValue → ℕ
first_place log = next log.journal.length log.head

abbrev pub flush_chunks : LogValue → Flush → List (List ℕ)
flush_chunks log f = chunks log.journal.size log.journal.jid (flushed_as f)

abbrev pub head_place : LogValue → Flush → ℕ
head_place log f = place_on log.journal.length (first_place log) (length (flush_chunks log f))

-- where the flush is written, whose header tells this tail
abbrev pub place_of : LogValue → Flush → ℕ → Place
place_of log f tail = record {
  jid = log.journal.jid;
  length = log.journal.length;
  first = first_place log;
  tail = tail;
  sequence = after log.sequence;
  head_addr = block_at log.journal (head_place log f);
  jinode = log.journal.jinode;
  time = log.journal.time;
}

-- ---- its tail

-- A block that is needed behind the flush: a live one that isn't home, and that it neither logs nor revokes.
pub record IsNeeded (log : LogValue) (f : Flush) (b : ℕ) (e : Entry) : Type 0 where
  pub live : table.get log.live b ≡ Some e
  pub away : is_home e.way ≡ false
  pub unlogged : table.contains_key f.versions b ≡ false
  pub unrevoked : set.contains f.revokes b ≡ false

abbrev pub NoneIsNeeded : LogValue → Flush → Type 0
NoneIsNeeded log f = (b : ℕ) (e : Entry) → IsNeeded log f b e → ⊥

-- how far behind the tail a place is
abbrev pub behind_tail : LogValue → ℕ → ℕ
behind_tail log place = way log.journal.length log.tail place

-- The tail that its header tells: where the oldest transaction begins that has a needed block; else where the flush itself does, if it logs any; else the header's own place.
pub data IsTail (log : LogValue) (f : Flush) : ℕ → Type 0 where
  of_oldest : (b : ℕ) (e : Entry) → IsNeeded log f b e → ((c : ℕ) (d : Entry) → IsNeeded log f c d → behind_tail log e.first ≤ behind_tail log d.first) → IsTail log f e.first
  of_itself : NoneIsNeeded log f → (f.versions ≡ table.empty → ⊥) → IsTail log f (first_place log)
  of_none : NoneIsNeeded log f → f.versions ≡ table.empty → IsTail log f (head_place log f)

-- ---- what becomes of live blocks

-- where a barrier was made, what was on its way is home
abbrev pub settled_way : Way → Way
settled_way Home = Home
settled_way (Away bytes) = Away bytes
settled_way (Flying bytes) = Home

abbrev pub settled : Option Entry → Option Entry
settled None = None
settled (Some e) = Some (record e { way = settled_way e.way })

-- an entry is left where its transaction doesn't begin before the new tail
abbrev pub left_from : LogValue → ℕ → Option Entry → Option Entry
left_from log tail None = None
left_from log tail (Some e) = if nat_lt (behind_tail log e.first) (behind_tail log tail) then None else Some e

-- the entry of a block that the flush logs
abbrev pub logged_over : Option Version → ℕ → Option Entry → Option Entry
logged_over None first e = e
logged_over (Some v) first e = Some (record { lock = v.lock; first = first; way = Away v.bytes })

-- What is live of a block once the flush is in the journal: what it logs, which isn't home; and of the rest what it doesn't revoke and its tail leaves.
abbrev pub live_behind : LogValue → Flush → ℕ → ℕ → Option Entry
live_behind log f tail b = logged_over (table.get f.versions b) (first_place log) (if set.contains f.revokes b then None else left_from log tail (table.get log.live b))

-- ---- its steps

abbrev pub at_stage : LogValue → Flush → Stage → LogValue
at_stage log f stage = record log { flush = Some (record f { stage = stage }) }

-- the block of the header that tells this tail
abbrev pub header_bytes : LogValue → Flush → ℕ → List ℕ
header_bytes log f tail = log_put (header_of (place_of log f tail) (head_place log f)) (zeros log.journal.size)

-- One step of a flush that was begun, and the block that is written: its chunks block by block, a barrier, its header, and a barrier, with which it is in the journal;
-- then of what was to be revoked since, what has no entry any more isn't.
pub data FlushStep (log new : LogValue) (f : Flush) (bytes : List ℕ) : LogStep → Type 0 where
  a_block : (k : ℕ) → f.stage ≡ Writing k → slice_get (flush_chunks log f) k ≡ Some bytes → new ≡ at_stage log f (Writing (k + 1))
      → FlushStep log new f bytes (step.Write (block_at log.journal (place_on log.journal.length (first_place log) k)))
  a_barrier : f.stage ≡ Writing (length (flush_chunks log f)) → new ≡ record (at_stage log f Ending) { live = new.live } → ((b : ℕ) → table.get new.live b ≡ settled (table.get log.live b))
      → FlushStep log new f bytes step.Barrier
  a_header : (tail : ℕ) → f.stage ≡ Ending → IsTail log f tail → bytes ≡ header_bytes log f tail → new ≡ at_stage log f (Headed tail)
      → FlushStep log new f bytes (step.Head (block_at log.journal (head_place log f)) (after log.sequence))
  the_last : (tail : ℕ) → f.stage ≡ Headed tail
      → new ≡ record log { head = head_place log f; tail = tail; sequence = after log.sequence; clean = false; gone = live_among new.live log.gone; flush = None; live = new.live }
      → ((b : ℕ) → table.get new.live b ≡ live_behind log f tail b)
      → FlushStep log new f bytes step.Barrier

-- What a call for the next step answers: nothing is to be flushed; or there is no room, since some live block isn't home; or a step of the flush that was begun, or begins now.
pub data FlushAnswer (log new : LogValue) (bytes : List ℕ) : Option LogStep → Type 0 where
  nothing : log.flush ≡ None → (IsDue log → ⊥) → NothingIsLive log ⊎ (AllAreHome log → ⊥) → new ≡ log → FlushAnswer log new bytes None
  no_room : log.flush ≡ None → IsDue log → (HasRoom log (due log) → ⊥) → (AllAreHome log → ⊥) → new ≡ log → FlushAnswer log new bytes (Some step.NoRoom)
  a_step : (m : LogValue) (f : Flush) (s : LogStep) → Begins log m → m.flush ≡ Some f → FlushStep m new f bytes s → FlushAnswer log new bytes (Some s)
