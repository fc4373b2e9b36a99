-- What always holds of a log.
use Rattle.std.specs.Prelude.{◌≡◌, ℕ, ◌+◌, ◌<◌, ◌≤◌, true, length, nat_le, None, Some, count_by, ⊤}
use Rattle.std.specs.FinMap as table
use Rattle.log_values.specs.Blocks as set
use Rattle.gfs2_layout.specs.Device.{IsBlockSize}
use Rattle.log_layout.specs.Journal.{way}
use Rattle.node_journal.specs.Written.{IsLoggable}
use Rattle.log_values.specs.Log.{Entry, Flush, LogValue, Stage, Version}
use Rattle.log_values.specs.Log.Stage.{Ending, Headed, Writing}
use Rattle.log_values.specs.Changes.{frames_taken, has_entry}
use Rattle.log_values.specs.Flushing.{AllAreHome, HasRoom, IsTail, NothingIsLive, behind_tail, flush_chunks, free_in, settled_way}
use Rattle.log_values.specs.Transactions.{flushed_as, logged_as}

-- how many places are behind the tail, up to the head
abbrev pub used : LogValue → ℕ
used log = way log.journal.length log.tail log.head

-- how many live blocks have entries in transactions that begin so far behind the tail, or further
abbrev pub live_from : LogValue → ℕ → ℕ
live_from log distance = count_by (λ (e : ℕ × Entry). nat_le distance (behind_tail log e.1.first)) (table.entries log.live)

-- What a flush that was begun has: places enough, and one more, which it leaves; or it is a header alone, and all that is live is home.
pub data Fits (log : LogValue) (f : Flush) : Type 0 where
  with_room : HasRoom log (flushed_as f) → Fits log f
  alone : f.versions ≡ table.empty → f.revokes ≡ set.empty → AllAreHome log → 1 ≤ free_in log → Fits log f

-- its first barrier is made
abbrev pub IsBehindBarrier : Stage → Type 0
IsBehindBarrier (Writing done) = ⊥
IsBehindBarrier Ending = ⊤
IsBehindBarrier (Headed t) = ⊤

pub record IsSoundLog (log : LogValue) : Type 0 where
  pub size : IsBlockSize log.journal.size
  pub least : 512 ≤ log.journal.length
  pub most : log.journal.length ≤ 65536
  pub places : length log.journal.places ≡ log.journal.length
  pub few : log.journal.frames ≤ 4096
  -- head and tail are places, and at least one place is free
  pub head : log.head < log.journal.length
  pub tail : log.tail < log.journal.length
  pub free : 1 ≤ free_in log
  -- a live block's transaction begins between tail and head; and each takes a place for each block that it logs and one for its header
  pub firsts : (b : ℕ) (e : Entry) → table.get log.live b ≡ Some e → (e.first < log.journal.length) × (behind_tail log e.first < used log)
  pub room : (distance : ℕ) → distance ≤ used log → live_from log distance + distance ≤ used log
  pub none : NothingIsLive log → log.tail ≡ log.head
  -- what is to be revoked has an entry, or gets one; and isn't changed
  pub gone : (b : ℕ) → set.contains log.gone b ≡ true → has_entry log b ≡ true
  pub apart : (b : ℕ) → set.contains log.gone b ≡ true → table.get log.fresh b ≡ None
  -- what was changed may be logged, and so is what the flush logs that was begun; the frames suffice for all of it
  pub fresh : (b : ℕ) (v : Version) → table.get log.fresh b ≡ Some v → IsLoggable log.journal.size (logged_as b v)
  pub flushed : (f : Flush) (b : ℕ) (v : Version) → log.flush ≡ Some f → table.get f.versions b ≡ Some v → IsLoggable log.journal.size (logged_as b v)
  pub frames : frames_taken log ≤ log.journal.frames
  -- of the flush: it fits; what it revokes is live and not logged; and how far it has come is a place in it
  pub fits : (f : Flush) → log.flush ≡ Some f → Fits log f
  pub revoked : (f : Flush) (b : ℕ) → log.flush ≡ Some f → set.contains f.revokes b ≡ true → (table.contains_key log.live b ≡ true) × (table.get f.versions b ≡ None)
  pub reached : (f : Flush) (done : ℕ) → log.flush ≡ Some f → f.stage ≡ Writing done → done ≤ length (flush_chunks log f)
  pub told : (f : Flush) (t : ℕ) → log.flush ≡ Some f → f.stage ≡ Headed t → IsTail log f t
  -- behind the first barrier of a flush nothing is on its way home
  pub rests : (f : Flush) (b : ℕ) (e : Entry) → log.flush ≡ Some f → IsBehindBarrier f.stage → table.get log.live b ≡ Some e → settled_way e.way ≡ e.way
