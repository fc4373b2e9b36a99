-- That what always holds of a log holds still, whatever is done.
use Rattle.std.specs.Prelude.{◌≡◌, ◌<◌, ◌≤◌, ℕ, true, List, length, Option, None}
use Rattle.std.specs.FinMap as table
use Rattle.log_values.specs.Blocks as set
use Rattle.gfs2_layout.specs.Device.{IsBlockSize}
use Rattle.glock_names.specs.declared.LockName.{LockName}
use Rattle.drafts.specs.declared.change.Change.{Change}
use Rattle.log_values.specs.Log.{Journal, LogValue}
use Rattle.log_values.specs.Changes.{CanBeAdded, Suffices, with_change}
use Rattle.log_values.specs.Flushing.{AllAreHome, FlushAnswer, IsDue}
use Rattle.log_values.specs.Homing.{HomeAnswer, RevokesUnder, Settles}
use Rattle.log_values.specs.Sound.{IsSoundLog}
use Rattle.log_values.specs.declared.steps.LogStep.{LogStep}

-- an empty log, whose journal has this head, a clean one
abbrev pub empty_log : Journal → ℕ → ℕ → LogValue
empty_log journal head sequence = record { journal = journal; head = head; tail = head; sequence = sequence; clean = true; fresh = table.empty; gone = set.empty; flush = None; live = table.empty }

-- a journal that a log may have
pub record IsJournal (journal : Journal) : Type 0 where
  pub size : IsBlockSize journal.size
  pub least : 512 ≤ journal.length
  pub most : journal.length ≤ 65536
  pub places : length journal.places ≡ journal.length
  pub few : journal.frames ≤ 4096

abbrev pub EmptyIsSound : Type 0
EmptyIsSound = (journal : Journal) (head sequence : ℕ) → IsJournal journal → head < journal.length → IsSoundLog (empty_log journal head sequence)

abbrev pub ChangeKeeps : Type 0
ChangeKeeps = (log : LogValue) (c : Change) → IsSoundLog log → CanBeAdded log.journal.size c → Suffices (with_change log c) → IsSoundLog (with_change log c)

abbrev pub FlushKeeps : Type 0
FlushKeeps = (log new : LogValue) (bytes : List ℕ) (answer : Option LogStep) → IsSoundLog log → FlushAnswer log new bytes answer → IsSoundLog new

abbrev pub HomingKeeps : Type 0
HomingKeeps = (log new : LogValue) (lock : LockName) (bytes : List ℕ) (answer : Option LogStep) → IsSoundLog log → HomeAnswer log new lock bytes answer → IsSoundLog new

abbrev pub SettlingKeeps : Type 0
SettlingKeeps = (log new : LogValue) → IsSoundLog log → Settles log new → IsSoundLog new

abbrev pub RevokingKeeps : Type 0
RevokingKeeps = (log new : LogValue) (lock : LockName) → IsSoundLog log → RevokesUnder log new lock → IsSoundLog new

-- no more blocks are live than the journal has places
abbrev pub LiveFits : Type 0
LiveFits = (log : LogValue) → IsSoundLog log → table.len log.live < log.journal.length

-- ---- what an empty log takes

-- nothing is to be flushed, no flush was begun, and all that is live is home
pub record IsAtRest (log : LogValue) : Type 0 where
  pub flushed : IsDue log → ⊥
  pub idle : log.flush ≡ None
  pub home : AllAreHome log

-- A log at rest has room for a change of at most 375 blocks, whatever it frees, with 512 frames and at most 512 live blocks: in a journal of 512 places there are never more, and behind a header
-- alone there is none. Of 376 blocks some may need 401.
abbrev pub SmallChangesFit : Type 0
SmallChangesFit = (log : LogValue) (c : Change) → IsSoundLog log → CanBeAdded log.journal.size c → IsAtRest log → 512 ≤ log.journal.frames → table.len log.live ≤ 512 → length c.blocks.items ≤ 375
    → Suffices (with_change log c)
