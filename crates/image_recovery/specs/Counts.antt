-- How many blocks the replay of a journal puts home, and how its items tell that number.
use Rattle.std.specs.Prelude.{ℕ, ◌≡◌, ◌+◌, ◌↔◌, Bool, true, false, List, Contains, Some, count_by, length, map}
use Rattle.std.specs.List.Sorted.{IsStrictlyIncreasing}
use Rattle.disk_turns.specs.Turns.{Moment}
use Rattle.drafts.specs.declared.change.Written.{Written}
use Rattle.image_replays.specs.Replays.{IsWritable}
use Rattle.journal_plans.specs.Plans.{IsPlanOf}
use Rattle.journal_replays.specs.Replays.{IsReplayBy}
use Rattle.log_layout.specs.Journal.{Ring}
use Rattle.log_layout.specs.Live.{live_in}
use Rattle.log_layout.specs.declared.log_header.LogHeader.{LogHeader}
use Rattle.peer_replay.specs.declared.planned.Plan.{Plan}
use Rattle.shared_disk.specs.Disk.{DiskState}
use Rattle.trace_text.specs.declared.item.TraceItem.{TraceItem}
use Rattle.trace_text.specs.declared.item.TraceItem.TheVariants.{WriteReplay}

-- these are the blocks that are live in the journal, each once
pub record AreLive (ring : Ring) (blocks : List ℕ) : Type 0 where
  pub rise : IsStrictlyIncreasing blocks
  pub are : (b : ℕ) → Contains blocks b ↔ ((bytes : List ℕ) × (live_in ring b ≡ Some bytes))

-- the blocks that a plan puts home
abbrev pub homes_of : Plan → List ℕ
homes_of p = map (λ (w : Written). w.block) p.home.items

-- how many these are
abbrev pub home_count : Plan → ℕ
home_count p = length (homes_of p)

-- the item tells of a block that a replay writes
abbrev pub is_replay_write : TraceItem → Bool
is_replay_write (WriteReplay node block) = true
is_replay_write _ = false

-- What the plan of a journal puts home, where it can be written, are the blocks that are live in the journal.
abbrev pub PlansPutWhatIsLive : Type 0
PlansPutWhatIsLive = (d : DiskState) (ring : Ring) (p : Plan) → IsWritable d p → IsPlanOf ring p → AreLive ring (homes_of p)

-- The items of a replay tell one write more than the blocks that it puts home: that of its header.
abbrev pub ReplaysTellTheirCount : Type 0
ReplaysTellTheirCount =
    (node slot dinode : ℕ) (blocks : List ℕ) (time : ℕ) (before after : Moment) (p : Plan) (header : LogHeader) (items : List TraceItem) → p.clean ≡ Some header
    → IsReplayBy node slot dinode blocks time before after p items → count_by is_replay_write items ≡ home_count p + 1
