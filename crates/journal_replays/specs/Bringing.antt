-- Blocks that are brought to the disk, with their items.
use Rattle.std.specs.Prelude.{ℕ, ◌≡◌, List, ◌++◌, MatchOption, Option}
use Rattle.drafts.specs.declared.change.Written.{Written}
use Rattle.trace_text.specs.declared.item.TraceItem.{TraceItem}
use Rattle.disk_turns.specs.Turns.{BringsTo, Moment}
use Rattle.disk_turns.specs.declared.faults.TurnFault.{TurnFault}
use Rattle.journal_replays.specs.Crashes.{IsAtCrash, IsBeforeCrash, NoneFailed}
use Rattle.journal_replays.specs.Items.{items_of}
use Rattle.journal_replays.specs.Replays.{StopsBringing}

-- they are on it, and the items of that came behind those that were there
pub record HasBrought (node : ℕ) (before after : Moment) (blocks : List Written) (items items' : List TraceItem) : Type 0 where
  pub brings : BringsTo node before after blocks
  pub are : items' ≡ items ++ items_of brings.operations

-- so did those of what didn't fail
pub record HasStoppedBringing (node : ℕ) (before after : Moment) (blocks : List Written) (items items' : List TraceItem) (block : Option ℕ) : Type 0 where
  pub added : List TraceItem
  pub are : items' ≡ items ++ added
  pub stops : StopsBringing node before after blocks block added

-- the node crashed, and no write failed
pub record HasCrashedBringing (node : ℕ) (before after : Moment) (blocks : List Written) (items items' : List TraceItem) : Type 0 where
  pub block : Option ℕ
  pub stopped : HasStoppedBringing node before after blocks items items' block
  pub exactly : NoneFailed stopped.stops

-- where it is to crash at this write of the trace, it is directly behind it, the last of the items, where it crashed; and where the disk failed before it
abbrev pub StopsBringingByCrash : ℕ → Option ℕ → List TraceItem → TurnFault → Type 0
StopsBringingByCrash node crash items fault = MatchOption fault.rise (IsAtCrash node crash items) (λ r. IsBeforeCrash node crash items)
