-- What is told of a node that stopped as it brought blocks to a disk: the disk failed, or the node crashed.
use Rattle.std.specs.Prelude.{ℕ, ◌≡◌, ◌<◌, List, length, IfNone, IfSome, Option}
use Rattle.drafts.specs.declared.change.Written.{Written}
use Rattle.fault_counts.specs.Causes.{WentUp}
use Rattle.fault_counts.specs.declared.Rise.{Rise}
use Rattle.disk_turns.specs.Turns.{HasStopped, HasStoppedIn, Moment}
use Rattle.disk_turns.specs.declared.faults.TurnFault.{TurnFault}

-- where the disk failed, the node's count rose so, and a block is one of the disk, which has so many
pub record IsCause (node count : ℕ) (before now : ℕ → ℕ) (told : Option ℕ) (r : Rise) : Type 0 where
  pub rise : WentUp (before node) (now node) r.before r.after
  pub block : IfSome told (λ b. b < count)

abbrev pub HasCause : (node count : ℕ) (before now : ℕ → ℕ) → TurnFault → Type 0
HasCause node count before now fault = IfSome fault.rise (IsCause node count before now fault.block)

-- It stopped there, and the fault tells how many blocks are on the disk, and how many had been written in the turn behind them; where it crashed, these are in
-- flight, and nothing else.
pub record HasStoppedAs (node : ℕ) (before after : Moment) (blocks : List Written) (fault : TurnFault) : Type 0 where
  pub stopped : HasStopped node before after blocks fault.block
  pub on_disk : fault.on_disk ≡ length stopped.done
  pub in_flight : fault.in_flight ≡ length stopped.stopped.wrote
  pub exactly : IfNone fault.rise (stopped.stopped.flying ≡ stopped.stopped.wrote)

-- the same within a turn
pub record HasStoppedInAs (node : ℕ) (before after : Moment) (some : List Written) (fault : TurnFault) : Type 0 where
  pub stopped : HasStoppedIn node before after some fault.block
  pub in_flight : fault.in_flight ≡ length stopped.wrote
  pub exactly : IfNone fault.rise (stopped.flying ≡ stopped.wrote)
