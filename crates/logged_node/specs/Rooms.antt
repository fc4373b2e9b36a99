-- How a node makes room in its journal, and brings into it what is due.
use Rattle.std.specs.Prelude.{◌≡◌, ◌≢◌, ◌<◌, ◌≤◌, ◌+◌, List, [], Option}
use Rattle.log_values.specs.Flushing.{IsDue}
use Rattle.log_values.specs.Transactions.{due}
use Rattle.shared_disk.specs.Disk.{DiskState, Operation}
use Rattle.trace_text.specs.declared.item.TraceItem.{TraceItem}
use Rattle.logged_node.specs.Flushing.{GoesBySteps, HasRoomForDue}
use Rattle.logged_node.specs.Homing.{SentSoFar, homes_in}
use Rattle.logged_node.specs.Nodes.{IsResting, KeepsView}
use Rattle.logged_node.specs.declared.node.Node.{Node}

-- The numbers of its calls are right: no call that changed anything is behind the last, and where the last such isn't in the journal, a block is changed that isn't flushed.
pub record IsCounted (n : Node) : Type 0 where
  pub changed : n.numbers.changed ≤ n.numbers.answered
  pub owing : n.numbers.low < n.numbers.changed → (due n.log).blocks ≢ []

-- Up to which call the journal has all: up to the last; or, where no block was changed, as before.
pub data HasCalls (n n' : Node) : Type 0 where
  all : n'.numbers.low ≡ n.numbers.answered → HasCalls n n'
  no_change : (due n.log).blocks ≡ [] → n'.numbers.low ≡ n.numbers.low → HasCalls n n'

-- Blocks go home in order, and only where there is no room for what is due.
pub record SentForRoom (n : Node) (items : List TraceItem) : Type 0 where
  pub order : SentSoFar n.log n.items.items items
  pub room : HasRoomForDue n.log → homes_in items ≡ homes_in n.items.items

-- Nothing is due any more, and the node rests.
pub record HasBroughtIn (d : DiskState) (list : Option (List Operation)) (n : Node) (d' : DiskState) (list' : Option (List Operation)) (n' : Node) : Type 0 where
  pub goes : GoesBySteps d list n d' list' n'
  pub resting : IsResting d' n'
  pub kept : KeepsView n n'
  pub sequence : n'.log.sequence ≤ n.log.sequence + 2
  pub none : IsDue n'.log → ⊥
  pub calls : HasCalls n n'
