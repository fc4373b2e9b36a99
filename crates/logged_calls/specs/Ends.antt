-- How a node ends that doesn't answer a call.
use Rattle.std.specs.Prelude.{ℕ, ◌≡◌, ◌+◌, ◌<◌, ◌≤◌, ⊤, false, List, Option}
use Rattle.fault_counts.specs.Causes.{WentUp}
use Rattle.fault_counts.specs.declared.Rise.{Rise}
use Rattle.drafts.specs.declared.change.Change.{Change}
use Rattle.file_tree.specs.declared.call.Call.{Call}
use Rattle.file_tree.specs.declared.reply.Reply.{Reply}
use Rattle.image_changes.specs.Does.{is_nothing}
use Rattle.lone_answers.specs.Answers.{IsDoneBy}
use Rattle.lone_answers.specs.Reading.{HasRead}
use Rattle.lone_answers.specs.declared.answers.Unanswered.{Unanswered}
use Rattle.lone_answers.specs.declared.answers.Unanswered.TheVariants as why
use Rattle.shared_disk.specs.Disk.{DiskState, Operation}
use Rattle.trace_text.specs.declared.item.TraceItem.{TraceItem}
use Rattle.logged_answers.specs.Fails.{FailsTo}
use Rattle.logged_answers.specs.Points.{Anything, Point}
use Rattle.logged_answers.specs.Steps.{Steps}
use Rattle.logged_node.specs.Ends as node
use Rattle.logged_node.specs.Flushing.{GoesBySteps}
use Rattle.logged_node.specs.Nodes.{IsLeftAs, StopsByCrash, crash_at, point_of}
use Rattle.logged_node.specs.declared.ends.Stop.{Stop}
use Rattle.logged_node.specs.declared.ends.Stop.TheVariants as stop
use Rattle.logged_node.specs.declared.node.Node.{Node}
use Rattle.logged_calls.specs.Adding.{IsCrowded, IsLoggable}
use Rattle.logged_calls.specs.Calls.{IsReady, TellsNoCall, most_headers}
use Rattle.logged_calls.specs.declared.ends.CallEnd.{CallEnd}
use Rattle.logged_calls.specs.declared.ends.CallEnd.TheVariants as end

-- ---- which end

-- a fact of a block of which a read failed, and of the rise
abbrev pub IfReadFailed : CallEnd → (ℕ → Rise → Type 0) → Type 0
IfReadFailed (end.ReadFailed block rise) P = P block rise
IfReadFailed e P = ⊤

-- a fact of a block and the rule that it breaks
abbrev pub IfDamaged : CallEnd → (ℕ → ℕ → Type 0) → Type 0
IfDamaged (end.Damaged block rule) P = P block rule
IfDamaged e P = ⊤

abbrev pub IfNotBuilt : CallEnd → Type 0 → Type 0
IfNotBuilt end.NotBuilt P = P
IfNotBuilt e P = ⊤

abbrev pub IfTooSmall : CallEnd → Type 0 → Type 0
IfTooSmall end.LogTooSmall P = P
IfTooSmall e P = ⊤

abbrev pub IfNotLoggable : CallEnd → Type 0 → Type 0
IfNotLoggable end.NotLoggable P = P
IfNotLoggable e P = ⊤

-- how it ends at a call that isn't answered for this
abbrev pub end_at : Unanswered → CallEnd
end_at (why.DiskFailed block rise) = end.ReadFailed block rise
end_at (why.Damaged block rule) = end.Damaged block rule
end_at why.NotBuilt = end.NotBuilt
end_at why.NoMemory = end.Stopped stop.NoMemory

-- it ends behind its answer, which it has
abbrev pub HasItsAnswer : CallEnd → Type 0
HasItsAnswer (end.Stopped why) = ⊤
HasItsAnswer end.LogTooSmall = ⊤
HasItsAnswer end.NotLoggable = ⊤
HasItsAnswer e = ⊥

-- ---- their causes

-- a failing disk is told only where node 1's count rose so, and a block only of the disk
abbrev pub HasCause : (count : ℕ) → (before now : ℕ → ℕ) → CallEnd → Type 0
HasCause count before now (end.Stopped why) = node.HasCause count before now why
HasCause count before now (end.ReadFailed block rise) = WentUp (before 1) (now 1) rise.before rise.after × (block < count)
HasCause count before now e = ⊤

-- the log has no room for what the call changes, though all that was changed before is flushed and home, and nothing live in its journal
pub record IsTooSmallFor (p : Point) (time : ℕ) (call : Call) : Type 0 where
  pub reply : Reply
  pub change : Change
  pub done : IsDoneBy p.view time call reply change
  pub crowded : IsCrowded p.log change

-- the call changes what no log of its blocks' size takes
pub record IsUnloggableFor (p : Point) (time : ℕ) (call : Call) : Type 0 where
  pub reply : Reply
  pub change : Change
  pub done : IsDoneBy p.view time call reply change
  pub changes : is_nothing change ≡ false
  pub not : IsLoggable p.log.journal.size change → ⊥

-- ---- where

-- It is at a point to which it came by steps, on which it told no call, and may take a call still; it has read what the call asks for.
pub record EndsUntold (d : DiskState) (list : Option (List Operation)) (n : Node) (d' : DiskState) (list' : Option (List Operation)) (n' : Node) : Type 0 where
  pub goes : GoesBySteps d list n d' list' n'
  pub ready : IsReady d' n'
  pub read : HasRead d n.view n'.view
  pub answered : n'.numbers.answered ≡ n.numbers.answered
  pub tells : TellsNoCall n.items.items n'.items.items
  pub sequence : n'.log.sequence ≤ n.log.sequence + most_headers

-- It came by steps to a point, on which it told no call, and is there still; or the disk failed in a write of the step that would come next, which may be in flight, and of which no item tells. So it leaves
-- the disk, its list and the items; and only where it crashed is it behind the write at which it was to.
pub record StopsUntold (d : DiskState) (list : Option (List Operation)) (n : Node) (d' : DiskState) (list' : Option (List Operation)) (items : List TraceItem) (why : Stop) : Type 0 where
  pub last : Point
  pub left : Point
  pub steps : (time : ℕ) → Steps time (point_of d list n) last
  pub fails : (time : ℕ) → FailsTo time last left
  pub exactly : IsLeftAs last left why
  pub disk : left.disk ≡ d'
  pub listed : left.list ≡ list'
  pub told : left.items ≡ items
  pub read : HasRead d n.view last.view
  pub answered : last.numbers.answered ≡ n.numbers.answered
  pub next : last.next ≡ Anything
  pub unmounts : last.unmounts ≡ false
  pub tells : TellsNoCall n.items.items items
  pub sequence : last.log.sequence ≤ n.log.sequence + most_headers
  pub crashes : StopsByCrash (crash_at n) items why

-- so at each end
abbrev pub EndsBehind : (d : DiskState) → (list : Option (List Operation)) → Node → (d' : DiskState) → (list' : Option (List Operation)) → Node → CallEnd → Type 0
EndsBehind d list n d' list' n' (end.Stopped why) = StopsUntold d list n d' list' n'.items.items why
EndsBehind d list n d' list' n' e = EndsUntold d list n d' list' n'
