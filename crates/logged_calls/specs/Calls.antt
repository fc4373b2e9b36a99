-- A call, answered by a node with its log.
use Rattle.std.specs.Prelude.{ℕ, ◌≡◌, ◌+◌, ◌≤◌, ◌++◌, suc, false, List, [], ◌∷◌, Option}
use Rattle.std.specs.List.{filter}
use Rattle.file_tree.specs.declared.call.Call.{Call}
use Rattle.file_tree.specs.declared.reply.Reply.{Reply}
use Rattle.file_tree.specs.declared.reply.Reply.TheVariants as replies
use Rattle.drafts.specs.declared.change.Change.{Change}
use Rattle.lone_answers.specs.Answers.{IsDoneBy, IsSpaceless}
use Rattle.lone_answers.specs.Reading.{HasRead}
use Rattle.lone_scripts.specs.Runs.{is_call}
use Rattle.lone_view.specs.Seeing.{Lone}
use Rattle.shared_disk.specs.Disk.{DiskState, Operation}
use Rattle.trace_text.specs.declared.item.TraceItem.{TraceItem}
use Rattle.trace_text.specs.declared.item.TraceItem.TheVariants as trace
use Rattle.logged_answers.specs.Steps.{Steps}
use Rattle.logged_node.specs.Flushing.{GoesBySteps}
use Rattle.logged_node.specs.Nodes.{IsBeforeCrash, IsResting, IsSameDisk, KeepsView, crash_at, point_of}
use Rattle.logged_node.specs.Rooms.{IsCounted}
use Rattle.logged_node.specs.declared.node.Node.{Node}

-- it may take a call: it rests, the numbers of its calls are right, and it doesn't unmount
pub record IsReady (d : DiskState) (n : Node) : Type 0 where
  pub resting : IsResting d n
  pub counted : IsCounted n
  pub mounted : n.unmounts ≡ false

-- how many headers come into its journal at most for one call: one that makes room for what is due, that with what is due, and one that makes room for what the call changes
abbrev pub most_headers : ℕ
most_headers = 3

-- ---- on the way to an answer

-- it has read what the call asks for, and is as it was besides, and so is the disk
pub record HasLooked (d : DiskState) (list : Option (List Operation)) (n : Node) (d' : DiskState) (list' : Option (List Operation)) (n' : Node) : Type 0 where
  pub goes : GoesBySteps d list n d' list' n'
  pub ready : IsReady d' n'
  pub read : HasRead d n.view n'.view
  pub node : n' ≡ record n { view = n'.view }
  pub disk : d' ≡ d
  pub list_is : list' ≡ list

-- it has flushed, or taken blocks home, by so many headers at most
pub record HasMoved (most : ℕ) (d : DiskState) (list : Option (List Operation)) (n : Node) (d' : DiskState) (list' : Option (List Operation)) (n' : Node) : Type 0 where
  pub goes : GoesBySteps d list n d' list' n'
  pub ready : IsReady d' n'
  pub kept : KeepsView n n'
  pub sequence : n'.log.sequence ≤ n.log.sequence + most

-- ---- its items

-- these items came, and none of them is a call
pub record TellsNoCall (items items' : List TraceItem) : Type 0 where
  pub more : List TraceItem
  pub told : items' ≡ items ++ more
  pub none : filter is_call more ≡ []

-- The item of a call of this number: with its reply, as the view shows it; or, where too few blocks are free, behind an item that tells how many are.
pub data IsAnswer (view : Lone) (time : ℕ) (name : List ℕ) (call : Call) (number : ℕ) : List TraceItem → Type 0 where
  as_done : (reply : Reply) (change : Change) → IsDoneBy view time call reply change → IsAnswer view time name call number (trace.Call 1 name number call reply ∷ [])
  no_space : (need free : ℕ) → IsSpaceless view call need free → IsAnswer view time name call number (trace.Full 1 need free ∷ trace.Call 1 name number call replies.NoSpace ∷ [])

-- behind items of what the node did until then, none of which is a call
pub record TellsCall (view : Lone) (time : ℕ) (name : List ℕ) (call : Call) (number : ℕ) (items items' : List TraceItem) : Type 0 where
  pub before : List TraceItem
  pub did : TellsNoCall items before
  pub last : List TraceItem
  pub answer : IsAnswer view time name call number last
  pub told : items' ≡ before ++ last

-- ---- its answer

-- It has answered the call, with the next number, by steps of this time, over what it had and read; it may take the next one, and hasn't come to the write at which it is to crash.
pub record HasTaken (time : ℕ) (name : List ℕ) (call : Call) (d : DiskState) (list : Option (List Operation)) (n : Node) (d' : DiskState) (list' : Option (List Operation)) (n' : Node) : Type 0 where
  pub steps : Steps time (point_of d list n) (point_of d' list' n')
  pub disk : IsSameDisk d d'
  pub ready : IsReady d' n'
  pub armed : crash_at n' ≡ crash_at n
  pub before : IsBeforeCrash (crash_at n) n'.items.items
  pub view : Lone
  pub read : HasRead d n.view view
  pub tells : TellsCall view time name call (suc n.numbers.answered) n.items.items n'.items.items
  pub answered : n'.numbers.answered ≡ suc n.numbers.answered
  pub journal : n'.log.journal ≡ n.log.journal
  pub sequence : n'.log.sequence ≤ n.log.sequence + most_headers
