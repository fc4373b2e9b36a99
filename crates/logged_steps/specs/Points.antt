-- Where the run of one node with its log has come to.
use Rattle.std.specs.Prelude.{ℕ, ◌≡◌, ◌<◌, ◌++◌, suc, Bool, List, [], ◌∷◌, length, Option, None}
use Rattle.file_tree.specs.declared.call.Call.{Call}
use Rattle.file_tree.specs.declared.reply.Reply.{Reply}
use Rattle.image_model.specs.Image.{image_of}
use Rattle.journal_outcomes.specs.Disks.{flown_by}
use Rattle.log_values.specs.Log.{LogValue}
use Rattle.lone_ends.specs.States.{NodeState, Numbers}
use Rattle.lone_view.specs.Seeing.{Lone}
use Rattle.shared_disk.specs.Disk.{DiskState, Operation, flight_to}
use Rattle.trace_text.specs.declared.item.TraceItem.{TraceItem}
use Rattle.trace_text.specs.declared.item.TraceItem.TheVariants as trace

-- What has to come next: the commit of a flush that came into the journal, or the answer of a call for which too few blocks are free, which was told.
pub data Next : Type 0 where
  Anything : Next
  ItsCommit : Next
  ItsNoSpace : Call → ℕ → ℕ → Next

-- The disk, and its list of operations as far as it is told; the node's log, the blocks that it keeps, with what mounting told, and the numbers of its calls; the items so far; and whether it unmounts.
pub record Point : Type 0 where
  pub disk : DiskState
  pub list : Option (List Operation)
  pub log : LogValue
  pub view : Lone
  pub numbers : Numbers
  pub items : List TraceItem
  pub unmounts : Bool
  pub next : Next

-- what node 1 has there, on the image of the disk
abbrev pub state_of : Point → NodeState
state_of p = record { image = image_of p.disk; flying = flown_by p.disk 1; log = p.log; kept = p.view.blocks; numbers = p.numbers }

-- one more item
abbrev pub telling : Point → TraceItem → List TraceItem
telling p item = p.items ++ item ∷ []

-- that of its next call
abbrev pub call_item : Point → List ℕ → Call → Reply → TraceItem
call_item p name call reply = trace.Call 1 name (suc p.numbers.answered) call reply

-- a whole block of the disk, to which nothing of the node is in flight
pub record MayWrite (p : Point) (b : ℕ) (bytes : List ℕ) : Type 0 where
  pub inside : b < p.disk.count
  pub whole : length bytes ≡ p.disk.size
  pub free : flight_to (p.disk.in_flight 1) b ≡ None

-- an item that a step tells
abbrev pub IsOfRun : TraceItem → Type 0
IsOfRun (trace.Call node name number call reply) = node ≡ 1
IsOfRun (trace.Full node need free) = node ≡ 1
IsOfRun (trace.WriteLog node block) = node ≡ 1
IsOfRun (trace.WriteHead node block sequence upto) = node ≡ 1
IsOfRun (trace.WriteHome node block) = node ≡ 1
IsOfRun (trace.Barrier node) = node ≡ 1
IsOfRun (trace.Commit node sequence upto) = node ≡ 1
IsOfRun (trace.Unmount node) = node ≡ 1
IsOfRun _ = ⊥
