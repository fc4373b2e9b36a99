-- A replay in which the node crashes behind a write.
use Rattle.std.specs.Prelude.{ℕ, ◌≡◌, ◌+◌, ◌<◌, true, List, [], ◌∷◌, ◌++◌, get_or, Option, None, Some}
use Rattle.std.specs.List.{count_by}
use Rattle.drafts.specs.declared.change.Written.{Written}
use Rattle.log_layout.specs.declared.log_header.LogHeader.{LogHeader}
use Rattle.peer_replay.specs.declared.planned.Plan.{Plan}
use Rattle.run_rules.specs.Follows.{is_write_of}
use Rattle.trace_text.specs.declared.item.TraceItem.{TraceItem}
use Rattle.disk_items.specs.Deeds.{AreTold}
use Rattle.disk_turns.specs.Turns.{Moment}
use Rattle.journal_replays.specs.Headers.{clean_block}
use Rattle.journal_replays.specs.Replays.{StopsBringing, StopsReplay, at_header, at_home}
use Rattle.journal_replays.specs.declared.faults.ReplayFault.{ReplayFault}
use Rattle.journal_replays.specs.declared.faults.ReplayFault.TheVariants.{Crashed, DiskFailed, NoMemory}

-- ---- where it crashes

-- how many of its writes these items tell
abbrev pub writes_in : ℕ → List TraceItem → ℕ
writes_in node items = count_by (is_write_of node) items

-- which write of the trace it is at which it is to crash, where so many are left to be made, that one among them
abbrev pub crash_of : ℕ → Option ℕ → List TraceItem → Option ℕ
crash_of node None items = None
crash_of node (Some left) items = Some (writes_in node items + left)

-- it is behind that write, the last of these items
pub record IsAtCrash (node : ℕ) (crash : Option ℕ) (items : List TraceItem) : Type 0 where
  pub before : List TraceItem
  pub it : TraceItem
  pub told : items ≡ before ++ it ∷ []
  pub write : is_write_of node it ≡ true
  pub is : crash ≡ Some (writes_in node items)

-- it hasn't come to it
abbrev pub IsBeforeCrash : ℕ → Option ℕ → List TraceItem → Type 0
IsBeforeCrash node crash items = (k : ℕ) → crash ≡ Some k → writes_in node items < k

-- so it stops: directly behind that write where it crashed, and else before it
abbrev pub StopsByCrash : ℕ → Option ℕ → List TraceItem → ReplayFault → Type 0
StopsByCrash node crash items Crashed = IsAtCrash node crash items
StopsByCrash node crash items (DiskFailed block rise) = IsBeforeCrash node crash items
StopsByCrash node crash items NoMemory = IsBeforeCrash node crash items

-- ---- what it leaves

-- what was written of the turn in which it stopped is in flight, and nothing else
abbrev pub NoneFailed : {node : ℕ} {before after : Moment} {blocks : List Written} {block : Option ℕ} {items : List TraceItem} → StopsBringing node before after blocks block items → Type 0
NoneFailed is = is.stopped.stopped.flying ≡ is.stopped.stopped.wrote

abbrev pub NoneFailedIn : {node : ℕ} {before after : Moment} {home : List Written} {header : Written} {block : Option ℕ} {items : List TraceItem} → StopsReplay node before after home header block items → Type 0
NoneFailedIn (at_home is) = NoneFailed is
NoneFailedIn (at_header between homes more is told) = NoneFailed is

-- It stopped as on a disk that failed at this block, or at a barrier (no block), which comes next; but nothing of that is in flight, and the list of the disk gained
-- what the items tell.
pub record HasCrashed (node slot dinode : ℕ) (blocks : List ℕ) (time : ℕ) (before after : Moment) (p : Plan) (items items' : List TraceItem) : Type 0 where
  pub block : Option ℕ
  pub header : LogHeader
  pub has : p.clean ≡ Some header
  pub added : List TraceItem
  pub are : items' ≡ items ++ added
  pub stopped : StopsReplay node before after p.home.items (clean_block before.disk.size (get_or blocks header.blkno 0) slot dinode time header) block added
  pub exactly : NoneFailedIn stopped
  pub told : AreTold before.list after.list added
