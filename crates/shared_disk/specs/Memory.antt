-- What a disk in memory holds, and what its calls answer.
use Rattle.std.specs.Prelude.{ℕ, ◌≡◌, ◌==◌, Bool, true, false, List, slice_index_or, Option, Result, Ok, Err, if◌then◌else◌}
use Rattle.std.specs.List.{list_any}
use Rattle.fault_counts.specs.Causes.{raised_once}
use Rattle.shared_disk.specs.Blocks.{block_in}
use Rattle.shared_disk.specs.Disk.{DiskState, Flight, Operation}
use Rattle.shared_disk.specs.Nodes.{NodeStates, disk_of, flights_of}
use Rattle.shared_disk.specs.Outcomes.{became}
use Rattle.shared_disk.specs.declared.disk.Settle.{Settle}
use Rattle.shared_disk.specs.declared.disk.DiskError.{DiskError}
use Rattle.shared_disk.specs.declared.disk.DiskError.TheVariants.{Failed, Fenced}
use Rattle.shared_disk.specs.declared.outcomes.Outcome.{Outcome}

-- what there is for the nodes, the blocks one after another, how many calls were made, which of them
-- fail, the outcomes that are left, below how many entries the list is told, and the list
pub record MemoryDisk : Type 0 where
  pub nodes : NodeStates
  pub bytes : List ℕ
  pub calls : ℕ
  pub fails : List ℕ
  pub outcomes : List Outcome
  pub recorded : ℕ
  pub list : Option (List Operation)

abbrev pub memory_state : MemoryDisk → DiskState
memory_state d = disk_of true (block_in d.nodes.size d.bytes) d.nodes

-- what the writes in flight of a node become at its fence
abbrev pub fence_makes : MemoryDisk → ℕ → Settle → List Flight
fence_makes d node order = became order d.outcomes (block_in d.nodes.size d.bytes) (flights_of d.nodes.flights node)

-- the next call is one of those that fail
abbrev pub fails_next : MemoryDisk → Bool
fails_next d = list_any (λ call. call == raised_once d.calls) d.fails

-- what a call that is counted for this node answers; a fence and an admission are node 0's
abbrev pub answer : MemoryDisk → ℕ → Result (Unit {0}) DiskError
answer d node = if slice_index_or d.nodes.fenced node false then Err Fenced else if fails_next d then Err Failed else Ok tt

-- the disk once a call was counted
abbrev pub counted : MemoryDisk → MemoryDisk
counted d = record d { calls = raised_once d.calls }

-- one more call was made, and what was chosen at the start stays
pub record CountsCall (old new : MemoryDisk) : Type 0 where
  pub calls : new.calls ≡ raised_once old.calls
  pub fails : new.fails ≡ old.fails
  pub recorded : new.recorded ≡ old.recorded

-- what the disk tells has not changed
pub record TellsTheSame (old new : MemoryDisk) : Type 0 where
  pub state : memory_state new ≡ memory_state old
  pub list : new.list ≡ old.list
  pub outcomes : new.outcomes ≡ old.outcomes
