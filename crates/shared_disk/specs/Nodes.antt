-- What a disk keeps for its nodes.
use Rattle.std.specs.Prelude.{ℕ, ◌≡◌, ◌*◌, ◌≤◌, Bool, false, List, [], length, replicate, slice_index, slice_index_or, slice_set, vec_capacity}
use Rattle.fault_counts.specs.Causes.{raised_once}
use Rattle.shared_disk.specs.Disk.{DiskState, Flight, AreFlights}
use Rattle.shared_disk.specs.Places.{flights_at, AreThere}
use Rattle.shared_disk.specs.declared.nodes.Queue.{Queue}

-- how many blocks of how many bytes there are; for each node its writes in flight, whether it is
-- fenced, and how often a call that is counted for it has failed
pub record NodeStates : Type 0 where
  pub count : ℕ
  pub size : ℕ
  pub flights : List (List Flight)
  pub fenced : List Bool
  pub faults : List ℕ

abbrev pub flights_of : List (List Flight) → ℕ → List Flight
flights_of flights node = slice_index_or flights node []

abbrev pub faults_of : NodeStates → ℕ → ℕ
faults_of n node = slice_index n.faults node

-- the state of a disk with these nodes and blocks
abbrev pub disk_of : Bool → (ℕ → List ℕ) → NodeStates → DiskState
disk_of tells block_at n = record {
  count = n.count;
  size = n.size;
  tells = tells;
  block_at = block_at;
  in_flight = λ node. flights_of n.flights node;
  is_fenced = λ node. slice_index_or n.fenced node false;
}

-- nothing is in flight, no node is fenced, and nothing has failed
abbrev pub fresh : ℕ → ℕ → NodeStates
fresh count size = record { count = count; size = size; flights = replicate 9 []; fenced = replicate 9 false; faults = replicate 9 0 }

abbrev pub with_flights : NodeStates → ℕ → List Flight → NodeStates
with_flights n node fs = record n { flights = slice_set n.flights node fs }

abbrev pub with_fence : NodeStates → ℕ → Bool → NodeStates
with_fence n node is_fenced = record n { fenced = slice_set n.fenced node is_fenced }

-- one more call that is counted for the node has failed
abbrev pub with_fault : NodeStates → ℕ → NodeStates
with_fault n node = record n { faults = slice_set n.faults node (raised_once (faults_of n node)) }

-- the writes in flight of a node
abbrev pub queued : ℕ → Queue → List Flight
queued size q = flights_at size q.bytes.items q.places.items

-- a queue has its bytes one after another, and room for 512 writes
pub record IsQueue (size : ℕ) (q : Queue) : Type 0 where
  pub whole : length q.bytes.items ≡ length q.places.items * size
  pub there : AreThere size q.bytes.items q.places.items
  pub few : length q.places.items ≤ 512
  pub room : 512 ≤ vec_capacity q.places
  pub bytes_room : 512 * size ≤ vec_capacity q.bytes

-- what holds of the nodes of every disk
pub record AreNodes (n : NodeStates) : Type 0 where
  pub queues : length n.flights ≡ 9
  pub fences : length n.fenced ≡ 9
  pub counts : length n.faults ≡ 9
  pub flights : (node : ℕ) → AreFlights n.count n.size (flights_of n.flights node)
  pub run_open : slice_index_or n.fenced 0 false ≡ false
