-- What a fence and a barrier make of the image on a disk.
use Rattle.std.specs.Prelude.{ℕ, ◌≡◌, ◌≢◌, IsTrue, List, [], Some}
use Rattle.image_model.specs.Image.{image_of}
use Rattle.image_model.specs.Stands.{Layout}
use Rattle.shared_disk.specs.Disk.{DiskState, Flight, IsOutcome, IsSound, after_barrier, after_fence, flight_to}
use Rattle.journal_outcomes.specs.Images.{IsImageOutcome, NoFalseHeader}
use Rattle.journal_outcomes.specs.Rings.{InFlight}

-- what a node has in flight to the blocks
abbrev pub flown_by : DiskState → ℕ → InFlight
flown_by s node = flight_to (s.in_flight node)

-- of this node nothing is in flight any more, and of each other one what was
pub record OneHasSettled (before after : DiskState) (node : ℕ) : Type 0 where
  pub none : after.in_flight node ≡ []
  pub others : (other : ℕ) → other ≢ node → after.in_flight other ≡ before.in_flight other

-- The fence of a node leaves an outcome of the image with this node's writes in flight: each has become a whole block.
pub record FenceLeavesOutcome (s : DiskState) (node : ℕ) (became : List Flight) : Type 0 where
  pub outcome : IsImageOutcome (image_of s) (flown_by s node) (image_of (after_fence s node became))
  pub settled : OneHasSettled s (after_fence s node became) node

abbrev pub FencesLeaveOutcomes : Type 0
FencesLeaveOutcomes = (s : DiskState) (node : ℕ) (became : List Flight) → IsTrue s.tells → IsOutcome s node became → FenceLeavesOutcome s node became

-- A barrier leaves the outcome in which each write of the node is in its place, and there is no false header.
pub record BarrierLeavesAll (s : DiskState) (node : ℕ) : Type 0 where
  pub outcome : IsImageOutcome (image_of s) (flown_by s node) (image_of (after_barrier s node))
  pub new : (b : ℕ) (bytes : List ℕ) → flown_by s node b ≡ Some bytes → (after_barrier s node).block_at b ≡ bytes
  pub true_headers : (l : Layout) → NoFalseHeader (image_of s) l (flown_by s node) (image_of (after_barrier s node))
  pub settled : OneHasSettled s (after_barrier s node) node

abbrev pub BarriersLeaveAll : Type 0
BarriersLeaveAll = (s : DiskState) (node : ℕ) → IsTrue s.tells → IsSound s → BarrierLeavesAll s node
