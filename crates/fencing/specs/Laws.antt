-- What holds of every set of nodes.
use Rattle.std.specs.Prelude.{ℕ, ◌≡◌, ◌≢◌, ◌<◌, true, false}
use Rattle.fencing.specs.NodeSets.{has, with_node, without_node}

-- a set with a node has it, and else what it had
abbrev pub AddsOne : Type 0
AddsOne = (set node other : ℕ) → (has (with_node set node) node ≡ true) × (other ≢ node → has (with_node set node) other ≡ has set other)

-- a set without a node doesn't have it, and else has what it had
abbrev pub TakesOne : Type 0
TakesOne = (set node other : ℕ) → node < 16 → other < 16
    → (has (without_node set node) node ≡ false) × (other ≢ node → has (without_node set node) other ≡ has set other)
