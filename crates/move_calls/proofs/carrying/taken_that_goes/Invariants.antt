use Rattle.std.proofs.Common.{ℕ, ◌<◌}
use Rattle.std.specs.Prelude.{Contains, slice_index_or}
use Rattle.move_calls.proofs.carrying.taken_that_goes.Given as goal

abbrev pub invariant-loop-block : goal.invariant-loop-block
invariant-loop-block l = (k : ℕ) → k < l.block-index → Contains l.freed (slice_index_or l.room k 0) → ⊥
