use Rattle.std.proofs.Common.{ℕ, ◌+◌}
use Rattle.turn_table.specs.Sitting.{SameSeat, HasSeen}
use Rattle.turn_pairs.specs.Pairs.{HasReached}
use Rattle.turn_pairs.proofs.raise_pairs.Given as goal

abbrev pub invariant-loop-done : goal.invariant-loop-done
invariant-loop-done g l = record {
  same : SameSeat l.initial.chair l.chair;
  kept : (p x : ℕ) → HasSeen l.initial.chair p x → HasSeen l.chair p x;
  reached : (x : ℕ) → HasSeen l.initial.chair 1 x → HasReached l.chair (x + l._done);
}
