use Rattle.std.proofs.Common.{◌≡◌, ◌+◌, ◌≤◌, ◌++◌, map, reverse, Some, vec_len, vec_capacity}
use Rattle.turn_table.proofs.moves.fill_slots.Given as goal

abbrev pub invariant-loop-value : goal.invariant-loop-value
invariant-loop-value g l = record {
  moved : map Some l.parts.items ++ reverse l.slots.items ≡ map Some l.initial.parts.items;
  room : vec_len l.parts + vec_len l.slots ≤ vec_capacity l.slots;
  capacity : vec_capacity l.parts ≡ vec_capacity l.initial.parts;
}

abbrev pub decreases-loop-value : goal.decreases-loop-value
decreases-loop-value g l = goal.left-loop-value g l
