use Rattle.std.proofs.Common.{◌≡◌, ◌+◌, ◌≤◌, ◌++◌, List, map, reverse, Some, vec_len, vec_capacity}
use Rattle.turn_table.proofs.moves.empty_slots.Given as goal

abbrev pub invariant-loop-slot : goal.invariant-loop-slot
invariant-loop-slot g l = record {
  moved : l.slots.items ++ reverse (map Some l.parts.items) ≡ l.initial.slots.items;
  full : (values : List g.row.V.Denot) × (l.slots.items ≡ map Some values);
  room : vec_len l.slots + vec_len l.parts ≤ vec_capacity l.parts;
}

abbrev pub decreases-loop-slot : goal.decreases-loop-slot
decreases-loop-slot g l = goal.left-loop-slot g l
