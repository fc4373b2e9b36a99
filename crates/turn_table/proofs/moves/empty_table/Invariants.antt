use Rattle.std.proofs.Common.{◌≡◌, ℕ, ◌<◌, ◌≤◌, map, take, length, Some, true, false, slice_index_or, vec_len, vec_capacity}
use Rattle.std.specs.Mem.Slots.{slots_items, slots_filled, slots_len}
use Rattle.turn_table.proofs.moves.empty_table.Given as goal

abbrev pub invariant-loop-i : goal.invariant-loop-i
invariant-loop-i g l = record {
  same : slots_items l.closed.slots ≡ slots_items l.initial.closed.slots;
  moved : map Some l.parts.items ≡ take l.i (slots_items l.closed.slots);
  count : vec_len l.parts ≡ l.i;
  room : length (slots_items l.closed.slots) ≤ vec_capacity l.parts;
  taken : (k : ℕ) → k < l.i → slice_index_or (slots_filled l.closed.slots) k false ≡ false;
  left : (k : ℕ) → l.i ≤ k → k < slots_len l.closed.slots → slice_index_or (slots_filled l.closed.slots) k false ≡ true;
  size : slots_len l.closed.slots ≡ slots_len l.initial.closed.slots;
}
