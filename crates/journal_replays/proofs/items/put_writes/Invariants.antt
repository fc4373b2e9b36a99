use Rattle.std.proofs.Common.{◌≡◌, ◌+◌, ◌≤◌, ◌++◌, take, vec_len}
use Rattle.std.specs.Vec.{vec_capacity}
use Rattle.disk_turns.specs.Turns.{writes_of}
use Rattle.journal_replays.specs.Items.{items_of}
use Rattle.journal_replays.proofs.items.put_writes.Given as goal

abbrev pub invariant-loop-written : goal.invariant-loop-written
invariant-loop-written l = record {
  put : l.items.items ≡ l.initial.items.items ++ items_of (writes_of l.node (take l.written-index l.blocks));
  len : vec_len l.items ≡ vec_len l.initial.items + l.written-index;
  capacity : vec_capacity l.initial.items ≤ vec_capacity l.items;
}
