use Rattle.std.proofs.Common.{◌≡◌, ◌≤◌, ◌++◌, length}
use Rattle.hash_inserts.proofs.committing.take_front.Given as goal

abbrev pub invariant-loop-room : goal.invariant-loop-room
invariant-loop-room l = record {
  front : l.fn.room.items ≡ l.taken.items ++ l.room.items;
  left : l.left ≤ length l.fn.room.items → l.left ≤ length l.room.items;
}

abbrev pub decreases-loop-room : goal.decreases-loop-room
decreases-loop-room l = length l.room.items
