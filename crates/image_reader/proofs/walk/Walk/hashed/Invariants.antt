use Rattle.std.proofs.Common.{◌≡◌, ◌≤◌, ◌<◌, ◌+◌, ◌-◌, None, ℕ, vec_len}
use Rattle.image_reader.specs.Going.{GoesOn, IsOf}
use Rattle.image_reader.specs.Leaves.{AreLeavesGoing, IsHeaded}
use Rattle.image_reader.proofs.walk.Walk.hashed.Given as goal

abbrev pub invariant-loop-i : goal.invariant-loop-i
invariant-loop-i l = record {
  within : l.i ≤ l.count;
  leaves : AreLeavesGoing l.self l.visit l.tally l.found.items None;
  headed : (j : ℕ) → j < l.i → IsHeaded l.self l.visit j;
  on : GoesOn (IsOf l.visit.inode.block.number) l.visit l.initial.self.owners.entries.items l.initial.found.items l.self.owners.entries.items l.found.items;
  falls : vec_len l.found + l.self.owners.free ≤ vec_len l.initial.found + l.initial.self.owners.free;
  free : l.self.owners.free ≤ l.initial.self.owners.free;
  grows : vec_len l.initial.found ≤ vec_len l.found;
  same : l.self.image ≡ l.initial.self.image;
}

abbrev pub decreases-loop-i : goal.decreases-loop-i
decreases-loop-i l = l.count - l.i
