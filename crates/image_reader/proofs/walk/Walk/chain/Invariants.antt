use Rattle.std.proofs.Common.{◌≡◌, ◌≤◌, ◌+◌, vec_len}
use Rattle.std.specs.Prelude.{is_some, if◌then◌else◌, IfSome}
use Rattle.image_reader.specs.Going.{GoesOn, IsOf}
use Rattle.image_reader.specs.Leaves.{AreLeavesGoing, IsLeafOf, IsClaimedLeaf, number_of}
use Rattle.image_reader.specs.declared.hashed.LeafAt.{LeafAt}
use Rattle.image_reader.proofs.walk.Walk.chain.Given as goal

abbrev pub invariant-loop-chained : goal.invariant-loop-chained
invariant-loop-chained l = record {
  leaves : AreLeavesGoing l.self l.visit l.tally l.found.items (number_of l.chained);
  leaf : IfSome l.chained (IsLeafOf l.visit.inode);
  claimed : IfSome l.chained (IsClaimedLeaf l.self l.visit);
  place : IfSome l.chained (λ (at : LeafAt). at.place + l.self.owners.free ≤ l.initial.self.owners.free);
  on : GoesOn (IsOf l.visit.inode.block.number) l.visit l.initial.self.owners.entries.items l.initial.found.items l.self.owners.entries.items l.found.items;
  falls : vec_len l.found + l.self.owners.free ≤ vec_len l.initial.found + l.initial.self.owners.free;
  free : l.self.owners.free ≤ l.initial.self.owners.free;
  grows : vec_len l.initial.found ≤ vec_len l.found;
  same : l.self.image ≡ l.initial.self.image;
}

abbrev pub decreases-loop-chained : goal.decreases-loop-chained
decreases-loop-chained l = l.self.owners.free + (if is_some l.chained then 1 else 0)
