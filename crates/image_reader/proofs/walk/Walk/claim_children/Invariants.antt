use Rattle.std.proofs.Common.{◌≡◌, ◌≤◌, ◌+◌, ◌*◌, ◌∷◌, vec_len}
use Rattle.std.specs.List.{All}
use Rattle.image_reader.specs.Descending.{AreEnteredTo, AreDescended}
use Rattle.image_reader.specs.Going.{TakesOnly}
use Rattle.image_reader.specs.Reading.{held}
use Rattle.image_reader.specs.Walking.{IsSound, IsReached}
use Rattle.image_reader.proofs.walk.Walk.claim_children.Given as goal

abbrev pub invariant-loop-k : goal.invariant-loop-k
invariant-loop-k l = record {
  sound : IsSound l.self;
  takes : TakesOnly l.inode.block.number l.initial.self.owners.entries.items l.self.owners.entries.items;
  pending : All (IsReached l.inode) l.pending.items;
  entered : AreEnteredTo l.k (held l.inode) l.self.owners.entries.items l.pointers.start l.pointers.block.number l.pointers.level l.pointers.first;
  descended : AreDescended (held l.inode) l.self.owners.entries.items (l.pointers ∷ l.pending.items);
  falls : 2 * l.self.owners.free + vec_len l.pending ≤ 2 * l.initial.self.owners.free + vec_len l.initial.pending;
  free : l.self.owners.free ≤ l.initial.self.owners.free;
  same : l.self.image ≡ l.initial.self.image;
}
