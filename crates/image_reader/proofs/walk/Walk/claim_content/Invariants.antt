use Rattle.std.proofs.Common.{◌≡◌, ◌≤◌, ◌+◌, ◌*◌, vec_len}
use Rattle.std.specs.List.{All}
use Rattle.image_reader.specs.Descending.{AreDescended}
use Rattle.image_reader.specs.Going.{TakesOnly}
use Rattle.image_reader.specs.Reading.{held}
use Rattle.image_reader.specs.Walking.{IsSound, IsReached}
use Rattle.image_reader.proofs.walk.Walk.claim_content.Given as goal

abbrev pub invariant-loop-pointers : goal.invariant-loop-pointers
invariant-loop-pointers l = record {
  sound : IsSound l.self;
  takes : TakesOnly l.inode.block.number l.initial.self.owners.entries.items l.self.owners.entries.items;
  pending : All (IsReached l.inode) l.pending.items;
  descended : AreDescended (held l.inode) l.self.owners.entries.items l.pending.items;
  free : l.self.owners.free ≤ l.initial.self.owners.free;
  same : l.self.image ≡ l.initial.self.image;
}

abbrev pub decreases-loop-pointers : goal.decreases-loop-pointers
decreases-loop-pointers l = 2 * l.self.owners.free + vec_len l.pending
