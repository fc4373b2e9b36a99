use Rattle.std.proofs.Common.{◌≡◌, ◌-◌, ◌^◌, ◌<◌, ◌≤◌}
use Rattle.image_reader.specs.Reading.{held}
use Rattle.image_reader.proofs.Descent.{IsOnWay}
use Rattle.image_reader.proofs.inode.Inode.content_block.Given as goal

abbrev pub invariant-loop-level : goal.invariant-loop-level
invariant-loop-level l = record {
  way : IsOnWay (held l.self) l.index l.level l.block.number l.start l.left;
  image : l.block.image ≡ l.self.block.image;
  start : l.start ≤ 232;
  small : l.left < 2 ^ 64 - 1;
}
