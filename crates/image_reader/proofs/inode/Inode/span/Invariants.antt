use Rattle.std.proofs.Common.{◌≡◌, ◌-◌, ◌^◌, min}
use Rattle.gfs2_layout.specs.Inode.{span}
use Rattle.image_reader.proofs.inode.Inode.span.Given as goal

abbrev pub invariant-loop-above : goal.invariant-loop-above
invariant-loop-above l = l.span ≡ min (span (l.self.block.image.size) l._above) (2 ^ 64 - 1)
