use Rattle.std.proofs.Common.{◌≡◌}
use Rattle.gfs2_layout.specs.Inode.{span}
use Rattle.file_walks.proofs.numbers.span.Given as goal

abbrev pub invariant-loop-above : goal.invariant-loop-above
invariant-loop-above l = l.span ≡ span l.size l._above
