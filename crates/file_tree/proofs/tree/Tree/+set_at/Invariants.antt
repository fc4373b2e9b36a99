use Rattle.std.proofs.Common.{length}
use Rattle.file_tree.proofs.tree.Tree.+set_at.Given as goal

abbrev pub decreases-set_at : goal.decreases-set_at
decreases-set_at l = length l.names.now
