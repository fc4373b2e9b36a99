use Rattle.std.proofs.Common.{length}
use Rattle.file_tree.proofs.tree.moves.+leads.Given as goal

abbrev pub decreases-leads : goal.decreases-leads
decreases-leads l = length l.from.now
