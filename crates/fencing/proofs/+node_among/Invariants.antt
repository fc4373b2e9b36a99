use Rattle.std.proofs.Common.{length}
use Rattle.fencing.proofs.+node_among.Given as goal

abbrev pub decreases-node_among : goal.decreases-node_among
decreases-node_among l = length l.nodes.now
