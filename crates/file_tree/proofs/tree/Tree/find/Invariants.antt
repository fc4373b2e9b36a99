use Rattle.std.proofs.Common.{◌≡◌, length}
use Rattle.file_tree.specs.Apply.{walk}
use Rattle.file_tree.proofs.tree.Tree.find.Given as goal

abbrev pub invariant-loop-rest : goal.invariant-loop-rest
invariant-loop-rest l = walk l.tree l.rest ≡ walk l.self l.names

abbrev pub decreases-loop-rest : goal.decreases-loop-rest
decreases-loop-rest l = length l.rest
