use Rattle.dinode_tree.specs.Below.{AreAdded, IsPointing}
use Rattle.dinode_tree.proofs.Rows.{Upto}
use Rattle.dinode_tree.proofs.below.add_pointers.Given as goal

abbrev pub invariant-loop-k : goal.invariant-loop-k
invariant-loop-k l = AreAdded l.initial.below l.below (Upto (IsPointing l.bytes l.start l.way) l.k)
