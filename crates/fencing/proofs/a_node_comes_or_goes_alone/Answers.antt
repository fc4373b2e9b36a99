use Rattle.fencing.proofs.NodeSetLaws.{adds-one, takes-one}
use Rattle.fencing.proofs.a_node_comes_or_goes_alone.Goals as goal

pub returns-clause-adds : goal.returns-clause-adds
returns-clause-adds c = adds-one

pub returns-clause-takes : goal.returns-clause-takes
returns-clause-takes c = takes-one
