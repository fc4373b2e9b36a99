use Rattle.file_tree.proofs.MapLaws.{look-set}
use Rattle.file_tree.proofs.laws.names_stand_for_trees.Goals as goal

pub returns : goal.returns
returns c = look-set
