use Rattle.std.proofs.Common.{◌≡◌, take}
use Rattle.file_tree.specs.Names.{path_length}
use Rattle.file_tree.specs.PathText.{told}
use Rattle.file_tree.proofs.path.length_of.Given as goal

abbrev pub invariant-loop-name : goal.invariant-loop-name
invariant-loop-name l = l.total ≡ told (path_length (take l.name-index l.names))
