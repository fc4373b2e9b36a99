-- What reading a tree answers.
use Rattle.std.specs.Prelude.{◌≡◌, Result, Ok, Err}
use Rattle.file_tree.specs.Tree.{Tree}
use Rattle.image_reader.specs.declared.image.ImageFault.{ImageFault}
use Rattle.image_reader.specs.declared.image.ImageFault.TheVariants.{NoMemory}

-- exactly this tree, or want of memory
abbrev pub GivesTree : Tree → Result Tree ImageFault → Type 0
GivesTree t (Ok tree) = tree ≡ t
GivesTree t (Err fault) = fault ≡ NoMemory
