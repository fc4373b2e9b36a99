-- A law of reads.
use Rattle.file_tree.specs.Tree.{Tree}
use Rattle.image_model.specs.Image.{Image}
use Rattle.image_model.specs.Owners.{Owners}
use Rattle.image_model.specs.Stands.{Layout}
use Rattle.shared_disk.specs.Disk.{DiskState}
use Rattle.lone_view.specs.Seeing.{Lone}
use Rattle.lone_answers.specs.Reading.{HasRead, WorksOn}

-- the image on which a node works it works on behind whatever it reads
abbrev pub ReadingKeeps : Type 0
ReadingKeeps = (d : DiskState) (n n' : Lone) (im : Image) (o : Owners) (l : Layout) (t : Tree) → HasRead d n n' → WorksOn d n im o l t → WorksOn d n' im o l t
