-- What a view has of the inodes on a path.
use Rattle.std.specs.Prelude.{ℕ, ◌≡◌, ◌++◌}
use Rattle.glock_names.specs.Views.{Seen, HasBlock}
use Rattle.image_model.specs.Flat.{Path}
use Rattle.image_model.specs.Image.{Image}
use Rattle.image_model.specs.Owners.{Owners}
use Rattle.image_model.specs.Stands.{Layout}
use Rattle.image_changes.specs.Instances.{IsAt}

-- the view has the dinode of each inode on the path: of the root, of each that it passes, and of that at its end, where one is there
abbrev pub SeesPath : Seen → Image → Owners → Layout → Path → Type 0
SeesPath v im o l path = (front back : Path) (a : ℕ) → path ≡ front ++ back → IsAt im o l front a → HasBlock v a
