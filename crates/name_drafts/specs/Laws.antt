-- What holds of a place for a name in each image that the view may be of.
use Rattle.std.specs.Prelude.{ℕ, List}
use Rattle.file_tree.specs.Tree.{Tree}
use Rattle.glock_names.specs.Views.{Seen, IsView}
use Rattle.name_inserts.specs.DirectoryShown.{IsShown}
use Rattle.image_model.specs.Flat.{Path}
use Rattle.image_model.specs.Image.{Image}
use Rattle.image_model.specs.Owners.{Owners, holding}
use Rattle.image_model.specs.Stands.{Layout}
use Rattle.image_changes.specs.Does.{IsOf}
use Rattle.path_walks.specs.declared.walk.Place.{Place}
use Rattle.name_inserts.specs.Inserting.{CanGetName}
use Rattle.name_drafts.specs.Drafting.{HasNoGroupBlock, IsPlaceFor}
use Rattle.name_drafts.specs.declared.drafting.NewBlock.{NewBlock}

-- the view shows the directory as it is in the image, where it can get the name and has no block of a group
pub record CanGetItsName (v : Seen) (im : Image) (o : Owners) (p : Place) (name room : List ℕ) : Type 0 where
  pub shown : IsShown v p.inode (holding im o p.inode)
  pub can : CanGetName (holding im o p.inode) name room
  pub clear : HasNoGroupBlock v (holding im o p.inode)

abbrev pub PlacesCanGetNames : Type 0
PlacesCanGetNames = (v : Seen) (im : Image) (o : Owners) (l : Layout) (t : Tree) (path : Path) (name : List ℕ) (p : Place) (r : NewBlock) (room : List ℕ)
    → IsView v → IsOf v im o l t → IsPlaceFor im o l path name p r room → CanGetItsName v im o p name room
