-- What a search for the blocks of a new name tells, in an image that the view may be of.
use Rattle.std.proofs.Common.{◌≡◌, ℕ, [], ◌∷◌, ◌++◌, map, ap₂}
use Rattle.file_tree.specs.Tree.{Tree}
use Rattle.glock_names.specs.Views.{Seen, HasGroup, group_of_entry}
use Rattle.glock_names.specs.declared.State.TheVariants.{Ex}
use Rattle.glock_names.specs.declared.views.Group.{Group}
use Rattle.resource_groups.specs.Shown.{said}
use Rattle.image_model.specs.Image.{Image}
use Rattle.image_model.specs.Owners.{Owners}
use Rattle.image_model.specs.Stands.{Layout}
use Rattle.image_changes.specs.Does.{IsOf}
use Rattle.name_drafts.specs.Holds.{hold_for}
use Rattle.room_search.specs.Blocks.{states_by}
use Rattle.room_search.proofs.InImage.{blocks_said, holds_said}
use Rattle.room_search.proofs.Room.{one_of}
use Rattle.making_calls.specs.Blocks.{block_holds, first_of}

-- the locks under which they are found are those by the owners
pub block_holds_said : (v : Seen) (im : Image) (o : Owners) (l : Layout) (t : Tree) → IsOf v im o l t → (own : Group) (need : ℕ) → HasGroup v own
    → block_holds (said im.at) v.groups own need ≡ block_holds (states_by o) (map group_of_entry l.groups) own need
block_holds_said v im o l t of own need has =
    ap₂ (λ hs bs. hs ++ hold_for (first_of need bs) Ex) (holds_said v im o l t of (own ∷ []) need (one_of v own has)) (blocks_said v im o l t of (own ∷ []) need (one_of v own has))
