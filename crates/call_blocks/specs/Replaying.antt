-- What the calls write, a replay may change.
use Rattle.std.specs.Prelude.{ℕ, ◌≡◌, ◌⊎◌, ◌↔◌, true, false, List, Contains}
use Rattle.file_tree.specs.Tree.{Tree}
use Rattle.file_tree.specs.declared.call.Call.{Call}
use Rattle.file_tree.specs.declared.reply.Reply.{Reply}
use Rattle.glock_names.specs.Views.{Seen}
use Rattle.glock_names.specs.declared.State.{State}
use Rattle.drafts.specs.declared.change.Change.{Change}
use Rattle.image_model.specs.Flat.{Path}
use Rattle.image_model.specs.Image.{Image}
use Rattle.image_model.specs.Owners.{Owners, Free}
use Rattle.image_model.specs.Replays.{MayChange}
use Rattle.image_model.specs.Stands.{IsLaid, Layout}
use Rattle.image_model.specs.SystemFiles.{HasSameSystem}
use Rattle.image_changes.specs.Does.{AreInside, Does, IsOf, has_block}
use Rattle.image_changes.specs.Instances.{IsAt}
use Rattle.lone_answers.specs.Calls.{IsCallList, IsUnderItsLocks}
use Rattle.lone_answers.specs.Holds.{Hold, hold_of}

-- ---- the locks of a call

-- a path leads to the inode in this block from the root, or the block is free
abbrev pub IsOfTree : Image → Owners → Layout → ℕ → Type 0
IsOfTree im o l a = ((path : Path) × IsAt im o l path a) ⊎ ((g : ℕ) × (o a ≡ Free g))

-- whatever list a call takes in an image, the inodes' locks in it are of inodes to which paths lead from the root, and of blocks that are free
abbrev pub ListsAreOfTheTree : Type 0
ListsAreOfTheTree = (im : Image) (o : Owners) (l : Layout) (t : Tree) (call : Call) (node : ℕ) (list : List Hold) → IsCallList im o l t call node list
    → (a : ℕ) (state : State) → Contains list (hold_of a state) → IsOfTree im o l a

-- ---- the blocks of its change

-- In an image that the view may be of, and that stands: each block that an answered call writes or frees, under the locks of its list, is one that a replay may change.
abbrev pub ReplaysMayChangeIt : Type 0
ReplaysMayChangeIt = (v : Seen) (im : Image) (o : Owners) (l : Layout) (t : Tree) (call : Call) (node : ℕ) (reply : Reply) (change : Change) → IsOf v im o l t → AreInside v change
    → Does v call reply change → IsUnderItsLocks v im o l t call node change → (b : ℕ) → has_block change b ≡ true → MayChange im l b

-- ---- images with the same system files

-- of an image that stands, and of any other that has the blocks of its system files, a replay may change the same blocks
abbrev pub SameMayChange : Type 0
SameMayChange = (im other : Image) (o : Owners) (l : Layout) → IsLaid im o l → HasSameSystem im other → (b : ℕ) → MayChange im l b ↔ MayChange other l b

-- the other image is of the same size, and has what this one has of each block that the change neither writes nor frees
pub record IsSameBeside (change : Change) (im other : Image) : Type 0 where
  pub size : other.size ≡ im.size
  pub count : other.count ≡ im.count
  pub others : (b : ℕ) → has_block change b ≡ false → other.at b ≡ im.at b

-- Such an answer leaves the blocks of the system files: an image that is the same beside its change has them, and of it a replay may change the same blocks.
abbrev pub CallsKeepTheSystem : Type 0
CallsKeepTheSystem = (v : Seen) (im other : Image) (o : Owners) (l : Layout) (t : Tree) (call : Call) (node : ℕ) (reply : Reply) (change : Change) → IsOf v im o l t → AreInside v change
    → Does v call reply change → IsUnderItsLocks v im o l t call node change → IsSameBeside change im other
    → HasSameSystem im other × ((b : ℕ) → MayChange im l b ↔ MayChange other l b)
