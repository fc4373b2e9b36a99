-- What is told of a view or of a draft over it, as what it is in an image that the view may be of.
use Rattle.std.specs.Prelude.{ℕ, ◌≡◌, ◌⊎◌, ◌↔◌, IsSome, true, false, List, None, Some}
use Rattle.std.specs.Ordering.{nat_cmp}
use Rattle.std.specs.FinMap.{FinMap, get}
use Rattle.file_tree.specs.Tree.{Tree}
use Rattle.drafts.specs.Fates.{AreWhole, seen_with}
use Rattle.drafts.specs.declared.fate.Fate.{Fate}
use Rattle.gfs2_layout.specs.Holding.{Pointed, part_at}
use Rattle.gfs2_layout.specs.Inode.{is_hashed_in}
use Rattle.gfs2_layout.specs.declared.rindex.Rindex.{Rindex}
use Rattle.glock_names.specs.Views.{Seen, HasBlock, HasGroup, group_of_entry}
use Rattle.glock_names.specs.declared.views.Group.{Group}
use Rattle.linear_dirs.specs.Shown.{holding_over}
use Rattle.resource_groups.specs.Putting.{overlaid}
use Rattle.resource_groups.specs.Shown.{IsShown}
use Rattle.image_model.specs.Groups.{IsListed}
use Rattle.image_model.specs.Image.{Image}
use Rattle.image_model.specs.Owners.{Owners, is_dinode, holding}
use Rattle.image_model.specs.Stands.{Layout, IsLaid}
use Rattle.image_changes.specs.Does.{IsOf}
use Rattle.image_changes.specs.Drafted.{with_draft}

-- the image agrees with each block that the view has
abbrev pub AgreesWith : Seen → Image → Type 0
AgreesWith v im = (b : ℕ) (bytes : List ℕ) → v.block_at b ≡ Some bytes → im.at b ≡ bytes

-- ---- a draft over the view

-- an inode of the image as the draft shows it is that of the image with the draft
abbrev pub ShowsInodes : Type 0
ShowsInodes = (v : Seen) (fates : FinMap nat_cmp Fate) (im : Image) (o : Owners) (a : ℕ) → AgreesWith v im
    → holding_over (seen_with v fates) (holding im o a) ≡ holding (with_draft im fates) o a

-- and so are the blocks
abbrev pub ShowsBlocks : Type 0
ShowsBlocks = (v : Seen) (fates : FinMap nat_cmp Fate) (im : Image) → AgreesWith v im → overlaid (seen_with v fates) im.at ≡ (with_draft im fates).at

-- a later draft, which sees each block that the first one saw, shows blocks of the image with the first as those of the image with it
abbrev pub LaterShows : Type 0
LaterShows = (v : Seen) (fates later : FinMap nat_cmp Fate) (im : Image) → AgreesWith v im
    → ((b : ℕ) → HasBlock (seen_with v fates) b → HasBlock (seen_with v later) b)
    → overlaid (seen_with v later) (with_draft im fates).at ≡ (with_draft im later).at

-- a later draft that makes of each block of an inode what the first one made leaves the inode as that did
abbrev pub InodesStay : Type 0
InodesStay = (fates later : FinMap nat_cmp Fate) (im : Image) (o : Owners) (a : ℕ) → ((b : ℕ) → IsSome ((holding im o a).cell b) → get later b ≡ get fates b)
    → holding (with_draft im later) o a ≡ holding (with_draft im fates) o a

-- the draft shows each group as it is in the image with the draft
abbrev pub ShowsGroups : Type 0
ShowsGroups = (v : Seen) (fates : FinMap nat_cmp Fate) (im : Image) (o : Owners) (l : Layout) (t : Tree) (g : Rindex) → IsOf v im o l t → AreWhole v.size fates
    → IsListed l.groups g → IsShown (seen_with v fates) (group_of_entry g) (with_draft im fates).at

-- ---- the view's groups

-- they are those of the image's list
abbrev pub GroupsAreListed : Type 0
GroupsAreListed = (v : Seen) (im : Image) (o : Owners) (l : Layout) (t : Tree) (k : Group) → IsOf v im o l t
    → HasGroup v k ↔ ((g : Rindex) × IsListed l.groups g × (k ≡ group_of_entry g))

-- ---- the blocks of an inode

-- an inode that is no hashed directory has its dinode and those blocks whose part tells of a pointer; none has block 0
abbrev pub HaveTheseBlocks : Type 0
HaveTheseBlocks = (im : Image) (o : Owners) (l : Layout) (a b : ℕ) → IsLaid im o l → is_dinode (o a) ≡ true → is_hashed_in (holding im o a) ≡ false
    → IsSome ((holding im o a).cell b) ↔ ((b ≡ a) ⊎ ((from k level first : ℕ) × (part_at (holding im o a) b ≡ Some (Pointed from k level first))))

abbrev pub NoneHasTheFirst : Type 0
NoneHasTheFirst = (im : Image) (o : Owners) (l : Layout) (a : ℕ) → IsLaid im o l → part_at (holding im o a) 0 ≡ None
