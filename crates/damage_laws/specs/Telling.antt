-- What a call tells of a view as damage, in each image that the view may have been read from.
use Rattle.std.specs.Prelude.{ℕ, Bool, ◌≡◌, ◌⊎◌, ◌↔◌, ◌==◌, ◌<◌, ◌≤◌, false, true, if◌then◌else◌, List, ◌++◌}
use Rattle.draft_changes.specs.Shown.{AgreesWith}
use Rattle.call_locks.specs.declared.want.Want.{Want}
use Rattle.call_locks.specs.Wants.{at_old_name, wanted}
use Rattle.call_locks.specs.WantLaws.{path_of}
use Rattle.file_calls.specs.Calls as calls
use Rattle.file_tree.specs.declared.call.Call.{Call}
use Rattle.file_tree.specs.declared.call.Call.TheVariants.{Rename}
use Rattle.file_tree.specs.Tree.{Tree}
use Rattle.gfs2_layout.specs.Device.{superblock_place}
use Rattle.gfs2_layout.specs.Inode.{is_hashed_in}
use Rattle.gfs2_layout.specs.declared.rindex.Rindex.{Rindex}
use Rattle.glock_names.specs.Views.{Seen, HasBlock, HasGroup, group_of_entry}
use Rattle.glock_names.specs.declared.steps.Missing.{Missing}
use Rattle.glock_names.specs.declared.views.Group.{Group}
use Rattle.image_changes.specs.Does.{IsOf}
use Rattle.image_model.specs.Claims.{Claims, every, HasInode, HasDirectory}
use Rattle.image_model.specs.Flat.{Path}
use Rattle.image_model.specs.Image.{Image, IsImage, superblock_in}
use Rattle.image_model.specs.Owners.{Owner, Owners, IsWithin}
use Rattle.image_model.specs.Groups.{IsListed}
use Rattle.image_model.specs.Rules.{Breaks, IsWholeList}
use Rattle.image_model.specs.Stands.{Layout}
use Rattle.image_mount.specs.Mounted.{IsMounted, MountedValue}
use Rattle.file_calls.specs.Making as making
use Rattle.file_calls.specs.MoveEnds.{IsRenaming}
use Rattle.file_calls.specs.Moving as moving
use Rattle.file_calls.specs.Walks as path
use Rattle.file_calls.specs.Removing as removing
use Rattle.resource_groups.specs.Putting.{HasDataBlock}
use Rattle.resource_groups.specs.Shown.{IsHeaderOf}
use Rattle.file_calls.specs.Writing as writing

-- The view may have been read from the image, be this right or wrong: they agree in the size of a block, in the root, in each block that
-- the view has, and in the groups, which are those of the image's list: of the one file that is its `rindex`. These fit, rise, and leave no block bare.
pub record IsReadFrom (v : Seen) (im : Image) : Type 0 where
  pub size : im.size ≡ v.size
  pub root : (superblock_in im).root.address ≡ v.root
  pub agrees : AgreesWith v im
  pub list : List Rindex
  pub whole : IsWholeList im list
  pub groups : (k : Group) → HasGroup v k ↔ ((g : Rindex) × IsListed list g × (k ≡ group_of_entry g))

-- the image's blocks are whole, and it has each block of the view's groups
pub record HasWholeGroups (v : Seen) (im : Image) : Type 0 where
  pub image : IsImage im
  pub headers : (k : Group) (b : ℕ) → HasGroup v k → IsHeaderOf k b → b < im.count
  pub data_blocks : (b : ℕ) → HasDataBlock v b → b < im.count

-- the view has what mounting told of the image, and of the bytes of its blocks
pub record IsOfMounted (v : Seen) (im : Image) (m : MountedValue) : Type 0 where
  pub size : im.size ≡ v.size
  pub root : m.superblock.root.address ≡ v.root
  pub groups : m.groups ≡ v.groups
  pub agrees : AgreesWith v im

-- the root's dinode is a data block of one of the view's groups
abbrev pub HasRootInside : Seen → Type 0
HasRootInside v = HasDataBlock v v.root

-- Block x has the number of a block of the hashed directory in block a, beside its dinode, that is beyond the device: so x breaks the rule on numbers.
pub record IsAstray (im : Image) (a x : ℕ) : Type 0 where
  pub directory : HasDirectory im a
  pub hashed : is_hashed_in (every im a) ≡ true
  pub block : ℕ
  pub owner : Owner
  pub claimed : Claims im x block owner
  pub within : IsWithin a owner
  pub beyond : im.count ≤ block

-- so has some block of a hashed directory on the path, or at its end
pub record HasAstray (v : Seen) (im : Image) (wants : List Want) (names : Path) : Type 0 where
  pub front : Path
  pub back : Path
  pub split : names ≡ front ++ back
  pub directory : ℕ
  pub leads : path.LeadsTo v wants front directory
  pub block : ℕ
  pub astray : IsAstray im directory block

-- What is told as damage on this path. A broken block is told as itself. But where a block of a hashed directory on the path is beyond the device, any
-- block may be told: the one that has its number breaks rule 2.
pub data IsTold (v : Seen) (im : Image) (wants : List Want) (names : Path) : ℕ → ℕ → Type 0 where
  itself : (rule b : ℕ) → Breaks im rule b → IsTold v im wants names rule b
  astray : (rule b : ℕ) → HasAstray v im wants names → IsTold v im wants names rule b

-- A path of the call, and the inodes that it takes on it: its one path; or of one that moves a name the path to the old name, or to the new one.
pub data IsPathOf (call : Call) : List Want → Path → Type 0 where
  its_own : IsPathOf call (wanted call) (path_of call false)
  of_move : (from to : Path) (second : Bool) → call ≡ Rename from to → IsPathOf call (at_old_name second (path_of call second)) (path_of call second)

-- a hashed directory on a path of the call, or at its end, has a block that is beyond the device
pub record HasAstrayOn (v : Seen) (im : Image) (call : Call) : Type 0 where
  pub wants : List Want
  pub names : Path
  pub on : IsPathOf call wants names
  pub astray : HasAstray v im wants names

-- what is told as damage on a path of the call
pub record IsToldOn (v : Seen) (im : Image) (call : Call) (rule b : ℕ) : Type 0 where
  pub wants : List Want
  pub names : Path
  pub on : IsPathOf call wants names
  pub told : IsTold v im wants names rule b

-- The same; and (2) the root is told, where that is in no group: the superblock, which has its number, breaks the rule.
pub data IsToldOf (v : Seen) (im : Image) (call : Call) : ℕ → ℕ → Type 0 where
  on_path : (rule b : ℕ) → IsToldOn v im call rule b → IsToldOf v im call rule b
  by_root : ¬ (HasRootInside v) → Breaks im 2 (superblock_place im.size) → IsToldOf v im call 2 v.root

-- ---- laws

-- a view that may be of an image that stands may have been read from it, whose groups are whole, and has its root in one of them
abbrev pub StandingAreRead : Type 0
StandingAreRead = (v : Seen) (im : Image) (o : Owners) (l : Layout) (t : Tree) → IsOf v im o l t → IsReadFrom v im × HasWholeGroups v im × HasRootInside v

-- so may a view that has what mounting told of an image, right or wrong, and of its blocks
abbrev pub MountedAreRead : Type 0
MountedAreRead = (v : Seen) (im : Image) (m : MountedValue) → IsImage im → IsMounted im m → IsOfMounted v im m → IsReadFrom v im × HasWholeGroups v im

-- the inode to which a path leads is one of the image, but where a block of a directory on it is beyond the device
abbrev pub InodesAreThere : Type 0
InodesAreThere = (v : Seen) (im : Image) (wants : List Want) (names : Path) (a : ℕ) → IsReadFrom v im → IsImage im → path.LeadsTo v wants names a → HasInode im a ⊎ HasAstray v im wants names

-- damage on a path
abbrev pub PathsTell : Type 0
PathsTell = (v : Seen) (im : Image) (wants : List Want) (names : Path) (rule b : ℕ) → IsReadFrom v im → IsImage im → path.IsDamage v wants names rule b → IsTold v im wants names rule b

-- damage that a change of a file's content meets
abbrev pub WritesTell : Type 0
WritesTell = (v : Seen) (im : Image) (call : Call) (rule b : ℕ) → IsReadFrom v im → HasWholeGroups v im → writing.IsDamage v call rule b → IsToldOf v im call rule b

-- and where the root is in a group, without that exception
abbrev pub WritesTellExactly : Type 0
WritesTellExactly = (v : Seen) (im : Image) (call : Call) (rule b : ℕ) → IsReadFrom v im → HasWholeGroups v im → HasRootInside v → writing.IsDamage v call rule b → IsToldOn v im call rule b

-- damage that the removal of a name meets
abbrev pub RemovalsTell : Type 0
RemovalsTell = (v : Seen) (im : Image) (call : Call) (rule b : ℕ) → IsReadFrom v im → HasWholeGroups v im → removing.IsDamage v call rule b → IsToldOf v im call rule b

abbrev pub RemovalsTellExactly : Type 0
RemovalsTellExactly = (v : Seen) (im : Image) (call : Call) (rule b : ℕ) → IsReadFrom v im → HasWholeGroups v im → HasRootInside v → removing.IsDamage v call rule b → IsToldOn v im call rule b

-- damage that making a name meets, the same
abbrev pub MakingsTell : Type 0
MakingsTell = (v : Seen) (im : Image) (call : Call) (rule b : ℕ) → IsReadFrom v im → HasWholeGroups v im → making.IsDamage v call rule b → IsToldOf v im call rule b

abbrev pub MakingsTellExactly : Type 0
MakingsTellExactly = (v : Seen) (im : Image) (call : Call) (rule b : ℕ) → IsReadFrom v im → HasWholeGroups v im → HasRootInside v → making.IsDamage v call rule b → IsToldOn v im call rule b

-- damage that moving a name meets, the same
abbrev pub MovesTell : Type 0
MovesTell = (v : Seen) (im : Image) (call : Call) (node rule b : ℕ) → IsReadFrom v im → HasWholeGroups v im → IsRenaming call → moving.IsDamage v call node rule b → IsToldOf v im call rule b

abbrev pub MovesTellExactly : Type 0
MovesTellExactly = (v : Seen) (im : Image) (call : Call) (node rule b : ℕ) → IsReadFrom v im → HasWholeGroups v im → HasRootInside v → IsRenaming call → moving.IsDamage v call node rule b → IsToldOn v im call rule b

-- damage that any call meets of those that `file_calls` answers
abbrev pub CallsTell : Type 0
CallsTell = (v : Seen) (im : Image) (call : Call) (node rule b : ℕ) → IsReadFrom v im → HasWholeGroups v im → calls.IsDamage v call node rule b → IsToldOf v im call rule b

abbrev pub CallsTellExactly : Type 0
CallsTellExactly = (v : Seen) (im : Image) (call : Call) (node rule b : ℕ) → IsReadFrom v im → HasWholeGroups v im → HasRootInside v → calls.IsDamage v call node rule b → IsToldOn v im call rule b

-- the block in which the number of one that is needed stands: the superblock has that of the root, which is asked for by itself
abbrev pub source_of : ℕ → Missing → ℕ
source_of size m = if m.from == m.block then superblock_place size else m.from

-- that block breaks the rule, and is the superblock's or one that the view has
pub record IsBrokenSource (v : Seen) (im : Image) (b : ℕ) : Type 0 where
  pub breaks : Breaks im 2 b
  pub there : (b ≡ superblock_place im.size) ⊎ HasBlock v b

-- a number that any such call needs, and that leads out of the device; but where a block of a hashed directory on a path of it is beyond it
abbrev pub NeedsTell : Type 0
NeedsTell = (v : Seen) (im : Image) (call : Call) (node : ℕ) (m : Missing) → IsReadFrom v im → HasWholeGroups v im → calls.IsNeededFor v call node m → im.count ≤ m.block
    → IsBrokenSource v im (source_of im.size m) ⊎ HasAstrayOn v im call
