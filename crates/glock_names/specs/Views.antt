-- What a node sees of the file system while it works on a call.
use Rattle.std.specs.Prelude.{ℕ, ◌≡◌, ◌+◌, ◌%◌, ◌<◌, ◌≤◌, ⊤, Contains, List, [], ◌∷◌, length, Option, Some}
use Rattle.std.specs.List.{AllByRecursion}
use Rattle.profile_limits.specs.Limits.{most_blocks, most_groups}
use Rattle.gfs2_layout.specs.Bitmap.{bitmap_room}
use Rattle.gfs2_layout.specs.Device.{IsBlockSize, superblock_place}
use Rattle.gfs2_layout.specs.declared.rindex.Rindex.{Rindex}
use Rattle.glock_names.specs.declared.State.{State}
use Rattle.glock_names.specs.declared.LockName.{LockName}
use Rattle.glock_names.specs.declared.views.Group.{Group}

-- the size of a block, the block of the root's dinode, the resource groups, the state in which the node holds each
-- lock, and the bytes of each block that it has
pub record Seen : Type 0 where
  pub size : ℕ
  pub root : ℕ
  pub groups : List Group
  pub state_of : LockName → State
  pub block_at : ℕ → Option (List ℕ)

-- the view has the block
abbrev pub HasBlock : Seen → ℕ → Type 0
HasBlock v b = (bytes : List ℕ) × (v.block_at b ≡ Some bytes)

-- the block of which a rule is told is one that the view has
abbrev pub IsOfView : Seen → ℕ → ℕ → Type 0
IsOfView v rule b = HasBlock v b

-- ---- the groups, such as mounting accepts

-- the group of an entry in the list of groups
abbrev pub group_of_entry : Rindex → Group
group_of_entry g = record { addr = g.address; length = g.length; first = g.data0; count = g.data_blocks }

-- the group is one of the view's
abbrev pub HasGroup : Seen → Group → Type 0
HasGroup v g = Contains v.groups g

-- the first block behind a group's data blocks
abbrev pub end_of : Group → ℕ
end_of g = g.first + g.count

-- a group lies above the superblock, its data blocks stand behind its header and bitmap, and these have bits for them, four a byte
pub record IsFit (size : ℕ) (g : Group) : Type 0 where
  pub above : superblock_place size < g.addr
  pub some : 1 ≤ g.length
  pub first : g.first ≡ g.addr + g.length
  pub whole : g.count % 4 ≡ 0
  pub bits : g.count ≤ bitmap_room size g.length

-- they fit and stand one behind another, the first of them at this block or later
abbrev pub Rise : ℕ → ℕ → List Group → Type 0
Rise size least [] = ⊤
Rise size least (g ∷ gs) = IsFit size g × (least ≤ g.addr) × Rise size (end_of g) gs

-- at most 64, one behind another, the last of them ending within the blocks that a device has at most
pub record AreGroups (size : ℕ) (groups : List Group) : Type 0 where
  pub few : length groups ≤ most_groups
  pub rise : Rise size 0 groups
  pub end : AllByRecursion (λ g. end_of g ≤ most_blocks) groups

-- ---- what holds of every view

pub record IsView (v : Seen) : Type 0 where
  pub block_size : IsBlockSize v.size
  pub whole : (b : ℕ) (bytes : List ℕ) → v.block_at b ≡ Some bytes → length bytes ≡ v.size
  pub groups : AreGroups v.size v.groups
