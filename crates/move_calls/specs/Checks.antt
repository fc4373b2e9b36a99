-- A move that was seen by the walks of a call, and what has to be looked at before it can be made.
use Rattle.std.specs.Prelude.{ℕ, ◌≡◌, ◌≢◌, ◌⊎◌, true, List, codes, Contains, None, Some}
use Rattle.file_tree.specs.Names.{IsName}
use Rattle.gfs2_layout.specs.Holding.{Holding}
use Rattle.gfs2_layout.specs.Inode.{is_hashed_in}
use Rattle.glock_names.specs.Views.{Seen, HasBlock}
use Rattle.glock_names.specs.declared.steps.Missing.{Missing}
use Rattle.dinode_tree.specs.Broken as inodes
use Rattle.dinode_tree.specs.Shown as inodes_shown
use Rattle.move_ends.specs.Shown.{IsBroken, IsNeededFor, IsShown, Says}
use Rattle.name_moves.specs.Inserting.{IsNeededForName, IsWrongForName}
use Rattle.name_moves.specs.Way.{IsOnWay}
use Rattle.resource_groups.specs.Putting.{HasDataBlock}
use Rattle.move_ends.specs.Walks.{IsDirectoryAt, IsLinearAt, Names}
use Rattle.name_moves.specs.Moving.{IsRead, Move, freed_by, is_reparented, is_within}

-- what was seen at the new name: nothing; or an inode with its dinode in this block, which goes with these
pub data HasSeenThere (v : Seen) (m : Move) : Type 0 where
  nothing : m.replaced ≡ None → ((h : Holding) → IsShown v m.to.inode h → Says h m.new_name None) → HasSeenThere v m
  an_inode : (c : ℕ) (blocks : List ℕ) → m.replaced ≡ Some blocks → Names v m.to.inode m.new_name c → Contains blocks c → ((b : ℕ) → Contains blocks b → HasDataBlock v b) → HasSeenThere v m

-- The directories are there, with the names that go, and so is the inode; what was read is what the dinodes say.
pub record IsSeenMove (v : Seen) (m : Move) : Type 0 where
  pub named : Names v m.from m.name m.moved.inode
  pub is_name : IsName m.new_name
  pub target_there : HasBlock v m.to.inode
  pub target : IsDirectoryAt v m.to.inode
  pub target_read : IsRead v m.to
  pub inode_there : HasBlock v m.moved.inode
  pub inode_inside : HasDataBlock v m.moved.inode
  pub inode_read : IsRead v m.moved
  pub stood : HasSeenThere v m

-- one of the two directories
abbrev pub IsDirectoryOf : Move → ℕ → Type 0
IsDirectoryOf m a = (a ≡ m.from) ⊎ (a ≡ m.to.inode)

-- ---- the ways of a move

-- a directory of the move, and a name that is looked for there: the old one, the new one, or `..` where the inode gets another parent
pub data IsWayOf (v : Seen) (m : Move) : ℕ → List ℕ → Type 0 where
  to_old : IsDirectoryAt v m.from → IsWayOf v m m.from m.name
  to_new : IsDirectoryAt v m.to.inode → IsWayOf v m m.to.inode m.new_name
  to_parent : is_reparented m ≡ true → IsDirectoryAt v m.moved.inode → IsWayOf v m m.moved.inode (codes "..")

-- The block is on the way to such a name, and so one that the move reads or writes: the directory's dinode's; of a hashed directory that with the pointer for the name, or a leaf of the name's
-- chain, among them that with the name's record.
pub record IsOnItsWay (v : Seen) (m : Move) (b : ℕ) : Type 0 where
  pub directory : ℕ
  pub name : List ℕ
  pub way : IsWayOf v m directory name
  pub on : (h : Holding) → IsShown v directory h → IsOnWay h name b

-- The block is on none of the ways: on none whatever the blocks hold that the view hasn't.
abbrev pub IsOffItsWays : Seen → Move → ℕ → Type 0
IsOffItsWays v m b = (directory : ℕ) (name : List ℕ) → IsWayOf v m directory name → (h : Holding) → IsShown v directory h → IsOnWay h name b → ⊥

-- so each block that goes with what stands at the new name
abbrev pub IsClear : Seen → Move → Type 0
IsClear v m = (b : ℕ) → Contains (freed_by m) b → IsOffItsWays v m b

-- the view hasn't this block, without which such a way isn't seen
pub record IsNeededOnWays (v : Seen) (m : Move) (n : Missing) : Type 0 where
  pub directory : ℕ
  pub name : List ℕ
  pub way : IsWayOf v m directory name
  pub needed : (h : Holding) → IsShown v directory h → IsNeededForName v h name n
  pub absent : v.block_at n.block ≡ None

-- the block breaks this rule, on such a way
pub record IsWrongOnWays (v : Seen) (m : Move) (rule b : ℕ) : Type 0 where
  pub directory : ℕ
  pub name : List ℕ
  pub way : IsWayOf v m directory name
  pub wrong : (h : Holding) → IsShown v directory h → IsWrongForName v h rule b

-- ---- what is wrong

-- Of a move this is wrong: (2) a directory is no data block of a group; (3) the inode is the directory that has its name; or one of the blocks that go is the directory that is to get it, the inode,
-- where that isn't the directory's name itself by another way, or is on the way to a name of another directory of the move; an inode that was read breaks a rule; or a directory that gets
-- another parent does, or (10) is a linear one and hasn't `..`; or something on such a way does.
pub data IsWrongMove (v : Seen) (m : Move) : ℕ → ℕ → Type 0 where
  no_data_block : (a : ℕ) → IsDirectoryOf m a → ¬ (HasDataBlock v a) → IsWrongMove v m 2 a
  its_own : m.moved.inode ≡ m.from → IsWrongMove v m 3 m.moved.inode
  shared : Contains (freed_by m) m.to.inode → IsWrongMove v m 3 m.to.inode
  shared_inode : Contains (freed_by m) m.moved.inode → (is_within m ≡ true → m.name ≢ m.new_name) → IsWrongMove v m 3 m.moved.inode
  shared_way : (b : ℕ) (on : IsOnItsWay v m b) → ¬ (Contains (freed_by m) on.directory) → Contains (freed_by m) b → IsWrongMove v m 3 b
  in_inode : (a rule b : ℕ) → (a ≡ m.to.inode) ⊎ (a ≡ m.moved.inode) → ((h : Holding) → inodes_shown.IsShown v a h → inodes.IsBroken h rule b) → IsWrongMove v m rule b
  in_directory : (rule b : ℕ) → is_reparented m ≡ true → ((h : Holding) → IsShown v m.moved.inode h → IsBroken v h rule b) → IsWrongMove v m rule b
  no_parent : is_reparented m ≡ true → IsLinearAt v m.moved.inode → ((h : Holding) → IsShown v m.moved.inode h → Says h (codes "..") None) → IsWrongMove v m 10 m.moved.inode
  on_way : (rule b : ℕ) → IsWrongOnWays v m rule b → IsWrongMove v m rule b

-- A move that can't be made, though it isn't told which block is wrong: the inode is the directory that is to get its name; the directory that has the name is one of the blocks that go, or the
-- inode is, which has that name of that directory by another way; or in a hashed directory that gets another parent `..` isn't found where it should stand. In an image that stands for a tree no
-- move is such a one.
pub data IsUnfit (v : Seen) (m : Move) : Type 0 where
  into_itself : m.moved.inode ≡ m.to.inode → IsUnfit v m
  goes_too : Contains (freed_by m) m.from → IsUnfit v m
  onto_itself : Contains (freed_by m) m.moved.inode → is_within m ≡ true → m.name ≡ m.new_name → IsUnfit v m
  finds_no_parent : is_reparented m ≡ true → ((h : Holding) → IsShown v m.moved.inode h → (is_hashed_in h ≡ true) × Says h (codes "..") None) → IsUnfit v m

-- a block without which it isn't told whether a directory that gets another parent has `..`, or whether something that goes is on the way to a name
pub data IsNeededToSee (v : Seen) (m : Move) (n : Missing) : Type 0 where
  for_parent : is_reparented m ≡ true → ((h : Holding) → IsShown v m.moved.inode h → IsNeededFor v h (codes "..") n) → v.block_at n.block ≡ None → IsNeededToSee v m n
  on_way : IsNeededOnWays v m n → IsNeededToSee v m n
