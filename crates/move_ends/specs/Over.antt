-- What becomes of an inode over which another one is to move, and of the end of a second path.
use Rattle.std.specs.Prelude.{ℕ, ◌≡◌, ◌⊎◌, true, false, List, Contains, None, Some}
use Rattle.file_tree.specs.declared.reply.Reply.TheVariants as reply
use Rattle.gfs2_layout.specs.Holding.{Holding}
use Rattle.gfs2_layout.specs.Inode.{dinode_in, is_hashed_in}
use Rattle.gfs2_layout.specs.Structures.{is_directory}
use Rattle.glock_names.specs.Views.{Seen, HasBlock}
use Rattle.dinode_tree.specs.Broken.{IsBroken}
use Rattle.dinode_tree.specs.Shown.{IsShown}
use Rattle.resource_groups.specs.Putting.{HasDataBlock}
use Rattle.pair_walks.specs.Shown.{CountsItsLeaves}
use Rattle.pair_walks.specs.Shown as dirs
use Rattle.pair_walks.specs.walk.Place.{Place}
use Rattle.pair_walks.specs.declared.walk.End.{End}
use Rattle.pair_walks.specs.declared.walk.End.TheVariants as end
use Rattle.removing_calls.specs.Removing.{AreAllOf, BreaksAsLinear, IsDirectoryAim, IsFileAim, IsNeededOf, IsWrongBelow}
use Rattle.removing_calls.specs.declared.aims.Aim.{Aim}
use Rattle.removing_calls.specs.declared.aims.Aim.TheVariants as aim
use Rattle.move_ends.specs.declared.ends.Ends.{Ends}
use Rattle.move_ends.specs.declared.ends.Ends.TheVariants as ends
use Rattle.move_ends.specs.declared.over.Replaced.{Replaced}
use Rattle.move_ends.specs.declared.over.Replaced.TheVariants as replaced

-- ---- an inode over which one moves

-- so it is with what stands there, as the inode that moves is a file or a directory
pub data IsAimOver (v : Seen) (from at : Place) (a : Aim) : Type 0 where
  by_file : is_directory from.dinode ≡ false → ((h : Holding) → IsShown v at.inode h → IsFileAim h a) → IsAimOver v from at a
  by_directory : is_directory from.dinode ≡ true → ((h : Holding) → IsShown v at.inode h → IsDirectoryAim h a) → IsAimOver v from at a

-- it goes with these blocks, data blocks of groups, and a hashed directory has the records that its dinode counts
abbrev pub GoesWith : Seen → ℕ → List ℕ → Type 0
GoesWith v a blocks = AreAllOf v a blocks × ((h : Holding) → dirs.IsShown v a h → is_hashed_in h ≡ true → CountsItsLeaves h) × ((b : ℕ) → Contains blocks b → HasDataBlock v b)

abbrev pub IsToldOver : Seen → Place → Place → Replaced → Type 0
IsToldOver v from at (replaced.Refused r) = IsAimOver v from at (aim.Refused r)
IsToldOver v from at (replaced.Goes blocks) = IsAimOver v from at aim.Taken × GoesWith v at.inode blocks.items
IsToldOver v from at (replaced.NeedBlock m) = IsAimOver v from at aim.Taken × IsNeededOf v at.inode m

-- a directory is to move, and this is one that counts other records than it has; or it is to go, and something is wrong with its blocks
abbrev pub IsWrongOver : Seen → Place → Place → ℕ → ℕ → Type 0
IsWrongOver v from at rule b = ((is_directory from.dinode ≡ true) × ((h : Holding) → IsShown v at.inode h → BreaksAsLinear h rule b)) ⊎ (IsAimOver v from at aim.Taken × IsWrongBelow v at.inode rule b)

-- the directory above an inode, as its dinode says it
pub record IsDirectoryOf (v : Seen) (at to : Place) : Type 0 where
  pub inode : to.inode ≡ at.above
  pub dinode : (h : Holding) → IsShown v at.above h → to.dinode ≡ dinode_in h

-- ---- the end of the second path

-- what a walk has seen where it ends at an inode
pub record IsInodeRead (v : Seen) (at : Place) : Type 0 where
  pub there : HasBlock v at.inode
  pub dinode : (h : Holding) → IsShown v at.inode h → at.dinode ≡ dinode_in h
  pub inside : HasDataBlock v at.inode
  pub above : HasBlock v at.above

abbrev pub IsEndRead : Seen → End → Type 0
IsEndRead v (end.At at) = IsInodeRead v at
IsEndRead v e = Unit {0}

-- what is found there
abbrev pub IsApart : Seen → Place → End → Ends → Type 0
IsApart v from (end.At at) (ends.Refused r) = (to : Place) × (IsDirectoryOf v at to × IsAimOver v from at (aim.Refused r))
IsApart v from (end.At at) (ends.Moves f to (Some blocks)) = (f ≡ from) × IsDirectoryOf v at to × IsAimOver v from at aim.Taken × GoesWith v at.inode blocks.items
IsApart v from (end.At at) (ends.NeedBlock m) = (to : Place) × (IsDirectoryOf v at to × IsAimOver v from at aim.Taken × IsNeededOf v at.inode m)
IsApart v from (end.Lacks p) (ends.Moves f to None) = (f ≡ from) × (to ≡ p)
IsApart v from end.NotFound (ends.Refused r) = r ≡ reply.NotFound
IsApart v from end.NotDir (ends.Refused r) = r ≡ reply.NotDir
IsApart v from e found = ⊥

abbrev pub IsWrongApart : Seen → Place → End → ℕ → ℕ → Type 0
IsWrongApart v from (end.At at) rule b = ((h : Holding) → IsShown v at.above h → IsBroken h rule b) ⊎ ((to : Place) × (IsDirectoryOf v at to × IsWrongOver v from at rule b))
IsWrongApart v from e rule b = ⊥
