-- What comes next on one of two paths, and an inode that a walk comes to.
use Rattle.std.specs.Prelude.{ℕ, ◌≡◌, ◌+◌, ◌<◌, true, false, List, length, slice_get, Option, None, Some}
use Rattle.file_tree.specs.Names.{IsName}
use Rattle.gfs2_layout.specs.Holding.{Holding}
use Rattle.gfs2_layout.specs.Inode.{is_directory_in}
use Rattle.glock_names.specs.Views.{Seen}
use Rattle.glock_names.specs.declared.State.{State}
use Rattle.glock_names.specs.declared.steps.Missing.{Missing}
use Rattle.dinode_tree.specs.Shown.{IsShown}
use Rattle.dinode_tree.specs.Walking.{missing_dinode}
use Rattle.directories.specs.Shown as dirs
use Rattle.image_model.specs.Flat.{Path}
use Rattle.resource_groups.specs.Putting.{HasDataBlock}
use Rattle.path_walks.specs.Holds.{hold_of, holds}
use Rattle.path_walks.specs.Walks.{IsDirectoryAt, IsLinearAt, IsNeededIn, IsReadAt, LacksName, Names}
use Rattle.path_walks.specs.declared.walk.Place.{Place}
use Rattle.pair_walks.specs.declared.next.Next.{Next}
use Rattle.pair_walks.specs.declared.next.Next.TheVariants as next
use Rattle.pair_walks.specs.declared.next.Visit.{Visit}
use Rattle.pair_walks.specs.declared.next.Visit.TheVariants as visit
use Rattle.pair_walks.specs.declared.walk.End.{End}
use Rattle.pair_walks.specs.declared.walk.End.TheVariants as end

-- the inode in this block: its lock is taken, and then its dinode is read
abbrev pub IsVisited : Seen → ℕ → ℕ → State → Visit → Type 0
IsVisited v a above state (visit.At p) = IsReadAt v a above state p
IsVisited v a above state (visit.NeedLock lock) = (lock ≡ record { kind = 2; number = a }) × (holds v (hold_of a state) ≡ false)
IsVisited v a above state (visit.NeedBlock m) = (m ≡ missing_dinode a) × (v.block_at a ≡ None) × (holds v (hold_of a state) ≡ true)

-- the path's name behind so many
abbrev pub IsNameAt : Path → ℕ → List ℕ → Type 0
IsNameAt path depth name = slice_get path depth ≡ Some name

-- the directory hasn't the name, or it leads to this block, a data block of a group
abbrev pub IsChildOf : Seen → ℕ → List ℕ → Option ℕ → Type 0
IsChildOf v dir name None = LacksName v dir name
IsChildOf v dir name (Some b) = Names v dir name b × HasDataBlock v b

-- the directory breaks a rule; or, linear, its name leads past the groups
pub data IsDamageOfName (v : Seen) (dir : ℕ) (name : List ℕ) : ℕ → ℕ → Type 0 where
  in_this : (rule b : ℕ) → IsDirectoryAt v dir → ((h : Holding) → dirs.IsShown v dir h → dirs.IsBroken v h rule b) → IsDamageOfName v dir name rule b
  past_groups : (b : ℕ) → Names v dir name b → IsLinearAt v dir → ¬ (HasDataBlock v b) → IsDamageOfName v dir name 2 dir

-- how the path ends at the name behind so many, which the directory at this place lacks: as the last name, or as an earlier one
abbrev pub IsLacking : Place → Path → ℕ → End → Type 0
IsLacking p path depth (end.Lacks q) = (depth + 1 ≡ length path) × (q ≡ p)
IsLacking p path depth end.NotFound = depth + 1 < length path
IsLacking p path depth e = ⊥

-- this holds of the path's name behind so many
abbrev pub OfNameAt : Path → ℕ → (List ℕ → Type 0) → Type 0
OfNameAt path depth P = (name : List ℕ) × (IsNameAt path depth name × IsName name × P name)

-- Behind this place, to which so many names of the path lead: nothing, and the path ends there; nothing, since a name is asked of a file, or a directory
-- hasn't it, as the last or an earlier one; or the inode of the next name.
abbrev pub IsAheadOf : Seen → Place → Path → ℕ → Next → Type 0
IsAheadOf v p path depth (next.Ended (end.At q)) = (depth ≡ length path) × (q ≡ p)
IsAheadOf v p path depth (next.Ended end.NotDir) = (depth < length path) × ((h : Holding) → IsShown v p.inode h → is_directory_in h ≡ false)
IsAheadOf v p path depth (next.Ended (end.Lacks q)) = (depth + 1 ≡ length path) × (q ≡ p) × OfNameAt path depth (LacksName v p.inode)
IsAheadOf v p path depth (next.Ended end.NotFound) = (depth + 1 < length path) × OfNameAt path depth (LacksName v p.inode)
IsAheadOf v p path depth (next.Inode b above) = (above ≡ p.inode) × OfNameAt path depth (λ name. Names v p.inode name b × HasDataBlock v b)

-- the view hasn't this block, without which it isn't told where the next name leads
abbrev pub IsNeededAhead : Seen → ℕ → Path → ℕ → Missing → Type 0
IsNeededAhead v a path depth m = OfNameAt path depth (λ name. IsNeededIn v a name m)

-- damage that is told of the next name
abbrev pub IsDamageAhead : Seen → ℕ → Path → ℕ → ℕ → ℕ → Type 0
IsDamageAhead v a path depth rule b = OfNameAt path depth (λ name. IsDamageOfName v a name rule b)
