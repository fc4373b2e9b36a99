-- Where a walk along a path ends: as far as a view shows, and in an image that the view may be of.
use Rattle.std.specs.Prelude.{ℕ, ◌≡◌, ◌⊎◌, ◌+◌, ◌<◌, ◌++◌, true, false, List, [], ◌∷◌, codes, length, slice_get, None, Some}
use Rattle.file_tree.specs.Tree.{Tree}
use Rattle.file_tree.specs.Names.{IsName, parent_of}
use Rattle.file_tree.specs.Apply.{Refused}
use Rattle.file_tree.specs.Apply as tree
use Rattle.file_tree.specs.declared.reply.Reply.TheVariants.{NotFound, NotDir}
use Rattle.gfs2_layout.specs.Holding.{Holding}
use Rattle.gfs2_layout.specs.Inode.{dinode_in, is_directory_in, is_hashed_in}
use Rattle.glock_names.specs.Views.{Seen, HasBlock}
use Rattle.glock_names.specs.declared.LockName.{LockName}
use Rattle.glock_names.specs.declared.State.{State}
use Rattle.glock_names.specs.declared.steps.Entry.{Entry}
use Rattle.glock_names.specs.declared.steps.Missing.{Missing}
use Rattle.call_locks.specs.declared.want.Want.{Want}
use Rattle.dinode_tree.specs.Broken as inode
use Rattle.dinode_tree.specs.Shown.{IsShown}
use Rattle.dinode_tree.specs.Walking.{missing_dinode}
use Rattle.directories.specs.Shown.{CountsItsLeaves, HasName, Says}
use Rattle.directories.specs.Shown as dirs
use Rattle.resource_groups.specs.Putting.{HasDataBlock}
use Rattle.image_model.specs.Flat.{Path}
use Rattle.image_model.specs.Image.{Image}
use Rattle.image_model.specs.Owners.{Owners, holding}
use Rattle.image_model.specs.Stands.{Layout}
use Rattle.image_changes.specs.Instances.{IsAt}
use Rattle.path_walks.specs.Holds.{AreHeld, EndsWith, IsFirstLack, IsAskedFor, hold_of, holds, holds_in}
use Rattle.path_walks.specs.declared.walk.Place.{Place}
use Rattle.path_walks.specs.declared.walk.Walk.{Walk}
use Rattle.path_walks.specs.declared.walk.Walk.TheVariants as walk

-- the wants are of the inodes on a path, each depth from 0 on
abbrev pub AreInOrder : List Want → Type 0
AreInOrder wants = (i : ℕ) (w : Want) → slice_get wants i ≡ Some w → w.depth ≡ i

-- the path's last name
abbrev pub IsLastOf : Path → List ℕ → Type 0
IsLastOf path name = (front : Path) × (path ≡ front ++ name ∷ [])

-- ---- as far as a view shows

-- the view shows the inode in this block as a directory
abbrev pub IsDirectoryAt : Seen → ℕ → Type 0
IsDirectoryAt v a = (h : Holding) → IsShown v a h → is_directory_in h ≡ true

-- and as one that isn't hashed
abbrev pub IsLinearAt : Seen → ℕ → Type 0
IsLinearAt v a = (h : Holding) → dirs.IsShown v a h → is_hashed_in h ≡ false

-- the view has this directory, in which the name leads to block b
pub record Names (v : Seen) (dir : ℕ) (name : List ℕ) (b : ℕ) : Type 0 where
  pub there : HasBlock v dir
  pub directory : IsDirectoryAt v dir
  pub child : (h : Holding) → dirs.IsShown v dir h → HasName h name b

-- the lock of the inode in a block is held as the want at this depth has it
abbrev pub IsHeldAt : Seen → List Want → ℕ → ℕ → Type 0
IsHeldAt v wants depth a = (w : Want) → slice_get wants depth ≡ Some w → holds v (hold_of a w.state) ≡ true

-- the path leads to the inode in this block, and each lock on the way is held
pub data LeadsTo (v : Seen) (wants : List Want) : Path → ℕ → Type 0 where
  at_root : IsHeldAt v wants 0 v.root → LeadsTo v wants [] v.root
  by_name : (front : Path) (dir b : ℕ) (name : List ℕ) → LeadsTo v wants front dir → IsName name → Names v dir name b → HasDataBlock v b
      → IsHeldAt v wants (length front + 1) b → LeadsTo v wants (front ++ name ∷ []) b

-- the inode that comes next on the path, whose lock is taken then: the root, or that of a name in a directory to which the path leads
pub data IsNext (v : Seen) (wants : List Want) (path : Path) : ℕ → ℕ → Type 0 where
  the_root : IsNext v wants path 0 v.root
  the_child : (front back : Path) (dir b : ℕ) (name : List ℕ) → path ≡ front ++ name ∷ back → LeadsTo v wants front dir → IsName name → Names v dir name b → HasDataBlock v b
      → IsNext v wants path (length front + 1) b

-- this is the lock of that inode, as it is wanted, and it isn't held so strongly
pub record IsLacked (v : Seen) (wants : List Want) (path : Path) (lock : LockName) (state : State) : Type 0 where
  pub depth : ℕ
  pub inode : ℕ
  pub next : IsNext v wants path depth inode
  pub want : Want
  pub wanted : slice_get wants depth ≡ Some want
  pub is : record { lock = lock; state = state } ≡ hold_of inode want.state
  pub lacks : holds v (hold_of inode want.state) ≡ false

-- The view hasn't this block: the dinode of that inode, whose lock is held; or one without which it isn't told where the next name leads, of a hashed
-- directory to which the path leads.
pub data IsUnread (v : Seen) (wants : List Want) (path : Path) (m : Missing) : Type 0 where
  a_dinode : (depth : ℕ) → IsNext v wants path depth m.block → IsHeldAt v wants depth m.block → v.block_at m.block ≡ None → m ≡ missing_dinode m.block → IsUnread v wants path m
  in_directory : (front back : Path) (dir : ℕ) (name : List ℕ) → path ≡ front ++ name ∷ back → LeadsTo v wants front dir → HasBlock v dir → IsDirectoryAt v dir
      → ((h : Holding) → dirs.IsShown v dir h → dirs.IsNeededFor v h name m) → v.block_at m.block ≡ None → IsUnread v wants path m

-- a directory on the path has no such name
pub record IsAbsent (v : Seen) (wants : List Want) (path : Path) : Type 0 where
  pub front : Path
  pub back : Path
  pub dir : ℕ
  pub name : List ℕ
  pub on_path : path ≡ front ++ name ∷ back
  pub leads : LeadsTo v wants front dir
  pub there : HasBlock v dir
  pub directory : IsDirectoryAt v dir
  pub absent : (h : Holding) → dirs.IsShown v dir h → Says h name None

-- an inode on the path of which a further name is asked is so, as the view shows it
pub record IsOnTheWay (v : Seen) (wants : List Want) (path : Path) (a : ℕ) (P : Holding → Type 0) : Type 0 where
  pub front : Path
  pub back : Path
  pub name : List ℕ
  pub on_path : path ≡ front ++ name ∷ back
  pub leads : LeadsTo v wants front a
  pub there : HasBlock v a
  pub so : (h : Holding) → IsShown v a h → P h

-- the path leads here; the view has the dinode, and this is what it says. But at the root, the directory above has its last name
pub record IsSeenAt (v : Seen) (wants : List Want) (path : Path) (p : Place) : Type 0 where
  pub leads : LeadsTo v wants path p.inode
  pub there : HasBlock v p.inode
  pub dinode : (h : Holding) → IsShown v p.inode h → p.dinode ≡ dinode_in h
  pub above : LeadsTo v wants (parent_of path) p.above

abbrev pub IsTold : Seen → List Want → Path → Walk → Type 0
IsTold v wants path (walk.At p) = IsSeenAt v wants path p
IsTold v wants path walk.NotFound = IsAbsent v wants path
IsTold v wants path walk.NotDir = (a : ℕ) × IsOnTheWay v wants path a (λ h. is_directory_in h ≡ false)
IsTold v wants path (walk.NeedLock lock state) = IsLacked v wants path lock state
IsTold v wants path (walk.NeedBlock m) = IsUnread v wants path m

-- ---- in one image

-- the inode at the end of the path, the one above it (the root's is itself), and what its dinode says
pub record IsPlaceOf (v : Seen) (im : Image) (o : Owners) (l : Layout) (path : Path) (p : Place) : Type 0 where
  pub at : IsAt im o l path p.inode
  pub above : IsAt im o l (parent_of path) p.above
  pub dinode : p.dinode ≡ dinode_in (holding im o p.inode)
  pub there : HasBlock v p.inode

-- where a walk along the path ends, each lock being taken as it is wanted
abbrev pub IsWalked : Seen → Image → Owners → Layout → Tree → Path → List Want → Walk → Type 0
IsWalked v im o l t path wants (walk.At p) = IsPlaceOf v im o l path p × EndsWith (holds_in im o l path wants) p.inode × AreHeld v (holds_in im o l path wants)
IsWalked v im o l t path wants walk.NotFound = (tree.walk t path ≡ Refused NotFound) × AreHeld v (holds_in im o l path wants)
IsWalked v im o l t path wants walk.NotDir = (tree.walk t path ≡ Refused NotDir) × AreHeld v (holds_in im o l path wants)
IsWalked v im o l t path wants (walk.NeedLock lock state) = IsFirstLack v (holds_in im o l path wants) lock state
IsWalked v im o l t path wants (walk.NeedBlock m) = IsAskedFor v im o l (holds_in im o l path wants) m

-- ---- damage

-- The inode with its dinode in block a is wrong, as far as the view shows it: it breaks a rule, that of a directory's form where it is one; or (10) a
-- linear directory hasn't `.` or `..`; or (12) its dinode counts fewer records than these two, which it has; or (10) all leaves of a hashed directory have fewer
-- records, as its dinode counts them, so that it lacks one of the two.
pub data IsWrongAt (v : Seen) (a : ℕ) : ℕ → ℕ → Type 0 where
  in_inode : (rule b : ℕ) → ((h : Holding) → IsShown v a h → inode.IsBroken h rule b) → IsWrongAt v a rule b
  in_directory : (rule b : ℕ) → IsDirectoryAt v a → ((h : Holding) → dirs.IsShown v a h → dirs.IsBroken v h rule b) → IsWrongAt v a rule b
  no_dot : IsDirectoryAt v a → IsLinearAt v a → ((h : Holding) → dirs.IsShown v a h → Says h (codes ".") None) → IsWrongAt v a 10 a
  no_dots : IsDirectoryAt v a → IsLinearAt v a → ((h : Holding) → dirs.IsShown v a h → Says h (codes "..") None) → IsWrongAt v a 10 a
  too_few : (own up : Entry) → IsDirectoryAt v a → IsLinearAt v a → ((h : Holding) → dirs.IsShown v a h → Says h (codes ".") (Some own) × Says h (codes "..") (Some up))
      → ((h : Holding) → IsShown v a h → (dinode_in h).entries < 2) → IsWrongAt v a 12 a
  few_in_leaves : IsDirectoryAt v a → ((h : Holding) → dirs.IsShown v a h → (is_hashed_in h ≡ true) × CountsItsLeaves h × ((dinode_in h).entries < 2)) → IsWrongAt v a 10 a

-- As far as the view shows, the block breaks this rule: in an inode on the path; or (2) it is a linear directory in which a name on the path leads
-- to a block that is none of the groups' data blocks.
pub data IsDamage (v : Seen) (wants : List Want) (path : Path) : ℕ → ℕ → Type 0 where
  on_path : (depth a rule b : ℕ) → IsNext v wants path depth a → IsHeldAt v wants depth a → IsWrongAt v a rule b → IsDamage v wants path rule b
  leads_out : (front back : Path) (dir b : ℕ) (name : List ℕ) → path ≡ front ++ name ∷ back → LeadsTo v wants front dir → IsName name → Names v dir name b → IsLinearAt v dir → ¬ (HasDataBlock v b)
      → IsDamage v wants path 2 dir

-- ---- a step of the walk

-- the inode in this block was come to: its lock is held, and its dinode read
pub record IsReadAt (v : Seen) (a above : ℕ) (state : State) (p : Place) : Type 0 where
  pub inode : p.inode ≡ a
  pub above_is : p.above ≡ above
  pub there : HasBlock v a
  pub held : holds v (hold_of a state) ≡ true
  pub dinode : (h : Holding) → IsShown v a h → p.dinode ≡ dinode_in h

-- the walk comes to the inode in this block: its lock is taken, and then its dinode is read
abbrev pub IsVisited : Seen → ℕ → ℕ → State → Walk → Type 0
IsVisited v a above state (walk.At p) = IsReadAt v a above state p
IsVisited v a above state (walk.NeedLock lock s) = (record { lock = lock; state = s } ≡ hold_of a state) × (holds v (hold_of a state) ≡ false)
IsVisited v a above state (walk.NeedBlock m) = (m ≡ missing_dinode a) × (v.block_at a ≡ None) × (holds v (hold_of a state) ≡ true)
IsVisited v a above state _ = ⊥

-- from this directory the walk goes on to the inode of the name
pub record GoesOn (v : Seen) (dir : ℕ) (name : List ℕ) (state : State) (w : Walk) : Type 0 where
  pub child : ℕ
  pub names : Names v dir name child
  pub inside : HasDataBlock v child
  pub visited : IsVisited v child dir state w

-- the directory hasn't the name
pub record LacksName (v : Seen) (dir : ℕ) (name : List ℕ) : Type 0 where
  pub directory : IsDirectoryAt v dir
  pub absent : (h : Holding) → dirs.IsShown v dir h → Says h name None

-- a block without which it isn't told where the directory's name leads
pub record IsNeededIn (v : Seen) (dir : ℕ) (name : List ℕ) (m : Missing) : Type 0 where
  pub directory : IsDirectoryAt v dir
  pub needed : (h : Holding) → dirs.IsShown v dir h → dirs.IsNeededFor v h name m
  pub absent : v.block_at m.block ≡ None

-- from this inode the walk goes on by the next name, or ends there
abbrev pub IsStepped : Seen → ℕ → List ℕ → State → Walk → Type 0
IsStepped v a name state walk.NotDir = (h : Holding) → IsShown v a h → is_directory_in h ≡ false
IsStepped v a name state walk.NotFound = LacksName v a name
IsStepped v a name state (walk.NeedBlock m) = IsNeededIn v a name m ⊎ GoesOn v a name state (walk.NeedBlock m)
IsStepped v a name state w = GoesOn v a name state w

-- by the next name of this directory the walk comes to damage: there, or in the inode to which it leads
pub data IsDamageAhead (v : Seen) (dir : ℕ) (name : List ℕ) (state : State) : ℕ → ℕ → Type 0 where
  in_this : (rule b : ℕ) → IsDirectoryAt v dir → ((h : Holding) → dirs.IsShown v dir h → dirs.IsBroken v h rule b) → IsDamageAhead v dir name state rule b
  past_groups : (b : ℕ) → Names v dir name b → IsLinearAt v dir → ¬ (HasDataBlock v b) → IsDamageAhead v dir name state 2 dir
  in_child : (b rule c : ℕ) → Names v dir name b → HasDataBlock v b → holds v (hold_of b state) ≡ true → ((h : Holding) → IsShown v b h → inode.IsBroken h rule c)
      → IsDamageAhead v dir name state rule c
