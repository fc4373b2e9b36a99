-- The calls that remove a name: `unlink` of a file, and `rmdir` of a directory without names.
use Rattle.std.specs.Prelude.{ℕ, ◌≡◌, ◌≢◌, ◌⊎◌, ◌↔◌, ⊤, Contains, true, false, if◌then◌else◌, List, [], ◌++◌, length, Option, None, Some}
use Rattle.cluster_history.specs.Changes.{is_ok}
use Rattle.file_tree.specs.Apply.{apply}
use Rattle.file_tree.specs.Names.{parent_of}
use Rattle.file_tree.specs.Tree.{Tree}
use Rattle.file_tree.specs.declared.call.Call.{Call}
use Rattle.file_tree.specs.declared.call.Call.TheVariants.{Unlink, Rmdir}
use Rattle.file_tree.specs.declared.reply.Reply.{Reply}
use Rattle.file_tree.specs.declared.reply.Reply.TheVariants as reply
use Rattle.gfs2_layout.specs.Holding.{Holding}
use Rattle.gfs2_layout.specs.Inode.{dinode_in, is_directory_in, is_hashed_in, records_of}
use Rattle.gfs2_layout.specs.Structures.{dinode_of}
use Rattle.glock_names.specs.Views.{Seen, HasBlock}
use Rattle.glock_names.specs.declared.LockName.{LockName}
use Rattle.glock_names.specs.declared.State.{State}
use Rattle.glock_names.specs.declared.State.TheVariants.{Ex}
use Rattle.glock_names.specs.declared.steps.Missing.{Missing}
use Rattle.call_locks.specs.Wants.{wanted}
use Rattle.call_locks.specs.WantLaws.{path_of}
use Rattle.dinode_tree.specs.Below.{AnyIndex, IsBelow, IsLedFrom}
use Rattle.dinode_tree.specs.Reading.{IsNeeded}
use Rattle.dinode_tree.specs.Shown.{IsShown}
use Rattle.dinode_tree.specs.Broken as inode
use Rattle.linear_dirs.specs.Broken as directory
use Rattle.resource_groups.specs.Freeing as freeing
use Rattle.resource_groups.specs.Putting.{HasDataBlock}
use Rattle.drafts.specs.declared.change.Change.{Change}
use Rattle.image_model.specs.Flat.{follow}
use Rattle.image_model.specs.Image.{Image}
use Rattle.image_model.specs.Owners.{Owners, holding}
use Rattle.image_model.specs.Stands.{Layout, flat_of}
use Rattle.image_changes.specs.Does.{with_change}
use Rattle.image_changes.specs.Instances.{IsAt}
use Rattle.path_walks.specs.Answers.{Refuses}
use Rattle.path_walks.specs.Holds.{Hold, AreHeld, EndsWith, IsAskedFor, IsFirstLack, holds_in}
use Rattle.directories.specs.Shown.{CountsItsLeaves, IsLinearDirectory}
use Rattle.directories.specs.Shown as dirs
use Rattle.directories.specs.Taking.{HasRecordOf}
use Rattle.hash_dirs.specs.Leaves.{IsLeaf}
use Rattle.path_walks.specs.Walks.{IsDirectoryAt, LeadsTo, IsAbsent, IsLacked, IsLastOf, IsOnTheWay, IsPlaceOf, IsUnread}
use Rattle.path_walks.specs.Walks as path
use Rattle.path_walks.specs.declared.walk.Place.{Place}
use Rattle.group_locks.specs.Groups.{GroupsAreHeld, IsFirstGroupLack, holds_of_groups, is_block_of}
use Rattle.removing_calls.specs.Drafting.{HasTimes, IsRemoval, LosesInLeaf, LosesRecord}
use Rattle.removing_calls.specs.declared.aims.Aim.{Aim}
use Rattle.removing_calls.specs.declared.aims.Aim.TheVariants as aim
use Rattle.removing_calls.specs.declared.finds.Found.{Found}
use Rattle.removing_calls.specs.declared.finds.Found.TheVariants as found

-- the call removes a name
abbrev pub IsRemoving : Call → Type 0
IsRemoving (Unlink path) = Unit {0}
IsRemoving (Rmdir path) = Unit {0}
IsRemoving _ = ⊥

-- ---- the inode at the path's end

-- why it isn't removed, or that it is to be: `unlink` takes a file
abbrev pub IsFileAim : Holding → Aim → Type 0
IsFileAim h (aim.Refused reply.IsDir) = is_directory_in h ≡ true
IsFileAim h aim.Taken = is_directory_in h ≡ false
IsFileAim h a = ⊥

-- the dinode counts the records that the directory has
abbrev pub CountsItsRecords : Holding → Type 0
CountsItsRecords h = (dinode_in h).entries ≡ length (records_of h)

-- it is a linear directory, and breaks a rule of these
abbrev pub BreaksAsLinear : Holding → ℕ → ℕ → Type 0
BreaksAsLinear h rule b = IsLinearDirectory h × directory.IsBroken h rule b

-- `rmdir` a directory whose dinode counts `.` and `..` alone; what is made of a linear one rests on its records too, and so is a hashed one held to its
-- count before it goes
abbrev pub IsDirectoryAim : Holding → Aim → Type 0
IsDirectoryAim h (aim.Refused reply.NotDir) = is_directory_in h ≡ false
IsDirectoryAim h (aim.Refused reply.NotEmpty) = (is_directory_in h ≡ true) × ((dinode_in h).entries ≢ 2) × (is_hashed_in h ≡ false → CountsItsRecords h)
IsDirectoryAim h aim.Taken = (is_directory_in h ≡ true) × ((dinode_in h).entries ≡ 2) × (is_hashed_in h ≡ false → CountsItsRecords h)
IsDirectoryAim h a = ⊥

abbrev pub IsAimOf : Call → Holding → Aim → Type 0
IsAimOf (Unlink path) h a = IsFileAim h a
IsAimOf (Rmdir path) h a = IsDirectoryAim h a
IsAimOf call h a = ⊥

-- the blocks that go with it: its dinode, those to which its pointers lead, and the leaves of a hashed directory
abbrev pub Goes : Holding → ℕ → Type 0
Goes h b = (b ≡ h.own) ⊎ (IsBelow h b ⊎ ((is_hashed_in h ≡ true) × IsLeaf h b))

-- a block of the inode with its dinode in block a is needed: on the way to the blocks below it, or of a hashed directory to its leaves
pub data IsNeededOf (v : Seen) (a : ℕ) (m : Missing) : Type 0 where
  in_tree : ((h : Holding) → IsShown v a h → IsNeeded v h AnyIndex 1 m) → IsNeededOf v a m
  in_leaves : IsDirectoryAt v a → ((h : Holding) → dirs.IsShown v a h → dirs.IsNeededForAll v h m) → v.block_at m.block ≡ None → IsNeededOf v a m

-- as the view shows the inode with its dinode in block a, it breaks a rule, of a hashed directory where it is one; or (2) a pointer of it, in this block, leads
-- to one that is no data block of a group
pub data IsWrongBelow (v : Seen) (a : ℕ) : ℕ → ℕ → Type 0 where
  of_leaves : (rule b : ℕ) → IsDirectoryAt v a → ((h : Holding) → dirs.IsShown v a h → dirs.IsBroken v h rule b) → IsWrongBelow v a rule b
  in_inode : (rule b : ℕ) → ((h : Holding) → IsShown v a h → inode.IsBroken h rule b) → IsWrongBelow v a rule b
  stray : (from b : ℕ) → ((h : Holding) → IsShown v a h → IsLedFrom h from b) → ¬ (HasDataBlock v b) → IsWrongBelow v a 2 from

-- ---- the locks of the call

-- those of the groups that have blocks of the inode in this block, where there is one
abbrev pub group_holds_of : Image → Owners → Layout → Option ℕ → List Hold
group_holds_of im o l None = []
group_holds_of im o l (Some a) = holds_of_groups (is_block_of (holding im o a)) l.groups

-- those on its path, and where the tree takes the call those of the groups of the inode's blocks
abbrev pub holds_for : Image → Owners → Layout → Tree → Call → List Hold
holds_for im o l t call = holds_in im o l (path_of call false) (wanted call)
    ++ (if is_ok (apply call t).reply then group_holds_of im o l (follow (flat_of im o) l.root (path_of call false)) else [])

-- ---- as far as the view shows

-- the path leads to this inode, which isn't the root, and the call takes it away
pub record IsTakenAt (v : Seen) (call : Call) (a : ℕ) : Type 0 where
  pub below : path_of call false ≢ []
  pub leads : LeadsTo v (wanted call) (path_of call false) a
  pub there : HasBlock v a
  pub aim : (h : Holding) → IsShown v a h → IsAimOf call h aim.Taken

-- these are the blocks that go with the inode
abbrev pub AreAllOf : Seen → ℕ → List ℕ → Type 0
AreAllOf v a blocks = (h : Holding) → dirs.IsShown v a h → (b : ℕ) → Contains blocks b ↔ Goes h b

-- the call is refused so: its path has no name; a name on it isn't there, or is asked of a file; or the inode at its end isn't to go
pub data IsRefused (v : Seen) (call : Call) : Reply → Type 0 where
  of_root : (r : Reply) → path_of call false ≡ [] → ((t : Tree) → (apply call t).reply ≡ r) → IsRefused v call r
  not_found : IsAbsent v (wanted call) (path_of call false) → IsRefused v call reply.NotFound
  not_dir : (a : ℕ) → IsOnTheWay v (wanted call) (path_of call false) a (λ h. is_directory_in h ≡ false) → IsRefused v call reply.NotDir
  at_end : (a : ℕ) (r : Reply) → LeadsTo v (wanted call) (path_of call false) a → HasBlock v a → ((h : Holding) → IsShown v a h → IsAimOf call h (aim.Refused r)) → IsRefused v call r

-- The name went, and the inode with all its blocks, data blocks of groups whose locks are held: this is the change of it, with this time. A hashed directory
-- that goes has the records that its dinode counts.
pub record IsRemovedBy {V : Type 0} (seen : V → Seen) (view : V) (call : Call) (time : ℕ) (change : Change) : Type 0 where
  pub inode : ℕ
  pub directory : ℕ
  pub name : List ℕ
  pub blocks : List ℕ
  pub taken : IsTakenAt (seen view) call inode
  pub above : LeadsTo (seen view) (wanted call) (parent_of (path_of call false)) directory
  pub inside : HasDataBlock (seen view) directory
  pub last : IsLastOf (path_of call false) name
  pub all : AreAllOf (seen view) inode blocks
  pub counted : (h : Holding) → dirs.IsShown (seen view) inode h → is_hashed_in h ≡ true → CountsItsLeaves h
  pub goes : (b : ℕ) → Contains blocks b → HasDataBlock (seen view) b
  pub held : GroupsAreHeld (seen view) blocks
  pub is : IsRemoval seen view directory name time blocks change

-- the call is answered so
pub data IsAnswered {V : Type 0} (seen : V → Seen) (view : V) (call : Call) (time : ℕ) : Reply → Change → Type 0 where
  refused : (r : Reply) (change : Change) → is_ok r ≡ false → IsRefused (seen view) call r → IsAnswered seen view call time r change
  removed : (change : Change) → IsRemovedBy seen view call time change → IsAnswered seen view call time reply.Ok change

-- this lock isn't held so strongly: of the next inode on the path, or of the first group that has some of the blocks that go
pub data IsLackedFor (v : Seen) (call : Call) (lock : LockName) : State → Type 0 where
  on_path : (state : State) → IsLacked v (wanted call) (path_of call false) lock state → IsLackedFor v call lock state
  of_group : (a : ℕ) (blocks : List ℕ) → IsTakenAt v call a → AreAllOf v a blocks → IsFirstGroupLack v blocks lock → IsLackedFor v call lock Ex

-- a block without which the call isn't answered: one on its path, or without which the name isn't found that is taken away; an indirect block of the inode
-- that is to go, or a leaf of it; or one of a group that has some of its blocks, the locks of all such groups being held
pub data IsNeededFor (v : Seen) (call : Call) (m : Missing) : Type 0 where
  on_path : IsUnread v (wanted call) (path_of call false) m → IsNeededFor v call m
  of_inode : (a : ℕ) → IsTakenAt v call a → IsNeededOf v a m → IsNeededFor v call m
  of_group : (a : ℕ) (blocks : List ℕ) → IsTakenAt v call a → AreAllOf v a blocks → GroupsAreHeld v blocks → freeing.IsNeededFor v blocks m → IsNeededFor v call m

abbrev pub IsToldOf : {V : Type 0} → (V → Seen) → V → Call → ℕ → Found → Type 0
IsToldOf seen view call time (found.Refused r) = IsRefused (seen view) call r
IsToldOf seen view call time (found.Removed change) = IsRemovedBy seen view call time change
IsToldOf seen view call time (found.NeedBlock m) = IsNeededFor (seen view) call m
IsToldOf seen view call time (found.NeedLock lock state) = IsLackedFor (seen view) call lock state

-- The block breaks this rule: on the path, with the inode at its end (so of a directory that counts other records than it has); or (2) a pointer in it of
-- the inode that is to go leads to a block that is no data block of a group, or it is the directory above, which is none; or (3) it is the directory above, or
-- has the name's record there, and is one of the blocks that would go with the inode; or in a group that has some of the inode's blocks, the locks of all such
-- groups being held.
pub data IsDamage (v : Seen) (call : Call) : ℕ → ℕ → Type 0 where
  on_path : (rule b : ℕ) → path.IsDamage v (wanted call) (path_of call false) rule b → IsDamage v call rule b
  stray : (a from b : ℕ) → IsTakenAt v call a → ((h : Holding) → IsShown v a h → IsLedFrom h from b) → ¬ (HasDataBlock v b) → IsDamage v call 2 from
  above : (a : ℕ) → LeadsTo v (wanted call) (parent_of (path_of call false)) a → ¬ (HasDataBlock v a) → IsDamage v call 2 a
  shared : (a b : ℕ) → IsTakenAt v call a → LeadsTo v (wanted call) (parent_of (path_of call false)) b → ((h : Holding) → dirs.IsShown v a h → Goes h b) → IsDamage v call 3 b
  shared_leaf : (a dir b : ℕ) (name : List ℕ) → a ≢ dir → IsTakenAt v call a → LeadsTo v (wanted call) (parent_of (path_of call false)) dir → IsLastOf (path_of call false) name
      → ((h : Holding) → dirs.IsShown v dir h → HasRecordOf h name b) → ((h : Holding) → dirs.IsShown v a h → Goes h b) → IsDamage v call 3 b
  in_group : (a rule b : ℕ) (blocks : List ℕ) → IsTakenAt v call a → AreAllOf v a blocks → GroupsAreHeld v blocks → freeing.BreaksSome v blocks rule b → IsDamage v call rule b

-- ---- in an image that the view may be of

-- the inode at the path's end, and the directory above it
pub record IsPlaceIn (im : Image) (o : Owners) (l : Layout) (call : Call) (p : Place) : Type 0 where
  pub at : IsAt im o l (path_of call false) p.inode
  pub above : IsAt im o l (parent_of (path_of call false)) p.above

-- the walk came to this place, the inode's lock is the last of the path's, and each of these is held
pub record IsReachedIn (v : Seen) (im : Image) (o : Owners) (l : Layout) (call : Call) (p : Place) : Type 0 where
  pub place : IsPlaceOf v im o l (path_of call false) p
  pub ends : EndsWith (holds_in im o l (path_of call false) (wanted call)) p.inode
  pub held : AreHeld v (holds_in im o l (path_of call false) (wanted call))

-- the reply is the tree's, and each lock of the list is held; or what stands in the way: the first lock of it that isn't held, or a block
-- that the view hasn't
abbrev pub IsFoundBy : Seen → Image → Owners → Layout → Reply → List Hold → Found → Type 0
IsFoundBy v im o l answer list (found.Refused r) = (answer ≡ r) × AreHeld v list
IsFoundBy v im o l answer list (found.Removed change) = (answer ≡ reply.Ok) × AreHeld v list
IsFoundBy v im o l answer list (found.NeedBlock m) = IsAskedFor v im o l list m
IsFoundBy v im o l answer list (found.NeedLock lock state) = IsFirstLack v list lock state

abbrev pub IsFound : Seen → Image → Owners → Layout → Tree → Call → Found → Type 0
IsFound v im o l t call f = IsFoundBy v im o l (apply call t).reply (holds_for im o l t call) f

-- In the image with the change the dinode of the directory above the name has this time, and the directory lacks the name's record, and has changed no
-- further: a linear one byte by byte, a hashed one in the leaf of the name and in its dinode.
pub record IsStamped (im : Image) (o : Owners) (l : Layout) (call : Call) (time : ℕ) (change : Change) : Type 0 where
  pub directory : ℕ
  pub at : IsAt im o l (parent_of (path_of call false)) directory
  pub times : HasTimes (dinode_of ((with_change im change).at directory)) time
  pub name : List ℕ
  pub last : IsLastOf (path_of call false) name
  pub in_linear : is_hashed_in (holding im o directory) ≡ false → LosesRecord (im.at directory) ((with_change im change).at directory) name time
  pub in_hashed : is_hashed_in (holding im o directory) ≡ true → LosesInLeaf (holding im o directory) (holding (with_change im change) o directory) name time

-- what a refusal is not: `ok`, or that too few blocks are free
abbrev pub IsRefusal : Found → Type 0
IsRefusal (found.Refused r) = Refuses r
IsRefusal f = ⊤

-- P of the change of a removal
abbrev pub IfRemoved : (Change → Type 0) → Found → Type 0
IfRemoved P (found.Removed change) = P change
IfRemoved P f = ⊤
