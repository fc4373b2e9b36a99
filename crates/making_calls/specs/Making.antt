-- The calls that make a name: what they answer, under which locks.
use Rattle.std.specs.Prelude.{ℕ, ◌≡◌, ◌≢◌, ◌+◌, ◌<◌, ⊤, Bool, true, false, if◌then◌else◌, List, [], ◌∷◌, ◌++◌, length, map, Contains, Option, None, Some}
use Rattle.file_tree.specs.Names.{parent_of, last_of}
use Rattle.file_tree.specs.Tree.{Tree}
use Rattle.file_tree.specs.Apply.{apply}
use Rattle.file_tree.specs.declared.call.Call.{Call}
use Rattle.file_tree.specs.declared.call.Call.TheVariants.{Create, Mkdir}
use Rattle.file_tree.specs.declared.reply.Reply.{Reply}
use Rattle.file_tree.specs.declared.reply.Reply.TheVariants.{Ok}
use Rattle.file_tree.specs.declared.reply.Reply.TheVariants as reply
use Rattle.drafts.specs.declared.change.Change.{Change}
use Rattle.cluster_history.specs.Changes.{is_ok}
use Rattle.gfs2_layout.specs.Holding.{Holding, alone}
use Rattle.gfs2_layout.specs.Inode.{is_directory_in, is_hashed_in}
use Rattle.gfs2_layout.specs.Structures.{dinode_of}
use Rattle.glock_names.specs.Views.{Seen, HasBlock, HasGroup, group_of_entry}
use Rattle.glock_names.specs.declared.LockName.{LockName}
use Rattle.glock_names.specs.declared.State.{State}
use Rattle.glock_names.specs.declared.steps.Entry.{Entry}
use Rattle.glock_names.specs.declared.steps.Missing.{Missing}
use Rattle.glock_names.specs.declared.views.Group.{Group}
use Rattle.call_locks.specs.Wants.{wanted}
use Rattle.call_locks.specs.WantLaws.{path_of}
use Rattle.dinode_tree.specs.Shown.{IsShown}
use Rattle.resource_groups.specs.Putting.{HasDataBlock}
use Rattle.resource_groups.specs.Shown.{IsDataOf, said}
use Rattle.image_model.specs.Flat.{Path, follow}
use Rattle.image_model.specs.Image.{Image}
use Rattle.image_model.specs.Owners.{Owners, holding}
use Rattle.image_model.specs.Stands.{Layout, flat_of}
use Rattle.image_changes.specs.Does.{with_change}
use Rattle.image_changes.specs.Instances.{IsAt, dinode_at}
use Rattle.name_drafts.specs.Answers.{Refuses}
use Rattle.name_drafts.specs.Holds.{Hold, AreHeld, IsAskedFor, IsFirstLack, holds, holds_in, hold_of_group}
use Rattle.name_drafts.specs.walk.Place.{Place}
use Rattle.name_drafts.specs.DirectoryShown as dirs
use Rattle.hash_dirs.specs.Shown.{IsSound}
use Rattle.draft_changes.specs.Resizing.{HoldsThere}
use Rattle.name_drafts.specs.Needing as leaves
use Rattle.name_drafts.specs.Inserting.{CanGetName, IsNamed, IsNeededForName, IsWrongForName, SeesForName}
use Rattle.name_drafts.specs.Need.{name_need, need_in_linear}
use Rattle.name_drafts.specs.Way.{IsOnWay, IsRightWay}
use Rattle.name_drafts.specs.Paths.{SeesPath}
use Rattle.name_drafts.specs.Drafting.{CountsNumber, GetsRecord, HasLinearRoom, HasTimes, IsAddition, IsNewInode, IsNextOf, entry_for}
use Rattle.new_inodes.specs.Touched.{IsTouched}
use Rattle.name_drafts.specs.Walks.{LeadsTo, Names, IsAbsent, IsDirectoryAt, IsLacked, IsOnTheWay, IsPlaceOf, IsSeenAt, IsUnread, IsWrongAt, LacksName}
use Rattle.name_drafts.specs.Walks as path
use Rattle.room_search.specs.Blocks.{states_by, free_for, free_in_all, group_of_node}
use Rattle.room_search.specs.Searches.{AreShown, IsGroupBroken, IsGroupNeeded}
use Rattle.making_calls.specs.Blocks.{block_holds, new_holds}
use Rattle.making_calls.specs.Searches.{IsNewRoom, blocks_of}
use Rattle.making_calls.specs.declared.blocks.Room.{Room}
use Rattle.making_calls.specs.declared.finds.Found.{Found}
use Rattle.making_calls.specs.declared.finds.Found.TheVariants as found

-- the call makes a name: of a file, or of a directory
abbrev pub IsMaking : Call → Type 0
IsMaking (Create path) = Unit {0}
IsMaking (Mkdir path) = Unit {0}
IsMaking _ = ⊥

-- it makes a directory
abbrev pub makes_directory : Call → Bool
makes_directory (Mkdir path) = true
makes_directory _ = false

-- the path of the directory that gets the name, and the name
abbrev pub directory_path : Call → Path
directory_path call = parent_of (path_of call false)

abbrev pub name_in : Call → List ℕ
name_in call = last_of (path_of call false)

-- ---- in one image

-- the locks of the inodes on the directory's path
abbrev pub path_holds : Image → Owners → Layout → Call → List Hold
path_holds im o l call = holds_in im o l (directory_path call) (wanted call)

-- how many blocks the directory in this block, which is to get the name, takes for it
abbrev pub need_at : Image → Owners → List ℕ → Option ℕ → ℕ
need_at im o name None = 0
need_at im o name (Some a) = name_need (holding im o a) name

-- how many blocks the call needs: one for the new inode's dinode, and those of the directory
abbrev pub blocks_needed : Image → Owners → Layout → Call → ℕ
blocks_needed im o l call = need_at im o (name_in call) (follow (flat_of im o) l.root (directory_path call)) + 1

-- the locks under which these are found, where the tree takes the call
abbrev pub inode_holds : Image → Owners → Layout → Tree → Call → ℕ → List Hold
inode_holds im o l t call node = if is_ok (apply call t).reply then new_holds o l node (blocks_needed im o l call) else []

-- the locks that the call takes, in their order: those on the directory's path, and then those of the groups in which the node finds blocks, and of the new inode
abbrev pub call_holds : Image → Owners → Layout → Tree → Call → ℕ → List Hold
call_holds im o l t call node = path_holds im o l call ++ inode_holds im o l t call node

-- The tree would take the call, but fewer blocks are free, in all groups, than it needs. Each lock on the path and of each group is held; the view has the
-- dinode of each directory on the path, and of that at its end each block that is looked at to tell how the name comes in.
pub record IsTooFew (v : Seen) (im : Image) (o : Owners) (l : Layout) (t : Tree) (call : Call) (need free : ℕ) : Type 0 where
  pub taken : (apply call t).reply ≡ Ok
  pub directory : ℕ
  pub at : IsAt im o l (directory_path call) directory
  pub on_path : AreHeld v (path_holds im o l call)
  pub groups : AreHeld v (map hold_of_group (map group_of_entry l.groups))
  pub seen : SeesPath v im o l (directory_path call)
  pub looked : SeesForName v (holding im o directory) (name_in call)
  pub needs : need ≡ blocks_needed im o l call
  pub free_are : free ≡ length (free_in_all (states_by o) (map group_of_entry l.groups))
  pub fewer : free < need

-- ---- as far as the view shows

-- The path has a last name; what is before it leads to this directory, which hasn't the name.
pub record IsToGetName (v : Seen) (call : Call) : Type 0 where
  pub below : path_of call false ≢ []
  pub directory : ℕ
  pub leads : LeadsTo v (wanted call) (directory_path call) directory
  pub there : HasBlock v directory
  pub lacks : LacksName v directory (name_in call)

-- The directory in this block takes so many blocks for the name, by what stands there, be it right or wrong: a linear one by its records, a hashed one by
-- the name's chain. Of a sound one that is what the name needs. The view has each block that is looked at for that.
pub record TakesForName (v : Seen) (dir : ℕ) (name : List ℕ) (more : ℕ) : Type 0 where
  pub sound : (h : Holding) → dirs.IsShown v dir h → IsSound h → is_directory_in h ≡ true → more ≡ name_need h name
  pub linear : (h : Holding) → dirs.IsShown v dir h → is_hashed_in h ≡ false → more ≡ need_in_linear h name
  pub hashed : (h : Holding) → dirs.IsShown v dir h → is_hashed_in h ≡ true → leaves.TakesBlocks h name more
  pub looked : (h : Holding) → dirs.IsShown v dir h → SeesForName v h name

-- The directory is to get the name, and so many blocks are needed in all: one for the new inode, and those that the directory takes.
pub record NeedsBlocks (v : Seen) (call : Call) (need : ℕ) : Type 0 where
  pub gets : IsToGetName v call
  pub more : ℕ
  pub takes : TakesForName v gets.directory (name_in call) more
  pub all : need ≡ more + 1

-- These are the blocks that the node takes for it, as far as the view's groups say; and every lock under which they are found is held.
pub record TakesBlocks (v : Seen) (node need : ℕ) (room : Room) : Type 0 where
  pub own : Group
  pub of_node : group_of_node v.groups node ≡ Some own
  pub first : (at : ℕ → List ℕ) → AreShown v at → IsNewRoom v (said at) own need room
  pub held : (at : ℕ → List ℕ) → AreShown v at → AreHeld v (block_holds (said at) v.groups own need)

-- The call is refused so: its path has no name; a name on the directory's path isn't there, or is asked of a file; or the inode at that path's
-- end is a file, or a directory that has the name already.
pub data IsRefused (v : Seen) (call : Call) : Reply → Type 0 where
  of_root : path_of call false ≡ [] → IsRefused v call reply.Exists
  not_found : IsAbsent v (wanted call) (directory_path call) → IsRefused v call reply.NotFound
  not_dir : (a : ℕ) → IsOnTheWay v (wanted call) (directory_path call) a (λ h. is_directory_in h ≡ false) → IsRefused v call reply.NotDir
  in_file : (a : ℕ) → path_of call false ≢ [] → LeadsTo v (wanted call) (directory_path call) a → HasBlock v a → ((h : Holding) → IsShown v a h → is_directory_in h ≡ false)
      → IsRefused v call reply.NotDir
  has_name : (a b : ℕ) → path_of call false ≢ [] → LeadsTo v (wanted call) (directory_path call) a → Names v a (name_in call) b → IsRefused v call reply.Exists

-- The name was made in the directory at this place, which is to get it: the change is that of this addition, in the blocks that the node takes. The first of
-- these is the new inode's, and the directory takes the rest. The way to the name is right, and none of them is on it.
pub record IsMadeBy (v : Seen) (call : Call) (node time : ℕ) (change : Change) : Type 0 where
  pub need : ℕ
  pub needs : NeedsBlocks v call need
  pub place : Place
  pub at : IsSeenAt v (wanted call) (directory_path call) place
  pub directory : place.inode ≡ needs.gets.directory
  pub inside : HasDataBlock v place.inode
  pub room : Room
  pub takes : TakesBlocks v node need room
  pub way : (h : Holding) → dirs.IsShown v place.inode h → IsRightWay v h (name_in call) (blocks_of room)
  pub added : IsAddition v (makes_directory call) place (name_in call) room.new room.rest.items time change

-- the call is answered so
pub data IsAnswered (v : Seen) (call : Call) (node time : ℕ) : Reply → Change → Type 0 where
  refused : (r : Reply) (change : Change) → IsRefused v call r → IsAnswered v call node time r change
  made : (change : Change) → IsMadeBy v call node time change → IsAnswered v call node time reply.Ok change

-- This lock isn't held so strongly: of the next inode on the directory's path; or, where the directory is to get the name, the first of those under which
-- the node finds the blocks that are needed, as far as the view's groups say.
pub data IsLackedFor (v : Seen) (call : Call) (node : ℕ) (lock : LockName) (state : State) : Type 0 where
  on_path : IsLacked v (wanted call) (directory_path call) lock state → IsLackedFor v call node lock state
  of_block : (own : Group) (need : ℕ) → NeedsBlocks v call need → group_of_node v.groups node ≡ Some own → holds v (record { lock = lock; state = state }) ≡ false
      → ((at : ℕ → List ℕ) → AreShown v at → IsFirstLack v (block_holds (said at) v.groups own need) lock state) → IsLackedFor v call node lock state

-- The directory is to get the name, and so many blocks are needed, but fewer are free, in all groups, whose locks are held, as far as the view shows them.
pub record IsFullFor (v : Seen) (call : Call) (need free : ℕ) : Type 0 where
  pub needs : NeedsBlocks v call need
  pub held : AreHeld v (map hold_of_group v.groups)
  pub free_are : (at : ℕ → List ℕ) → AreShown v at → free ≡ length (free_in_all (said at) v.groups)
  pub fewer : free < need

-- The call isn't built for what stands there: the directory that is to get the name can't get it in the blocks that the node takes, since it isn't sound, or
-- can't count it, or the blocks are its own. The way to the name is right all the same, as `IsRightWay` has it, and none of the blocks is on it. In an image that
-- stands for a tree no directory is such a one.
pub record IsUnbuilt (v : Seen) (call : Call) (node : ℕ) : Type 0 where
  pub need : ℕ
  pub needs : NeedsBlocks v call need
  pub room : Room
  pub takes : TakesBlocks v node need room
  pub way : (h : Holding) → dirs.IsShown v needs.gets.directory h → IsRightWay v h (name_in call) (blocks_of room)
  pub unfit : (h : Holding) → dirs.IsShown v needs.gets.directory h → CanGetName h (name_in call) room.rest.items → ⊥

-- A block without which the call isn't answered: one on the directory's path; of the directory at its end, one without which it isn't told whether it has the
-- name; or, where it is to get the name, one without which it isn't told how this comes in; or then one of the header and bitmap of a group whose lock
-- is held.
pub data IsNeededFor (v : Seen) (call : Call) (m : Missing) : Type 0 where
  on_path : IsUnread v (wanted call) (directory_path call) m → IsNeededFor v call m
  to_look : (a : ℕ) → path_of call false ≢ [] → LeadsTo v (wanted call) (directory_path call) a → HasBlock v a → IsDirectoryAt v a → v.block_at m.block ≡ None
      → ((h : Holding) → dirs.IsShown v a h → dirs.IsNeededFor v h (name_in call) m) → IsNeededFor v call m
  to_insert : (gets : IsToGetName v call) → v.block_at m.block ≡ None → ((h : Holding) → dirs.IsShown v gets.directory h → IsNeededForName v h (name_in call) m) → IsNeededFor v call m
  of_group : IsToGetName v call → IsGroupNeeded v m → IsNeededFor v call m

-- A data block of a group whose lock is held, whose bits call it free, as far as the view's groups say.
pub record IsCalledFree (v : Seen) (b : ℕ) : Type 0 where
  pub group : Group
  pub has : HasGroup v group
  pub data_block : IsDataOf group b
  pub held : holds v (hold_of_group group) ≡ true
  pub free : (at : ℕ → List ℕ) → AreShown v at → said at group b ≡ 0

-- the block breaks this rule: on the path, or in the directory at its end; where this is to get the name, in it as what stands there for the name, or in a group
-- whose lock is held; or (2) the directory is none of the groups' data blocks; or (5), where it is to get the name, the bits of its group call a block free
-- that is on the way to the name
pub data IsDamage (v : Seen) (call : Call) : ℕ → ℕ → Type 0 where
  on_path : (rule b : ℕ) → path.IsDamage v (wanted call) (directory_path call) rule b → IsDamage v call rule b
  in_directory : (a rule b : ℕ) → LeadsTo v (wanted call) (directory_path call) a → IsWrongAt v a rule b → IsDamage v call rule b
  for_name : (rule b : ℕ) (gets : IsToGetName v call) → ((h : Holding) → dirs.IsShown v gets.directory h → IsWrongForName v h rule b) → IsDamage v call rule b
  in_group : (rule b : ℕ) → IsToGetName v call → IsGroupBroken v rule b → IsDamage v call rule b
  no_data_block : (a : ℕ) → LeadsTo v (wanted call) (directory_path call) a → ¬ (HasDataBlock v a) → IsDamage v call 2 a
  called_free : (b : ℕ) (gets : IsToGetName v call) → ((h : Holding) → dirs.IsShown v gets.directory h → IsOnWay h (name_in call) b) → IsCalledFree v b → IsDamage v call 5 b

-- ---- in an image that the view may be of

-- the walk came to this place, and each lock on the path is held
pub record IsReachedIn (v : Seen) (im : Image) (o : Owners) (l : Layout) (call : Call) (p : Place) : Type 0 where
  pub place : IsPlaceOf v im o l (directory_path call) p
  pub held : AreHeld v (path_holds im o l call)

-- The reply is the tree's, and each lock of the list is held; or what stands in the way: the first lock of it that isn't held, a block that the
-- view hasn't, or that too few blocks are free.
abbrev pub IsFoundBy : Seen → Image → Owners → Layout → Tree → Call → List Hold → Found → Type 0
IsFoundBy v im o l t call list (found.Refused r) = ((apply call t).reply ≡ r) × AreHeld v list
IsFoundBy v im o l t call list (found.Made change) = AreHeld v list
IsFoundBy v im o l t call list (found.NeedBlock m) = IsAskedFor v im o l list m
IsFoundBy v im o l t call list (found.NeedLock lock state) = IsFirstLack v list lock state
IsFoundBy v im o l t call list found.NotBuilt = ⊥
IsFoundBy v im o l t call list (found.NoSpace need free) = IsTooFew v im o l t call need free

abbrev pub IsFound : Seen → Image → Owners → Layout → Tree → Call → ℕ → Found → Type 0
IsFound v im o l t call node f = IsFoundBy v im o l t call (call_holds im o l t call node) f

-- on every view, the call is answered so, or this stands in its way
abbrev pub IsToldOf : Seen → Call → ℕ → ℕ → Found → Type 0
IsToldOf v call node time (found.Refused r) = IsRefused v call r
IsToldOf v call node time (found.Made change) = IsMadeBy v call node time change
IsToldOf v call node time (found.NeedLock lock state) = IsLackedFor v call node lock state
IsToldOf v call node time (found.NeedBlock m) = IsNeededFor v call m
IsToldOf v call node time found.NotBuilt = IsUnbuilt v call node
IsToldOf v call node time (found.NoSpace need free) = IsFullFor v call need free

-- where `..` of a directory below this one leads
abbrev pub entry_in : Image → Owners → ℕ → Entry
entry_in im o a = record { number = (dinode_at im o a).num.number; addr = a; kind = 4 }

-- In this image the directory, which was this one before, has got the name: it took these blocks for it, as many as it needs, and then the time.
pub record HasGotName (im : Image) (name : List ℕ) (e : Entry) (time : ℕ) (taken : List ℕ) (h : Holding) : Type 0 where
  pub named : Holding
  pub gets : IsNamed name e h named taken
  pub few : length taken ≡ name_need h name
  pub now : Holding
  pub touched : IsTouched named now time
  pub there : HoldsThere im h.own now

-- The change puts the new inode, byte by byte, into the first of the blocks that the node takes, with this time and with the next number of the block's
-- group, which counts it; and the directory gets the name in the rest of these blocks, and the time: a linear one that has room for it byte by byte.
pub record IsMade (im : Image) (o : Owners) (l : Layout) (call : Call) (node time : ℕ) (change : Change) : Type 0 where
  pub directory : ℕ
  pub at : IsAt im o l (directory_path call) directory
  pub own : Group
  pub of_node : group_of_node (map group_of_entry l.groups) node ≡ Some own
  pub block : ℕ
  pub rest : List ℕ
  pub first : block ∷ rest ≡ free_for (states_by o) (map group_of_entry l.groups) own (blocks_needed im o l call)
  pub group : Group
  pub listed : Contains (map group_of_entry l.groups) group
  pub data_block : IsDataOf group block
  pub number : ℕ
  pub next : IsNextOf im.at group number
  pub counted : CountsNumber im.at (with_change im change).at group number
  pub is : IsNewInode (makes_directory call) (entry_in im o directory) number block time (alone im.size im.count block ((with_change im change).at block))
  pub gets : HasLinearRoom (holding im o directory) (name_in call)
      → GetsRecord (im.at directory) ((with_change im change).at directory) (name_in call) (entry_for (makes_directory call) number block) time
  pub got : HasGotName (with_change im change) (name_in call) (entry_for (makes_directory call) number block) time rest (holding im o directory)

-- in the image with the change the dinode of the directory that gets the name has this time
abbrev pub IsStamped : Image → Owners → Layout → Call → ℕ → Change → Type 0
IsStamped im o l call time change = (a : ℕ) × IsAt im o l (directory_path call) a × HasTimes (dinode_of ((with_change im change).at a)) time

-- what a refusal is not: `ok`, or that too few blocks are free
abbrev pub IsRefusal : Found → Type 0
IsRefusal (found.Refused r) = Refuses r
IsRefusal f = ⊤

-- P of the change that is made
abbrev pub IfMade : (Change → Type 0) → Found → Type 0
IfMade P (found.Made change) = P change
IfMade P f = ⊤
