-- The calls that write: bytes into a file, another size of one, and all that isn't on the disk yet.
use Rattle.std.specs.Prelude.{ℕ, ◌≡◌, ◌+◌, ◌<◌, ◌≤◌, ⊤, true, false, nat_lt, if◌then◌else◌, List, [], ◌++◌, length, map, Option, None, Some, Result, Ok}
use Rattle.std.specs.FinMap.{FinMap}
use Rattle.std.specs.Ordering.{nat_cmp}
use Rattle.cluster_history.specs.Changes.{is_ok}
use Rattle.file_tree.specs.Apply.{apply, file_limit, overwritten, resized}
use Rattle.file_tree.specs.Tree.{Tree}
use Rattle.file_tree.specs.declared.call.Call.{Call}
use Rattle.file_tree.specs.declared.call.Call.TheVariants.{Write, Truncate, Sync}
use Rattle.file_tree.specs.declared.reply.Reply.{Reply}
use Rattle.file_tree.specs.declared.reply.Reply.TheVariants as reply
use Rattle.gfs2_layout.specs.Holding.{Holding}
use Rattle.gfs2_layout.specs.Inode.{dinode_in, is_directory_in}
use Rattle.glock_names.specs.Views.{Seen, HasBlock, group_of_entry}
use Rattle.glock_names.specs.declared.LockName.{LockName}
use Rattle.glock_names.specs.declared.State.{State}
use Rattle.glock_names.specs.declared.State.TheVariants.{Ex}
use Rattle.glock_names.specs.declared.steps.CallFault.{CallFault}
use Rattle.glock_names.specs.declared.steps.Missing.{Missing}
use Rattle.glock_names.specs.declared.views.Group.{Group}
use Rattle.call_locks.specs.Wants.{wanted}
use Rattle.call_locks.specs.WantLaws.{path_of}
use Rattle.dinode_tree.specs.Shown.{IsShown}
use Rattle.growth_laws.specs.Files.{IsFile}
use Rattle.growth_laws.specs.Need.{needed}
use Rattle.file_changes.specs.Filling.{IsSeenWay}
use Rattle.growth_drafts.specs.Taken.{IsCutAt, IsLookedAt}
use Rattle.drafts.specs.declared.attempt.Attempt.{Attempt}
use Rattle.drafts.specs.declared.attempt.Attempt.TheVariants.{Done}
use Rattle.drafts.specs.declared.change.Change.{Change}
use Rattle.drafts.specs.declared.fate.Fate.{Fate}
use Rattle.resource_groups.specs.Putting.{HasDataBlock}
use Rattle.resource_groups.specs.Shown.{said}
use Rattle.image_model.specs.Flat.{follow}
use Rattle.image_model.specs.Image.{Image}
use Rattle.image_model.specs.Owners.{Owners, holding}
use Rattle.image_model.specs.Stands.{Layout, flat_of}
use Rattle.image_changes.specs.Instances.{IsAt, dinode_at}
use Rattle.file_changes.specs.Drafting.{IsCutDraft, IsFreedAndDone, IsNeededAt, IsWriteDraft, IsWrongAt}
use Rattle.file_changes.specs.Making.{goes_at}
use Rattle.path_walks.specs.Answers.{Refuses}
use Rattle.path_walks.specs.Holds.{Hold, AreHeld, IsAskedFor, IsFirstLack, IsUnder, hold_of_group, holds, holds_in}
use Rattle.path_walks.specs.Walks as path
use Rattle.path_walks.specs.Walks.{LeadsTo, IsAbsent, IsLacked, IsOnTheWay, IsUnread}
use Rattle.room_search.specs.Blocks.{free_for, free_in_all, group_holds, group_of_node, room_holds, states_by}
use Rattle.room_search.specs.Searches.{AreShown, IsGroupBroken, IsGroupNeeded}
use Rattle.file_changes.specs.Groups.{GroupsAreHeld, IsFirstGroupLack, holds_of_groups}
use Rattle.writing_calls.specs.Contents.{NeedsBlocks}
use Rattle.writing_calls.specs.Drafting.{IsWrite}
use Rattle.writing_calls.specs.declared.finds.Found.{Found}
use Rattle.writing_calls.specs.declared.finds.Found.TheVariants as found

-- the call changes a file's content
abbrev pub IsEdit : Call → Type 0
IsEdit (Write path at new) = Unit {0}
IsEdit (Truncate path size) = Unit {0}
IsEdit _ = ⊥

-- or waits until all is on the disk
abbrev pub IsWriting : Call → Type 0
IsWriting Sync = Unit {0}
IsWriting call = IsEdit call

-- the content after the call of a file that had this
abbrev pub content_after : Call → List ℕ → List ℕ
content_after (Write path at new) bytes = overwritten at new bytes
content_after (Truncate path size) bytes = resized size bytes
content_after call bytes = bytes

-- how long the content is to be at least, which no file may pass
abbrev pub end_of : Call → ℕ
end_of (Write path at new) = at + length new
end_of (Truncate path size) = size
end_of _ = 0

-- it writes these bytes from this place on
abbrev pub Writes : Call → ℕ → List ℕ → Type 0
Writes call at new = call ≡ Write (path_of call false) at new

-- To a file of this size the call writes these bytes from this place on. A cut to more bytes than the file has writes none, at its new end.
pub data Puts (call : Call) (size : ℕ) : ℕ → List ℕ → Type 0 where
  by_write : (at : ℕ) (new : List ℕ) → Writes call at new → Puts call size at new
  by_growth : (end : ℕ) → call ≡ Truncate (path_of call false) end → size < end → Puts call size end []

-- of a file of this size it leaves so many bytes
pub record Cuts (call : Call) (size end : ℕ) : Type 0 where
  pub is : call ≡ Truncate (path_of call false) end
  pub shorter : end ≤ size

-- ---- the locks of the call

-- beside those on its path, of the file in this block: where it needs free blocks, those of the groups in which the node finds them; and where
-- blocks go, those of their groups
abbrev pub group_holds_of : Image → Owners → Layout → Call → ℕ → ℕ → List Hold
group_holds_of im o l (Write path at new) node a = room_holds o l node (needed (holding im o a) at (length new))
group_holds_of im o l (Truncate path size) node a =
    if nat_lt (dinode_at im o a).size size then room_holds o l node (needed (holding im o a) size 0)
    else holds_of_groups (goes_at (holding im o a) size) l.groups
group_holds_of im o l call node a = []

abbrev pub group_holds_at : Image → Owners → Layout → Call → ℕ → Option ℕ → List Hold
group_holds_at im o l call node None = []
group_holds_at im o l call node (Some a) = group_holds_of im o l call node a

-- the locks that the call takes, in their order: those of the inodes on its path, and where the tree takes the call those of groups
abbrev pub call_holds : Image → Owners → Layout → Tree → Call → ℕ → List Hold
call_holds im o l t call node = holds_in im o l (path_of call false) (wanted call)
    ++ (if is_ok (apply call t).reply then group_holds_at im o l call node (follow (flat_of im o) l.root (path_of call false)) else [])

-- how many blocks it needs in the image, of the file in this block
abbrev pub need_in : Image → Owners → Call → ℕ → ℕ
need_in im o (Write path at new) a = needed (holding im o a) at (length new)
need_in im o (Truncate path size) a = if nat_lt (dinode_at im o a).size size then needed (holding im o a) size 0 else 0
need_in im o call a = 0

-- the call looks at this block of content of the file in the block: it puts bytes there, or an end that moves on stands in it
abbrev pub looks_at : Image → Owners → Call → ℕ → ℕ → Type 0
looks_at im o (Write path at new) a i = IsLookedAt (holding im o a) at (at + length new) i
looks_at im o (Truncate path size) a i = (dinode_at im o a).size < size × IsLookedAt (holding im o a) size (size + 0) i
looks_at im o call a i = ⊥

-- The tree would take the call, but fewer blocks are free, in all groups, than it needs. Each lock on the path and of each group is held, and each
-- block of the file at which the call looks is in the view.
pub record IsTooFew (v : Seen) (im : Image) (o : Owners) (l : Layout) (t : Tree) (call : Call) (need free : ℕ) : Type 0 where
  pub taken : (apply call t).reply ≡ reply.Ok
  pub inode : ℕ
  pub at : IsAt im o l (path_of call false) inode
  pub on_path : AreHeld v (holds_in im o l (path_of call false) (wanted call))
  pub groups : AreHeld v (map hold_of_group (map group_of_entry l.groups))
  pub looked : (i : ℕ) → looks_at im o call inode i → IsSeenWay v (holding im o inode) i
  pub needs : need ≡ need_in im o call inode
  pub free_are : free ≡ length (free_in_all (states_by o) (map group_of_entry l.groups))
  pub fewer : free < need

-- ---- as far as the view shows

-- the path leads to a dinode that the view has, and P is so of each inode that this may be
pub record IsAtEnd (v : Seen) (call : Call) (a : ℕ) (P : Holding → Type 0) : Type 0 where
  pub leads : LeadsTo v (wanted call) (path_of call false) a
  pub there : HasBlock v a
  pub so : (h : Holding) → IsShown v a h → P h

-- a file that may be so long
pub record IsOpenTo (end : ℕ) (h : Holding) : Type 0 where
  pub file : is_directory_in h ≡ false
  pub short : end ≤ file_limit

-- such a file is at the path's end, and its dinode's block is a data block of a group
pub record IsToChange (v : Seen) (call : Call) (a : ℕ) : Type 0 where
  pub at : IsAtEnd v call a (IsOpenTo (end_of call))
  pub inside : HasDataBlock v a

-- The call isn't built for what stands there: a file is at its path's end that isn't sound in itself, in a way that no rule tells of
-- what was read. In an image that stands for a tree no file is such a one.
abbrev pub IsUnbuilt : Seen → Call → Type 0
IsUnbuilt v call = IsEdit call × ((a : ℕ) × IsToChange v call a)

-- the call is refused so: the walk along its path ends before, or at a directory, or the file would get too long
pub data IsRefused (v : Seen) (call : Call) : Reply → Type 0 where
  not_found : IsAbsent v (wanted call) (path_of call false) → IsRefused v call reply.NotFound
  not_dir : (a : ℕ) → IsOnTheWay v (wanted call) (path_of call false) a (λ h. is_directory_in h ≡ false) → IsRefused v call reply.NotDir
  is_dir : (a : ℕ) → IsAtEnd v call a (λ h. is_directory_in h ≡ true) → IsRefused v call reply.IsDir
  too_big : (a : ℕ) → IsAtEnd v call a (λ h. is_directory_in h ≡ false) → file_limit < end_of call → IsRefused v call reply.TooBig

-- it puts these bytes there, as the size says of each inode that this may be
abbrev pub PutsThere : Seen → Call → ℕ → ℕ → List ℕ → Type 0
PutsThere v call a at new = (h : Holding) → IsShown v a h → Puts call (dinode_in h).size at new

abbrev pub CutsThere : Seen → Call → ℕ → ℕ → Type 0
CutsThere v call a end = (h : Holding) → IsShown v a h → Cuts call (dinode_in h).size end

-- Of each file that this may be so many blocks are needed, and the view has the blocks of content at which the call looks.
pub record IsNeedOf (v : Seen) (a at : ℕ) (new : List ℕ) (need : ℕ) : Type 0 where
  pub so_many : (h : Holding) → IsShown v a h → IsFile h → need ≡ needed h at (length new)
  pub looked : (h : Holding) (i : ℕ) → IsShown v a h → IsFile h → IsLookedAt h at (at + length new) i → IsSeenWay v h i

-- a write goes into blocks only where its bytes haven't room behind the dinode
abbrev pub GoesIntoBlocks : Seen → Call → ℕ → Type 0
GoesIntoBlocks v (Write path at new) a = (h : Holding) → IsShown v a h → NeedsBlocks h.size (dinode_in h) (at + length new)
GoesIntoBlocks v call a = ⊤

-- These are the blocks that the node takes, as many as are needed, as the bits of the view's groups say; and the locks under which it finds them
-- are held.
pub record IsRoomOf (v : Seen) (node need : ℕ) (room : List ℕ) : Type 0 where
  pub own : Group
  pub of_node : group_of_node v.groups node ≡ Some own
  pub many : length room ≡ need
  pub first : (at : ℕ → List ℕ) → AreShown v at → room ≡ free_for (said at) v.groups own need
  pub held : (at : ℕ → List ℕ) → AreShown v at → AreHeld v (group_holds (said at) v.groups own need)

-- The change is that of the call on the file in block a. Bytes are put behind the dinode, where they have room; or blocks are taken, as many as
-- the call needs; or the file is cut, and blocks of it are freed, the locks of whose groups are held.
pub data IsChangeOf (v : Seen) (call : Call) (node a time : ℕ) (change : Change) : Type 0 where
  in_dinode : (at : ℕ) (new : List ℕ) → PutsThere v call a at new → IsWrite v a at new time change → IsChangeOf v call node a time change
  in_blocks : (at : ℕ) (new : List ℕ) (need : ℕ) (room : List ℕ) → GoesIntoBlocks v call a → PutsThere v call a at new → IsNeedOf v a at new need → IsRoomOf v node need room
      → IsWriteDraft v a at new time room change → IsChangeOf v call node a time change
  by_cut : (size : ℕ) (freed : List ℕ) (fates : FinMap nat_cmp Fate) → CutsThere v call a size → IsCutDraft v a size time freed fates → GroupsAreHeld v freed
      → IsFreedAndDone v fates freed change → IsChangeOf v call node a time change

-- such a call that was answered Ok has changed the file so, at this time; else it is refused
abbrev pub IsEditAnswered : Seen → Call → ℕ → ℕ → Reply → Change → Type 0
IsEditAnswered v call node time reply.Ok change = (a : ℕ) × IsToChange v call a × IsChangeOf v call node a time change
IsEditAnswered v call node time r change = IsRefused v call r

-- and `sync` Ok
abbrev pub IsAnswered : Seen → Call → ℕ → ℕ → Reply → Change → Type 0
IsAnswered v Sync node time r change = r ≡ reply.Ok
IsAnswered v call node time r change = IsEditAnswered v call node time r change

-- this lock isn't held so strongly: of the next inode on the path; of a group in which the node finds the blocks that the call needs; or of the
-- first group that has some of the blocks that go
pub data IsLackedFor (v : Seen) (call : Call) (node : ℕ) (lock : LockName) (state : State) : Type 0 where
  on_path : IsLacked v (wanted call) (path_of call false) lock state → IsLackedFor v call node lock state
  of_room : (a : ℕ) (at : ℕ) (new : List ℕ) (need : ℕ) (own : Group) → IsToChange v call a → PutsThere v call a at new → IsNeedOf v a at new need → group_of_node v.groups node ≡ Some own
      → holds v (record { lock = lock; state = state }) ≡ false
      → ((at : ℕ → List ℕ) → AreShown v at → IsFirstLack v (group_holds (said at) v.groups own need) lock state) → IsLackedFor v call node lock state
  of_freed : (a size time : ℕ) (freed : List ℕ) (fates : FinMap nat_cmp Fate) → IsToChange v call a → CutsThere v call a size → IsCutDraft v a size time freed fates
      → IsFirstGroupLack v freed lock → state ≡ Ex → IsLackedFor v call node lock state

-- A block for which the call asks: one on the path; one of the file, which the call may read; one with the bits of the blocks that are
-- taken or that go; or, where free blocks are looked for, one of a group whose lock is held.
pub data IsNeededFor (v : Seen) (call : Call) (m : Missing) : Type 0 where
  on_path : IsUnread v (wanted call) (path_of call false) m → IsNeededFor v call m
  of_write : (a at : ℕ) (new : List ℕ) → IsToChange v call a → PutsThere v call a at new → IsNeededAt v a (λ h. IsLookedAt h at (at + length new)) [] m → IsNeededFor v call m
  of_taken : (node a at : ℕ) (new : List ℕ) (need : ℕ) (room : List ℕ) → IsToChange v call a → PutsThere v call a at new → IsNeedOf v a at new need → IsRoomOf v node need room
      → IsNeededAt v a (λ h. IsLookedAt h at (at + length new)) room m → IsNeededFor v call m
  of_cut : (a size : ℕ) → IsToChange v call a → CutsThere v call a size → IsNeededAt v a (λ h. IsCutAt h size) [] m → IsNeededFor v call m
  of_freed : (a size time : ℕ) (freed : List ℕ) (fates : FinMap nat_cmp Fate) → IsToChange v call a → CutsThere v call a size → IsCutDraft v a size time freed fates → GroupsAreHeld v freed
      → IsNeededAt v a (λ h i. ⊥) freed m → IsNeededFor v call m
  of_room : (a at : ℕ) (new : List ℕ) (need : ℕ) → IsToChange v call a → PutsThere v call a at new → IsNeedOf v a at new need → IsGroupNeeded v m → IsNeededFor v call m

-- Too few blocks are free for the call, in all groups, whose locks are held, as far as the view shows: so many, and so many are needed.
pub record IsFullFor (v : Seen) (call : Call) (need free : ℕ) : Type 0 where
  pub edits : IsEdit call
  pub inode : ℕ
  pub changes : IsToChange v call inode
  pub place : ℕ
  pub new : List ℕ
  pub puts : PutsThere v call inode place new
  pub needs : IsNeedOf v inode place new need
  pub held : AreHeld v (map hold_of_group v.groups)
  pub free_are : (at : ℕ → List ℕ) → AreShown v at → free ≡ length (free_in_all (said at) v.groups)
  pub fewer : free < need

-- The block breaks this rule: on the path; (2) the dinode at its end, into whose block is to be written, is none of the groups' data
-- blocks; of that file; of a group that has blocks which are taken or go; or, where free blocks are looked for, in a group whose lock is held.
pub data IsDamage (v : Seen) (call : Call) : ℕ → ℕ → Type 0 where
  on_path : (rule b : ℕ) → path.IsDamage v (wanted call) (path_of call false) rule b → IsDamage v call rule b
  no_data_block : (a : ℕ) → LeadsTo v (wanted call) (path_of call false) a → ¬ (HasDataBlock v a) → IsDamage v call 2 a
  in_file : (a rule b : ℕ) → IsToChange v call a → IsWrongAt v a [] rule b → IsDamage v call rule b
  of_taken : (node a at : ℕ) (new : List ℕ) (need : ℕ) (room : List ℕ) (rule b : ℕ) → IsToChange v call a → PutsThere v call a at new → IsNeedOf v a at new need → IsRoomOf v node need room
      → IsWrongAt v a room rule b → IsDamage v call rule b
  of_freed : (a size time : ℕ) (freed : List ℕ) (fates : FinMap nat_cmp Fate) (rule b : ℕ) → IsToChange v call a → CutsThere v call a size → IsCutDraft v a size time freed fates
      → GroupsAreHeld v freed → IsWrongAt v a freed rule b → IsDamage v call rule b
  in_group : (a at : ℕ) (new : List ℕ) (need rule b : ℕ) → IsToChange v call a → PutsThere v call a at new → IsNeedOf v a at new need → IsGroupBroken v rule b → IsDamage v call rule b

-- `sync` is answered at once, with a change of nothing: it asks for no lock and no block, finds no damage, and takes no memory
abbrev pub IsSynced : Result Attempt CallFault → Type 0
IsSynced (Ok (Done reply.Ok change)) = (change.blocks.items ≡ []) × (change.freed.items ≡ [])
IsSynced r = ⊥

abbrev pub IfSync : Call → Type 0 → Type 0
IfSync Sync P = P
IfSync call P = ⊤

abbrev pub IsToldOf : Seen → Call → ℕ → ℕ → Found → Type 0
IsToldOf v call node time (found.Refused r) = IsRefused v call r
IsToldOf v call node time (found.Written change) = (a : ℕ) × IsToChange v call a × IsChangeOf v call node a time change
IsToldOf v call node time (found.NeedBlock m) = IsNeededFor v call m
IsToldOf v call node time found.NotBuilt = (a : ℕ) × IsToChange v call a
IsToldOf v call node time (found.NeedLock lock state) = IsLackedFor v call node lock state
IsToldOf v call node time (found.NoSpace need free) = IsFullFor v call need free

-- ---- in an image that the view may be of

-- The reply is the tree's, and each lock of the list is held; or what stands in the way: the first lock of it that isn't held, a block
-- that the view hasn't, or that too few blocks are free.
abbrev pub IsFoundBy : Seen → Image → Owners → Layout → Tree → Call → List Hold → Found → Type 0
IsFoundBy v im o l t call list (found.Refused r) = ((apply call t).reply ≡ r) × AreHeld v list
IsFoundBy v im o l t call list (found.Written change) = ((apply call t).reply ≡ reply.Ok) × AreHeld v list × IsUnder o list change
IsFoundBy v im o l t call list (found.NeedBlock m) = IsAskedFor v im o l list m
IsFoundBy v im o l t call list found.NotBuilt = ⊥
IsFoundBy v im o l t call list (found.NeedLock lock state) = IsFirstLack v list lock state
IsFoundBy v im o l t call list (found.NoSpace need free) = IsTooFew v im o l t call need free

abbrev pub IsFound : Seen → Image → Owners → Layout → Tree → Call → ℕ → Found → Type 0
IsFound v im o l t call node f = IsFoundBy v im o l t call (call_holds im o l t call node) f

-- what a refusal is not: `ok`, or that too few blocks are free
abbrev pub IsRefusal : Found → Type 0
IsRefusal (found.Refused r) = Refuses r
IsRefusal f = ⊤

-- P of the change of such a call
abbrev pub IfWritten : (Change → Type 0) → Found → Type 0
IfWritten P (found.Written change) = P change
IfWritten P f = ⊤
