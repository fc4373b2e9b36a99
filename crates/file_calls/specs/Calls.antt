-- The file calls: what holds of every one.
use Rattle.std.specs.Prelude.{ℕ, ◌≡◌, false, List}
use Rattle.file_tree.specs.Tree.{Tree}
use Rattle.file_tree.specs.declared.call.Call.{Call}
use Rattle.file_tree.specs.declared.call.Call.TheVariants as calls
use Rattle.glock_names.specs.Views.{Seen}
use Rattle.glock_names.specs.declared.LockName.{LockName}
use Rattle.glock_names.specs.declared.State.{State}
use Rattle.glock_names.specs.declared.steps.Missing.{Missing}
use Rattle.call_locks.specs.WantLaws.{path_of}
use Rattle.call_locks.specs.Wants.{wanted}
use Rattle.image_model.specs.Image.{Image}
use Rattle.image_model.specs.Owners.{Owners}
use Rattle.image_model.specs.Stands.{Layout}
use Rattle.drafts.specs.declared.change.Change.{Change}
use Rattle.making_calls.specs.Making as making
use Rattle.move_calls.specs.Answering as moving
use Rattle.move_calls.specs.Locks as move_locks
use Rattle.read_calls.specs.Holds.{AreHeld, Hold, IsUnder, holds_in}
use Rattle.read_calls.specs.Walks.{IsLacked}
use Rattle.read_calls.specs.Walks as path
use Rattle.read_calls.specs.Reading as reading
use Rattle.removing_calls.specs.Removing as removing
use Rattle.writing_calls.specs.Writing as writing

-- ---- locks

-- these are the locks that the call takes in an image, in their order: those of the inodes on its path; where a name is made those under which
-- free blocks are found, and of the new inode; where one is removed those of the groups that have the inode's blocks; and where a file's content
-- changes those of the groups in which free blocks are found, or that have the blocks that go. Where a name moves that which puts such calls in order, those of the inodes on both
-- paths, and those of the groups that have blocks which go, or in which as many free blocks are found as are needed.
abbrev pub IsCallList : Image → Owners → Layout → Tree → Call → ℕ → List Hold → Type 0
IsCallList im o l t (calls.Create path) node list = list ≡ making.call_holds im o l t (calls.Create path) node
IsCallList im o l t (calls.Mkdir path) node list = list ≡ making.call_holds im o l t (calls.Mkdir path) node
IsCallList im o l t (calls.Unlink path) node list = list ≡ removing.holds_for im o l t (calls.Unlink path)
IsCallList im o l t (calls.Rmdir path) node list = list ≡ removing.holds_for im o l t (calls.Rmdir path)
IsCallList im o l t (calls.Write path at new) node list = list ≡ writing.call_holds im o l t (calls.Write path at new) node
IsCallList im o l t (calls.Truncate path size) node list = list ≡ writing.call_holds im o l t (calls.Truncate path size) node
IsCallList im o l t calls.Sync node list = list ≡ writing.call_holds im o l t calls.Sync node
IsCallList im o l t (calls.Rename from to) node list =
    (need : ℕ) × move_locks.IsNeed im o l t (calls.Rename from to) need × (list ≡ move_locks.call_holds im o l t (calls.Rename from to) node need)
IsCallList im o l t call node list = list ≡ holds_in im o l (path_of call false) (wanted call)

-- Of the locks that the call takes this is so: of its list; of `rename`, whose list ends with the groups for the blocks that it needs, of those of the inodes alone, with which it begins however
-- many these are, or of the list, and so many it needs.
abbrev pub IsSoOfList : Image → Owners → Layout → Tree → Call → ℕ → (List Hold → Type 0) → Type 0
IsSoOfList im o l t (calls.Rename from to) node P = move_locks.IsSoOfList im o l t (calls.Rename from to) node P
IsSoOfList im o l t call node P = (list : List Hold) × IsCallList im o l t call node list × P list

-- every lock of the call's list is held, and what the change writes and frees is under these
pub record IsUnderItsLocks (v : Seen) (im : Image) (o : Owners) (l : Layout) (t : Tree) (call : Call) (node : ℕ) (change : Change) : Type 0 where
  pub list : List Hold
  pub is : IsCallList im o l t call node list
  pub held : AreHeld v list
  pub under : IsUnder o list change

-- too few blocks are free for the call, which takes some
abbrev pub IsTooFew : Seen → Image → Owners → Layout → Tree → Call → ℕ → ℕ → Type 0
IsTooFew v im o l t (calls.Create path) need free = making.IsTooFew v im o l t (calls.Create path) need free
IsTooFew v im o l t (calls.Mkdir path) need free = making.IsTooFew v im o l t (calls.Mkdir path) need free
IsTooFew v im o l t (calls.Write path at new) need free = writing.IsTooFew v im o l t (calls.Write path at new) need free
IsTooFew v im o l t (calls.Truncate path size) need free = writing.IsTooFew v im o l t (calls.Truncate path size) need free
IsTooFew v im o l t (calls.Rename from to) need free = move_locks.IsTooFew v im o l t (calls.Rename from to) need free
IsTooFew v im o l t call need free = ⊥

-- ---- as far as the view shows

-- this lock isn't held so strongly, and comes next: on a path; of those under which a name is made or moves, or a file gets blocks; or of a group that
-- has blocks which go
abbrev pub IsLackedFor : Seen → Call → ℕ → LockName → State → Type 0
IsLackedFor v (calls.Create path) node lock state = making.IsLackedFor v (calls.Create path) node lock state
IsLackedFor v (calls.Mkdir path) node lock state = making.IsLackedFor v (calls.Mkdir path) node lock state
IsLackedFor v (calls.Unlink path) node lock state = removing.IsLackedFor v (calls.Unlink path) lock state
IsLackedFor v (calls.Rmdir path) node lock state = removing.IsLackedFor v (calls.Rmdir path) lock state
IsLackedFor v (calls.Write path at new) node lock state = writing.IsLackedFor v (calls.Write path at new) node lock state
IsLackedFor v (calls.Truncate path size) node lock state = writing.IsLackedFor v (calls.Truncate path size) node lock state
IsLackedFor v (calls.Rename from to) node lock state = moving.IsLackedFor v (calls.Rename from to) node lock state
IsLackedFor v call node lock state = IsLacked v (wanted call) (path_of call false) lock state

-- a block without which a node doesn't answer the call
abbrev pub IsNeededFor : Seen → Call → ℕ → Missing → Type 0
IsNeededFor v (calls.Create path) node m = making.IsNeededFor v (calls.Create path) m
IsNeededFor v (calls.Mkdir path) node m = making.IsNeededFor v (calls.Mkdir path) m
IsNeededFor v (calls.Write path at new) node m = writing.IsNeededFor v (calls.Write path at new) m
IsNeededFor v (calls.Truncate path size) node m = writing.IsNeededFor v (calls.Truncate path size) m
IsNeededFor v (calls.Unlink path) node m = removing.IsNeededFor v (calls.Unlink path) m
IsNeededFor v (calls.Rmdir path) node m = removing.IsNeededFor v (calls.Rmdir path) m
IsNeededFor v (calls.Rename from to) node m = moving.IsNeededFor v (calls.Rename from to) node m
IsNeededFor v call node m = reading.IsNeededFor v call m

-- the block breaks this rule, as a node tells it that tries the call
abbrev pub IsDamage : Seen → Call → ℕ → ℕ → ℕ → Type 0
IsDamage v (calls.Create path) node rule b = making.IsDamage v (calls.Create path) rule b
IsDamage v (calls.Mkdir path) node rule b = making.IsDamage v (calls.Mkdir path) rule b
IsDamage v (calls.Write path at new) node rule b = writing.IsDamage v (calls.Write path at new) rule b
IsDamage v (calls.Truncate path size) node rule b = writing.IsDamage v (calls.Truncate path size) rule b
IsDamage v (calls.Unlink path) node rule b = removing.IsDamage v (calls.Unlink path) rule b
IsDamage v (calls.Rmdir path) node rule b = removing.IsDamage v (calls.Rmdir path) rule b
IsDamage v (calls.Rename from to) node rule b = moving.IsDamage v (calls.Rename from to) node rule b
IsDamage v call node rule b = path.IsDamage v (wanted call) (path_of call false) rule b

-- The call isn't built for what stands there: it would make or move a name in a directory, or change a file, that isn't sound in itself; or move an inode that is on both its paths by two ways,
-- or whose directory goes with what it replaces. Each crate's definition says what it is that can't be done, not that the view shows no broken rule. In an image that stands for a tree none
-- is so.
abbrev pub IsUnbuilt : Seen → Call → ℕ → Type 0
IsUnbuilt v (calls.Create path) node = making.IsUnbuilt v (calls.Create path) node
IsUnbuilt v (calls.Mkdir path) node = making.IsUnbuilt v (calls.Mkdir path) node
IsUnbuilt v (calls.Write path at new) node = writing.IsUnbuilt v (calls.Write path at new)
IsUnbuilt v (calls.Truncate path size) node = writing.IsUnbuilt v (calls.Truncate path size)
IsUnbuilt v (calls.Rename from to) node = moving.IsUnbuilt v (calls.Rename from to) node
IsUnbuilt v call node = ⊥
