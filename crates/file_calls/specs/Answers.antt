-- How a file call is answered, and what its change makes.
use Rattle.std.specs.Prelude.{ℕ, ◌≡◌, ⊤, true, false}
use Rattle.cluster_history.specs.Changes.{is_ok}
use Rattle.drafts.specs.declared.change.Change.{Change}
use Rattle.file_tree.specs.declared.call.Call.{Call}
use Rattle.file_tree.specs.declared.call.Call.TheVariants as calls
use Rattle.file_tree.specs.declared.reply.Reply.{Reply}
use Rattle.glock_names.specs.Views.{Seen}
use Rattle.image_model.specs.Image.{Image}
use Rattle.image_model.specs.Owners.{Owners}
use Rattle.image_model.specs.Stands.{Layout}
use Rattle.file_tree.specs.Names.{is_same_path}
use Rattle.making_calls.specs.Making as making
use Rattle.move_calls.specs.Answering as moving
use Rattle.move_calls.specs.Moved.{IsMovedIn}
use Rattle.read_calls.specs.Reading as reading
use Rattle.removing_calls.specs.Removing as removing
use Rattle.writing_calls.specs.Writing as writing

-- ---- as far as the view shows

-- a node answers the call so at this time, with this change
abbrev pub IsAnswered : {V : Type 0} → (V → Seen) → V → Call → ℕ → ℕ → Reply → Change → Type 0
IsAnswered seen view (calls.Create path) node time reply change = making.IsAnswered (seen view) (calls.Create path) node time reply change
IsAnswered seen view (calls.Mkdir path) node time reply change = making.IsAnswered (seen view) (calls.Mkdir path) node time reply change
IsAnswered seen view (calls.Unlink path) node time reply change = removing.IsAnswered seen view (calls.Unlink path) time reply change
IsAnswered seen view (calls.Rmdir path) node time reply change = removing.IsAnswered seen view (calls.Rmdir path) time reply change
IsAnswered seen view (calls.Write path at new) node time reply change = writing.IsAnswered (seen view) (calls.Write path at new) node time reply change
IsAnswered seen view (calls.Truncate path size) node time reply change = writing.IsAnswered (seen view) (calls.Truncate path size) node time reply change
IsAnswered seen view calls.Sync node time reply change = writing.IsAnswered (seen view) calls.Sync node time reply change
IsAnswered seen view (calls.Rename from to) node time reply change = moving.IsAnswered (seen view) (calls.Rename from to) node time reply change
IsAnswered seen view call node time reply change = reading.IsAnswered (seen view) call reply

-- too few blocks are free for a node that tries the call, as far as the view shows: `create` and `mkdir` take one for the new inode and what the directory does, `write` and `truncate` what the file's content
-- does, and `rename` what the directory does that gets the name, once what goes from it has gone
abbrev pub IsFullFor : Seen → Call → ℕ → ℕ → ℕ → Type 0
IsFullFor v (calls.Create path) node need free = making.IsFullFor v (calls.Create path) need free
IsFullFor v (calls.Mkdir path) node need free = making.IsFullFor v (calls.Mkdir path) need free
IsFullFor v (calls.Write path at new) node need free = writing.IsFullFor v (calls.Write path at new) need free
IsFullFor v (calls.Truncate path size) node need free = writing.IsFullFor v (calls.Truncate path size) need free
IsFullFor v (calls.Rename from to) node need free = moving.IsFullFor v (calls.Rename from to) node need free
IsFullFor v call node need free = ⊥

-- ---- in an image that the view may be of

-- what the change of such a call makes of the image: `create` and `mkdir` the new inode and the name's record, at this time; of `unlink` and
-- `rmdir` the directory has the time and lacks the name's record; of `rename` to another path one directory lacks the old name, another has the new one, and a directory that moved to another one
-- names that as its parent
abbrev pub IsMadeOf : Image → Owners → Layout → Call → ℕ → ℕ → Change → Type 0
IsMadeOf im o l (calls.Create path) node time change = making.IsMade im o l (calls.Create path) node time change × making.IsStamped im o l (calls.Create path) time change
IsMadeOf im o l (calls.Mkdir path) node time change = making.IsMade im o l (calls.Mkdir path) node time change × making.IsStamped im o l (calls.Mkdir path) time change
IsMadeOf im o l (calls.Unlink path) node time change = removing.IsStamped im o l (calls.Unlink path) time change
IsMadeOf im o l (calls.Rmdir path) node time change = removing.IsStamped im o l (calls.Rmdir path) time change
IsMadeOf im o l (calls.Rename from to) node time change = is_same_path from to ≡ false → IsMovedIn im o l (calls.Rename from to) node time change
IsMadeOf im o l call node time change = ⊤

-- it does so where the call is answered ok
abbrev pub IsMadeIn : Image → Owners → Layout → Call → ℕ → ℕ → Reply → Change → Type 0
IsMadeIn im o l call node time reply change = is_ok reply ≡ true → IsMadeOf im o l call node time change
