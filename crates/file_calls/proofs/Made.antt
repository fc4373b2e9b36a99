-- What a call that makes or removes a name is told, and makes of an image that the view may be of.
use Rattle.std.proofs.Common.{◌≡◌, ℕ, false}
use Rattle.drafts.specs.declared.change.Change.{Change}
use Rattle.file_tree.specs.Names.{is_same_path}
use Rattle.file_tree.specs.declared.call.Call.{Call}
use Rattle.file_tree.specs.declared.call.Call.TheVariants as call
use Rattle.glock_names.specs.Views.{Seen}
use Rattle.image_model.specs.Image.{Image}
use Rattle.image_model.specs.Owners.{Owners}
use Rattle.image_model.specs.Stands.{Layout}
use Rattle.making_calls.specs.Making as making
use Rattle.move_calls.specs.Answering as moving
use Rattle.move_calls.specs.Moved.{IsMovedIn}
use Rattle.move_calls.specs.MoveEnds.{IsRenaming, from_path, to_path}
use Rattle.removing_calls.specs.Removing as removing
use Rattle.writing_calls.specs.Writing as writing
use Rattle.file_calls.specs.Answers.{IsFullFor, IsMadeOf}

pub making_full : (v : Seen) (node : ℕ) (c : Call) → making.IsMaking c → (need free : ℕ) → making.IsFullFor v c need free → IsFullFor v c node need free
making_full v node (call.Create p) is need free full = full
making_full v node (call.Mkdir p) is need free full = full
making_full v node (call.Read p at count) is need free full = absurd is
making_full v node (call.Dread p at count) is need free full = absurd is
making_full v node (call.Stat p) is need free full = absurd is
making_full v node (call.List p) is need free full = absurd is
making_full v node (call.Unlink p) is need free full = absurd is
making_full v node (call.Rmdir p) is need free full = absurd is
making_full v node (call.Write p at new) is need free full = absurd is
making_full v node (call.Truncate p size) is need free full = absurd is
making_full v node (call.Rename p q) is need free full = absurd is
making_full v node call.Sync is need free full = absurd is

pub writing_full : (v : Seen) (node need free : ℕ) (c : Call) → writing.IsWriting c → writing.IsFullFor v c need free → IsFullFor v c node need free
writing_full v node need free (call.Write p at new) is full = full
writing_full v node need free (call.Truncate p size) is full = full
writing_full v node need free call.Sync is full = absurd full.edits
writing_full v node need free (call.Create p) is full = absurd is
writing_full v node need free (call.Mkdir p) is full = absurd is
writing_full v node need free (call.Read p at count) is full = absurd is
writing_full v node need free (call.Dread p at count) is full = absurd is
writing_full v node need free (call.Stat p) is full = absurd is
writing_full v node need free (call.List p) is full = absurd is
writing_full v node need free (call.Unlink p) is full = absurd is
writing_full v node need free (call.Rmdir p) is full = absurd is
writing_full v node need free (call.Rename p q) is full = absurd is

pub moving_full : (v : Seen) (node : ℕ) (c : Call) → IsRenaming c → (need free : ℕ) → moving.IsFullFor v c node need free → IsFullFor v c node need free
moving_full v node (call.Create p) is need free full = absurd is
moving_full v node (call.Mkdir p) is need free full = absurd is
moving_full v node (call.Unlink p) is need free full = absurd is
moving_full v node (call.Rmdir p) is need free full = absurd is
moving_full v node (call.Read p at count) is need free full = absurd is
moving_full v node (call.Dread p at count) is need free full = absurd is
moving_full v node (call.Write p at new) is need free full = absurd is
moving_full v node (call.Truncate p size) is need free full = absurd is
moving_full v node (call.Stat p) is need free full = absurd is
moving_full v node (call.List p) is need free full = absurd is
moving_full v node (call.Rename p q) is need free full = full
moving_full v node call.Sync is need free full = absurd is

module _ (im : Image) (o : Owners) (l : Layout) (node time : ℕ) (change : Change) where
  pub making_made : (c : Call) → making.IsMaking c → making.IsMade im o l c node time change → making.IsStamped im o l c time change → IsMadeOf im o l c node time change
  making_made (call.Create p) is made stamped = (made, stamped)
  making_made (call.Mkdir p) is made stamped = (made, stamped)
  making_made (call.Read p at count) is made stamped = absurd is
  making_made (call.Dread p at count) is made stamped = absurd is
  making_made (call.Stat p) is made stamped = absurd is
  making_made (call.List p) is made stamped = absurd is
  making_made (call.Unlink p) is made stamped = absurd is
  making_made (call.Rmdir p) is made stamped = absurd is
  making_made (call.Write p at new) is made stamped = absurd is
  making_made (call.Truncate p size) is made stamped = absurd is
  making_made (call.Rename p q) is made stamped = absurd is
  making_made call.Sync is made stamped = absurd is

  pub removing_made : (c : Call) → removing.IsRemoving c → removing.IsStamped im o l c time change → IsMadeOf im o l c node time change
  removing_made (call.Unlink p) is stamped = stamped
  removing_made (call.Rmdir p) is stamped = stamped
  removing_made (call.Create p) is stamped = absurd is
  removing_made (call.Mkdir p) is stamped = absurd is
  removing_made (call.Read p at count) is stamped = absurd is
  removing_made (call.Dread p at count) is stamped = absurd is
  removing_made (call.Stat p) is stamped = absurd is
  removing_made (call.List p) is stamped = absurd is
  removing_made (call.Write p at new) is stamped = absurd is
  removing_made (call.Truncate p size) is stamped = absurd is
  removing_made (call.Rename p q) is stamped = absurd is
  removing_made call.Sync is stamped = absurd is

  pub moving_made : (c : Call) → IsRenaming c → (is_same_path (from_path c) (to_path c) ≡ false → IsMovedIn im o l c node time change) → IsMadeOf im o l c node time change
  moving_made (call.Create p) is made = absurd is
  moving_made (call.Mkdir p) is made = absurd is
  moving_made (call.Unlink p) is made = absurd is
  moving_made (call.Rmdir p) is made = absurd is
  moving_made (call.Read p at count) is made = absurd is
  moving_made (call.Dread p at count) is made = absurd is
  moving_made (call.Write p at new) is made = absurd is
  moving_made (call.Truncate p size) is made = absurd is
  moving_made (call.Stat p) is made = absurd is
  moving_made (call.List p) is made = absurd is
  moving_made (call.Rename p q) is made = made
  moving_made call.Sync is made = absurd is
