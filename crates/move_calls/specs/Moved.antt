-- A name that moved, in an image.
use Rattle.std.specs.Prelude.{ℕ, ◌≡◌, ◌==◌, ◌&&◌, not, true, false, IsSome, Some}
use Rattle.std.specs.Option.{option_map}
use Rattle.file_tree.specs.Names.{last_of, parent_of}
use Rattle.file_tree.specs.declared.call.Call.{Call}
use Rattle.drafts.specs.declared.change.Change.{Change}
use Rattle.gfs2_layout.specs.Holding.{Holding}
use Rattle.gfs2_layout.specs.Records.{record_named}
use Rattle.gfs2_layout.specs.Structures.{is_directory}
use Rattle.glock_names.specs.declared.steps.Entry.{Entry}
use Rattle.linear_dirs.specs.Shown.{entry_of}
use Rattle.image_model.specs.Image.{Image}
use Rattle.image_model.specs.Owners.{Owners, holding}
use Rattle.image_model.specs.Stands.{Layout}
use Rattle.image_changes.specs.Does.{with_change}
use Rattle.image_changes.specs.Instances.{IsAt, dinode_at, records_at}
use Rattle.draft_changes.specs.Resizing.{HoldsThere}
use Rattle.move_ends.specs.Ends.{from_path, to_path}
use Rattle.name_moves.specs.Becoming.{GetsName, GetsParent, GivesName, NeedsAfter}
use Rattle.move_calls.specs.Locks.{lost_in, taken_in}

-- In the image with the change: the directory that had the name lacks it, where that moved to another one, which has got it, in the blocks that the node takes, exactly as many as it
-- needs, after what stood there went; a directory that moved to another one names that as its parent; and each of these has the time. An inode that keeps its parent, and a file, has what it had.
pub record IsMovedIn (im : Image) (o : Owners) (l : Layout) (call : Call) (node time : ℕ) (change : Change) : Type 0 where
  pub source : ℕ
  pub source_at : IsAt im o l (parent_of (from_path call)) source
  pub target : ℕ
  pub target_at : IsAt im o l (parent_of (to_path call)) target
  pub inode : ℕ
  pub inode_at : IsAt im o l (from_path call) inode
  pub need : ℕ
  pub needs : NeedsAfter (lost_in im o l call source target) (holding im o target) (last_of (to_path call)) need
  pub old : Entry
  pub old_is : option_map entry_of (record_named (records_at im o source) (last_of (from_path call))) ≡ Some old
  pub gives : (source == target) ≡ false → GivesName (holding im o source) (holding (with_change im change) o source) (last_of (from_path call)) time
  pub after : Holding
  pub there : HoldsThere (with_change im change) target after
  pub gets : GetsName (lost_in im o l call source target) (holding im o target) after (last_of (to_path call)) (record { number = (dinode_at im o inode).num.number; addr = inode; kind = old.kind }) (taken_in im o l call node need) time
  pub parent : is_directory (dinode_at im o inode) && not (source == target) ≡ true
      → GetsParent (holding im o inode) (holding (with_change im change) o inode) (record { number = (dinode_at im o target).num.number; address = target }) time
  pub still : is_directory (dinode_at im o inode) && not (source == target) ≡ false → (b : ℕ) → IsSome ((holding im o inode).cell b) → (with_change im change).at b ≡ im.at b
