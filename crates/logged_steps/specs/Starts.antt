-- Where a run begins.
use Rattle.std.specs.Prelude.{ℕ, ◌≡◌, IsTrue, false, List, [], Option, Some}
use Rattle.std.specs.FinMap as table
use Rattle.file_tree.specs.Tree.{Tree}
use Rattle.image_changes.specs.Instances.{StandsBy}
use Rattle.image_machine.specs.Cells.{IsOfVolume}
use Rattle.image_machine.specs.Volumes.{volume_of}
use Rattle.image_model.specs.Image.{image_of}
use Rattle.image_model.specs.Owners.{Owners}
use Rattle.image_model.specs.Stands.{IsJournalAt, Layout}
use Rattle.journal_outcomes.specs.Images.{ring_at}
use Rattle.log_layout.specs.Journal.{IsClean, head_in}
use Rattle.log_layout.specs.declared.log_header.LogHeader.{LogHeader}
use Rattle.log_values.specs.Laws.{IsJournal, empty_log}
use Rattle.log_values.specs.Log.{Journal}
use Rattle.lone_ends.specs.Laws.{no_numbers}
use Rattle.lone_ends.specs.States.{ArePlacesApart, IsJournalOf}
use Rattle.lone_view.specs.Seeing.{Lone, seen_alone}
use Rattle.shared_disk.specs.Disk.{DiskState, IsSound, Operation}
use Rattle.trace_text.specs.declared.item.TraceItem.{TraceItem}
use Rattle.logged_steps.specs.Points.{Anything, Point}

-- The disk tells an image that stands for a tree as it lies, with nothing in flight; each journal is clean, no two places of journals are in one block, and this is the journal with its dinode in block
-- d, with its head; and the view has what mounting found, and no block yet.
pub record IsAtRest (disk : DiskState) (o : Owners) (l : Layout) (t : Tree) (d : ℕ) (journal : Journal) (head : LogHeader) (view : Lone) : Type 0 where
  pub tells : IsTrue disk.tells
  pub sound : IsSound disk
  pub none : (node : ℕ) → disk.in_flight node ≡ []
  pub stands : StandsBy (image_of disk) o l t
  pub clean : (j k : ℕ) → IsJournalAt l j k → IsClean (ring_at (image_of disk) k)
  pub apart : ArePlacesApart (volume_of (image_of disk) l)
  pub is_journal : IsJournal journal
  pub its_journal : IsJournalOf (volume_of (image_of disk) l) d journal
  pub headed : head_in (ring_at (image_of disk) d) ≡ Some head
  pub volume : IsOfVolume (volume_of (image_of disk) l) (seen_alone view)
  pub empty : view.blocks ≡ table.empty

-- there the node's log is empty, and it has answered nothing
abbrev pub starting : DiskState → Option (List Operation) → Journal → LogHeader → Lone → List TraceItem → Point
starting disk list journal head view items = record {
  disk = disk;
  list = list;
  log = empty_log journal head.blkno head.sequence;
  view = view;
  numbers = no_numbers;
  items = items;
  unmounts = false;
  next = Anything;
}
