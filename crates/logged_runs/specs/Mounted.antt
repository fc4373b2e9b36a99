-- A mounted image is at rest where its journals are clean.
use Rattle.std.specs.Prelude.{ℕ, ◌≡◌, ◌≤◌, true, IsTrue, slice_get, Some}
use Rattle.file_tree.specs.Tree.{Tree}
use Rattle.image_changes.specs.Instances.{StandsBy}
use Rattle.image_model.specs.Image.{image_of}
use Rattle.image_model.specs.Owners.{Owners}
use Rattle.image_model.specs.Stands.{Layout}
use Rattle.mounted_views.specs.Mounting.{IsMounted, MountedValue}
use Rattle.mounted_views.specs.Mounting.{Journal as MountedJournal}
use Rattle.logged_steps.specs.Starts.{IsAtRest}
use Rattle.mounted_views.specs.Views.{journal_of, view_of}
use Rattle.shared_disk.specs.Disk.{DiskState, IsIdle, IsSound}

-- An idle disk tells its blocks, and its image, which stands for a tree, was mounted with each journal clean; this is the first of them.
pub record IsMountedClean (disk : DiskState) (m : MountedValue) (own : MountedJournal) (o : Owners) (l : Layout) (t : Tree) : Type 0 where
  pub tells : IsTrue disk.tells
  pub sound : IsSound disk
  pub idle : IsIdle disk
  pub mounted : IsMounted (image_of disk) m
  pub clean : (k : ℕ) (j : MountedJournal) → slice_get m.journals k ≡ Some j → j.head.clean ≡ true
  pub first : slice_get m.journals 0 ≡ Some own
  pub stands : StandsBy (image_of disk) o l t

-- Such a disk is at rest, for a node with at most 4,096 frames that has the first journal, its head, and of no block yet.
abbrev pub MountedIsAtRest : Type 0
MountedIsAtRest = (disk : DiskState) (m : MountedValue) (own : MountedJournal) (o : Owners) (l : Layout) (t : Tree) (frames time : ℕ) → IsMountedClean disk m own o l t → frames ≤ 4096
    → IsAtRest disk o l t own.dinode (journal_of disk.size frames time own) own.head (view_of disk.size m)
