-- Where the replays of a start have come to: a disk at rest.
use Rattle.std.specs.Prelude.{ℕ, ◌≡◌, ◌^◌, ◌≤◌, ◌↔◌, List, slice_get, Some}
use Rattle.disk_turns.specs.Turns.{Moment}
use Rattle.file_tree.specs.Tree.{Tree}
use Rattle.image_model.specs.Owners.{Owners}
use Rattle.image_model.specs.Stands.{IsJournalAt, Layout}
use Rattle.image_mount.specs.Mounted.{MountedValue}
use Rattle.image_mount.specs.Mounted.{Journal as MountedJournal}
use Rattle.cut_replays.specs.Ended.{head_left}
use Rattle.cut_replays.specs.Recoveries.{HaveReplayed}
use Rattle.log_layout.specs.declared.log_header.LogHeader.{LogHeader}
use Rattle.logged_runs.specs.StepStarts.{IsAtRest}
use Rattle.mounted_views.specs.Views.{journal_of, view_of}
use Rattle.peer_replay.specs.declared.planned.Plan.{Plan}
use Rattle.shared_disk.specs.Disk.{IsIdle, IsSound}
use Rattle.trace_text.specs.declared.item.TraceItem.{TraceItem}
use Rattle.whole_runs.specs.Starts.{IsStart, joined}

-- The disk is at rest, for a node with so many frames that has what was mounted, the first journal, and of no block yet. Its journals and its groups are those of the layout that was found. The first one's head is the one that its plan left, on a disk of this block size; it has no
-- sequence above 2^63.
pub record RestsAsMounted (after : Moment) (m : MountedValue) (own : MountedJournal) (plans : List Plan) (size frames time : ℕ) (start : Tree) (found : Layout) : Type 0 where
  pub owners : Owners
  pub layout : Layout
  pub head : LogHeader
  pub rest : IsAtRest after.disk owners layout start own.dinode (journal_of after.disk.size frames time own) head (view_of after.disk.size m)
  pub journals : (j k : ℕ) → IsJournalAt layout j k ↔ IsJournalAt found j k
  pub groups : layout.groups ≡ found.groups
  pub left : (plan : Plan) → slice_get plans 0 ≡ Some plan → head ≡ head_left size 1 time own plan.clean own.head
  pub low : head.sequence ≤ 2 ^ 63
  pub idle : IsIdle after.disk

-- So is the disk once all journals of a mounted image were replayed, also where there was nothing to replay.
abbrev pub ReplayedIsAtRest : Type 0
ReplayedIsAtRest = (before after : Moment) (m : MountedValue) (plans : List Plan) (time : ℕ) (start : Tree) (items : List TraceItem) (own : MountedJournal) (frames : ℕ) → (is : IsStart before.disk m plans time start)
    → HaveReplayed 1 time before after m.journals plans joined items → IsSound after.disk → slice_get m.journals 0 ≡ Some own → frames ≤ 4096 → RestsAsMounted after m own plans before.disk.size frames time start is.mounted.layout
