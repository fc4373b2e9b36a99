-- What a run is given, and where its node begins.
use Rattle.std.specs.Prelude.{ℕ, ◌≡◌, ◌<◌, ◌≤◌, ◌^◌, false, List, [], Some, length, slice_get}
use Rattle.std.specs.FinMap as table
use Rattle.std.specs.List.{AllByRecursion}
use Rattle.disk_turns.specs.Turns.{Moment}
use Rattle.gfs2_layout.specs.Device.{IsBlockSize}
use Rattle.glock_names.specs.Views.{end_of}
use Rattle.image_mount.specs.Mounted.{Journal}
use Rattle.image_recovery.specs.Ended.{head_left}
use Rattle.image_recovery.specs.Recoveries.{CanReplayAll}
use Rattle.log_layout.specs.declared.log_header.LogHeader.{LogHeader}
use Rattle.log_values.specs.Log.{Journal as OwnJournal}
use Rattle.log_values.specs.Laws.{IsJournal, empty_log}
use Rattle.logged_scripts.specs.LoggedNodeBeginning.{MayBeginOn, no_calls}
use Rattle.logged_scripts.specs.Nodes.{IsResting}
use Rattle.logged_scripts.specs.node.Node.{Node}
use Rattle.logged_scripts.specs.Points.{Point}
use Rattle.logged_scripts.specs.StepStarts.{starting}
use Rattle.lone_view.specs.Seeing.{Lone}
use Rattle.mounted_views.specs.Laws.{IsPlacedOn}
use Rattle.mounted_views.specs.Views.{journal_of}
use Rattle.peer_replay.specs.declared.planned.Plan.{Plan}
use Rattle.shared_disk.specs.Disk.{DiskState, IsIdle}
use Rattle.trace_text.specs.declared.item.TraceItem.{TraceItem}

-- An idle disk; a view of its blocks, of none yet, whose groups lie on it; and journals with plans by which they can be replayed.
pub record IsGiven (disk : DiskState) (view : Lone) (journals : List Journal) (plans : List Plan) : Type 0 where
  pub idle : IsIdle disk
  pub sized : IsBlockSize disk.size
  pub view_size : view.size ≡ disk.size
  pub empty : view.blocks ≡ table.empty
  pub some : 1 ≤ length view.groups
  pub groups : AllByRecursion (λ g. end_of g ≤ disk.count) view.groups
  pub can : CanReplayAll disk journals plans
  pub few : length plans < 256

-- A node of a disk of so many blocks may have this journal, whose last header is this: its places and its dinode are blocks of the disk, the places each another one; it is of the profile; the header is at one of its
-- places, and its sequence leaves room for all that come.
pub record MayHave (count : ℕ) (journal : OwnJournal) (head : LogHeader) : Type 0 where
  pub placed : IsPlacedOn count journal
  pub is : IsJournal journal
  pub inside : head.blkno < journal.length
  pub low : head.sequence ≤ 2 ^ 63

-- the journal of node 1, which is the first, and the plan of its replay
pub record IsOwn (journals : List Journal) (plans : List Plan) (own : Journal) (plan : Plan) : Type 0 where
  pub journal : slice_get journals 0 ≡ Some own
  pub planned : slice_get plans 0 ≡ Some plan

-- the head that it has once it is replayed, on a disk of this block size
abbrev pub its_head : (size time : ℕ) → Journal → Plan → LogHeader
its_head size time own plan = head_left size 1 time own plan.clean own.head

-- Where the node begins, once all journals are replayed: with an empty log, of so many frames, behind the head that its journal then has.
abbrev pub start_point : (replayed : Moment) → Lone → Journal → Plan → (time frames : ℕ) → List TraceItem → Point
start_point replayed view own plan time frames items =
    starting replayed.disk replayed.list (journal_of replayed.disk.size frames time own) (its_head replayed.disk.size time own plan) view items

-- a node that begins with this view, and with an empty log in this journal, behind this head; it has answered no call, and rests on each disk on which it may begin
pub record IsNew (view : Lone) (journal : OwnJournal) (head : LogHeader) (n : Node) : Type 0 where
  pub view_is : n.view ≡ view
  pub log : n.log ≡ empty_log journal head.blkno head.sequence
  pub numbers : n.numbers ≡ no_calls
  pub items : n.items.items ≡ []
  pub mounted : n.unmounts ≡ false
  pub rests : (d : DiskState) → MayBeginOn d view journal → IsResting d n
