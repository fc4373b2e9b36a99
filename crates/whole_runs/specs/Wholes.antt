-- A whole run of one node, by its items and by the operations that were made on its disk.
use Rattle.std.specs.Prelude.{ℕ, ◌≡◌, ◌⊎◌, ◌-◌, ◌≤◌, nat_le, if◌then◌else◌, false, List, [], ◌∷◌, ◌++◌, length, take, Option, None, Some}
use Rattle.disk_items.specs.Deeds.{AreDoneBy, AreToldButOne}
use Rattle.disk_turns.specs.Turns.{Moment, moment}
use Rattle.file_tree.specs.Tree.{Tree}
use Rattle.image_machine.specs.Volumes.{Volume, volume_of}
use Rattle.image_model.specs.Image.{Image, image_of}
use Rattle.image_model.specs.Owners.{Owners}
use Rattle.image_model.specs.Stands.{Layout}
use Rattle.image_mount.specs.Mounted.{MountedValue}
use Rattle.cut_replays.specs.Recoveries.{HaveReplayed}
use Rattle.journal_outcomes.specs.Disks.{flown_by}
use Rattle.journal_outcomes.specs.Images.{NoFalseHeader, ring_at}
use Rattle.log_layout.specs.Journal.{head_in}
use Rattle.log_layout.specs.declared.log_header.LogHeader.{LogHeader}
use Rattle.log_values.specs.Log.{Journal}
use Rattle.logged_runs.specs.StepEnds.{EndsTo, Landed, Said, Unsaid, last_block}
use Rattle.logged_runs.specs.Laws.{IsStop, MayLeave, StandsFenced, to_fence}
use Rattle.logged_runs.specs.LoggedLaws.{IsInItsBlocks}
use Rattle.logged_runs.specs.Standing.{StandsAsTold}
use Rattle.logged_runs.specs.Disks.{disk_after, first_told}
use Rattle.logged_runs.specs.Fails.{FailsTo}
use Rattle.logged_runs.specs.Points.{Point}
use Rattle.logged_runs.specs.Starts.{only_life}
use Rattle.logged_runs.specs.StepStarts.{IsAtRest, starting}
use Rattle.logged_runs.specs.Steps.{Steps}
use Rattle.lone_view.specs.Seeing.{Lone}
use Rattle.peer_replay.specs.declared.planned.Plan.{Plan}
use Rattle.run_rules.specs.Lives.{AcceptedHead, DiskHeads, head_of, own_from}
use Rattle.script_lang.specs.declared.script.Client.{Client}
use Rattle.shared_disk.specs.Disk.{Barrier, DiskState, Fence, Flight, Gains, IsOutcome, Operation, Write, after_fence}
use Rattle.trace_text.specs.declared.item.TraceItem.{TraceItem}
use Rattle.trace_text.specs.declared.item.TraceItem.TheVariants as trace
use Rattle.whole_runs.specs.Starts.{IsStart, joined}

-- ---- items and operations

-- The items up to the stop, if there is one, and those from it on; the operations that the first ones tell; those before the stop that no item tells; and those that the others tell.
pub record Course : Type 0 where
  pub items : List TraceItem
  pub end : List TraceItem
  pub operations : List Operation
  pub further : List Operation
  pub later : List Operation

-- the disk behind so many of the items: as the operations that these tell have made it, from the stop on with what no item tells
abbrev pub disk_behind : DiskState → Course → ℕ → DiskState
disk_behind start c p =
    if nat_le p (length c.items) then disk_after start (first_told (take p c.items) c.operations)
    else disk_after start ((c.operations ++ c.further) ++ first_told (take (p - length c.items) c.end) c.later)

-- one write at most
pub data IsOneWrite : List Operation → Type 0 where
  no_write : IsOneWrite []
  one_write : (block : ℕ) (bytes : List ℕ) → IsOneWrite (Write 1 block bytes ∷ [])

-- ---- heads

-- the accepted head of the journal with its dinode in block d, by the block of its place; where there is none, none of any life
abbrev pub accepted_as : Volume → ℕ → Option LogHeader → AcceptedHead
accepted_as v d None = record { block = 0; sequence = 0; is_clean = false }
accepted_as v d (Some header) = record { block = v.place d header.blkno; sequence = header.sequence; is_clean = header.clean }

abbrev pub head_at : Volume → ℕ → Image → AcceptedHead
head_at v d im = accepted_as v d (head_in (ring_at im d))

-- those of the run's one journal, on its disk behind so many items, and on the disk that is asked of
abbrev pub heads_of : Volume → ℕ → DiskState → Course → Image → DiskHeads
heads_of v d start c left = record { behind = λ node p. head_at v d (image_of (disk_behind start c p)); now = λ node. head_at v d left }

-- ---- a run

-- the operations with which it ends
abbrev pub ends_with : (p q : Point) → EndsTo p q → List Operation
ends_with p _ (Unsaid bytes list flies) = Write 1 (last_block p) bytes ∷ []
ends_with p _ (Said bytes list flies) = Write 1 (last_block p) bytes ∷ []
ends_with p _ (Landed bytes list flies) = Write 1 (last_block p) bytes ∷ Barrier 1 ∷ []

-- Node 1 joined and replayed all journals of a mounted image; on the disk that this left, at rest, it began with an empty log, and made steps; then a write failed or none did, or it ended.
pub record IsRun (clients : List Client) (before : Moment) (m : MountedValue) (plans : List Plan) (time : ℕ) (start : Tree) (o : Owners) (l : Layout) (d : ℕ) (a p q : Point) : Type 0 where
  pub from : IsStart before.disk m plans time start
  pub replays : HaveReplayed 1 time before (moment a.disk a.list) m.journals plans joined a.items
  pub journal : Journal
  pub head : LogHeader
  pub view : Lone
  pub rest : IsAtRest a.disk o l start d journal head view
  pub begins : a ≡ starting a.disk a.list journal head view a.items
  pub steps : Steps time a p
  pub last : FailsTo time p q ⊎ ((ends : EndsTo p q) × Gains p.list q.list (ends_with p q ends))

-- its list gained what its items tell, or one write besides, of which none tells
abbrev pub RunsAreTold : Type 0
RunsAreTold = (clients : List Client) (before : Moment) (m : MountedValue) (plans : List Plan) (time : ℕ) (start : Tree) (o : Owners) (l : Layout) (d : ℕ) (a p q : Point) → IsRun clients before m plans time start o l d a p q
    → AreToldButOne 1 before.list q.list q.items

-- ---- what is left of one

-- the course of these items and of these operations, which left this disk: the items tell what was done, but for one write at most
pub record HasCourse (before : Moment) (its : List TraceItem) (left : DiskState) (operations : List Operation) (c : Course) : Type 0 where
  pub items : c.items ≡ its
  pub all : c.operations ++ c.further ≡ operations
  pub told : AreDoneBy c.items c.operations
  pub one : IsOneWrite c.further
  pub disk : left ≡ disk_after before.disk operations

-- a course that goes on behind these items with others, and with what these tell
abbrev pub going_on : Course → List TraceItem → List Operation → Course
going_on c end later = record c { end = end; later = later }

-- the same with a stop, the fence, and a loss
abbrev pub stopped_course : Course → TraceItem → List Flight → List TraceItem → Course
stopped_course c x became more = going_on c (x ∷ trace.Fence 1 ∷ more) (Fence 1 became ∷ [])

-- Behind each front of its items, whatever becomes of what is in flight stands as these tell; so it does on the disk that the run left, also with a stop behind its items; and behind the fence the image
-- stands so, also with a right loss: each by the heads of the disks that its operations made, whatever comes behind them.
pub record StandsThroughout (v : Volume) (d : ℕ) (clients : List Client) (start : DiskState) (tree : Tree) (c : Course) : Type 0 where
  pub fronts : (end : List TraceItem) (later : List Operation) (count : ℕ) (left : Image) → count ≤ length c.items → MayLeave v (disk_behind start c count) left
      → StandsAsTold clients (heads_of v d start (going_on c end later) left) (take count c.items) tree left
  pub whole : (end : List TraceItem) (later : List Operation) (left : Image) → MayLeave v (disk_after start (c.operations ++ c.further)) left → StandsAsTold clients (heads_of v d start (going_on c end later) left) c.items tree left
  pub stops : (end : List TraceItem) (later : List Operation) (x : TraceItem) (left : Image) → IsStop x → MayLeave v (disk_after start (c.operations ++ c.further)) left
      → StandsAsTold clients (heads_of v d start (going_on c end later) left) (c.items ++ x ∷ []) tree left
  pub fences : (x : TraceItem) (became : List Flight) (more : List TraceItem) → IsStop x → IsOutcome (disk_after start (c.operations ++ c.further)) 1 became
      → let left = image_of (after_fence (disk_after start (c.operations ++ c.further)) 1 became) in
      NoFalseHeader (image_of (disk_after start (c.operations ++ c.further))) v.layout (flown_by (disk_after start (c.operations ++ c.further)) 1) left
      → StandsFenced v d clients (heads_of v d start (stopped_course c x became more) left) x c.items tree left

-- behind the fence the head of the life is that of the journal on the disk there; and where its own headers began the disks have one of this sequence
pub record HasItsHeads (v : Volume) (d : ℕ) (disks : DiskHeads) (sequence : ℕ) (fenced : List TraceItem) (left : Image) : Type 0 where
  pub head : head_of disks only_life fenced ≡ head_at v d left
  pub first : (disks.behind 1 (own_from only_life fenced)).sequence ≡ sequence

-- So it is of each run whose list of operations is told; and by these heads its loss is right.
pub record HasRunWhole (before : Moment) (o : Owners) (l : Layout) (d : ℕ) (clients : List Client) (start : Tree) (a q : Point) (operations : List Operation) : Type 0 where
  pub course : Course
  pub has : HasCourse before q.items q.disk operations course
  pub stands : StandsThroughout (volume_of (image_of a.disk) l) d clients before.disk start course
  pub heads : (x : TraceItem) (became : List Flight) (more : List TraceItem) (left : Image) → IsStop x
      → HasItsHeads (volume_of (image_of a.disk) l) d (heads_of (volume_of (image_of a.disk) l) d before.disk (stopped_course course x became more) left) a.log.sequence (to_fence x course.items)
      (image_of (after_fence (disk_after before.disk (course.operations ++ course.further)) 1 became))
  -- and the journal is in its blocks there
  pub placed : (became : List Flight) → let disk = disk_after before.disk (course.operations ++ course.further) in
      IsOutcome disk 1 became → NoFalseHeader (image_of disk) l (flown_by disk 1) (image_of (after_fence disk 1 became)) → IsInItsBlocks (volume_of (image_of a.disk) l) d (image_of (after_fence disk 1 became))

abbrev pub WholeRunsStand : Type 0
WholeRunsStand = (clients : List Client) (before : Moment) (m : MountedValue) (plans : List Plan) (time : ℕ) (start : Tree) (o : Owners) (l : Layout) (d : ℕ) (a p q : Point) (was operations : List Operation)
    → IsRun clients before m plans time start o l d a p q → before.list ≡ Some was → q.list ≡ Some (was ++ operations) → HasRunWhole before o l d clients start a q operations
