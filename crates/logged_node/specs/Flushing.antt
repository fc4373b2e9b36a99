-- A flush, as a node carries it out.
use Rattle.std.specs.Prelude.{ℕ, ◌≡◌, ◌≢◌, ◌⊎◌, ◌+◌, ◌-◌, ◌<◌, ◌≤◌, ⊤, List, [], ◌∷◌, ◌++◌, length, Option, None, Some}
use Rattle.std.specs.FinMap as table
use Rattle.log_layout.specs.Transactions.{after}
use Rattle.log_rings.specs.Flights.{chunk_place}
use Rattle.log_values.specs.Blocks as set
use Rattle.log_values.specs.Flushing.{AllAreHome, HasRoom, IsDue, NothingIsLive, block_at, flush_chunks, head_place}
use Rattle.log_values.specs.Log.{Flush, LogValue, Stage}
use Rattle.log_values.specs.Log.Stage.{Ending, Headed, Writing}
use Rattle.log_values.specs.Transactions.{due}
use Rattle.log_values.specs.declared.steps.LogStep.{LogStep}
use Rattle.log_values.specs.declared.steps.LogStep.TheVariants as step
use Rattle.shared_disk.specs.Disk.{DiskState, Operation, flight_to}
use Rattle.trace_text.specs.declared.item.TraceItem.{TraceItem}
use Rattle.trace_text.specs.declared.item.TraceItem.TheVariants as trace
use Rattle.logged_steps.specs.Points.{Point}
use Rattle.logged_steps.specs.Steps.{GainsBarrier, GainsWrite, Steps, with_barrier, with_write}
use Rattle.logged_node.specs.Deeds.{MayBeWritten}
use Rattle.logged_node.specs.Nodes.{IsNodeOn, IsResting, IsSameDisk, IsSmall, KeepsView, NoneGoesHome, crash_at, point_of}
use Rattle.logged_node.specs.declared.node.CallNumbers.{CallNumbers}
use Rattle.logged_node.specs.declared.node.Node.{Node}

-- ---- a flush that began at one node, and has come to another

-- what of it may be in flight: blocks of the chunks that are written, or its header
abbrev pub IsFlownBlock : LogValue → Flush → Stage → ℕ → Type 0
IsFlownBlock log f (Writing done) b = (k : ℕ) × (k < done) × (k < length (flush_chunks log f)) × (b ≡ block_at log.journal (chunk_place log k))
IsFlownBlock log f Ending b = ⊥
IsFlownBlock log f (Headed tail) b = b ≡ block_at log.journal (head_place log f)

abbrev pub FliesAsFlushed : DiskState → LogValue → Flush → Type 0
FliesAsFlushed d log f = (b : ℕ) (bytes : List ℕ) → flight_to (d.in_flight 1) b ≡ Some bytes → IsFlownBlock log f f.stage b

-- and how many
abbrev pub how_many_fly : Stage → ℕ
how_many_fly (Writing done) = done
how_many_fly Ending = 0
how_many_fly (Headed tail) = 1

-- while its blocks are written it has some
abbrev pub HasBlocks : LogValue → Flush → Stage → Type 0
HasBlocks log f (Writing done) = 1 ≤ length (flush_chunks log f)
HasBlocks log f Ending = ⊤
HasBlocks log f (Headed tail) = ⊤

-- the last item is that of its header
abbrev pub TellsHead : List TraceItem → (begun sequence : ℕ) → Stage → Type 0
TellsHead items begun sequence (Writing done) = ⊤
TellsHead items begun sequence Ending = ⊤
TellsHead items begun sequence (Headed tail) = (b : ℕ) × (before : List TraceItem) × (items ≡ before ++ trace.WriteHead 1 b sequence begun ∷ [])

-- what is due fits into the journal, if anything is
abbrev pub HasRoomForDue : LogValue → Type 0
HasRoomForDue log = IsDue log × HasRoom log (due log)

-- Its kind: it has all that was due, for which there was room, up to the last call; or it is a header alone, up to the last call that is in the journal, since nothing was due or there was no room, and
-- something is live, all of which is home.
pub data IsKind (start n : Node) (f : Flush) : Type 0 where
  of_all : HasRoomForDue start.log → n.numbers.begun ≡ start.numbers.answered → n.log.fresh ≡ table.empty → n.log.gone ≡ set.empty → IsKind start n f
  of_none : (HasRoomForDue start.log → ⊥) → (NothingIsLive start.log → ⊥) → n.numbers.begun ≡ start.numbers.low → n.log.fresh ≡ start.log.fresh → f.versions ≡ table.empty → f.revokes ≡ set.empty
      → AllAreHome n.log → IsSmall n.log → IsKind start n f

-- It is under way: of it alone something is in flight, and so much; so it is behind each of its blocks, and there is one where any is written.
pub record IsFlushing (start : Node) (d : DiskState) (n : Node) (f : Flush) : Type 0 where
  pub on : IsNodeOn d n
  pub kept : KeepsView start n
  pub low : n.numbers.low ≡ start.numbers.low
  pub sequence : n.log.sequence ≡ start.log.sequence
  pub is : n.log.flush ≡ Some f
  pub small : length (flush_chunks n.log f) < 400
  pub flies : FliesAsFlushed d n.log f
  pub many : length (d.in_flight 1) ≡ how_many_fly f.stage
  pub some : HasBlocks n.log f f.stage
  pub home : NoneGoesHome n.log
  pub told : TellsHead n.items.items n.numbers.begun (after n.log.sequence) f.stage
  pub kind : IsKind start n f

-- What it has brought to the journal: all that was due, up to the last call; or a header alone, behind which nothing is live.
pub data IsDone (start n : Node) : Type 0 where
  all : HasRoomForDue start.log → n.numbers.low ≡ start.numbers.answered → n.log.fresh ≡ table.empty → IsDone start n
  none : (HasRoomForDue start.log → ⊥) → n.numbers.low ≡ start.numbers.low → n.log.fresh ≡ start.log.fresh → NothingIsLive n.log → IsDone start n

-- It is in the journal, and the node rests.
pub record HasFlushed (start : Node) (d : DiskState) (n : Node) : Type 0 where
  pub resting : IsResting d n
  pub kept : KeepsView start n
  pub gone : n.log.gone ≡ set.empty
  pub sequence : n.log.sequence ≡ start.log.sequence + 1
  pub done : IsDone start n

pub data HasComeTo (start : Node) (d : DiskState) (n : Node) : Type 0 where
  under_way : (f : Flush) → IsFlushing start d n f → HasComeTo start d n
  in_journal : HasFlushed start d n → HasComeTo start d n

-- ---- how many steps are left

abbrev pub left_at : ℕ → Stage → ℕ
left_at chunks (Writing done) = (chunks - done) + 3
left_at chunks Ending = 2
left_at chunks (Headed tail) = 1

abbrev pub left_of : LogValue → Option Flush → ℕ
left_of log None = 0
left_of log (Some f) = left_at (length (flush_chunks log f)) f.stage

abbrev pub steps_left : LogValue → ℕ
steps_left log = left_of log log.flush

-- ---- a step that the log has made is carried out on the disk

-- the block may be written
abbrev pub MayCarry : DiskState → LogStep → Type 0
MayCarry d (step.Write b) = (b < d.count) × (flight_to (d.in_flight 1) b ≡ None) × (length (d.in_flight 1) < 512)
MayCarry d (step.Head b sequence) = (b < d.count) × (flight_to (d.in_flight 1) b ≡ None) × (length (d.in_flight 1) < 512)
MayCarry d step.Barrier = ⊤
MayCarry d step.NoRoom = ⊥

-- the block, or a barrier, with its item; behind the last barrier, with which no flush is under way any more, the flush is committed
pub data IsCarried (bytes : List ℕ) (p q : Point) : LogStep → Type 0 where
  a_block : (b : ℕ) (list : Option (List Operation)) → GainsWrite p b bytes list → q ≡ with_write p b bytes list p.log (trace.WriteLog 1 b) → IsCarried bytes p q (step.Write b)
  a_header : (b sequence : ℕ) (list : Option (List Operation)) → GainsWrite p b bytes list → q ≡ with_write p b bytes list p.log (trace.WriteHead 1 b sequence p.numbers.begun) → IsCarried bytes p q (step.Head b sequence)
  a_barrier : (list : Option (List Operation)) → p.log.flush ≢ None → GainsBarrier p list → q ≡ with_barrier p list p.log → IsCarried bytes p q step.Barrier
  the_last : (list : Option (List Operation)) → p.log.flush ≡ None → GainsBarrier p list
      → q ≡ record (with_barrier p list p.log) { numbers = record p.numbers { low = p.numbers.begun }; items = p.items ++ (trace.Barrier 1 ∷ trace.Commit 1 p.log.sequence p.numbers.begun ∷ []) }
      → IsCarried bytes p q step.Barrier

-- the disk failed: at a write this may be in flight, at a barrier nothing changed
abbrev pub FailsAt : (bytes : List ℕ) → Point → DiskState → Option (List Operation) → LogStep → Type 0
FailsAt bytes p d list (step.Write b) = MayBeWritten p.disk p.list b bytes d list
FailsAt bytes p d list (step.Head b sequence) = MayBeWritten p.disk p.list b bytes d list
FailsAt bytes p d list step.Barrier = (d ≡ p.disk) × (list ≡ p.list)
FailsAt bytes p d list step.NoRoom = ⊥

-- the block that it writes
abbrev pub block_of : LogStep → Option ℕ
block_of (step.Write b) = Some b
block_of (step.Head b sequence) = Some b
block_of step.Barrier = None
block_of step.NoRoom = None

-- ---- what its functions promise

-- a flush is under way
abbrev pub IsUnderWay : DiskState → Node → Type 0
IsUnderWay d n = (start : Node) × (f : Flush) × IsFlushing start d n f

-- from one point to the other by steps, on the same disk, and not by the write at which it is to crash
pub record GoesBySteps (d : DiskState) (list : Option (List Operation)) (n : Node) (d' : DiskState) (list' : Option (List Operation)) (n' : Node) : Type 0 where
  pub steps : (time : ℕ) → Steps time (point_of d list n) (point_of d' list' n')
  pub disk : IsSameDisk d d'
  pub armed : crash_at n' ≡ crash_at n

-- one step more of whatever flush is under way
pub record GoesOn (d : DiskState) (list : Option (List Operation)) (n : Node) (d' : DiskState) (list' : Option (List Operation)) (n' : Node) : Type 0 where
  pub goes : GoesBySteps d list n d' list' n'
  pub to : (start : Node) (f : Flush) → IsFlushing start d n f → HasComeTo start d' n'
  pub fewer : steps_left n'.log < steps_left n.log

-- a flush began, and made its first step
pub record HasBegun (d : DiskState) (list : Option (List Operation)) (n : Node) (d' : DiskState) (list' : Option (List Operation)) (n' : Node) : Type 0 where
  pub goes : GoesBySteps d list n d' list' n'
  pub to : HasComeTo n d' n'

-- it is in the journal
pub record HasCome (d : DiskState) (list : Option (List Operation)) (n : Node) (d' : DiskState) (list' : Option (List Operation)) (n' : Node) : Type 0 where
  pub goes : GoesBySteps d list n d' list' n'
  pub flushed : HasFlushed n d' n'

-- ---- whether it begins

-- All that is due has room; or there is none for it, or nothing is due, and something is live, all of which is home: then a header alone is written.
abbrev pub CanFlush : LogValue → Type 0
CanFlush log = HasRoomForDue log ⊎ ((HasRoomForDue log → ⊥) × AllAreHome log × (NothingIsLive log → ⊥))

-- the number of the calls of a flush whose first step is this
abbrev pub number_of : CallNumbers → LogStep → ℕ
number_of n (step.Head b sequence) = n.low
number_of n _ = n.answered

-- the node, its disk and the items are as they were
pub record IsAsItWas (d : DiskState) (list : Option (List Operation)) (n : Node) (d' : DiskState) (list' : Option (List Operation)) (n' : Node) : Type 0 where
  pub point : point_of d' list' n' ≡ point_of d list n
  pub resting : IsResting d' n'
  pub armed : n'.armed ≡ n.armed

abbrev pub HasNothingToFlush : LogValue → Type 0
HasNothingToFlush log = (IsDue log → ⊥) × (NothingIsLive log ⊎ (AllAreHome log → ⊥))

abbrev pub HasNoRoom : LogValue → Type 0
HasNoRoom log = IsDue log × (HasRoom log (due log) → ⊥) × (AllAreHome log → ⊥)
