-- The steps of one node with its log: what each does to the disk, to the log, to what the node keeps, and to the items.
use Rattle.std.specs.Prelude.{ℕ, ◌≡◌, ◌≢◌, ◌≤◌, ◌++◌, suc, false, true, IsTrue, List, [], ◌∷◌, length, Option, None, Some}
use Rattle.std.specs.FinMap as table
use Rattle.std.specs.Ordering.{nat_cmp}
use Rattle.file_tree.specs.declared.call.Call.{Call}
use Rattle.file_tree.specs.declared.call.Call.TheVariants as calls
use Rattle.file_tree.specs.declared.reply.Reply.{Reply}
use Rattle.file_tree.specs.declared.reply.Reply.TheVariants as replies
use Rattle.drafts.specs.declared.change.Change.{Change}
use Rattle.glock_names.specs.declared.LockName.{LockName}
use Rattle.image_changes.specs.Does.{is_nothing}
use Rattle.log_rings.specs.Laws.{HasNumbers}
use Rattle.log_values.specs.Changes.{CanBeAdded, Suffices, with_change}
use Rattle.log_values.specs.Flushing.{AllAreHome, FlushStep, HasRoom, IsDue, NothingIsLive, begun, begun_alone}
use Rattle.log_values.specs.Homing.{HomeAnswer, Settles}
use Rattle.log_values.specs.Log.{Flush, LogValue}
use Rattle.log_values.specs.Log.Stage.{Headed, Writing}
use Rattle.log_values.specs.Transactions.{due}
use Rattle.log_values.specs.declared.steps.LogStep.TheVariants as step
use Rattle.call_blocks.specs.Answers.{IsAsked, IsDoneBy, IsSpaceless}
use Rattle.lone_images.specs.Lone.{version_with}
use Rattle.lone_ends.specs.Laws.{counted}
use Rattle.lone_ends.specs.States.{IsHeaded}
use Rattle.shared_disk.specs.Disk.{Barrier, Gains, Operation, Write, after_barrier, after_write, read_gives}
use Rattle.trace_text.specs.declared.item.TraceItem.{TraceItem}
use Rattle.trace_text.specs.declared.item.TraceItem.TheVariants as trace
use Rattle.logged_steps.specs.Points.{Anything, ItsCommit, ItsNoSpace, MayWrite, Point, call_item, telling}

-- ---- the points behind a step

-- a block of this content is kept
abbrev pub keeping : Point → ℕ → List ℕ → Point
keeping p b bytes = record p { view = record p.view { blocks = table.insert p.view.blocks b bytes } }

-- a call is answered that changes something: the log has its change, and these blocks are kept
abbrev pub with_answer : Point → Change → table.FinMap nat_cmp (List ℕ) → TraceItem → Point
with_answer p change kept item = record p { log = with_change p.log change; view = record p.view { blocks = kept }; numbers = counted p.numbers (λ n. suc n.answered); items = telling p item }

-- one that changes nothing
abbrev pub with_quiet_answer : Point → TraceItem → Point
with_quiet_answer p item = record p { numbers = counted p.numbers (λ n. n.changed); items = telling p item }

-- a block is in flight, and the log is this
abbrev pub with_write : Point → ℕ → List ℕ → Option (List Operation) → LogValue → TraceItem → Point
with_write p b bytes list log item = record p { disk = after_write p.disk 1 b bytes; list = list; log = log; items = telling p item }

-- a barrier was made, and the log is this
abbrev pub with_barrier : Point → Option (List Operation) → LogValue → Point
with_barrier p list log = record p { disk = after_barrier p.disk 1; list = list; log = log; items = telling p (trace.Barrier 1) }

-- ---- what the node is told of its list of operations

abbrev pub GainsWrite : Point → ℕ → List ℕ → Option (List Operation) → Type 0
GainsWrite p b bytes list = Gains p.list list (Write 1 b bytes ∷ [])

abbrev pub GainsBarrier : Point → Option (List Operation) → Type 0
GainsBarrier p list = Gains p.list list (Barrier 1 ∷ [])

-- something of the node is in flight
abbrev pub HasInFlight : Point → Type 0
HasInFlight p = p.disk.in_flight 1 ≢ []

-- the items end with these
abbrev pub EndsWith : Point → List TraceItem → Type 0
EndsWith p last = (before : List TraceItem) × (p.items ≡ before ++ last)

-- ---- when

-- it answers calls: no flush is under way, nothing else has to come next, and it doesn't unmount
abbrev pub IsAnswering : Point → Type 0
IsAnswering p = (p.log.flush ≡ None) × (p.next ≡ Anything) × (p.unmounts ≡ false)

-- ---- one step, at this time

pub data Step (time : ℕ) (p : Point) : Point → Type 0 where
  -- a block that a call asks for, and that isn't kept, is read
  Reads : IsAnswering p → (b : ℕ) (lock : LockName) (bytes : List ℕ) → IsAsked p.view b lock → table.get p.view.blocks b ≡ None → length bytes ≡ p.view.size → (IsTrue p.disk.tells → bytes ≡ read_gives p.disk 1 b)
      → Step time p (keeping p b bytes)
  -- a call is answered: what it changes comes into the log, and what it writes is kept, and not what it frees; or it changes nothing
  Answers : IsAnswering p → (name : List ℕ) (call : Call) (reply : Reply) (change : Change) (kept : table.FinMap nat_cmp (List ℕ)) → IsDoneBy p.view time call reply change → is_nothing change ≡ false
      → CanBeAdded p.log.journal.size change → Suffices (with_change p.log change) → ((b : ℕ) → table.get kept b ≡ version_with change (table.get p.view.blocks) b)
      → Step time p (with_answer p change kept (call_item p name call reply))
  AnswersQuietly : IsAnswering p → (name : List ℕ) (call : Call) (reply : Reply) (change : Change) → IsDoneBy p.view time call reply change → is_nothing change ≡ true → ((call ≡ calls.Sync) × (reply ≡ replies.Ok) → ⊥)
      → Step time p (with_quiet_answer p (call_item p name call reply))
  -- a sync is, once the last call that changed anything is in the journal
  Syncs : IsAnswering p → (name : List ℕ) → p.numbers.changed ≤ p.numbers.low → Step time p (with_quiet_answer p (call_item p name calls.Sync replies.Ok))
  -- once it is, it is told how many blocks are free where these are too few for a call, and the call is answered so
  TellsFull : IsAnswering p → (call : Call) (need free : ℕ) → IsSpaceless p.view call need free → p.numbers.changed ≤ p.numbers.low → Step time p (record p { items = telling p (trace.Full 1 need free); next = ItsNoSpace call need free })
  HasNoSpace : (name : List ℕ) (call : Call) (need free : ℕ) → p.next ≡ ItsNoSpace call need free → IsSpaceless p.view call need free → EndsWith p (trace.Full 1 need free ∷ [])
      → Step time p (record (with_quiet_answer p (call_item p name call replies.NoSpace)) { next = Anything })
  -- a flush begins: with all that is due, up to the last call; or as a header alone, up to the last one that is in the journal
  BeginsFlush : p.next ≡ Anything → p.log.flush ≡ None → IsDue p.log → HasRoom p.log (due p.log) → Step time p (record p { log = begun p.log; numbers = record p.numbers { begun = p.numbers.answered } })
  BeginsHeader : p.next ≡ Anything → p.log.flush ≡ None → AllAreHome p.log → (NothingIsLive p.log → ⊥) → (IsDue p.log → HasRoom p.log (due p.log) → ⊥)
      → Step time p (record p { log = begun_alone p.log; numbers = record p.numbers { begun = p.numbers.low } })
  -- a block of it is written, then a barrier made, its header written, and the last barrier made, with which it is in the journal; that is committed; a barrier is made only where something is in flight
  WritesLog : (new : LogValue) (f : Flush) (b : ℕ) (bytes : List ℕ) (list : Option (List Operation)) → p.log.flush ≡ Some f → HasNumbers p.log f → FlushStep p.log new f bytes (step.Write b)
      → MayWrite p b bytes → GainsWrite p b bytes list → Step time p (with_write p b bytes list new (trace.WriteLog 1 b))
  EndsBlocks : (new : LogValue) (f : Flush) (done : ℕ) (bytes : List ℕ) (list : Option (List Operation)) → p.log.flush ≡ Some f → f.stage ≡ Writing done → FlushStep p.log new f bytes step.Barrier
      → HasInFlight p → GainsBarrier p list → Step time p (with_barrier p list new)
  WritesHead : (new : LogValue) (f : Flush) (b sequence : ℕ) (bytes : List ℕ) (list : Option (List Operation)) → p.log.flush ≡ Some f → HasNumbers p.log f → FlushStep p.log new f bytes (step.Head b sequence)
      → MayWrite p b bytes → GainsWrite p b bytes list → Step time p (with_write p b bytes list new (trace.WriteHead 1 b sequence p.numbers.begun))
  EndsFlush : (new : LogValue) (f : Flush) (tail : ℕ) (bytes : List ℕ) (list : Option (List Operation)) → p.log.flush ≡ Some f → HasNumbers p.log f → f.stage ≡ Headed tail → FlushStep p.log new f bytes step.Barrier
      → HasInFlight p → GainsBarrier p list → Step time p (record (with_barrier p list new) { numbers = record p.numbers { low = p.numbers.begun }; next = ItsCommit })
  Commits : (b : ℕ) → p.next ≡ ItsCommit → EndsWith p (trace.WriteHead 1 b p.log.sequence p.numbers.low ∷ trace.Barrier 1 ∷ []) → Step time p (record p { items = telling p (trace.Commit 1 p.log.sequence p.numbers.low); next = Anything })
  -- a live block of this lock is on its way home; and a barrier is made while no header is in flight
  GoesHome : p.next ≡ Anything → (new : LogValue) (lock : LockName) (b : ℕ) (bytes : List ℕ) (list : Option (List Operation)) → HomeAnswer p.log new lock bytes (Some (step.Write b))
      → MayWrite p b bytes → GainsWrite p b bytes list → Step time p (with_write p b bytes list new (trace.WriteHome 1 b))
  Rests : (new : LogValue) (list : Option (List Operation)) → p.next ≡ Anything → (IsHeaded p.log.flush → ⊥) → Settles p.log new → HasInFlight p → GainsBarrier p list → Step time p (with_barrier p list new)
  -- it unmounts: from now on it answers no call, and what it does is to flush, and to bring blocks home
  Unmounts : IsAnswering p → Step time p (record p { items = telling p (trace.Unmount 1); unmounts = true })

-- ---- one step after another

pub data Steps (time : ℕ) (p : Point) : Point → Type 0 where
  Here : Steps time p p
  Then : (q r : Point) → Steps time p q → Step time q r → Steps time p r
