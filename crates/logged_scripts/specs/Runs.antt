-- What came of a script that one node carried out with its log.
use Rattle.std.specs.Prelude.{ℕ, ◌≡◌, ◌⊎◌, ◌++◌, true, false, Bool, List, [], ◌∷◌, length, slice_get, Option, Some, Result, Ok, Err}
use Rattle.std.specs.List.{AllByRecursion}
use Rattle.cluster_history.specs.Changes.{Changes}
use Rattle.lone_fences.specs.Fencing.{HasFenced, IsFenced, with_crash, with_fence}
use Rattle.lone_scripts.specs.Runs.{IsLoneRun, Runs}
use Rattle.script_lang.specs.Script.{ScriptValue}
use Rattle.script_lang.specs.declared.script.Line.TheVariants as line
use Rattle.shared_disk.specs.Disk.{DiskState, Gains, Operation, after_barrier}
use Rattle.trace_text.specs.declared.item.TraceItem.{TraceItem}
use Rattle.trace_text.specs.declared.item.TraceItem.TheVariants as trace
use Rattle.whole_runs.specs.StepEnds.{EndsTo, FliesClean, clean_item, with_clean}
use Rattle.whole_runs.specs.Fails.{FailsTo}
use Rattle.lone_ends.specs.Ends.{IsDone}
use Rattle.whole_runs.specs.Points.{Point, state_of}
use Rattle.whole_runs.specs.Steps.{Steps}
use Rattle.whole_runs.specs.Wholes.{ends_with}
use Rattle.logged_calls.specs.Nodes.{IsSameDisk}
use Rattle.logged_scripts.specs.Ends.{IsAtItsCrash, IsEndAt, IsOwnEnd, NothingUntold}
use Rattle.logged_scripts.specs.declared.ends.RunEnd.{RunEnd}
use Rattle.logged_scripts.specs.declared.ends.RunEnd.TheVariants as end
use Rattle.logged_scripts.specs.declared.halts.Halt.{Halt}
use Rattle.logged_scripts.specs.declared.halts.Halt.TheVariants as halt

-- ---- the node's own run

-- a write failed or none did; or, of a node that unmounts, the clean header is in flight or in its place, and the list gained so
abbrev pub LastGoes : (time : ℕ) (last left : Point) → Type 0
LastGoes time last left = FailsTo time last left ⊎ ((last.unmounts ≡ true) × (ends : EndsTo last left) × Gains last.list left.list (ends_with last left ends))

-- the item is that of a call that changed the tree
abbrev pub is_change : TraceItem → Bool
is_change (trace.Call node name number call reply) = Changes (record { call = call; reply = reply })
is_change _ = false

-- From where it began the node took so many lines, came by steps to a point, and left what a write that failed, or the clean header, made of that: items of a run that is past no crash. It unmounts only behind all
-- lines. It is the same disk; where no call changed anything it is as it was, and so is its list. At a crash line nothing of the node is in flight.
pub record GoesTo (s : ScriptValue) (time : ℕ) (a : Point) (count : ℕ) (last left : Point) : Type 0 where
  pub steps : Steps time a last
  pub goes : LastGoes time last left
  pub runs : Runs s count left.items
  pub leaves : last.unmounts ≡ true → count ≡ length s.lines
  pub same : IsSameDisk a.disk left.disk
  pub untouched : AllByRecursion (λ it. is_change it ≡ false) left.items → (left.disk ≡ a.disk) × (left.list ≡ a.list)
  pub rests : (nodes : ℕ) → slice_get s.lines count ≡ Some (line.Crash nodes) → left.disk.in_flight 1 ≡ []

-- The node unmounted, which is one of its steps: nothing more is to be written, and the journal's clean header stands still, since nothing ever came behind it; or a new one is in its place.
pub data HasUnmounted (last left : Point) : Type 0 where
  clean_still : last.unmounts ≡ true → IsDone (state_of last) → last.log.clean ≡ true → left ≡ last → HasUnmounted last left
  with_header : (bytes : List ℕ) (list : Option (List Operation)) → last.unmounts ≡ true → FliesClean last bytes
      → left ≡ record last { disk = after_barrier (with_clean last bytes) 1; list = list; items = last.items ++ clean_item last ∷ trace.Barrier 1 ∷ [] } → HasUnmounted last left

-- ---- how far the lines were taken

-- why no more of them were: all were, and the node unmounted; it crashed; or it ended
abbrev pub HaltsAt : (s : ScriptValue) (time : ℕ) (a : Point) (count : ℕ) (last left : Point) → Halt → Type 0
HaltsAt s time a count last left halt.Unmounted = (count ≡ length s.lines) × HasUnmounted last left
HaltsAt s time a count last left halt.AtLine = IsAtItsCrash s count last left
HaltsAt s time a count last left halt.AtWrite = IsAtItsCrash s count last left
HaltsAt s time a count last left (halt.Ended e) = IsOwnEnd e × IsEndAt s time a count last left e

-- so it left this disk, with this list, and these items
pub record HasHalted (s : ScriptValue) (time : ℕ) (a : Point) (d : DiskState) (list : Option (List Operation)) (items : List TraceItem) (h : Halt) : Type 0 where
  pub count : ℕ
  pub last : Point
  pub left : Point
  pub goes : GoesTo s time a count last left
  pub disk : left.disk ≡ d
  pub listed : left.list ≡ list
  pub told : left.items ≡ items
  pub why : HaltsAt s time a count last left h

-- ---- behind it

-- What the run did behind that: nothing; or the node's crash is told, with no write begun besides; or it was fenced too, and that is told; or so is what it lost.
pub data IsBehind (a last left : Point) (d : DiskState) (list : Option (List Operation)) (items : List TraceItem) : Type 0 where
  nothing : d ≡ left.disk → list ≡ left.list → items ≡ left.items → IsBehind a last left d list items
  crash : NothingUntold last left → d ≡ left.disk → list ≡ left.list → items ≡ with_crash left.items → IsBehind a last left d list items
  fence : NothingUntold last left → IsFenced left.disk left.list d list → items ≡ with_fence left.items → IsBehind a last left d list items
  loss : NothingUntold last left → HasFenced left.disk left.list left.items a.log.journal.places a.log.sequence d list items → IsBehind a last left d list items

-- all lines were taken, and the node unmounted; or it crashed, and what it lost is told
pub data IsThrough (s : ScriptValue) (a : Point) (count : ℕ) (last left : Point) (d : DiskState) (list : Option (List Operation)) (items : List TraceItem) : Type 0 where
  unmounted : count ≡ length s.lines → HasUnmounted last left → d ≡ left.disk → list ≡ left.list → items ≡ left.items → IsThrough s a count last left d list items
  crashed : IsAtItsCrash s count last left → HasFenced left.disk left.list left.items a.log.journal.places a.log.sequence d list items → IsThrough s a count last left d list items

-- the items at each end: those that the node left, or with its crash, or its fence; want of memory comes before any of that, or behind the fence
abbrev pub TellsUntil : RunEnd → (items items' : List TraceItem) → Type 0
TellsUntil (end.NotFenced rise) items items' = items' ≡ with_crash items
TellsUntil (end.HeadUnread block rise) items items' = items' ≡ with_fence items
TellsUntil end.NoMemory items items' = (items' ≡ items) ⊎ (items' ≡ with_fence items)
TellsUntil e items items' = items' ≡ items

abbrev pub ComesOut : (s : ScriptValue) (time : ℕ) (a : Point) (count : ℕ) (last left : Point) (d : DiskState) (list : Option (List Operation)) (items : List TraceItem) → Result (Unit {0}) RunEnd → Type 0
ComesOut s time a count last left d list items (Ok _) = IsThrough s a count last left d list items
ComesOut s time a count last left d list items (Err e) = IsEndAt s time a count last left e × TellsUntil e left.items items

-- ---- all of it

-- What came of the script, with this result: the node's own run from the point where it began, what was done behind it, and why it came out so. The items are those of a run of one node.
pub record HasRun (s : ScriptValue) (time : ℕ) (a : Point) (d : DiskState) (list : Option (List Operation)) (items : List TraceItem) (result : Result (Unit {0}) RunEnd) : Type 0 where
  pub count : ℕ
  pub last : Point
  pub left : Point
  pub goes : GoesTo s time a count last left
  pub behind : IsBehind a last left d list items
  pub run : IsLoneRun s count items
  pub out : ComesOut s time a count last left d list items result
