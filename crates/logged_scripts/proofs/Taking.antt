-- A line is taken, or the node halts at it.
use Rattle.std.proofs.Common.{◌≡◌, ◌<◌, ◌≤◌, ◌+◌, ◌*◌, ℕ, suc, inl, List, length, get_or, Option, Some, refl, sym, ap, ◌∙◌, subst, arith}
use Rattle.std.specs.Prelude.{slice_get}
use Rattle.std.specs.List.{AllByRecursion}
use Rattle.fault_counts.specs.declared.Rise.{Rise}
use Rattle.logged_calls.specs.LoneAnswersCalls.{IsUnbuilt}
use Rattle.file_tree.specs.declared.call.Call.{Call}
use Rattle.logged_calls.specs.Faults.{IsDamagedFor, IsLackedBlock}
use Rattle.logged_calls.specs.Reading.{WorksOnNone}
use Rattle.lone_scripts.specs.Runs.{IsNotPast, Runs, at_line, name_at}
use Rattle.lone_scripts.specs.Scripts.{IsForOne, IsLoneLine}
use Rattle.lone_scripts.proofs.GoingOn.{waits_go_on}
use Rattle.lone_scripts.proofs.Lists.{all_at}
use Rattle.lone_view.specs.Seeing.{seen_alone}
use Rattle.script_lang.specs.Script.{ScriptValue}
use Rattle.script_lang.specs.declared.script.Client.{Client}
use Rattle.script_lang.specs.declared.script.Line.{Line}
use Rattle.script_lang.specs.declared.script.Line.TheVariants as line
use Rattle.shared_disk.specs.Disk.{DiskState, Operation}
use Rattle.trace_text.specs.declared.item.TraceItem.{TraceItem}
use Rattle.whole_runs.specs.Fails.{AsItWas}
use Rattle.whole_runs.specs.Points.{Point}
use Rattle.whole_runs.specs.Steps.{Steps}
use Rattle.whole_runs.proofs.LoggedRunsTelling.{steps_go_on}
use Rattle.logged_calls.specs.Nodes.{IsBeforeCrash, IsLeftAs, StopsByCrash, point_of}
use Rattle.logged_calls.specs.logged_node_ends.Stop.{Stop}
use Rattle.logged_calls.specs.logged_node_ends.Stop.TheVariants as stop
use Rattle.logged_calls.specs.node.Node.{Node}
use Rattle.logged_calls.specs.Calls.{HasTaken, TellsNoCall}
use Rattle.logged_calls.specs.Ends.{EndsBehind, EndsUntold, IfDamaged, IfNotBuilt, IfNotLoggable, IfReadFailed, IfTooSmall, IsTooSmallFor, IsUnloggableFor, StopsUntold}
use Rattle.logged_calls.specs.declared.ends.CallEnd.{CallEnd}
use Rattle.logged_calls.specs.declared.ends.CallEnd.TheVariants as call_end
use Rattle.logged_calls.proofs.Untold.{failed_tells}
use Rattle.logged_scripts.specs.declared.ends.RunEnd.TheVariants as run
use Rattle.logged_scripts.specs.declared.halts.Halt.{Halt}
use Rattle.logged_scripts.specs.declared.halts.Halt.TheVariants as halt
use Rattle.logged_scripts.specs.Beginning.{IsUnderWay}
use Rattle.logged_scripts.specs.Crashes.{first_crash}
use Rattle.logged_scripts.specs.Ends.{AtCall, AwaitsItsCrash, IsFailedBehind, NothingUntold, WorkedOnNone, at_the_point, halt_at, halt_of, in_a_step}
use Rattle.logged_scripts.specs.Runs.{GoesTo, HaltsAt, HasHalted}
use Rattle.logged_scripts.proofs.Beginning.{before_first}
use Rattle.logged_scripts.proofs.Crashing.{crashes_there, none_past, none_past_stopped}
use Rattle.logged_scripts.proofs.Going.{RestsAtCrash, goes_failing, still_mounted}
use Rattle.logged_scripts.proofs.Lists.{slice_at}
use Rattle.logged_scripts.proofs.Members.{IsLast, call_last, name_is, numbered_on, runs_on, runs_still}
use Rattle.logged_scripts.proofs.Untouched.{IsFresh}

-- ---- it goes on

abbrev pub At : ScriptValue → (time : ℕ) → Point → (count : ℕ) → DiskState → Option (List Operation) → Node → Type 0
At s time a count d list n = IsUnderWay s time a count d list n

one_more : (s : ScriptValue) (time : ℕ) (a : Point) (count : ℕ) (d : DiskState) (list : Option (List Operation)) (n : Node) → At s time a (suc count) d list n → At s time a (count + 1) d list n
one_more s time a count d list n so = subst (λ (k : ℕ). At s time a k d list n) here so
  where
    here : suc count ≡ count + 1
    here = omega arith

-- behind a wait
pub wait_passes : (s : ScriptValue) (time : ℕ) (a : Point) (count : ℕ) (d : DiskState) (list : Option (List Operation)) (n : Node) → At s time a count d list n → slice_get s.lines count ≡ Some line.Wait → At s time a (count + 1) d list n
wait_passes s time a count d list n so next = one_more s time a count d list n (record {
  steps = so.steps;
  ready = so.ready;
  runs = waits_go_on s count n.items.items so.runs next;
  numbered = so.numbered;
  few = few n.numbers.answered count so.few;
  sequence = more n.log.sequence a.log.sequence count so.sequence;
  crash = so.crash;
})
  where
    few : (x y : ℕ) → x ≤ y → x ≤ suc y
    few x y low = omega (arith, low)

    more : (x y z : ℕ) → x ≤ y + 3 * z → x ≤ y + 3 * suc z
    more x y z low = omega (arith, low)

-- behind the answer to a call
module _ (s : ScriptValue) (time : ℕ) (a : Point) (count : ℕ) (d e : DiskState) (l k : Option (List Operation)) (n m : Node) (form : IsForOne s) (so : At s time a count d l n) (client : ℕ) (call : Call)
    (next : slice_get s.lines count ≡ Some (line.Call client call)) (name : List ℕ) (named : name ≡ name_at s.clients client) (taken : HasTaken time name call d l n e k m) where
  past : AllByRecursion (IsNotPast m.items.items) s.armed
  past = none_past s.armed m.items.items (subst (λ (c : Option ℕ). IsBeforeCrash c m.items.items) so.crash taken.before)

  pub call_is_taken : At s time a (count + 1) e k m
  call_is_taken = one_more s time a count e k m (record {
    steps = steps_go_on time a (point_of d l n) (point_of e k m) so.steps taken.steps;
    ready = taken.ready;
    runs = runs_on s time count client n.numbers.answered (point_of d l n) (point_of e k m) call form taken.steps so.runs next so.numbered past name named last;
    numbered = taken.answered ∙ numbered_on s time count client n.numbers.answered (point_of d l n) (point_of e k m) call form taken.steps so.runs next so.numbered past name named last;
    few = few m.numbers.answered n.numbers.answered count taken.answered so.few;
    sequence = more m.log.sequence n.log.sequence a.log.sequence count taken.sequence so.sequence;
    crash = taken.armed ∙ so.crash;
  })
    where
      last : IsLast name call (suc n.numbers.answered) n.items.items m.items.items
      last = call_last taken.view time name call (suc n.numbers.answered) n.items.items m.items.items taken.tells

      few : (x y z : ℕ) → x ≡ suc y → y ≤ z → x ≤ suc z
      few x y z is low = omega (arith, is, low)

      more : (x y z c : ℕ) → x ≤ y + 3 → y ≤ z + 3 * c → x ≤ z + 3 * suc c
      more x y z c first low = omega (arith, first, low)

-- ---- it halts

-- at a crash line
pub crash_line_halts : (s : ScriptValue) (time : ℕ) (a : Point) (count : ℕ) (d : DiskState) (list : Option (List Operation)) (n : Node) → IsFresh a → At s time a count d list n → (nodes : ℕ) → slice_get s.lines count ≡ Some (line.Crash nodes)
    → HasHalted s time a d list n.items.items halt.AtLine
crash_line_halts s time a count d list n fresh so nodes next = record {
  count = count;
  last = point_of d list n;
  left = point_of d list n;
  goes = goes_failing s time a count (point_of d list n) (point_of d list n) fresh so.steps so.runs (still_mounted s count (point_of d list n) so.ready.mounted) (λ others is. so.ready.resting.none) AsItWas;
  disk = refl;
  listed = refl;
  told = refl;
  why = (at_line nodes next, at_the_point refl);
}

-- where it stops, by what stands at each cause
pub halts_at : (s : ScriptValue) (time : ℕ) (a : Point) (count : ℕ) (last left : Point) (why : Stop) → StopsByCrash (first_crash s.armed) left.items why → (why ≡ stop.Crashed → NothingUntold last left)
    → ((block : Option ℕ) (rise : Rise) → why ≡ stop.DiskFailed block rise → IsFailedBehind last left block) → (why ≡ stop.NoMemory → left ≡ last) → HaltsAt s time a count last left (halt_of why)
halts_at s time a count last left stop.Crashed crash told failed still = (crashes_there s count left.items crash, told refl)
halts_at s time a count last left (stop.DiskFailed block rise) crash told failed still = (tt, (failed block rise refl, crash))
halts_at s time a count last left stop.NoMemory crash told failed still = (tt, inl (still refl, crash))

-- so it does where it leaves a point as such a stop does
pub halts_as : (s : ScriptValue) (time : ℕ) (a : Point) (count : ℕ) (last left : Point) (items : List TraceItem) (why : Stop) → StopsByCrash (first_crash s.armed) items why → left.items ≡ items → IsLeftAs last left why
    → HaltsAt s time a count last left (halt_of why)
halts_as s time a count last left items why crash told exactly =
    halts_at s time a count last left why (subst (λ (is : List TraceItem). StopsByCrash (first_crash s.armed) is why) (sym told) crash) (λ is. at_the_point (subst (IsLeftAs last left) is exactly))
    (λ block rise is. in_a_step block (subst (IsLeftAs last left) is exactly)) (λ is. subst (IsLeftAs last left) is exactly)

module _ (s : ScriptValue) (time : ℕ) (a : Point) (count : ℕ) (d e : DiskState) (l k : Option (List Operation)) (n m : Node) (fresh : IsFresh a) (so : At s time a count d l n) (client : ℕ) (call : Call)
    (next : slice_get s.lines count ≡ Some (line.Call client call)) where
  no_crash_line : (left : Point) → RestsAtCrash s count left
  no_crash_line left nodes is = absurd (not_both (sym next ∙ is))
    where
      not_both : Some (line.Call client call) ≡ Some (line.Crash nodes) → ⊥
      not_both both = cc

  -- in the midst of what it does for the call
  stopped : (why : Stop) → StopsUntold d l n e k m.items.items why → HasHalted s time a e k m.items.items (halt_of why)
  stopped why stops = record {
    count = count;
    last = stops.last;
    left = stops.left;
    goes = goes_failing s time a count stops.last stops.left fresh (steps_go_on time a (point_of d l n) stops.last so.steps (stops.steps time))
        (subst (Runs s count) (sym tells) (runs_still s time count (point_of d l n) stops.last (stops.steps time) so.runs (subst (TellsNoCall n.items.items) items_are stops.tells)
        (subst (λ (is : List TraceItem). AllByRecursion (IsNotPast is) s.armed) items_are (none_past_stopped s.armed m.items.items why crash)))) (still_mounted s count stops.last stops.unmounts) (no_crash_line stops.left) (stops.fails time);
    disk = stops.disk;
    listed = stops.listed;
    told = stops.told;
    why = halts_as s time a count stops.last stops.left m.items.items why crash stops.told stops.exactly;
  }
    where
      tells : stops.left.items ≡ stops.last.items
      tells = failed_tells time stops.last stops.left (stops.fails time)

      items_are : m.items.items ≡ stops.last.items
      items_are = sym stops.told ∙ tells

      crash : StopsByCrash (first_crash s.armed) m.items.items why
      crash = subst (λ (c : Option ℕ). StopsByCrash c m.items.items why) so.crash stops.crashes

  -- at a point, where it may take a call still: it has read what the call asks for
  module _ (ends : EndsUntold d l n e k m) where
    abbrev there : Point
    there = point_of e k m

    steps : Steps time a there
    steps = steps_go_on time a (point_of d l n) there so.steps (ends.goes.steps time)

    awaits : AwaitsItsCrash s there
    awaits = before_first m s (ends.goes.armed ∙ so.crash) e ends.ready

    goes : GoesTo s time a count there there
    goes = goes_failing s time a count there there fresh steps (runs_still s time count (point_of d l n) there (ends.goes.steps time) so.runs ends.tells (none_past s.armed m.items.items awaits))
        (still_mounted s count there ends.ready.mounted) (no_crash_line there) AsItWas

    halts : (h : Halt) → HaltsAt s time a count there there h → HasHalted s time a e k m.items.items h
    halts h why = record { count = count; last = there; left = there; goes = goes; disk = refl; listed = refl; told = refl; why = why }

    at : (P : Call → Type 0) → P call → AtCall s count P
    at P holds = record { client = client; call = call; next = next; holds = holds }

    on_none : WorksOnNone d n.view → WorkedOnNone time a
    on_none none = record { point = point_of d l n; steps = so.steps; none = none }

    same_count : d.count ≡ e.count
    same_count = sym ends.goes.disk.count

  -- as it ends at the call
  pub call_halts : (end : CallEnd) → EndsBehind d l n e k m end → IfReadFailed end (λ block rise. IsLackedBlock m.view d.count call block) → IfDamaged end (IsDamagedFor (seen_alone m.view) d.count call)
      → IfDamaged end (λ b rule. WorksOnNone d n.view) → IfNotBuilt end (IsUnbuilt (seen_alone m.view) call 1) → IfNotBuilt end (WorksOnNone d n.view) → IfTooSmall end (IsTooSmallFor (point_of e k m) time call)
      → IfNotLoggable end (IsUnloggableFor (point_of e k m) time call) → HasHalted s time a e k m.items.items (halt_at count end)
  call_halts (call_end.Stopped why) ends failed damaged sound unbuilt built small unloggable = stopped why ends
  call_halts (call_end.ReadFailed block rise) ends failed damaged sound unbuilt built small unloggable =
      halts ends (halt.Ended (run.ReadFailed block rise)) (tt, (refl, at ends (λ (c : Call). IsLackedBlock m.view e.count c block) (subst (λ (blocks : ℕ). IsLackedBlock m.view blocks call block) (same_count ends) failed), awaits ends))
  call_halts (call_end.Damaged block rule) ends failed damaged sound unbuilt built small unloggable =
      halts ends (halt.Ended (run.Damaged block rule))
      (tt, (refl, at ends (λ (c : Call). IsDamagedFor (seen_alone m.view) e.count c block rule) (subst (λ (blocks : ℕ). IsDamagedFor (seen_alone m.view) blocks call block rule) (same_count ends) damaged), on_none ends sound, awaits ends))
  call_halts call_end.NotBuilt ends failed damaged sound unbuilt built small unloggable =
      halts ends (halt.Ended (run.NotBuilt count)) (tt, (refl, refl, at ends (λ (c : Call). IsUnbuilt (seen_alone m.view) c 1) unbuilt, on_none ends built, awaits ends))
  call_halts call_end.LogTooSmall ends failed damaged sound unbuilt built small unloggable =
      halts ends (halt.Ended (run.LogTooSmall count)) (tt, (refl, refl, at ends (IsTooSmallFor (point_of e k m) time) small, awaits ends))
  call_halts call_end.NotLoggable ends failed damaged sound unbuilt built small unloggable =
      halts ends (halt.Ended (run.NotLoggable count)) (tt, (refl, refl, at ends (IsUnloggableFor (point_of e k m) time) unloggable, awaits ends))

-- ---- the line at a place

pub next_line : (ls xs : List Line) (i : ℕ) (x y : Line) → xs ≡ ls → i < length xs → x ≡ get_or xs i x → x ≡ y → slice_get ls i ≡ Some y
next_line ls xs i x y same low is here = ap (λ (zs : List Line). slice_get zs i) (sym same) ∙ slice_at xs i x low is ∙ ap (λ (z : Line). Some z) here

-- and the name of its client
pub client_named : (s : ScriptValue) (cs : List Client) (client count : ℕ) (call : Call) (c : Client) → IsForOne s → slice_get s.lines count ≡ Some (line.Call client call) → cs ≡ s.clients → c ≡ get_or cs client c → c.name ≡ name_at s.clients client
client_named s cs client count call c form next same is =
    ap (λ (x : Client). x.name) is ∙ ap (λ (xs : List Client). (get_or xs client c).name) same ∙ name_is s.clients client c (all_at (IsLoneLine (length s.clients)) s.lines count (line.Call client call) form.lines next)
