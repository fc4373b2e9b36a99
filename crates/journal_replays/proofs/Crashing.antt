-- At which write a node crashes in its replay.
use Rattle.std.proofs.Common.{◌≡◌, ◌<◌, ◌≤◌, ◌+◌, ◌-◌, ℕ, Bool, cond, List, [], ◌∷◌, ◌++◌, length, Option, None, Some, refl, sym, ap, subst, ◌∙◌, arith}
use Rattle.std.specs.Prelude.{MatchOption}
use Rattle.std.proofs.lemmas.Bool.{eq-eqb}
use Rattle.std.proofs.lemmas.List.{append_assoc, length-append}
use Rattle.std.proofs.lemmas.List.Sums.{sum_by-append, sum_by-cons}
use Rattle.drafts.specs.declared.change.Written.{Written}
use Rattle.fault_counts.specs.declared.Rise.{Rise}
use Rattle.run_rules.specs.Follows.{is_write_of}
use Rattle.shared_disk.specs.Disk.{Operation, Barrier}
use Rattle.trace_text.specs.declared.item.TraceItem.{TraceItem}
use Rattle.trace_text.specs.declared.item.TraceItem.TheVariants as trace
use Rattle.disk_turns.specs.Crashes as turns
use Rattle.disk_turns.specs.Crashes.{Awaits, IsBefore, left_after}
use Rattle.disk_turns.specs.Faults.{HasStoppedAs}
use Rattle.disk_turns.specs.Turns.{AreBrought, Moment, none, turn, turn_of, writes_of}
use Rattle.disk_turns.specs.declared.faults.TurnFault.{TurnFault}
use Rattle.journal_replays.specs.Bringing.{HasBrought, StopsBringingByCrash}
use Rattle.journal_replays.specs.Crashes.{IsAtCrash, IsBeforeCrash, StopsByCrash, crash_of, writes_in}
use Rattle.journal_replays.specs.Faults.{IfCrashed, fault_of, stop_by}
use Rattle.journal_replays.specs.Items.{items_of}
use Rattle.journal_replays.specs.declared.faults.ReplayFault.{ReplayFault}
use Rattle.journal_replays.specs.declared.faults.ReplayFault.TheVariants.{Crashed, DiskFailed, NoMemory}
use Rattle.journal_replays.proofs.Told.{items_on}

some_is : {A : Type 0} {x y : A} → ◌≡◌ {A = Option A} (Some x) (Some y) → x ≡ y
some_is e = cc

-- ---- the writes that items tell

abbrev counted : ℕ → TraceItem → ℕ
counted node x = cond (is_write_of node x) 1 0

pub writes_append : (node : ℕ) (xs ys : List TraceItem) → writes_in node (xs ++ ys) ≡ writes_in node xs + writes_in node ys
writes_append node xs ys = sum_by-append (counted node) xs ys

one_write : (node block : ℕ) → counted node (trace.WriteReplay node block) ≡ 1
one_write node block = ap (λ (b : Bool). cond b 1 0) (eq-eqb node node refl)

pub writes_of_writes : (node : ℕ) (ws : List Written) → writes_in node (items_of (writes_of node ws)) ≡ length ws
writes_of_writes node [] = refl
writes_of_writes node (w ∷ ws) =
    let all = sum_by-cons (counted node) (trace.WriteReplay node w.block) (items_of (writes_of node ws)) in
    let one = one_write node w.block in
    let rest = writes_of_writes node ws in
    omega (arith, all, one, rest)

-- those of blocks that are brought turn by turn: one a block
pub writes_of_brought : (node : ℕ) (ws : List Written) (operations : List Operation) → AreBrought node ws operations → writes_in node (items_of operations) ≡ length ws
writes_of_brought node ws operations none = refl
writes_of_brought node ws operations (turn some later more next are) =
    let parts : items_of (turn_of node some ++ more) ≡ (items_of (writes_of node some) ++ trace.Barrier node ∷ []) ++ items_of more =
    items_on (turn_of node some) more ∙ ap (λ (is : List TraceItem). is ++ items_of more) (items_on (writes_of node some) (Barrier node ∷ [])) in
    let count = ap (writes_in node) parts in
    let a = writes_append node (items_of (writes_of node some) ++ trace.Barrier node ∷ []) (items_of more) in
    let b = writes_append node (items_of (writes_of node some)) (trace.Barrier node ∷ []) in
    let c = sum_by-cons (counted node) (trace.Barrier node) [] in
    let d = writes_of_writes node some in
    let e = writes_of_brought node later more are in
    let long : length (some ++ later) ≡ length some + length later = length-append some later in
    omega (arith, count, a, b, c, d, e, long)

-- ---- the write at which it is to crash

-- behind so many writes that many fewer are left
pub crash_moves : (node : ℕ) (armed : Option ℕ) (made : ℕ) (items added : List TraceItem) → writes_in node added ≡ made → IsBefore made armed → crash_of node (left_after made armed) (items ++ added) ≡ crash_of node armed items
crash_moves node None made items added many before = refl
crash_moves node (Some left) made items added many before =
    ap (λ (k : ℕ). Some k) (let all = writes_append node items added in let low : made < left = before in omega (arith, all, many, low))

-- without one of its writes nothing changes
pub crash_stays : (node : ℕ) (armed : Option ℕ) (items added : List TraceItem) → writes_in node added ≡ 0 → crash_of node armed (items ++ added) ≡ crash_of node armed items
crash_stays node None items added few = refl
crash_stays node (Some left) items added few = ap (λ (k : ℕ). Some (k + left)) (let all = writes_append node items added in omega (arith, all, few))

pub no_write : (node : ℕ) (slot : ℕ) → writes_in node (trace.Recovered slot node ∷ []) ≡ 0
no_write node slot = sum_by-cons (counted node) (trace.Recovered slot node) []

-- with fewer it hasn't come to it
pub before_crash : (node : ℕ) (armed : Option ℕ) (made : ℕ) (items added : List TraceItem) → writes_in node added ≡ made → IsBefore made armed → IsBeforeCrash node (crash_of node armed items) (items ++ added)
before_crash node None made items added many before k is = absurd (let no : ◌≡◌ {A = Option ℕ} None (Some k) = is in cc)
before_crash node (Some left) made items added many before k is =
    let all = writes_append node items added in
    let low : made < left = before in
    let same : writes_in node items + left ≡ k = some_is is in
    omega (arith, all, many, low, same)

-- one that awaits it hasn't come to it
pub awaits_crash : (node : ℕ) (armed : Option ℕ) (items : List TraceItem) → Awaits armed → IsBeforeCrash node (crash_of node armed items) items
awaits_crash node None items awaits k is = absurd (let no : ◌≡◌ {A = Option ℕ} None (Some k) = is in cc)
awaits_crash node (Some left) items awaits k is = (let same : writes_in node items + left ≡ k = some_is is in omega (arith, awaits, same))

-- ---- the last write

record IsLastWritten (node : ℕ) (ws : List Written) : Type 0 where
  before : List TraceItem
  block : ℕ
  are : items_of (writes_of node ws) ≡ before ++ trace.WriteReplay node block ∷ []

last_written : (node : ℕ) (ws : List Written) → 1 ≤ length ws → IsLastWritten node ws
last_written node [] some = absurd (omega (arith, some))
last_written node (w ∷ []) some = record { before = []; block = w.block; are = refl }
last_written node (w ∷ v ∷ ws) some =
    let rest = last_written node (v ∷ ws) (omega arith) in
    record { before = trace.WriteReplay node w.block ∷ rest.before; block = rest.block; are = ap (λ (is : List TraceItem). trace.WriteReplay node w.block ∷ is) rest.are }

-- directly behind it
pub at_crash : (node : ℕ) (armed : Option ℕ) (made : ℕ) (items first : List TraceItem) (ws : List Written) → writes_in node (first ++ items_of (writes_of node ws)) ≡ made → 1 ≤ length ws → armed ≡ Some made
    → IsAtCrash node (crash_of node armed items) (items ++ (first ++ items_of (writes_of node ws)))
at_crash node armed made items first ws many some at =
    let last = last_written node ws some in
    record {
      before = items ++ (first ++ last.before);
      it = trace.WriteReplay node last.block;
      told = ap (λ (is : List TraceItem). items ++ (first ++ is)) last.are ∙ ap (λ (is : List TraceItem). items ++ is) (sym (append_assoc first last.before (trace.WriteReplay node last.block ∷ [])))
          ∙ sym (append_assoc items (first ++ last.before) (trace.WriteReplay node last.block ∷ []));
      write = eq-eqb node node refl;
      is = ap (λ (o : Option ℕ). crash_of node o items) at
          ∙ ap (λ (k : ℕ). Some k) (let all = writes_append node items (first ++ items_of (writes_of node ws)) in let same : writes_in node items + made ≡ writes_in node (items ++ (first ++ items_of (writes_of node ws))) = omega (arith, all, many) in same);
    }

-- ---- blocks that are brought

-- how many writes the items of what was brought tell
pub brought_left : (node : ℕ) (before after : Moment) (blocks : List Written) (items items' : List TraceItem) (armed left : Option ℕ) → HasBrought node before after blocks items items' → left ≡ left_after (length blocks) armed
    → IsBefore (length blocks) armed → crash_of node left items' ≡ crash_of node armed items
brought_left node before after blocks items items' armed left is behind low =
    ap (λ (is : List TraceItem). crash_of node left is) is.are ∙ ap (λ (o : Option ℕ). crash_of node o (items ++ items_of is.brings.operations)) behind
    ∙ crash_moves node armed (length blocks) items (items_of is.brings.operations) (writes_of_brought node blocks is.brings.operations is.brings.brought) low

-- where it stopped, it has come to its write, or not
pub stopped_crash : (node : ℕ) (before after : Moment) (blocks : List Written) (fault : TurnFault) (armed : Option ℕ) (items items' : List TraceItem) (s : HasStoppedAs node before after blocks fault)
    → items' ≡ items ++ (items_of s.stopped.brought.operations ++ items_of (writes_of node s.stopped.stopped.wrote)) → turns.StopsByCrash armed fault.on_disk fault
    → StopsBringingByCrash node (crash_of node armed items) items' fault
stopped_crash node before after blocks fault armed items items' s are stops = subst (λ (is : List TraceItem). StopsBringingByCrash node (crash_of node armed items) is fault) (sym are) (by fault.rise stops)
  where
    first : List TraceItem
    first = items_of s.stopped.brought.operations

    wrote : List Written
    wrote = s.stopped.stopped.wrote

    many : writes_in node (first ++ items_of (writes_of node wrote)) ≡ fault.on_disk + fault.in_flight
    many =
        let all = writes_append node first (items_of (writes_of node wrote)) in
        let a = writes_of_brought node s.stopped.done s.stopped.brought.operations s.stopped.brought.brought in
        let b = writes_of_writes node wrote in
        let on_disk = s.on_disk in
        let in_flight = s.in_flight in
        omega (arith, all, a, b, on_disk, in_flight)

    by : (r : Option Rise) → MatchOption r ((armed ≡ Some (fault.on_disk + fault.in_flight)) × (1 ≤ fault.in_flight)) (λ r. IsBefore (fault.on_disk + fault.in_flight) armed)
        → MatchOption r (IsAtCrash node (crash_of node armed items) (items ++ (first ++ items_of (writes_of node wrote)))) (λ r. IsBeforeCrash node (crash_of node armed items) (items ++ (first ++ items_of (writes_of node wrote))))
    by None is = at_crash node armed (fault.on_disk + fault.in_flight) items first wrote many (let some = is.1 in let long = s.in_flight in omega (arith, some, long)) is.0
    by (Some r) is = before_crash node armed (fault.on_disk + fault.in_flight) items (first ++ items_of (writes_of node wrote)) many is

-- ---- the replay

-- what stopped a turn stopped the replay so
pub stops_so : (node : ℕ) (crash : Option ℕ) (items : List TraceItem) (fault : TurnFault) → StopsBringingByCrash node crash items fault → StopsByCrash node crash items (fault_of fault)
stops_so node crash items fault = by fault.rise
  where
    by : (r : Option Rise) → MatchOption r (IsAtCrash node crash items) (λ r. IsBeforeCrash node crash items) → StopsByCrash node crash items (stop_by fault.block r)
    by None is = is
    by (Some r) is = is

-- without a write at which it is to crash it doesn't
pub no_crash : (node : ℕ) (items items' : List TraceItem) (fault : ReplayFault) → StopsByCrash node (crash_of node None items) items' fault → IfCrashed fault ⊥
no_crash node items items' (DiskFailed block rise) is = tt
no_crash node items items' Crashed is = (let no : ◌≡◌ {A = Option ℕ} None (Some (writes_in node items')) = is.is in cc)
no_crash node items items' NoMemory is = tt
