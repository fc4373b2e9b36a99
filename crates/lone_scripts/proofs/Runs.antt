-- A run of one node follows its script.
use Rattle.std.proofs.Common.{◌≡◌, ℕ, zero, suc, ◌+◌, ◌-◌, ◌<◌, ◌≤◌, Bool, cond, List, [], ◌∷◌, ◌++◌, length, take, Some, inl, inr, refl, sym, ap, ◌∙◌, subst, arith, append_assoc, length-append}
use Rattle.std.specs.Prelude.{slice_get, count_by, IsTrue}
use Rattle.std.specs.List.{AllByRecursion, filter}
use Rattle.std.proofs.lemmas.Bool.{cases_lt}
use Rattle.std.proofs.lemmas.List.{append-nil, take_all, take-append-le}
use Rattle.std.proofs.lemmas.List.Elements.{filter-append}
use Rattle.std.proofs.Math.Seq.{take-append-add}
use Rattle.cluster_history.specs.History.{IsNumbered, calls_of}
use Rattle.cluster_history.specs.declared.Item.{Item}
use Rattle.cluster_history.specs.declared.Item.TheVariants as item
use Rattle.file_tree.specs.declared.call.Call.{Call}
use Rattle.file_tree.specs.declared.reply.Reply.{Reply}
use Rattle.run_rules.specs.Follows.{ByArmed, ByLine, CrashesBy, Follows, IsAfterStart, IsKthWrite, IsOrderLine, NotJoined, Order, Standing, StandsAt, Stopped, answered, call_items, history_of, is_write_of, standing, standing_after}
use Rattle.run_rules.specs.History.{AllPlaced}
use Rattle.run_rules.proofs.Nothing.{nothing_follows}
use Rattle.script_lang.specs.Script.{ScriptValue, calls_by}
use Rattle.script_lang.specs.declared.script.Armed.{Armed}
use Rattle.script_lang.specs.declared.script.Client.{Client}
use Rattle.script_lang.specs.declared.script.Line.{Line}
use Rattle.script_lang.specs.declared.script.Line.TheVariants as line
use Rattle.trace_text.specs.declared.item.TraceItem.{TraceItem}
use Rattle.trace_text.specs.declared.item.TraceItem.TheVariants as trace
use Rattle.lone_scripts.specs.Laws.{AllAnsweredOrDown, LoneRunsAreNumbered, LoneRunsFollow, RunningNodesKeepAll, WholeLoneRunsAnswer}
use Rattle.lone_scripts.specs.Runs.{Answered, Crashes, HasCrashed, IsBehindCrash, IsMember, IsNotPast, IsOfMember, Runs, TakesLines, at_line, at_write, crashed, fenced, is_call, lost, not_begun, nothing, running, stopped, taken}
use Rattle.lone_scripts.specs.Scripts.{IsForOne, IsLoneLine, IsOfNodeOne}
use Rattle.lone_scripts.proofs.Following.{after_all, are_of, before_below, calls_taken, in_order, is_past, none_below, on_node, waits}
use Rattle.lone_scripts.proofs.Lists.{Stands, all_at, before, behind, count_both, count_front, filter_front, in_midst, stands, there}
use Rattle.lone_scripts.proofs.Told.{calls_filter, hist, history_filter, history_from, history_of-append}

-- no call
abbrev NoneCalled : List Item → Type 0
NoneCalled [] = Unit {0}
NoneCalled (item.Lost i kept ∷ is) = NoneCalled is
NoneCalled (item.Call i client number call reply ∷ is) = ⊥

none_at : {A : Type 0} (p : ℕ) (x : A) → slice_get [] p ≡ Some x → ⊥
none_at p x at = cc

-- ---- what stands behind a crash

no_call_behind : (behind' : List TraceItem) → IsBehindCrash behind' → filter is_call behind' ≡ []
no_call_behind _ nothing = refl
no_call_behind _ fenced = refl
no_call_behind _ (lost kept) = refl

-- one of its items: a fence, or a loss
data IsLeft (it : TraceItem) : Type 0 where
  a_fence : trace.Fence 1 ≡ it → IsLeft it
  a_loss : (kept : ℕ) → trace.Lost 1 kept ≡ it → IsLeft it

is_left : (behind' : List TraceItem) (p : ℕ) (it : TraceItem) → IsBehindCrash behind' → slice_get behind' p ≡ Some it → IsLeft it
is_left _ p it nothing at = absurd (none_at p it at)
is_left _ zero it fenced at = a_fence (cc)
is_left _ (suc p) it fenced at = absurd (none_at p it at)
is_left _ zero it (lost kept) at = a_fence (cc)
is_left _ (suc zero) it (lost kept) at = a_loss kept (cc)
is_left _ (suc (suc p)) it (lost kept) at = absurd (none_at p it at)

none_up_to : (ys : List TraceItem) (k : ℕ) → filter is_call ys ≡ [] → filter is_call (take k ys) ≡ []
none_up_to ys k none = filter_front is_call k ys ∙ ap (take (length (filter is_call (take k ys)))) none ∙ take_none (length (filter is_call (take k ys)))
  where
    take_none : (n : ℕ) → take {A = TraceItem} n [] ≡ []
    take_none zero = refl
    take_none (suc n) = refl

-- the lines that were taken before a crash are those that were taken
pub takes_past : (s : ScriptValue) (count : ℕ) (items behind' : List TraceItem) → IsBehindCrash behind' → TakesLines s count items → TakesLines s count (items ++ trace.Crash 1 ∷ behind')
takes_past s count items behind' is_behind takes = record {
  answered = takes.answered;
  lines = takes.lines;
  told = filter-append is_call items (trace.Crash 1 ∷ behind') ∙ ap (λ (is : List TraceItem). filter is_call items ++ is) (no_call_behind behind' is_behind) ∙ append-nil (filter is_call items) ∙ takes.told;
  on = takes.on;
}

-- ---- writes

-- the item that ends a list of them
count_more : (xs : List TraceItem) (it : TraceItem) → IsTrue (is_write_of 1 it) → count_by (is_write_of 1) (xs ++ it ∷ []) ≡ count_by (is_write_of 1) xs + 1
count_more xs it write =
    let one : cond (is_write_of 1 it) 1 0 ≡ 1 = ap {B = ℕ} (λ (b : Bool). cond b 1 0) write in
    let both = count_both (is_write_of 1) xs (it ∷ []) in
    let last : count_by (is_write_of 1) (it ∷ []) ≡ 0 + cond (is_write_of 1 it) 1 0 = refl in
    omega (arith, one, both, last)

module _ (items : List TraceItem) where
  abbrev writes_up_to : ℕ → ℕ
  writes_up_to n = count_by (is_write_of 1) (take n items)

  writes_in_all : (n : ℕ) → writes_up_to n ≤ count_by (is_write_of 1) items
  writes_in_all n = elim (cases_lt n (length items)) [
    | inl low ↦ let rise = count_front (is_write_of 1) n (length items) items (omega (arith, low)) in
        let whole = ap (count_by (is_write_of 1)) (take_all (length items) items (omega arith)) in omega (arith, rise, whole)
    | inr past ↦ let whole = ap (count_by (is_write_of 1)) (take_all n items past) in omega (arith, whole)
  ]

  -- a write that a crash waits for, and that isn't past, is the last of them
  is_last_write : (p : ℕ) (a : Armed) → IsNotPast items a → p < length items → writes_up_to (p + 1) ≡ a.write → p + 1 ≡ length items
  is_last_write p a (inl coming) low is = let within = writes_in_all (p + 1) in absurd (omega (arith, within, is, coming))
  is_last_write p a (inr (count, (front, it, are, write))) low is = elim (cases_lt p (length front)) [
    | inl early ↦
        let more = ap (count_by (is_write_of 1)) are ∙ count_more front it write in
        let same = ap (λ (is : List TraceItem). count_by (is_write_of 1) (take (p + 1) is)) are ∙ ap (count_by (is_write_of 1)) (take-append-le (p + 1) front (it ∷ []) (omega (arith, early))) in
        let rise = count_front (is_write_of 1) (p + 1) (length front) front (omega (arith, early)) in
        let whole = ap (count_by (is_write_of 1)) (take_all (length front) front (omega arith)) in
        absurd (omega (arith, more, same, rise, whole, is, count))
    | inr late ↦ let long = ap (λ (is : List TraceItem). length is) are ∙ length-append front (it ∷ []) in omega (arith, long, late, low)
  ]

-- ---- standing

after_join : (now : Standing) (x : TraceItem) (xs : List TraceItem) → standing_after 1 now (x ∷ xs) ≡ standing_after 1 (standing_after 1 now (x ∷ [])) xs
after_join now (trace.Join i) xs = refl
after_join now (trace.Crash i) xs = refl
after_join now (trace.Withdraw i x y) xs = refl
after_join now _ xs = refl

standing_onto : (now : Standing) (xs ys : List TraceItem) → standing_after 1 now (xs ++ ys) ≡ standing_after 1 (standing_after 1 now xs) ys
standing_onto now [] ys = refl
standing_onto now (x ∷ xs) ys =
    after_join now x (xs ++ ys) ∙ standing_onto (standing_after 1 now (x ∷ [])) xs ys ∙ ap (λ (n : Standing). standing_after 1 n ys) (sym (after_join now x xs))

stopped_behind : (behind' : List TraceItem) → IsBehindCrash behind' → standing_after 1 Stopped behind' ≡ Stopped
stopped_behind _ nothing = refl
stopped_behind _ fenced = refl
stopped_behind _ (lost kept) = refl

-- ---- a run that has not stopped

no_join_at : (more : List TraceItem) (p node : ℕ) → AllByRecursion IsOfMember more → slice_get more p ≡ Some (trace.Join node) → ⊥
no_join_at more p node stays at = all_at IsOfMember more p (trace.Join node) stays at

module _ (s : ScriptValue) (form : IsForOne s) (items : List TraceItem) (member : IsMember items) where
  pub first_at : (p : ℕ) (it : TraceItem) → slice_get items p ≡ Some it → p < 1 → it ≡ trace.Join (p + 1)
  first_at zero it at low = by (ap (λ (is : List TraceItem). slice_get is 0) (sym member.are) ∙ at)
    where
      by : slice_get (trace.Join 1 ∷ member.more) 0 ≡ Some it → it ≡ trace.Join 1
      by at = cc
  first_at (suc p) it at low = absurd (omega (arith, low))

  later_is : (p : ℕ) (it : TraceItem) → slice_get items (suc p) ≡ Some it → IsOfMember it
  later_is p it at = all_at IsOfMember member.more p it member.stays (ap (λ (is : List TraceItem). slice_get is (suc p)) (sym member.are) ∙ at)

  pub no_crash_in : (p node : ℕ) → slice_get items p ≡ Some (trace.Crash node) → ⊥
  no_crash_in zero node at = none (first_at 0 (trace.Crash node) at (omega arith))
    where
      none : trace.Crash node ≡ trace.Join 1 → ⊥
      none e = cc
  no_crash_in (suc p) node at = later_is p (trace.Crash node) at

  pub no_join_in : {A : Type 0} (p node : ℕ) → slice_get items p ≡ Some (trace.Join node) → IsAfterStart s p → A
  no_join_in zero node at past = absurd (omega (arith, past, form.nodes))
  no_join_in (suc p) node at past = absurd (later_is p (trace.Join node) at)

  pub some_in : 1 ≤ length items
  some_in = let long = ap (λ (is : List TraceItem). length is) member.are in omega (arith, long)

armed_is_one : (s : ScriptValue) → IsForOne s → (k : ℕ) (a : Armed) → slice_get s.armed k ≡ Some a → a.node ≡ 1
armed_is_one s form k a at = all_at (λ (b : Armed). b.node ≡ 1) s.armed k a form.armed at

-- the node's write is node 1's
write_of_one : (s : ScriptValue) → IsForOne s → (items : List TraceItem) (p k : ℕ) (a : Armed) → slice_get s.armed k ≡ Some a → IsKthWrite items a.node a.write p → IsKthWrite items 1 a.write p
write_of_one s form items p k a at write = subst (λ (n : ℕ). IsKthWrite items n a.write p) (armed_is_one s form k a at) write

within : {A : Type 0} (xs : List A) (p : ℕ) (x : A) → slice_get xs p ≡ Some x → p < length xs
within [] p x at = cc
within (y ∷ ys) zero x at = omega arith
within (y ∷ ys) (suc p) x at = let low = within ys p x at in omega (arith, low)

module _ (s : ScriptValue) (form : IsForOne s) (count : ℕ) (items : List TraceItem) (runs : Runs s count items) where
  abbrev run_takes : TakesLines s count items
  run_takes = runs.takes

  pub running_follows : Follows items s
  running_follows = record {
    in_order = in_order s form count items run_takes;
    on_node = on_node s form count items run_takes;
    waits = λ l p client barrier at is_barrier more rises. waits s form count items run_takes l p client more rises;
    start = λ p it at low. first_at s form items runs.member p it at (omega (arith, low, form.nodes));
    order = λ p. ByLine 0;
    crashes = λ p node at. absurd (no_crash_in s form items runs.member p node at);
    joins = λ p node at later. no_join_in s form items runs.member p node at later;
    once = λ p q node at also same. absurd (no_crash_in s form items runs.member p node at);
    once_joined = λ p q i j at also later latter same. no_join_in s form items runs.member p i at later;
    armed = λ p k a at write.
        let (it, has, is_write, kth) = write_of_one s form items p k a at write in
        inl (is_last_write items p a (all_at (IsNotPast items) s.armed k a runs.armed at) (within items p it has) kth);
    place = λ l. 0;
    placed = λ l order_line at is_order below. absurd (none_below s form count items run_takes l order_line at is_order below);
    rising = λ l latter less below. omega arith;
  }

-- ---- a run whose node has crashed

module _ (s : ScriptValue) (form : IsForOne s) (count : ℕ) (front : List TraceItem) (runs : Runs s count front) (how : Crashes s count front) (behind' : List TraceItem) (is_behind : IsBehindCrash behind') where
  abbrev whole : List TraceItem
  whole = front ++ trace.Crash 1 ∷ behind'

  abbrev takes : TakesLines s count whole
  takes = takes_past s count front behind' is_behind runs.takes

  where_is : (p : ℕ) (it : TraceItem) → slice_get whole p ≡ Some it → Stands front (trace.Crash 1) behind' p it
  where_is p it at = stands front (trace.Crash 1) behind' p it at

  -- all is answered in front of it
  calls_to : (q : ℕ) → length front ≤ q → filter is_call (take q whole) ≡ filter is_call front
  calls_to q past =
      let rest : List TraceItem = trace.Crash 1 ∷ behind' in
      let so : q ≡ length front + (q - length front) = omega (arith, past) in
      ap (λ (n : ℕ). filter is_call (take n (front ++ rest))) so ∙ ap (filter is_call) (take-append-add front rest (q - length front)) ∙ filter-append is_call front (take (q - length front) rest)
      ∙ ap (λ (is : List TraceItem). filter is_call front ++ is) (none_up_to rest (q - length front) (no_call_behind behind' is_behind)) ∙ append-nil (filter is_call front)

  has_front : (client q : ℕ) → length front ≤ q → answered s whole client q ≡ length (call_items s.clients client (filter is_call front))
  has_front client q past =
      ap (λ (cs : List Call). length cs) (sym (calls_filter s.clients client (take q whole))) ∙ ap (λ (is : List TraceItem). length (call_items s.clients client is)) (calls_to q past)

  long_enough : length front + 1 ≤ length whole
  long_enough = let long = length-append front (trace.Crash 1 ∷ behind') in omega (arith, long)

  answered_there : (q : ℕ) → length front ≤ q → (client : ℕ) → answered s whole client q ≡ answered s whole client (length whole)
  answered_there q past client = has_front client q past ∙ sym (has_front client (length whole) (let long = long_enough in omega (arith, long)))

  -- the crash stands there, and nowhere else
  crash_is : (p node : ℕ) → slice_get whole p ≡ Some (trace.Crash node) → (p ≡ length front) × (1 ≡ node)
  crash_is p node at = elim (where_is p (trace.Crash node) at) [
    | before low is ↦ absurd (no_crash_in s form front runs.member p node is)
    | there here same ↦ (here, crash_node same)
    | behind k past is ↦ elim (is_left behind' k (trace.Crash node) is_behind is) [ a_fence same ↦ cc | a_loss kept same ↦ cc ]
  ]
    where
      crash_node : trace.Crash 1 ≡ trace.Crash node → 1 ≡ node
      crash_node same = cc

  no_join_there : {A : Type 0} (p node : ℕ) → slice_get whole p ≡ Some (trace.Join node) → IsAfterStart s p → A
  no_join_there p node at past = elim (where_is p (trace.Join node) at) [
    | before low is ↦ no_join_in s form front runs.member p node is past
    | there here same ↦ absurd (no_crash same)
    | behind k past is ↦ elim (is_left behind' k (trace.Join node) is_behind is) [ a_fence same ↦ cc | a_loss kept same ↦ cc ]
  ]
    where
      no_crash : trace.Crash 1 ≡ trace.Join node → ⊥
      no_crash same = cc

  -- ---- which order it carries out

  abbrev order_of : Crashes s count front → Order
  order_of (at_line nodes at) = ByLine count
  order_of (at_write k a at count' ends) = ByArmed k

  line_is : (nodes : ℕ) → slice_get s.lines count ≡ Some (line.Crash nodes) → IsOfNodeOne nodes
  line_is nodes at = all_at (IsLoneLine (length s.clients)) s.lines count (line.Crash nodes) form.lines at

  carries_out : (by : Crashes s count front) → CrashesBy s whole (length front) 1 (order_of by)
  carries_out (at_line nodes at) =
      let there' = answered_there (length front) (omega arith) in
      (nodes, at, (line_is nodes at).0, after_all s form count whole takes count (length front) there', before_below s form count whole takes count (length front) (omega arith) there')
  carries_out (at_write k a at is (xs, it, are, write)) =
      let long = ap (λ (is : List TraceItem). length is) are ∙ length-append xs (it ∷ []) in
      let place : length front - 1 ≡ length xs = omega (arith, long) in
      let last : slice_get whole (length xs) ≡ Some it = ap (λ (is : List TraceItem). slice_get (is ++ trace.Crash 1 ∷ behind') (length xs)) are ∙ ap (λ (is : List TraceItem). slice_get is (length xs)) (append_assoc xs (it ∷ []) (trace.Crash 1 ∷ behind')) ∙ in_midst xs it (trace.Crash 1 ∷ behind') in
      let up_to : length front - 1 + 1 ≡ length front = omega (arith, long) in
      let front_is : take (length front - 1 + 1) whole ≡ front = ap (λ (n : ℕ). take n whole) up_to ∙ take-append-le (length front) front (trace.Crash 1 ∷ behind') (omega arith) ∙ take_all (length front) front (omega arith) in
      (a, at, armed_is_one s form k a at, omega (arith, long), (it, ap (slice_get whole) place ∙ last, write, ap (count_by (is_write_of 1)) front_is ∙ is))

  -- ---- behind its write

  crashes_next : (p k : ℕ) (a : Armed) → slice_get s.armed k ≡ Some a → IsKthWrite whole a.node a.write p → slice_get whole (p + 1) ≡ Some (trace.Crash a.node)
  crashes_next p k a at write = by (write_of_one s form whole p k a at write)
    where
      by : IsKthWrite whole 1 a.write p → slice_get whole (p + 1) ≡ Some (trace.Crash a.node)
      by (it, has, is_write, kth) = elim (where_is p it has) [
        | before low is ↦
            let same = take-append-le (p + 1) front (trace.Crash 1 ∷ behind') (omega (arith, low)) in
            let last = is_last_write front p a (all_at (IsNotPast front) s.armed k a runs.armed at) low (ap (count_by (is_write_of 1)) (sym same) ∙ kth) in
            ap (slice_get whole) last ∙ in_midst front (trace.Crash 1) behind' ∙ ap (λ (n : ℕ). Some (trace.Crash n)) (sym (armed_is_one s form k a at))
        | there here same ↦ absurd (no_write same is_write)
        | behind q past is ↦ elim (is_left behind' q it is_behind is) [ a_fence same ↦ absurd (no_fence same is_write) | a_loss kept same ↦ absurd (no_loss kept same is_write) ]
      ]
        where
          no_write : trace.Crash 1 ≡ it → IsTrue (is_write_of 1 it) → ⊥
          no_write same write = none (subst (λ (x : TraceItem). IsTrue (is_write_of 1 x)) (sym same) write)
            where
              none : IsTrue (is_write_of 1 (trace.Crash 1)) → ⊥
              none e = cc

          no_fence : trace.Fence 1 ≡ it → IsTrue (is_write_of 1 it) → ⊥
          no_fence same write = none (subst (λ (x : TraceItem). IsTrue (is_write_of 1 x)) (sym same) write)
            where
              none : IsTrue (is_write_of 1 (trace.Fence 1)) → ⊥
              none e = cc

          no_loss : (kept : ℕ) → trace.Lost 1 kept ≡ it → IsTrue (is_write_of 1 it) → ⊥
          no_loss kept same write = none (subst (λ (x : TraceItem). IsTrue (is_write_of 1 x)) (sym same) write)
            where
              none : IsTrue (is_write_of 1 (trace.Lost 1 kept)) → ⊥
              none e = cc

  starts : (p : ℕ) (it : TraceItem) → slice_get whole p ≡ Some it → p < 1 → it ≡ trace.Join (p + 1)
  starts p it at low = elim (where_is p it at) [
    | before far is ↦ first_at s form front runs.member p it is low
    | there here same ↦ let some = some_in s form front runs.member in absurd (omega (arith, low, here, some))
    | behind k past is ↦ absurd (omega (arith, low, past))
  ]

  pub crashed_follows : Follows whole s
  crashed_follows = record {
    in_order = in_order s form count whole takes;
    on_node = on_node s form count whole takes;
    waits = λ l p client barrier at is_barrier more rises. waits s form count whole takes l p client more rises;
    start = λ p it at low. starts p it at (omega (arith, low, form.nodes));
    order = λ p. order_of how;
    crashes = λ p node at.
        let (here, one) = crash_is p node at in
        subst (λ (n : ℕ). CrashesBy s whole p n (order_of how)) one (subst (λ (q : ℕ). CrashesBy s whole q 1 (order_of how)) (sym here) (carries_out how));
    joins = λ p node at later. no_join_there p node at later;
    once = λ p q node at also same. (crash_is p node at).0 ∙ sym (crash_is q node also).0;
    once_joined = λ p q i j at also later latter same. no_join_there p i at later;
    armed = λ p k a at write. inr (crashes_next p k a at write);
    place = λ l. 0;
    placed = λ l order_line at is_order below. absurd (none_below s form count whole takes l order_line at is_order below);
    rising = λ l latter less below. omega arith;
  }

  -- ---- it is stopped

  pub stopped_at_end : standing whole 1 (length whole) ≡ Stopped
  stopped_at_end =
      ap (standing_after 1 NotJoined) (take_all (length whole) whole (omega arith)) ∙ standing_onto NotJoined front (trace.Crash 1 ∷ behind') ∙ stopped_behind behind' is_behind

  stopped_there : standing whole 1 (length front + 1) ≡ Stopped
  stopped_there =
      ap (standing_after 1 NotJoined) (take-append-add front (trace.Crash 1 ∷ behind') 1) ∙ standing_onto NotJoined front (trace.Crash 1 ∷ [])

  placed_there : (l : ℕ) (x : Line) → slice_get s.lines l ≡ Some x → (is_order : IsOrderLine x) → StandsAt s whole x (length front + 1)
  placed_there l (line.Call c call) at is_order = is_order
  placed_there l line.Wait at is_order = is_order
  placed_there l (line.Crash nodes) at is_order = λ node has below.
      let one = (all_at (IsLoneLine (length s.clients)) s.lines l (line.Crash nodes) form.lines at).1 node has in
      ap (λ (n : ℕ). standing whole n (length front + 1)) one ∙ stopped_there
  placed_there l (line.Join node) at is_order = absurd (all_at (IsLoneLine (length s.clients)) s.lines l (line.Join node) form.lines at)

  pub crashed_placed : AllPlaced whole s
  crashed_placed = record {
    place = λ l. length front + 1;
    placed = λ l x at is_order.
        let there' = answered_there (length front + 1) (omega arith) in
        (after_all s form count whole takes l (length front + 1) there', before_below s form count whole takes l (length front + 1) (is_past s form count whole takes l x at is_order) there', placed_there l x at is_order);
    rising = λ l latter less. omega arith;
  }

-- ---- numbers

no_call_at : (ls : List Item) → NoneCalled ls → (p node client number : ℕ) (call : Call) (r : Reply) → slice_get ls p ≡ Some (item.Call node client number call r) → ⊥
no_call_at [] none p node client number call r at = cc
no_call_at (item.Lost i kept ∷ ls) none zero node client number call r at = cc
no_call_at (item.Lost i kept ∷ ls) none (suc p) node client number call r at = no_call_at ls none p node client number call r at
no_call_at (item.Call i c n x y ∷ ls) none p node client number call r at = absurd none

numbered_from : (ls : List Item) → NoneCalled ls → (n p : ℕ) (rs : List Answered) (node client number : ℕ) (call : Call) (r : Reply)
    → slice_get (hist n rs ++ ls) p ≡ Some (item.Call node client number call r) → (1 ≡ node) × (number ≡ calls_of 1 (take p (hist n rs ++ ls)) + n)
numbered_from ls none n p [] node client number call r at = absurd (no_call_at ls none p node client number call r at)
numbered_from ls none n zero (s ∷ rs) node client number call r at = (one at, let same = number_is at in omega (arith, same))
  where
    one : Some (item.Call 1 s.client n s.call s.reply) ≡ Some (item.Call node client number call r) → 1 ≡ node
    one e = cc

    number_is : Some (item.Call 1 s.client n s.call s.reply) ≡ Some (item.Call node client number call r) → n ≡ number
    number_is e = cc
numbered_from ls none n (suc p) (s ∷ rs) node client number call r at =
    let (one, more) = numbered_from ls none (n + 1) p rs node client number call r at in (one, omega (arith, more))

is_numbered : (ls : List Item) → NoneCalled ls → (rs : List Answered) → IsNumbered (hist 1 rs ++ ls)
is_numbered ls none rs p node client number call r at =
    let (one, is) = numbered_from ls none 1 p rs node client number call r at in
    subst (λ (m : ℕ). number ≡ calls_of m (take p (hist 1 rs ++ ls)) + 1) one is

-- the history of a run that has not stopped
pub history_is : (s : ScriptValue) (form : IsForOne s) (count : ℕ) (items : List TraceItem) (runs : Runs s count items) → history_of s.clients items ≡ hist 1 runs.takes.answered
history_is s form count items runs =
    ap (history_of s.clients) runs.member.are ∙ sym (history_filter s.clients runs.member.more runs.member.stays)
    ∙ ap (history_of s.clients) (sym (ap (filter is_call) runs.member.are) ∙ runs.takes.told) ∙ history_from s.clients form.names 1 runs.takes.answered (are_of s form count items runs.takes)

behind_has_none : (clients : List Client) (behind' : List TraceItem) → IsBehindCrash behind' → NoneCalled (history_of clients behind')
behind_has_none clients _ nothing = tt
behind_has_none clients _ fenced = tt
behind_has_none clients _ (lost kept) = tt

no_loss_in : (n q : ℕ) (rs : List Answered) (node kept : ℕ) → slice_get (hist n rs) q ≡ Some (item.Lost node kept) → ⊥
no_loss_in n q [] node kept at = cc
no_loss_in n zero (r ∷ rs) node kept at = cc
no_loss_in n (suc q) (r ∷ rs) node kept at = no_loss_in (n + 1) q rs node kept at

-- ---- the laws

pub lone_runs_follow : LoneRunsFollow
lone_runs_follow s _ _ form not_begun = (nothing_follows s).follows
lone_runs_follow s _ _ form (running count items runs) = running_follows s form count items runs
lone_runs_follow s _ _ form (crashed count items has) =
    subst (λ (is : List TraceItem). Follows is s) (sym has.are) (crashed_follows s form count has.before has.runs has.crashes has.behind has.is_behind)

pub lone_runs_are_numbered : LoneRunsAreNumbered
lone_runs_are_numbered s _ _ form not_begun = (nothing_follows s).numbered
lone_runs_are_numbered s _ _ form (running count items runs) =
    subst IsNumbered (append-nil (hist 1 runs.takes.answered) ∙ sym (history_is s form count items runs)) (is_numbered [] tt runs.takes.answered)
lone_runs_are_numbered s _ _ form (crashed count items has) =
    let rest : List TraceItem = trace.Crash 1 ∷ has.behind in
    let whole' : hist 1 has.runs.takes.answered ++ history_of s.clients rest ≡ history_of s.clients items =
    ap (λ (h : List Item). h ++ history_of s.clients rest) (sym (history_is s form count has.before has.runs)) ∙ history_of-append s.clients has.before rest ∙ ap (history_of s.clients) (sym has.are) in
    subst IsNumbered whole' (is_numbered (history_of s.clients rest) (behind_has_none s.clients has.behind has.is_behind) has.runs.takes.answered)

pub running_nodes_keep_all : RunningNodesKeepAll
running_nodes_keep_all s count items form runs p q node client number kept less sync lost' =
    absurd (no_loss_in 1 q runs.takes.answered node kept (ap (λ (h : List Item). slice_get h q) (sym (history_is s form count items runs)) ∙ lost'))

nodes_are_one : (s : ScriptValue) → IsForOne s → (client : ℕ) (c : Client) → slice_get s.clients client ≡ Some c → c.node ≡ 1
nodes_are_one s form client c at = all_at (λ (d : Client). d.node ≡ 1) s.clients client c form.clients at

module _ (s : ScriptValue) (form : IsForOne s) (items : List TraceItem) where
  taken_answers : Runs s (length s.lines) items → AllAnsweredOrDown items s × AllPlaced items s
  taken_answers runs = (
    λ client c at. inl (calls_taken s form (length s.lines) items runs.takes client ∙ ap (calls_by client) (take_all (length s.lines) s.lines (omega arith))),
    record {
      place = λ l. 0;
      placed = λ l x at is_order. let past = is_past s form (length s.lines) items runs.takes l x at is_order in let low = within s.lines l x at in absurd (omega (arith, past, low));
      rising = λ l latter less. omega arith;
    },
  )

  stopped_answers : (count : ℕ) → HasCrashed s count items → AllAnsweredOrDown items s × AllPlaced items s
  stopped_answers count has =
      subst (λ (is : List TraceItem). AllAnsweredOrDown is s × AllPlaced is s) (sym has.are) (
        (λ client c at. inr (ap (λ (n : ℕ). standing (has.before ++ trace.Crash 1 ∷ has.behind) n (length (has.before ++ trace.Crash 1 ∷ has.behind))) (nodes_are_one s form client c at)
            ∙ stopped_at_end s form count has.before has.runs has.crashes has.behind has.is_behind)),
        crashed_placed s form count has.before has.runs has.crashes has.behind has.is_behind,
      )

pub whole_lone_runs_answer : WholeLoneRunsAnswer
whole_lone_runs_answer s items form (taken runs) = taken_answers s form items runs
whole_lone_runs_answer s items form (stopped count has) = stopped_answers s form items count has
