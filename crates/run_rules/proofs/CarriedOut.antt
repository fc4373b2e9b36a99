-- A run that carries out its crash and its join line.
use Rattle.std.proofs.Common.{◌≡◌, ◌≤◌, ◌<◌, ◌+◌, ℕ, zero, suc, min, List, [], ◌∷◌, length, take, Some, refl, sym, ap, ◌∙◌, subst, arith}
use Rattle.std.specs.Prelude.{codes, IsTrue, ◌==◌, false}
use Rattle.std.specs.List.{slice_get}
use Rattle.std.proofs.Math.Dec.{eqb-zero-suc}
use Rattle.fencing.specs.NodeSets.{has}
use Rattle.file_tree.specs.declared.call.Call.TheVariants as call
use Rattle.file_tree.specs.declared.reply.Reply.TheVariants as reply
use Rattle.script_lang.specs.Script.{calls_by}
use Rattle.trace_text.specs.declared.item.TraceItem.{TraceItem}
use Rattle.trace_text.specs.declared.item.TraceItem.TheVariants as trace
use Rattle.script_lang.specs.declared.script.Line.{Line}
use Rattle.script_lang.specs.declared.script.Line.TheVariants as line
use Rattle.run_rules.specs.Follows.{ByLine, CrashesBy, Follows, IsAfterAbove, IsAfterStart, IsBarrierLine, IsBeforeBelow, IsOnItsNode, IsOrderLine, IsPlaceOf, JoinsBy, Order, Stopped, above, answered, call_items, standing}
use Rattle.run_rules.specs.History.{AllPlaced}
use Rattle.run_rules.specs.Laws.{carried_out, crash_and_join}

-- ---- what is answered where: the first line of client 0 by item 2, its second by item 6

one : 1 ≤ 1
one = omega arith

abbrev answered_then : ℕ → ℕ → ℕ
answered_then client p = answered crash_and_join carried_out client p

take_none : {A : Type 0} (p : ℕ) → take {A = A} p [] ≡ []
take_none zero = refl
take_none (suc p) = refl

most : (p : ℕ) → answered_then 0 p ≤ 2
most zero = omega arith
most (suc zero) = omega arith
most (suc (suc zero)) = omega arith
most (suc (suc (suc zero))) = omega arith
most (suc (suc (suc (suc zero)))) = omega arith
most (suc (suc (suc (suc (suc zero))))) = omega arith
most (suc (suc (suc (suc (suc (suc zero)))))) = omega arith
most (suc (suc (suc (suc (suc (suc (suc p))))))) = rw (take_none {A = TraceItem} p) (omega arith)

-- no other client has a line, or an answer
other : (client : ℕ) → (0 == suc client) ≡ false
other = eqb-zero-suc

others : (client p : ℕ) → answered_then (suc client) p ≡ 0
others client zero = refl
others client (suc zero) = refl
others client (suc (suc zero)) = refl
others client (suc (suc (suc zero))) = rw (other client) refl
others client (suc (suc (suc (suc zero)))) = rw (other client) refl
others client (suc (suc (suc (suc (suc zero))))) = rw (other client) refl
others client (suc (suc (suc (suc (suc (suc zero)))))) = rw (other client) refl
others client (suc (suc (suc (suc (suc (suc (suc p))))))) = rw (take_none {A = TraceItem} p) (rw (other client) refl)

abbrev lists : Line
lists = line.Call 0 (call.List [])

passed : (client : ℕ) (ls : List Line) → calls_by (suc client) (lists ∷ ls) ≡ calls_by (suc client) ls
passed client ls = rw (other client, calls_by) refl

none_above : (client l : ℕ) → above crash_and_join (suc client) l ≡ 0
none_above client zero = refl
none_above client (suc zero) = ap length (passed client [])
none_above client (suc (suc zero)) = ap length (passed client (line.Crash 2 ∷ []))
none_above client (suc (suc (suc zero))) = ap length (passed client (line.Crash 2 ∷ line.Join 1 ∷ []))
none_above client (suc (suc (suc (suc l)))) =
    ap length (passed client (line.Crash 2 ∷ line.Join 1 ∷ lists ∷ take l []) ∙ passed client (take l []) ∙ ap (calls_by (suc client)) (take_none {A = Line} l))

-- where client 0 alone is asked
after_above : (l p : ℕ) → min (above crash_and_join 0 l) (answered_then 0 (length carried_out)) ≤ answered_then 0 p → IsAfterAbove crash_and_join carried_out l p
after_above l p first zero = first
after_above l p first (suc client) = let line = none_above client l in omega (arith, line)

before_below : (l p : ℕ) → answered_then 0 p ≤ above crash_and_join 0 l → IsBeforeBelow crash_and_join carried_out l p
before_below l p first zero = first
before_below l p first (suc client) = let item = others client p in omega (arith, item)

-- ---- the lines with their places

abbrev place_of_line : ℕ → ℕ
place_of_line zero = 4
place_of_line (suc zero) = 4
place_of_line (suc (suc l)) = 6

rise : (l later : ℕ) → l < later → place_of_line l ≤ place_of_line later
rise zero zero before = omega arith
rise zero (suc zero) before = omega arith
rise zero (suc (suc later)) before = omega arith
rise (suc zero) zero before = omega arith
rise (suc zero) (suc zero) before = omega arith
rise (suc zero) (suc (suc later)) before = omega arith
rise (suc (suc l)) zero before = absurd (omega (arith, before))
rise (suc (suc l)) (suc zero) before = absurd (omega (arith, before))
rise (suc (suc l)) (suc (suc later)) before = omega arith

stopped_there : (node : ℕ) → IsTrue (has 2 node) → node ≤ 2 → standing carried_out node 4 ≡ Stopped
stopped_there zero named low = cc
stopped_there (suc zero) named low = refl
stopped_there (suc (suc zero)) named low = cc
stopped_there (suc (suc (suc node))) named low = absurd (omega (arith, low))

crash_place : IsPlaceOf crash_and_join carried_out 1 (line.Crash 2) 4
crash_place = (after_above 1 4 one, before_below 1 4 one, stopped_there)

join_place : IsPlaceOf crash_and_join carried_out 2 (line.Join 1) 6
join_place = (after_above 2 6 one, before_below 2 6 one, refl)

no_call : {A : Type 0} (x : Line) → lists ≡ x → IsOrderLine x → A
no_call x is order = absurd (subst IsOrderLine (sym is) order)

placed_at : (l : ℕ) (x : Line) → slice_get crash_and_join.lines l ≡ Some x → IsOrderLine x → IsPlaceOf crash_and_join carried_out l x (place_of_line l)
placed_at zero x is order = let same : lists ≡ x = cc in no_call x same order
placed_at (suc zero) x is order = let same : line.Crash 2 ≡ x = cc in subst (λ y. IsPlaceOf crash_and_join carried_out 1 y 4) same crash_place
placed_at (suc (suc zero)) x is order = let same : line.Join 1 ≡ x = cc in subst (λ y. IsPlaceOf crash_and_join carried_out 2 y 6) same join_place
placed_at (suc (suc (suc zero))) x is order = let same : lists ≡ x = cc in no_call x same order
placed_at (suc (suc (suc (suc l)))) x is order = cc

-- ---- its crash and its joins

abbrev order_of : ℕ → Order
order_of (suc (suc (suc zero))) = ByLine 1
order_of _ = ByLine 2

crash_at : (p node : ℕ) → slice_get carried_out p ≡ Some (trace.Crash node) → (p ≡ 3) × (node ≡ 1)
crash_at zero node is = cc
crash_at (suc zero) node is = cc
crash_at (suc (suc zero)) node is = cc
crash_at (suc (suc (suc zero))) node is = let its : node ≡ 1 = cc in (refl, its)
crash_at (suc (suc (suc (suc zero)))) node is = cc
crash_at (suc (suc (suc (suc (suc zero))))) node is = cc
crash_at (suc (suc (suc (suc (suc (suc zero)))))) node is = cc
crash_at (suc (suc (suc (suc (suc (suc (suc p))))))) node is = cc

join_at : (p node : ℕ) → slice_get carried_out p ≡ Some (trace.Join node) → IsAfterStart crash_and_join p → (p ≡ 5) × (node ≡ 1)
join_at zero node is past = absurd (omega (arith, past))
join_at (suc zero) node is past = absurd (omega (arith, past))
join_at (suc (suc zero)) node is past = cc
join_at (suc (suc (suc zero))) node is past = cc
join_at (suc (suc (suc (suc zero)))) node is past = cc
join_at (suc (suc (suc (suc (suc zero))))) node is past = let its : node ≡ 1 = cc in (refl, its)
join_at (suc (suc (suc (suc (suc (suc zero)))))) node is past = cc
join_at (suc (suc (suc (suc (suc (suc (suc p))))))) node is past = cc

crashes_by : (p node : ℕ) → (p ≡ 3) × (node ≡ 1) → CrashesBy crash_and_join carried_out p node (order_of p)
crashes_by p node at =
    subst (λ q. CrashesBy crash_and_join carried_out q node (order_of q)) (sym at.0) (subst (λ n. CrashesBy crash_and_join carried_out 3 n (ByLine 1)) (sym at.1) (2, refl, refl, after_above 1 3 one, before_below 1 3 one))

joins_by : (p node : ℕ) → (p ≡ 5) × (node ≡ 1) → JoinsBy crash_and_join carried_out p node (order_of p)
joins_by p node at =
    subst (λ q. JoinsBy crash_and_join carried_out q node (order_of q)) (sym at.0) (subst (λ n. JoinsBy crash_and_join carried_out 5 n (ByLine 2)) (sym at.1) (refl, after_above 2 5 one, before_below 2 5 one))

begins : (p : ℕ) (it : TraceItem) → slice_get carried_out p ≡ Some it → p < 2 → it ≡ trace.Join (p + 1)
begins zero it is low = cc
begins (suc zero) it is low = cc
begins (suc (suc p)) it is low = absurd (omega (arith, low))

-- ---- its answers

in_order : (client : ℕ) → call_items crash_and_join.clients client carried_out ≡ take (length (call_items crash_and_join.clients client carried_out)) (calls_by client crash_and_join.lines)
in_order zero = refl
in_order (suc client) = rw (other client) refl

on_node : (p : ℕ) (it : TraceItem) → slice_get carried_out p ≡ Some it → IsOnItsNode crash_and_join.clients it
on_node zero it is = let same : trace.Join 1 ≡ it = cc in subst (IsOnItsNode crash_and_join.clients) same tt
on_node (suc zero) it is = let same : trace.Join 2 ≡ it = cc in subst (IsOnItsNode crash_and_join.clients) same tt
on_node (suc (suc zero)) it is =
    let same : trace.Call 1 (codes "c") 1 (call.List []) (reply.Names []) ≡ it = cc in subst (IsOnItsNode crash_and_join.clients) same (record { name = codes "c"; node = 1 }, refl, refl)
on_node (suc (suc (suc zero))) it is = let same : trace.Crash 1 ≡ it = cc in subst (IsOnItsNode crash_and_join.clients) same tt
on_node (suc (suc (suc (suc zero)))) it is = let same : trace.Fence 1 ≡ it = cc in subst (IsOnItsNode crash_and_join.clients) same tt
on_node (suc (suc (suc (suc (suc zero))))) it is = let same : trace.Join 1 ≡ it = cc in subst (IsOnItsNode crash_and_join.clients) same tt
on_node (suc (suc (suc (suc (suc (suc zero)))))) it is =
    let same : trace.Call 1 (codes "c") 2 (call.List []) (reply.Names []) ≡ it = cc in subst (IsOnItsNode crash_and_join.clients) same (record { name = codes "c"; node = 1 }, refl, refl)
on_node (suc (suc (suc (suc (suc (suc (suc p))))))) it is = cc

-- client 0 has an answer by item 2 and by item 6 alone, and the latter is behind the first
second_behind : (p : ℕ) → 1 ≤ answered_then 0 p → answered_then 0 p < answered_then 0 (p + 1) → p ≡ 6
second_behind zero more rises = absurd (omega (arith, more))
second_behind (suc zero) more rises = absurd (omega (arith, more))
second_behind (suc (suc zero)) more rises = absurd (omega (arith, more))
second_behind (suc (suc (suc zero))) more rises = absurd (omega (arith, rises))
second_behind (suc (suc (suc (suc zero)))) more rises = absurd (omega (arith, rises))
second_behind (suc (suc (suc (suc (suc zero))))) more rises = absurd (omega (arith, rises))
second_behind (suc (suc (suc (suc (suc (suc zero)))))) more rises = refl
second_behind (suc (suc (suc (suc (suc (suc (suc p))))))) more rises = absurd (omega (arith, rises, most (suc (suc (suc (suc (suc (suc (suc p)))))) + 1)))

waits_by : (l p client : ℕ) → (1 ≤ answered_then 0 p → answered_then 0 p < answered_then 0 (p + 1) → IsAfterAbove crash_and_join carried_out l p) → (1 ≤ above crash_and_join 0 l)
    → above crash_and_join client l ≤ answered_then client p → answered_then client p < answered_then client (p + 1) → IsAfterAbove crash_and_join carried_out l p
waits_by l p zero then one_above more rises = then (omega (arith, one_above, more)) rises
waits_by l p (suc client) then one_above more rises = absurd (omega (arith, rises, others client p, others client (p + 1)))

no_barrier : {A : Type 0} (x : Line) → lists ≡ x → IsBarrierLine x → A
no_barrier x is barrier = absurd (subst IsBarrierLine (sym is) barrier)

waits : (l p client : ℕ) (barrier : Line) → slice_get crash_and_join.lines l ≡ Some barrier → IsBarrierLine barrier
    → above crash_and_join client l ≤ answered_then client p → answered_then client p < answered_then client (p + 1) → IsAfterAbove crash_and_join carried_out l p
waits zero p client x is barrier more rises = let same : lists ≡ x = cc in no_barrier x same barrier
waits (suc zero) p client x is barrier more rises =
    waits_by 1 p client (λ some higher. subst (IsAfterAbove crash_and_join carried_out 1) (sym (second_behind p some higher)) (after_above 1 6 one)) one more rises
waits (suc (suc zero)) p client x is barrier more rises =
    waits_by 2 p client (λ some higher. subst (IsAfterAbove crash_and_join carried_out 2) (sym (second_behind p some higher)) (after_above 2 6 one)) one more rises
waits (suc (suc (suc zero))) p client x is barrier more rises = let same : lists ≡ x = cc in no_barrier x same barrier
waits (suc (suc (suc (suc l)))) p client x is barrier more rises = cc

none_armed : {A : Type 0} (k : ℕ) (a : A) → slice_get [] k ≡ Some a → ⊥
none_armed k a is = cc

pub follows : Follows carried_out crash_and_join
follows = record {
  in_order = in_order;
  on_node = on_node;
  waits = waits;
  start = begins;
  order = order_of;
  crashes = λ p node is. crashes_by p node (crash_at p node is);
  joins = λ p node is past. joins_by p node (join_at p node is past);
  once = λ p q node is also same. (crash_at p node is).0 ∙ sym (crash_at q node also).0;
  once_joined = λ p q i j is also past later same. (join_at p i is past).0 ∙ sym (join_at q j also later).0;
  armed = λ p k a is write. absurd (none_armed k a is);
  place = place_of_line;
  placed = λ l x is order below. placed_at l x is order;
  rising = λ l later before below. rise l later before;
}

pub all_placed : AllPlaced carried_out crash_and_join
all_placed = record { place = place_of_line; placed = placed_at; rising = rise }
