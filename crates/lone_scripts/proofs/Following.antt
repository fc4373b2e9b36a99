-- The lines that were taken, and what their calls owe to the script.
use Rattle.std.proofs.Common.{◌≡◌, ℕ, zero, suc, ◌+◌, ◌<◌, ◌≤◌, List, [], ◌∷◌, length, take, map, Some, inl, inr, sym, ap, ◌∙◌, subst, arith}
use Rattle.std.specs.Prelude.{slice_get}
use Rattle.std.specs.List.{AllByRecursion, filter}
use Rattle.std.proofs.lemmas.Bool.{cases_lt}
use Rattle.std.proofs.lemmas.List.{take_all}
use Rattle.file_tree.specs.declared.call.Call.{Call}
use Rattle.run_rules.specs.Follows.{HasBelow, IsAfterAbove, IsBeforeBelow, IsOnItsNode, IsOrderLine, above, answered, call_items}
use Rattle.script_lang.specs.Script.{ScriptValue, calls_by}
use Rattle.script_lang.specs.declared.script.Client.{Client}
use Rattle.script_lang.specs.declared.script.Line.{Line}
use Rattle.script_lang.specs.declared.script.Line.TheVariants as line
use Rattle.trace_text.specs.declared.item.TraceItem.{TraceItem}
use Rattle.lone_scripts.specs.Runs.{Answered, GoesOn, TakesLines, calls_from, is_call, is_call_line, line_of}
use Rattle.lone_scripts.specs.Scripts.{IsForOne, IsLoneLine}
use Rattle.lone_scripts.proofs.Clients.{client_at, place_is}
use Rattle.lone_scripts.proofs.Lists.{all_at, all_filter, all_map, all_take, filter_front, take_front}
use Rattle.lone_scripts.proofs.Told.{AreOf, all_on, calls_filter, calls_front, calls_in, calls_of_filter, calls_rise, calls_up_to, calls_within, told, told_more}

-- lines go on up to one that orders
none_orders : (x : Line) → GoesOn x → IsOrderLine x → ⊥
none_orders (line.Call client call) on order = order
none_orders line.Wait on order = order
none_orders (line.Crash nodes) on order = on
none_orders (line.Join node) on order = on

order_is_past : (n l : ℕ) (ls : List Line) (x : Line) → AllByRecursion GoesOn (take n ls) → slice_get ls l ≡ Some x → IsOrderLine x → n ≤ l
order_is_past zero l ls x on at order = omega arith
order_is_past (suc n) l [] x on at order = cc
order_is_past (suc n) zero (y ∷ ys) x on at order = let same : y ≡ x = cc in absurd (none_orders x (subst GoesOn same on.0) order)
order_is_past (suc n) (suc l) (y ∷ ys) x on at order = let past = order_is_past n l ys x on.1 at order in omega (arith, past)

module _ (s : ScriptValue) (form : IsForOne s) (count : ℕ) (items : List TraceItem) (takes : TakesLines s count items) where
  abbrev rs : List Answered
  rs = takes.answered

  -- the script's calls, and those that are answered
  abbrev all : List Line
  all = filter is_call_line s.lines

  abbrev asked : List Line
  asked = map line_of rs

  pub are_of : AreOf s.clients rs
  are_of =
      let taken = all_filter (IsLoneLine (length s.clients)) is_call_line (take count s.lines) (all_take (IsLoneLine (length s.clients)) count s.lines form.lines) in
      all_map (IsLoneLine (length s.clients)) line_of rs (subst (AllByRecursion (IsLoneLine (length s.clients))) (sym takes.lines) taken)

  -- ---- each call is made on its client's node

  all_of : (n : ℕ) (ts : List Answered) → AreOf s.clients ts → AllByRecursion (IsOnItsNode s.clients) (calls_from s.clients n ts)
  all_of n [] of = tt
  all_of n (t ∷ ts) of =
      (subst (λ (p : ℕ). (c : Client) × (slice_get s.clients p ≡ Some c) × (c.node ≡ 1)) (sym (place_is s.clients t.client form.names of.0)) (client_at s.clients t.client form.clients of.0), all_of (n + 1) ts of.1)

  pub on_node : (p : ℕ) (it : TraceItem) → slice_get items p ≡ Some it → IsOnItsNode s.clients it
  on_node p it at = all_at (IsOnItsNode s.clients) items p it (all_on s.clients items (subst (AllByRecursion (IsOnItsNode s.clients)) (sym takes.told) (all_of 1 rs are_of))) at

  -- ---- in order

  -- the client's calls in the items are those of its lines that were taken
  pub calls_taken : (client : ℕ) → call_items s.clients client items ≡ calls_by client (take count s.lines)
  calls_taken client =
      sym (calls_filter s.clients client items) ∙ ap (call_items s.clients client) takes.told ∙ calls_in s.clients form.names client 1 rs are_of ∙ ap (calls_by client) takes.lines
      ∙ calls_of_filter client (take count s.lines)

  pub in_order : (client : ℕ) → call_items s.clients client items ≡ take (length (call_items s.clients client items)) (calls_by client s.lines)
  in_order client =
      let same = calls_taken client in
      same ∙ calls_front client count s.lines ∙ ap (λ (cs : List Call). take (length cs) (calls_by client s.lines)) (sym same)

  -- ---- waits

  -- how many calls of a client are among the first so many of the script's calls, and of those that are answered
  abbrev among : ℕ → ℕ → ℕ
  among client n = length (calls_by client (take n all))

  abbrev among_asked : ℕ → ℕ → ℕ
  among_asked client n = length (calls_by client (take n asked))

  asked_front : asked ≡ take (length asked) all
  asked_front = takes.lines ∙ filter_front is_call_line count s.lines ∙ ap (λ (ls : List Line). take (length ls) all) (sym takes.lines)

  asked_within : (client n : ℕ) → among_asked client n ≤ among client n
  asked_within client n =
      let same = ap (λ (ls : List Line). length (calls_by client (take n ls))) asked_front in omega (arith, same, calls_within client n (length asked) all)

  -- while they last, they are the script's
  asked_same : (client n : ℕ) → n ≤ length asked → among_asked client n ≡ among client n
  asked_same client n within = ap (λ (ls : List Line). length (calls_by client (take n ls))) asked_front ∙ ap (λ (ls : List Line). length (calls_by client ls)) (take_front (length asked) n all within)

  items_told : (q : ℕ) → filter is_call (take q items) ≡ take (told items q) (calls_from s.clients 1 rs)
  items_told q = filter_front is_call q items ∙ ap (take (told items q)) takes.told

  answered_is : (client q : ℕ) → answered s items client q ≡ among_asked client (told items q)
  answered_is client q =
      ap (λ (cs : List Call). length cs)
      (sym (calls_filter s.clients client (take q items)) ∙ ap (call_items s.clients client) (items_told q) ∙ calls_up_to s.clients form.names client 1 (told items q) rs are_of)

  -- all are answered in the end
  pub answered_in_all : (client : ℕ) → answered s items client (length items) ≡ above s client count
  answered_in_all client = ap (λ (is : List TraceItem). length (call_items s.clients client is)) (take_all (length items) items (omega arith)) ∙ ap (λ (cs : List Call). length cs) (calls_taken client)

  answered_most : (client k : ℕ) → length asked ≤ k → answered s items client (length items) ≤ among_asked client k
  answered_most client k past =
      let whole = answered_in_all client in
      let lines = ap (λ (ls : List Line). length (calls_by client ls)) (take_all k asked past ∙ takes.lines) in
      let same = ap (λ (cs : List Call). length cs) (calls_of_filter client (take count s.lines)) in
      omega (arith, whole, lines, same)

  -- how many of the script's calls stand above a line
  abbrev calls_above : ℕ → ℕ
  calls_above l = length (filter is_call_line (take l s.lines))

  above_is : (client l : ℕ) → above s client l ≡ among client (calls_above l)
  above_is client l = ap (λ (cs : List Call). length cs) (sym (calls_of_filter client (take l s.lines)) ∙ ap (calls_by client) (filter_front is_call_line l s.lines))

  after_above : (l q : ℕ) → calls_above l ≤ told items q → IsAfterAbove s items l q
  after_above l q past client = elim (cases_lt (length asked) (told items q)) [
    | inl beyond ↦ omega (arith, answered_is client q, answered_most client (told items q) (omega (arith, beyond)))
    | inr within ↦ omega (arith, answered_is client q, asked_same client (told items q) within, above_is client l, calls_rise client (calls_above l) (told items q) all past)
  ]

  pub waits : (l p client : ℕ) → above s client l ≤ answered s items client p → answered s items client p < answered s items client (p + 1) → IsAfterAbove s items l p
  waits l q client more rises = elim (cases_lt (told items q) (calls_above l)) [
    | inl before ↦ absurd (omega (
      arith,
      more,
      rises,
      above_is client l,
      ap (λ (n : ℕ). answered s items client n) (next q),
      answered_is client (suc q),
      asked_within client (told items (suc q)),
      calls_rise client (told items (suc q)) (calls_above l) all (let step = told_more q items in omega (arith, before, step)),
    ))
    | inr past ↦ after_above l q past
  ]
    where
      next : (q : ℕ) → q + 1 ≡ suc q
      next q = omega arith

  -- ---- a line that orders has none below it that is answered

  above_rises : (client a b : ℕ) → a ≤ b → above s client a ≤ above s client b
  above_rises client a b less = calls_rise client a b s.lines less

  pub is_past : (l : ℕ) (x : Line) → slice_get s.lines l ≡ Some x → IsOrderLine x → count ≤ l
  is_past l x at order = order_is_past count l s.lines x takes.on at order

  pub none_below : (l : ℕ) (x : Line) → slice_get s.lines l ≡ Some x → IsOrderLine x → HasBelow s items l → ⊥
  none_below l x at order (client, below) = omega (arith, below, answered_in_all client, above_rises client count l (is_past l x at order))

  -- and where all are answered is behind the lines above it, and before those below
  pub after_all : (l q : ℕ) → ((client : ℕ) → answered s items client q ≡ answered s items client (length items)) → IsAfterAbove s items l q
  after_all l q all_there client = let there = all_there client in omega (arith, there)

  pub before_below : (l q : ℕ) → count ≤ l → ((client : ℕ) → answered s items client q ≡ answered s items client (length items)) → IsBeforeBelow s items l q
  before_below l q past all_there client = let there = all_there client in omega (arith, there, answered_in_all client, above_rises client count l past)
