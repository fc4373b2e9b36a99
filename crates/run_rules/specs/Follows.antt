-- The items of a run follow its script.
use Rattle.std.specs.Prelude.{ℕ, suc, ◌≡◌, ◌⊎◌, ◌+◌, ◌-◌, ◌<◌, ◌≤◌, ◌==◌, Bool, false, IsTrue, min, List, [], ◌∷◌, length, take, slice_get, Some, if◌then◌else◌, ⊤, count_by}
use Rattle.std.specs.Str.{bytes_eq}
use Rattle.fencing.specs.NodeSets.{has}
use Rattle.file_tree.specs.declared.call.Call.{Call}
use Rattle.cluster_history.specs.declared.Item.{Item}
use Rattle.cluster_history.specs.declared.Item.TheVariants as item
use Rattle.trace_text.specs.declared.item.TraceItem.{TraceItem}
use Rattle.trace_text.specs.declared.item.TraceItem.TheVariants as trace
use Rattle.script_lang.specs.declared.script.Client.{Client}
use Rattle.script_lang.specs.declared.script.Armed.{Armed}
use Rattle.script_lang.specs.declared.script.Line.{Line}
use Rattle.script_lang.specs.declared.script.Line.TheVariants as line
use Rattle.script_lang.specs.Script.{ScriptValue, calls_by}

-- the place of a client in the script, by its name
abbrev pub place_of : List Client → List ℕ → ℕ
place_of [] name = 0
place_of (c ∷ cs) name = if bytes_eq c.name name then 0 else suc (place_of cs name)

-- ---- the history in a trace

abbrev pub history_of : List Client → List TraceItem → List Item
history_of clients [] = []
history_of clients (trace.Call node client number call reply ∷ is) = item.Call node (place_of clients client) number call reply ∷ history_of clients is
history_of clients (trace.Lost node kept ∷ is) = item.Lost node kept ∷ history_of clients is
history_of clients (_ ∷ is) = history_of clients is

-- ---- the answered calls of a client

abbrev pub call_items : List Client → ℕ → List TraceItem → List Call
call_items clients client [] = []
call_items clients client (trace.Call node name number call reply ∷ is) =
    if place_of clients name == client then call ∷ call_items clients client is else call_items clients client is
call_items clients client (_ ∷ is) = call_items clients client is

-- how many lines of the client are answered by the first p items
abbrev pub answered : ScriptValue → List TraceItem → ℕ → ℕ → ℕ
answered s items client p = length (call_items s.clients client (take p items))

-- how many lines of the client stand above a line
abbrev pub above : ScriptValue → ℕ → ℕ → ℕ
above s client line = length (calls_by client (take line s.lines))

-- the first p items answer each line above this one that is answered at all
abbrev pub IsAfterAbove : ScriptValue → List TraceItem → ℕ → ℕ → Type 0
IsAfterAbove s items line p = (client : ℕ) → min (above s client line) (answered s items client (length items)) ≤ answered s items client p

-- and they answer none below it
abbrev pub IsBeforeBelow : ScriptValue → List TraceItem → ℕ → ℕ → Type 0
IsBeforeBelow s items line p = (client : ℕ) → answered s items client p ≤ above s client line

-- a line below this one is answered
abbrev pub HasBelow : ScriptValue → List TraceItem → ℕ → Type 0
HasBelow s items line = (client : ℕ) × (above s client line < answered s items client (length items))

-- a crash or join line
abbrev pub IsOrderLine : Line → Type 0
IsOrderLine (line.Call c call) = ⊥
IsOrderLine line.Wait = ⊥
IsOrderLine (line.Crash nodes) = ⊤
IsOrderLine (line.Join node) = ⊤

-- a line that all lines above it come before: a wait, crash or join line
abbrev pub IsBarrierLine : Line → Type 0
IsBarrierLine (line.Call c call) = ⊥
IsBarrierLine _ = ⊤

-- the item is a call of the client, and of the node that its client is on
abbrev pub IsOnItsNode : List Client → TraceItem → Type 0
IsOnItsNode clients (trace.Call node name number call reply) = (client : Client) × (slice_get clients (place_of clients name) ≡ Some client) × (client.node ≡ node)
IsOnItsNode clients _ = ⊤

-- ---- nodes

abbrev pub is_write_of : ℕ → TraceItem → Bool
is_write_of node (trace.WriteLog i block) = i == node
is_write_of node (trace.WriteHead i block sequence upto) = i == node
is_write_of node (trace.WriteClean i block sequence upto) = i == node
is_write_of node (trace.WriteHome i block) = i == node
is_write_of node (trace.WriteReplay i block) = i == node
is_write_of node _ = false

-- What became of a node: it hasn't joined yet, it is a member, or a crash or a withdrawal stopped it.
pub data Standing : Type 0 where
  NotJoined : Standing
  Member : Standing
  Stopped : Standing

-- the standing of the node after these items, which was `now` before them
abbrev pub standing_after : ℕ → Standing → List TraceItem → Standing
standing_after node now [] = now
standing_after node now (trace.Join i ∷ is) = standing_after node (if i == node then Member else now) is
standing_after node now (trace.Crash i ∷ is) = standing_after node (if i == node then Stopped else now) is
standing_after node now (trace.Withdraw i before after ∷ is) = standing_after node (if i == node then Stopped else now) is
standing_after node now (_ ∷ is) = standing_after node now is

-- its standing after the first p items
abbrev pub standing : List TraceItem → ℕ → ℕ → Standing
standing items node p = standing_after node NotJoined (take p items)

-- ---- what a crash, or a join after the start, carries out: a line of the script, or an armed crash

pub data Order : Type 0 where
  ByLine : ℕ → Order
  ByArmed : ℕ → Order

-- item p is the node's kth write
abbrev pub IsKthWrite : List TraceItem → ℕ → ℕ → ℕ → Type 0
IsKthWrite items node k p = (it : TraceItem) × (slice_get items p ≡ Some it) × IsTrue (is_write_of node it) × (count_by (is_write_of node) (take (p + 1) items) ≡ k)

-- a line that is carried out by an item has it behind the answers to the lines above it, and before those to the lines below it
abbrev pub CrashesBy : ScriptValue → List TraceItem → ℕ → ℕ → Order → Type 0
CrashesBy s items p node (ByLine l) = (nodes : ℕ) × (slice_get s.lines l ≡ Some (line.Crash nodes)) × IsTrue (has nodes node) × IsAfterAbove s items l p × IsBeforeBelow s items l p
CrashesBy s items p node (ByArmed a) = (armed : Armed) × (slice_get s.armed a ≡ Some armed) × (armed.node ≡ node) × (0 < p) × IsKthWrite items node armed.write (p - 1)

abbrev pub JoinsBy : ScriptValue → List TraceItem → ℕ → ℕ → Order → Type 0
JoinsBy s items p node (ByLine l) = (slice_get s.lines l ≡ Some (line.Join node)) × IsAfterAbove s items l p × IsBeforeBelow s items l p
JoinsBy s items p node (ByArmed a) = ⊥

-- an item after the start, which is one join for each node of the script
abbrev pub IsAfterStart : ScriptValue → ℕ → Type 0
IsAfterStart s p = s.nodes ≤ p

-- at the place of a crash line each node that it names is stopped, and at that of a join line its node is a member
abbrev pub StandsAt : ScriptValue → List TraceItem → Line → ℕ → Type 0
StandsAt s items (line.Crash nodes) p = (node : ℕ) → IsTrue (has nodes node) → node ≤ s.nodes → standing items node p ≡ Stopped
StandsAt s items (line.Join node) p = standing items node p ≡ Member
StandsAt s items _ p = ⊥

-- a place of a crash or join line: behind the answers to the lines above it, before those to the lines below it, and there all is as it says
abbrev pub IsPlaceOf : ScriptValue → List TraceItem → ℕ → Line → ℕ → Type 0
IsPlaceOf s items l order_line p = IsAfterAbove s items l p × IsBeforeBelow s items l p × StandsAt s items order_line p

pub record Follows (items : List TraceItem) (s : ScriptValue) : Type 0 where
  -- each client's calls are its lines in order, up to the first without one, and are made on its node
  pub in_order : (client : ℕ) → call_items s.clients client items ≡ take (length (call_items s.clients client items)) (calls_by client s.lines)
  pub on_node : (p : ℕ) (it : TraceItem) → slice_get items p ≡ Some it → IsOnItsNode s.clients it
  -- a line below a wait, crash or join line is answered after the lines above it
  pub waits : (l p client : ℕ) (barrier : Line) → slice_get s.lines l ≡ Some barrier → IsBarrierLine barrier
      → above s client l ≤ answered s items client p → answered s items client p < answered s items client (p + 1) → IsAfterAbove s items l p
  -- it begins with the joins of the script's nodes, in rising order, and nothing comes before all of them have joined
  pub start : (p : ℕ) (it : TraceItem) → slice_get items p ≡ Some it → p < s.nodes → it ≡ trace.Join (p + 1)
  -- what each crash and each join after the start carries out
  pub order : ℕ → Order
  pub crashes : (p node : ℕ) → slice_get items p ≡ Some (trace.Crash node) → CrashesBy s items p node (order p)
  pub joins : (p node : ℕ) → slice_get items p ≡ Some (trace.Join node) → IsAfterStart s p → JoinsBy s items p node (order p)
  -- each order at most once, a line once for each of its nodes
  pub once : (p q node : ℕ) → slice_get items p ≡ Some (trace.Crash node) → slice_get items q ≡ Some (trace.Crash node) → order p ≡ order q → p ≡ q
  pub once_joined : (p q i j : ℕ) → slice_get items p ≡ Some (trace.Join i) → slice_get items q ≡ Some (trace.Join j) → IsAfterStart s p → IsAfterStart s q → order p ≡ order q → p ≡ q
  -- an armed crash comes directly after its write
  pub armed : (p k : ℕ) (a : Armed) → slice_get s.armed k ≡ Some a → IsKthWrite items a.node a.write p
      → (p + 1 ≡ length items) ⊎ (slice_get items (p + 1) ≡ Some (trace.Crash a.node))
  -- a crash or join line above an answered line has its place, and the places rise
  pub place : ℕ → ℕ
  pub placed : (l : ℕ) (order_line : Line) → slice_get s.lines l ≡ Some order_line → IsOrderLine order_line → HasBelow s items l
      → IsPlaceOf s items l order_line (place l)
  pub rising : (l later : ℕ) → l < later → HasBelow s items later → place l ≤ place later
