-- The items of a run hold one history, and it follows the script.
use Rattle.std.specs.Prelude.{ℕ, ◌≡◌, ◌<◌, ◌≤◌, List, [], ◌∷◌, Some, slice_get}
use Rattle.cluster_history.specs.History.{KeepsSynced, IsNumbered}
use Rattle.trace_text.specs.declared.item.TraceItem.{TraceItem}
use Rattle.trace_text.specs.declared.item.TraceItem.TheVariants as trace
use Rattle.script_lang.specs.declared.script.Line.{Line}
use Rattle.script_lang.specs.Script.{ScriptValue, calls_by}
use Rattle.run_rules.specs.Follows.{history_of, call_items, Follows, IsOrderLine, IsPlaceOf}

-- the items follow the script, and hold one history: its calls are numbered from 1, and a loss keeps what was synced
pub record HoldsHistory (s : ScriptValue) (items : List TraceItem) : Type 0 where
  pub follows : Follows items s
  pub numbered : IsNumbered (history_of s.clients items)
  pub synced : KeepsSynced (history_of s.clients items)

-- no node has stopped
abbrev pub NoneStopped : List TraceItem → Type 0
NoneStopped [] = Unit {0}
NoneStopped (trace.Crash node ∷ is) = ⊥
NoneStopped (trace.Withdraw node before after ∷ is) = ⊥
NoneStopped (_ ∷ is) = NoneStopped is

-- each line of each client is answered
abbrev pub AllAnswered : List TraceItem → ScriptValue → Type 0
AllAnswered items s = (client : ℕ) → call_items s.clients client items ≡ calls_by client s.lines

-- each crash and join line has its place, whether or not a line below it is answered, and the places rise
pub record AllPlaced (items : List TraceItem) (s : ScriptValue) : Type 0 where
  pub place : ℕ → ℕ
  pub placed : (l : ℕ) (order_line : Line) → slice_get s.lines l ≡ Some order_line → IsOrderLine order_line → IsPlaceOf s items l order_line (place l)
  pub rising : (l later : ℕ) → l < later → place l ≤ place later
