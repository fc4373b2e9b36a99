-- Runs of one node, as the lines that are down see them.
use Rattle.std.specs.Prelude.{ℕ, ◌≡◌, true, false, List}
use Rattle.std.specs.List.{AllByRecursion}
use Rattle.trace_text.specs.declared.item.TraceItem.{TraceItem}
use Rattle.script_lang.specs.Script.{ScriptValue}
use Rattle.script_lang.specs.declared.script.Client.{Client}
use Rattle.run_reports.specs.Orders.{has_use_below, uses}
use Rattle.run_reports.specs.Out.{is_stopped}

-- each client is of node 1; and a line was carried out, a crash of that node, only where it has stopped
pub record IsOfOneNode (s : ScriptValue) (items : List TraceItem) : Type 0 where
  pub clients : AllByRecursion (λ (c : Client). c.node ≡ 1) s.clients
  pub orders : (l : ℕ) → has_use_below l (uses s items) ≡ true → is_stopped 1 false items ≡ true
