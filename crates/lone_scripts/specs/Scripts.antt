-- The scripts that one node can run, crashes among their lines.
use Rattle.std.specs.Prelude.{ℕ, ◌≡◌, ◌<◌, IsTrue, length, ⊤}
use Rattle.std.specs.List.{AllByRecursion}
use Rattle.fencing.specs.NodeSets.{has}
use Rattle.script_lang.specs.OneNode.{HaveOwnClientNames}
use Rattle.script_lang.specs.Script.{ScriptValue}
use Rattle.script_lang.specs.declared.script.Armed.{Armed}
use Rattle.script_lang.specs.declared.script.Client.{Client}
use Rattle.script_lang.specs.declared.script.Line.{Line}
use Rattle.script_lang.specs.declared.script.Line.TheVariants as line

-- a crash of node 1, and of no other
abbrev pub IsOfNodeOne : ℕ → Type 0
IsOfNodeOne nodes = IsTrue (has nodes 1) × ((node : ℕ) → IsTrue (has nodes node) → node ≡ 1)

-- where there are so many clients: a call of one of them, a wait, or a crash of the node
abbrev pub IsLoneLine : ℕ → Line → Type 0
IsLoneLine clients (line.Call client call) = client < clients
IsLoneLine clients line.Wait = ⊤
IsLoneLine clients (line.Crash nodes) = IsOfNodeOne nodes
IsLoneLine clients (line.Join node) = ⊥

-- all is of node 1: clients, each with a name of its own, crashes at writes, and lines
pub record IsForOne (s : ScriptValue) : Type 0 where
  pub nodes : s.nodes ≡ 1
  pub clients : AllByRecursion (λ (c : Client). c.node ≡ 1) s.clients
  pub names : HaveOwnClientNames s.clients
  pub armed : AllByRecursion (λ (a : Armed). a.node ≡ 1) s.armed
  pub lines : AllByRecursion (IsLoneLine (length s.clients)) s.lines
