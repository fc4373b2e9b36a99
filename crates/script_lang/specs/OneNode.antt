-- Scripts that one node can run: clients of node 1, whose calls are built, which wait, and crashes of that node.
use Rattle.std.specs.Prelude.{ℕ, ◌≡◌, ◌≢◌, ◌<◌, ◌^◌, List, [], ◌∷◌, length, ⊤}
use Rattle.std.specs.List.{AllByRecursion}
use Rattle.script_lang.specs.declared.script.Client.{Client}
use Rattle.script_lang.specs.declared.script.Armed.{Armed}
use Rattle.script_lang.specs.declared.script.Line.{Line}
use Rattle.script_lang.specs.declared.script.Line.TheVariants as line
use Rattle.script_lang.specs.Script.{ScriptValue}
use Rattle.file_tree.specs.declared.call.Call.{Call}
use Rattle.file_tree.specs.declared.call.Call.TheVariants as calls

-- a call that is built: today each but those that read past the node's copies
abbrev pub IsOwnCall : Call → Type 0
IsOwnCall (calls.Dread path at count) = ⊥
IsOwnCall _ = ⊤

-- the set of node 1 alone, as a line of a crash names it
abbrev pub node_one : ℕ
node_one = 2 ^ 1

-- where there are so many clients: a call of one of them that is built, a wait, or a crash of node 1 alone
abbrev pub IsOwnLine : ℕ → Line → Type 0
IsOwnLine clients (line.Call client call) = (client < clients) × IsOwnCall call
IsOwnLine clients line.Wait = ⊤
IsOwnLine clients (line.Crash nodes) = nodes ≡ node_one
IsOwnLine clients (line.Join node) = ⊥

-- no two clients have one name
abbrev pub HaveOwnClientNames : List Client → Type 0
HaveOwnClientNames [] = ⊤
HaveOwnClientNames (c ∷ cs) = AllByRecursion (λ (d : Client). c.name ≢ d.name) cs × HaveOwnClientNames cs

pub record IsOneNode (s : ScriptValue) : Type 0 where
  pub nodes : s.nodes ≡ 1
  pub clients : AllByRecursion (λ (c : Client). c.node ≡ 1) s.clients
  pub names : HaveOwnClientNames s.clients
  pub armed : AllByRecursion (λ (a : Armed). a.node ≡ 1) s.armed
  pub lines : AllByRecursion (IsOwnLine (length s.clients)) s.lines
