-- The first line of a script that one node alone cannot run.
use Rattle.std.specs.Prelude.{ℕ, ◌+◌, ◌==◌, Bool, true, false, if◌then◌else◌, List, [], ◌∷◌, ◌++◌, length, map, Option, Some, None}
use Rattle.file_tree.specs.declared.call.Call.{Call}
use Rattle.file_tree.specs.declared.call.Call.TheVariants as calls
use Rattle.script_lang.specs.declared.script.Client.{Client}
use Rattle.script_lang.specs.declared.script.Armed.{Armed}
use Rattle.script_lang.specs.declared.script.Line.{Line}
use Rattle.script_lang.specs.declared.script.Line.TheVariants as line
use Rattle.script_lang.specs.Script.{ScriptValue}

-- one node takes calls that are built, waits, and crashes
abbrev pub is_own_call : Call → Bool
is_own_call (calls.Dread path at count) = false
is_own_call _ = true

abbrev pub is_own_line : Line → Bool
is_own_line (line.Call client call) = is_own_call call
is_own_line line.Wait = true
is_own_line (line.Crash nodes) = true
is_own_line (line.Join node) = false

-- whether one node can run it, of each line of the text: of the nodes, the clients, the crashes at writes, and the lines
abbrev pub own_lines : ScriptValue → List Bool
own_lines s = (s.nodes == 1) ∷ (map (λ (c : Client). c.node == 1) s.clients ++ (map (λ (a : Armed). a.node == 1) s.armed ++ map is_own_line s.lines))

-- the number of the first line that it cannot, where the first has this number
abbrev pub first_not : ℕ → List Bool → Option ℕ
first_not n [] = None
first_not n (own ∷ rest) = if own then first_not (n + 1) rest else Some n

abbrev pub first_foreign : ScriptValue → Option ℕ
first_foreign s = first_not 1 (own_lines s)
