-- How a script is printed, and that it is read back.
use Rattle.std.specs.Prelude.{ℕ, zero, suc, ◌≡◌, ◌^◌, ◌<◌, ◌≤◌, ◌==◌, List, [], ◌∷◌, ◌++◌, length, map, codes, Option, Some, None, ⊤}
use Rattle.std.specs.List.{AllByRecursion, flat_map, position}
use Rattle.std.specs.Fmt.{decimal}
use Rattle.text_words.specs.Words.{word, number}
use Rattle.file_tree.specs.Names.{IsPath}
use Rattle.file_tree.specs.PathFaults.{IsBytes}
use Rattle.file_tree.specs.CallText.{call_text}
use Rattle.file_tree.specs.declared.call.Call.{Call}
use Rattle.file_tree.specs.declared.call.Call.TheVariants as calls
use Rattle.script_lang.specs.declared.script.Client.{Client}
use Rattle.script_lang.specs.declared.script.Armed.{Armed}
use Rattle.script_lang.specs.declared.script.Fate.{Fate}
use Rattle.script_lang.specs.declared.script.Fate.TheVariants.{Old, New, Torn}
use Rattle.script_lang.specs.declared.script.Line.{Line}
use Rattle.script_lang.specs.declared.script.Line.TheVariants as line
use Rattle.script_lang.specs.Script.{ScriptValue}
use Rattle.script_lang.specs.WellFormed.{IsWellFormed}
use Rattle.script_lang.specs.Grammar.{script_limit, script_read, Script}

-- ---- the printer

abbrev pub nodes_text : ℕ → List ℕ
nodes_text nodes = codes "nodes" ++ number nodes

abbrev pub client_text : Client → List ℕ
client_text c = codes "client" ++ word c.name ++ word (codes "on") ++ number c.node

abbrev pub fate_text : Fate → List ℕ
fate_text Old = codes "old"
fate_text New = codes "new"
fate_text (Torn bytes) = codes "torn" ++ number bytes

abbrev pub armed_text : Armed → List ℕ
armed_text a = codes "crash" ++ number a.node ++ word (codes "at") ++ number a.write ++ word (fate_text a.fate)

-- the name of the client of this number, from 0
abbrev pub name_of : List Client → ℕ → List ℕ
name_of [] client = []
name_of (c ∷ cs) zero = c.name
name_of (c ∷ cs) (suc client) = name_of cs client

-- the node whose bit alone is set
abbrev pub only_node : ℕ → Option ℕ
only_node nodes = position (λ bit. bit == nodes) (1 ∷ 2 ∷ 4 ∷ 8 ∷ 16 ∷ 32 ∷ 64 ∷ 128 ∷ 256 ∷ [])

abbrev pub stopped_text : Option ℕ → List ℕ
stopped_text None = codes "all"
stopped_text (Some node) = decimal node

abbrev pub line_text : List Client → Line → List ℕ
line_text cs (line.Call client call) = (name_of cs client ++ codes ":") ++ word (call_text call)
line_text cs line.Wait = codes "wait"
line_text cs (line.Crash nodes) = codes "crash" ++ word (stopped_text (only_node nodes))
line_text cs (line.Join node) = codes "join" ++ number node

-- the nodes, the clients, the crashes at writes, and then what is done
abbrev pub script_lines : ScriptValue → List (List ℕ)
script_lines s = nodes_text s.nodes ∷ (map client_text s.clients ++ (map armed_text s.armed ++ map (line_text s.clients) s.lines))

abbrev pub print_script : ScriptValue → List ℕ
print_script s = flat_map (λ l. l ++ codes "\n") (script_lines s)

-- ---- what can be printed: bytes are bytes, paths are paths, and the text is not too long

abbrev pub IsBytePath : List (List ℕ) → Type 0
IsBytePath path = IsPath path × AllByRecursion IsBytes path

abbrev pub IsCall : Call → Type 0
IsCall (calls.Create p) = IsBytePath p
IsCall (calls.Mkdir p) = IsBytePath p
IsCall (calls.Unlink p) = IsBytePath p
IsCall (calls.Rmdir p) = IsBytePath p
IsCall (calls.Read p at count) = IsBytePath p
IsCall (calls.Dread p at count) = IsBytePath p
IsCall (calls.Write p at content) = IsBytePath p × IsBytes content
IsCall (calls.Truncate p size) = IsBytePath p
IsCall (calls.Stat p) = IsBytePath p
IsCall (calls.List p) = IsBytePath p
IsCall (calls.Rename p q) = IsBytePath p × IsBytePath q
IsCall calls.Sync = ⊤

abbrev pub HasCall : Line → Type 0
HasCall (line.Call client call) = IsCall call
HasCall _ = ⊤

pub record CanBePrinted (s : ScriptValue) : Type 0 where
  pub calls : AllByRecursion HasCall s.lines
  pub writes : AllByRecursion (λ (a : Armed). a.write < 2 ^ 64) s.armed
  pub few_bytes : length (print_script s) ≤ script_limit

-- ---- the law

abbrev pub ReadBack : Type 0
ReadBack = (s : ScriptValue) → IsWellFormed s → CanBePrinted s → script_read (print_script s) ≡ Script s

-- and whatever a text is read as is well formed, and can be printed if that is not too long
abbrev pub ReadCanBePrinted : Type 0
ReadCanBePrinted = (text : List ℕ) (s : ScriptValue) → script_read text ≡ Script s → IsWellFormed s × (length (print_script s) ≤ script_limit → CanBePrinted s)

-- the names of paths in it, and what is written, are of bytes
abbrev pub ReadHasBytes : Type 0
ReadHasBytes = (text : List ℕ) (s : ScriptValue) → script_read text ≡ Script s → AllByRecursion HasCall s.lines
