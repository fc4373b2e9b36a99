-- A script as contracts see it: records whose parts are lists.
use Rattle.std.specs.Prelude.{ℕ, ◌==◌, List, [], ◌∷◌, Option, Some, None, if◌then◌else◌}
use Rattle.file_tree.specs.declared.call.Call.{Call}
use Rattle.script_lang.specs.declared.script.Client.{Client}
use Rattle.script_lang.specs.declared.script.Armed.{Armed}
use Rattle.script_lang.specs.declared.script.Line.{Line}
use Rattle.script_lang.specs.declared.script.Line.TheVariants as line

-- how many nodes there are, the clients, the crashes that wait for a write, and the lines; clients are numbered from 0
pub record ScriptValue : Type 0 where
  pub nodes : ℕ
  pub clients : List Client
  pub armed : List Armed
  pub lines : List Line

-- the call of a line of this client
abbrev pub call_by : ℕ → Line → Option Call
call_by client (line.Call c call) = if c == client then Some call else None
call_by client _ = None

-- the client's lines in order
abbrev pub calls_by : ℕ → List Line → List Call
calls_by client [] = []
calls_by client (l ∷ ls) = elim (call_by client l) [ None ↦ calls_by client ls | Some call ↦ call ∷ calls_by client ls ]
