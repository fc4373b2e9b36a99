-- A worked row of the printer, which the checker computes.
use Rattle.std.proofs.Common.{◌≡◌, [], ◌∷◌, refl}
use Rattle.std.specs.Prelude.{codes}
use Rattle.std.specs.Fmt.{digits}
use Rattle.hex.specs.Hex.{encode_with}
use Rattle.file_tree.specs.declared.call.Call.TheVariants as calls
use Rattle.script_lang.specs.declared.script.Line.TheVariants as line
use Rattle.script_lang.specs.declared.script.Fate.TheVariants.{Torn}
use Rattle.script_lang.specs.Script.{ScriptValue}
use Rattle.script_laws.specs.Printing.{print_script}

-- two nodes, a crash at a write, and lines of each kind
abbrev two_nodes : ScriptValue
two_nodes = record {
  nodes = 2;
  clients = record { name = codes "p"; node = 1 } ∷ record { name = codes "q"; node = 2 } ∷ [];
  armed = record { node = 1; write = 5; fate = Torn 40 } ∷ [];
  lines =
      line.Call 0 (calls.Write (codes "d" ∷ codes "f g" ∷ []) 7 (171 ∷ 0 ∷ [])) ∷ line.Wait ∷ line.Call 1 calls.Sync ∷ line.Crash 4 ∷ line.Crash 6 ∷ line.Join 1 ∷ [];
}

row_printed : print_script two_nodes ≡ codes "nodes 2\nclient p on 1\nclient q on 2\ncrash 1 at 5 torn 40\np: write /d/f%20g 7 ab00\nwait\nq: sync\ncrash 2\ncrash all\njoin 1\n"
unfolding digits encode_with
row_printed = refl
