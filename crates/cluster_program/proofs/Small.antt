-- The calls of a script that was read are such as a log takes.
use Rattle.std.proofs.Common.{◌≡◌, ℕ, ◌<◌, ◌≤◌, List, [], ◌∷◌, length, Bool, true, false, refl, sym, ap, subst, arith}
use Rattle.std.specs.List.{All, AllByRecursion}
use Rattle.file_tree.specs.Names.{last_of}
use Rattle.file_tree.specs.PathFaults.{IsBytes}
use Rattle.file_tree.specs.declared.call.Call.{Call}
use Rattle.file_tree.specs.declared.call.Call.TheVariants as calls
use Rattle.call_locks.specs.WantLaws.{path_of}
use Rattle.kept_profiles.specs.Laws.{IsLineOfScript}
use Rattle.script_lang.specs.Script.{ScriptValue}
use Rattle.script_lang.specs.WellFormed.{IsAllowedCall, IsLine, IsWellFormed}
use Rattle.script_lang.specs.declared.script.Line.{Line}
use Rattle.script_lang.specs.declared.script.Line.TheVariants as line
use Rattle.script_laws.specs.Printing.{HasCall, IsBytePath, IsCall}
use Rattle.kept_profiles.specs.Sizes.{IsOfScript}
use Rattle.image_model.proofs.Listing.{all_by_index}

last_bytes : (path : List (List ℕ)) → AllByRecursion IsBytes path → IsBytes (last_of path)
last_bytes [] all = tt
last_bytes (n ∷ []) all = all.0
last_bytes (n ∷ m ∷ ns) all = last_bytes (m ∷ ns) all.1

on_path : (path : List (List ℕ)) → IsBytePath path → All (λ byte. byte < 256) (last_of path)
on_path path is = all_by_index (λ byte. byte < 256) (last_of path) (last_bytes path is.1)

its_paths : (call : Call) → IsCall call → (second : Bool) → All (λ byte. byte < 256) (last_of (path_of call second))
its_paths (calls.Create p) is second = on_path p is
its_paths (calls.Mkdir p) is second = on_path p is
its_paths (calls.Unlink p) is second = on_path p is
its_paths (calls.Rmdir p) is second = on_path p is
its_paths (calls.Read p at count) is second = on_path p is
its_paths (calls.Dread p at count) is second = on_path p is
its_paths (calls.Write p at content) is second = on_path p is.0
its_paths (calls.Truncate p size) is second = on_path p is
its_paths (calls.Stat p) is second = on_path p is
its_paths (calls.List p) is second = on_path p is
its_paths (calls.Rename p q) is false = on_path p is.0
its_paths (calls.Rename p q) is true = on_path q is.1
its_paths calls.Sync is second = all_by_index (λ byte. byte < 256) [] tt

of_line : (s : ScriptValue) (l : Line) → IsLine s l → HasCall l → IsLineOfScript l
of_line s (line.Call client call) is has = record { short = λ path at new same. (subst IsAllowedCall same is.1).2; names = its_paths call has }
of_line s line.Wait is has = tt
of_line s (line.Crash nodes) is has = tt
of_line s (line.Join node) is has = tt

of_lines : (s : ScriptValue) (ls : List Line) → AllByRecursion (IsLine s) ls → AllByRecursion HasCall ls → AllByRecursion IsLineOfScript ls
of_lines s [] are have = tt
of_lines s (l ∷ ls) are have = (of_line s l are.0 have.0, of_lines s ls are.1 have.1)

pub lines_of_script : (s : ScriptValue) → IsWellFormed s → AllByRecursion HasCall s.lines → AllByRecursion IsLineOfScript s.lines
lines_of_script s well have = of_lines s s.lines well.lines have
