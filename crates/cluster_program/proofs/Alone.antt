-- A script of one node is one that node 1 carries out.
use Rattle.std.proofs.Common.{◌≡◌, ℕ, zero, suc, ◌<◌, ◌≤◌, ◌*◌, ◌+◌, ◌^◌, List, [], ◌∷◌, length, Bool, true, false, nat_eq, bit_and, refl, sym, ap, ◌∙◌, subst, arith}
use Rattle.std.specs.Prelude.{IsTrue, not}
use Rattle.std.specs.List.{AllByRecursion}
use Rattle.fencing.specs.NodeSets.{has}
use Rattle.lone_scripts.specs.Scripts.{IsForOne, IsLoneLine, IsOfNodeOne}
use Rattle.script_lang.specs.OneNode.{IsOneNode, IsOwnLine, node_one}
use Rattle.script_lang.specs.Script.{ScriptValue}
use Rattle.script_lang.specs.WellFormed.{IsArmed}
use Rattle.script_lang.specs.declared.script.Armed.{Armed}
use Rattle.script_lang.specs.declared.script.Line.{Line}
use Rattle.script_lang.specs.declared.script.Line.TheVariants as line
use Rattle.std.specs.Int.Bits.{and_shifted}
use Rattle.std.proofs.lemmas.Nat.{and_comm}
use Rattle.std.proofs.Math.Pow.{pow_mono}

-- the set of node 1 has no other node
none_above : (n : ℕ) → bit_and 2 (2 ^ suc (suc n)) ≡ 0
none_above n =
    let more : 2 ^ 2 ≤ 2 ^ suc (suc n) = pow_mono {i = 2} {j = suc (suc n)} (omega arith) in
    let low : 2 < 2 ^ suc (suc n) = omega (arith, more) in
    let one : 1 * 2 ^ suc (suc n) ≡ 2 ^ suc (suc n) = omega arith in
    and_comm 2 (2 ^ suc (suc n)) ∙ ap (λ m. bit_and m 2) (sym one) ∙ and_shifted 1 (suc (suc n)) 2 low

only_one : (node : ℕ) → IsTrue (has node_one node) → node ≡ 1
only_one zero is = cc
only_one (suc zero) is = refl
only_one (suc (suc n)) is = let never : false ≡ true = subst (λ m. IsTrue (not (nat_eq m 0))) (none_above n) is in cc

of_node_one : (nodes : ℕ) → nodes ≡ node_one → IsOfNodeOne nodes
of_node_one nodes same = subst IsOfNodeOne (sym same) (refl, only_one)

lone_line : (clients : ℕ) (l : Line) → IsOwnLine clients l → IsLoneLine clients l
lone_line clients (line.Call client call) own = own.0
lone_line clients line.Wait own = tt
lone_line clients (line.Crash nodes) own = of_node_one nodes own
lone_line clients (line.Join node) own = absurd own

lone_lines : (clients : ℕ) (ls : List Line) → AllByRecursion (IsOwnLine clients) ls → AllByRecursion (IsLoneLine clients) ls
lone_lines clients [] own = tt
lone_lines clients (l ∷ ls) own = (lone_line clients l own.0, lone_lines clients ls own.1)

pub for_one : (s : ScriptValue) → IsOneNode s → IsForOne s
for_one s form = record { nodes = form.nodes; clients = form.clients; names = form.names; armed = form.armed; lines = lone_lines (length s.clients) s.lines form.lines }

-- and its crashes wait for a write
pub armed_so : (s : ScriptValue) (as' : List Armed) → AllByRecursion (IsArmed s) as' → AllByRecursion (λ (a : Armed). 1 ≤ a.write) as'
armed_so s [] are = tt
armed_so s (a ∷ as') are = (are.0.1, armed_so s as' are.1)
