-- The lines of the clients of node 1, one client after the other.
use Rattle.std.proofs.Common.{◌≡◌, ℕ, suc, ◌+◌, ◌-◌, ◌≤◌, List, [], ◌∷◌, ◌++◌, Bool, true, false, length, take, drop, get_or, refl, sym, ap, ◌∙◌, subst, arith}
use Rattle.std.specs.Prelude.{◌||◌, if◌then◌else◌}
use Rattle.std.specs.List.{AllByRecursion, flat_map}
use Rattle.std.proofs.lemmas.List.{take_all}
use Rattle.trace_text.specs.declared.item.TraceItem.{TraceItem}
use Rattle.script_lang.specs.declared.script.Client.{Client}
use Rattle.script_lang.specs.Script.{ScriptValue, calls_by}
use Rattle.run_reports.specs.declared.status.Status.{Status}
use Rattle.run_reports.specs.OneNode.{IsOfOneNode}
use Rattle.run_reports.specs.Orders.{has_use_below, uses}
use Rattle.run_reports.specs.Out.{answered_lines, answers, client_lines, all_lines, down_line, is_done, is_stopped, place_of_line, tells_down}

or_two : (a b u : Bool) → (u ≡ true → b ≡ true) → (a || b || u) ≡ (a || b)
or_two true b u only = refl
or_two false true u only = refl
or_two false false true only = sym (only refl)
or_two false false false only = refl

-- whether its lines that are down are told is the same for each client of node 1
all_or_none : (s : ScriptValue) (items : List TraceItem) (told : Status) (place : ℕ) (c : Client) → IsOfOneNode s items → c.node ≡ 1
    → tells_down s items told place c ≡ (is_done told || is_stopped 1 false items)
all_or_none s items told place c one own =
    or_two (is_done told) (is_stopped c.node false items) (has_use_below (place_of_line place (answers s items place) s.lines) (uses s items))
    (λ used. ap (λ (n : ℕ). is_stopped n false items) own ∙ one.orders (place_of_line place (answers s items place) s.lines) used)
    ∙ ap (λ (n : ℕ). is_done told || is_stopped n false items) own

-- a client's lines, where it is said whether those that are down are told
abbrev pub lines_said : ScriptValue → List TraceItem → Bool → ℕ → Client → List ℕ
lines_said s items said place c =
    answered_lines s.clients place items ++ (if said then flat_map (down_line c.name) (drop (answers s items place) (calls_by place s.lines)) else [])

-- the next client's lines stand before those of the others
pub next_client : (s : ScriptValue) (items : List TraceItem) (told : Status) (said : Bool) (place : ℕ) (rest : List Client) (d : Client) (all done : List ℕ)
    → IsOfOneNode s items → AllByRecursion (λ (c : Client). c.node ≡ 1) rest → said ≡ (is_done told || is_stopped 1 false items)
    → 1 ≤ length rest → d ≡ get_or rest 0 d → all ≡ done ++ all_lines s items told place rest
    → all ≡ done ++ (lines_said s items said place d ++ all_lines s items told (place + 1) (take (length rest - 1) (drop 1 rest)))
next_client s items told said place [] d all done one own says some is split = absurd (omega (arith, some))
next_client s items told said place (c ∷ cs) d all done one own says some is split =
    let tail : take (length (c ∷ cs) - 1) cs ≡ cs = take_all (length (c ∷ cs) - 1) cs (omega arith) in
    let next : suc place ≡ place + 1 = omega arith in
    let same : c ≡ d = sym is in
    let mine : client_lines s items told place c ≡ lines_said s items said place d =
    ap (λ (b : Bool). lines_said s items b place c) (all_or_none s items told place c one own.0 ∙ sym says) ∙ ap (λ (x : Client). lines_said s items said place x) same in
    split ∙ ap (λ (l : List ℕ). done ++ (l ++ all_lines s items told (suc place) cs)) mine
    ∙ ap (λ (n : ℕ). done ++ (lines_said s items said place d ++ all_lines s items told n cs)) next
    ∙ ap (λ (l : List Client). done ++ (lines_said s items said place d ++ all_lines s items told (place + 1) l)) (sym tail)

-- the others are of node 1 too
pub own_rest : (rest : List Client) → AllByRecursion (λ (c : Client). c.node ≡ 1) rest → 1 ≤ length rest → AllByRecursion (λ (c : Client). c.node ≡ 1) (take (length rest - 1) (drop 1 rest))
own_rest [] own some = absurd (omega (arith, some))
own_rest (c ∷ cs) own some =
    let tail : take (length (c ∷ cs) - 1) cs ≡ cs = take_all (length (c ∷ cs) - 1) cs (omega arith) in
    subst (AllByRecursion (λ (x : Client). x.node ≡ 1)) (sym tail) own.1
