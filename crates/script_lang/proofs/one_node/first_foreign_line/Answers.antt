use Rattle.std.proofs.Common.{◌≡◌, ◌+◌, ℕ, length, map, rules, sym, ap, ◌∙◌}
use Rattle.script_lang.specs.Script.{ScriptValue}
use Rattle.script_lang.specs.Foreign.{is_own_line, first_not}
use Rattle.script_lang.proofs.ForeignLaws.{at_lines, form_of}
use Rattle.script_lang.proofs.one_node.first_foreign_line.Goals as goal

pub returns-clause-first : goal.returns-clause-first
returns-clause-first c =
    let s = c.args.script.now in
    let clients : length c.as_slice.result.now ≡ length s.clients = ap length (search rules) in
    let armed : length c.as_slice-2.result.now ≡ length s.armed = ap length (search rules) in
    let lines : c.as_slice-3.result.now ≡ s.lines = search rules in
    let one : s.nodes ≡ 1 = ap (λ (v : ScriptValue). v.nodes) (sym c.script.view_is) ∙ c.if-script-ne1.false in
    c.first_among.ensures ∙ (λ i. first_not (2 + clients i + armed i) (map is_own_line (lines i))) ∙ at_lines s c.requires one

pub returns-clause-form : goal.returns-clause-form
returns-clause-form c = form_of c.args.script.now c.requires c.first_among.result (returns-clause-first c)
