use Rattle.std.proofs.Common.{◌≡◌, List, Some, rules, sym, ap, ◌∙◌}
use Rattle.std.proofs.lemmas.Result.{err_from_is_err_and}
use Rattle.script_lang.specs.declared.script.Client.{Client}
use Rattle.script_lang.specs.Words.{Got}
use Rattle.script_lang.specs.Grammar.{client_before_colon}
use Rattle.script_lang.proofs.LineLaws.{called-got, called-fault}
use Rattle.script_lang.proofs.lines.call_line.Goals as goal

pub returns-in_err-call : goal.returns-in_err-call
returns-in_err-call c =
    let p = err_from_is_err_and c.from_residual.result c.from_residual.ensures.1 in
    let here : c.as_slice.result.now ≡ c.args.script.now.clients = search rules in
    let found : client_before_colon c.args.script.now.clients c.args.word.now ≡ Some c.in-Some.client = ap (λ (cs : List Client). client_before_colon cs c.args.word.now) (sym here) ∙ sym c.in-Some.ensures in
    rw (p.1, p.2) (rw found (called-fault c.args.script.now c.in-Some.client _ _ c.in_err-call.ensures))

pub returns : goal.returns
returns c =
    let here : c.as_slice.result.now ≡ c.args.script.now.clients = search rules in
    let found : client_before_colon c.args.script.now.clients c.args.word.now ≡ Some c.in-Some.client = ap (λ (cs : List Client). client_before_colon cs c.args.word.now) (sym here) ∙ sym c.in-Some.ensures in
    rw found (called-got c.args.script.now c.in-Some.client _ _ c.in_ok-call.ensures ∙ ap Got (sym c.in_ok-put_line.ensures))
