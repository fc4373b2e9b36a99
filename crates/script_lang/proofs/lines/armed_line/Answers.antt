use Rattle.std.proofs.lemmas.Result.{err_from_is_err_and}
use Rattle.script_lang.specs.Grammar.{with_armed}
use Rattle.script_lang.proofs.lines.armed_line.Goals as goal

pub returns-in_err-fate : goal.returns-in_err-fate
returns-in_err-fate c =
    let p = err_from_is_err_and c.from_residual-in_err-fate.result c.from_residual-in_err-fate.ensures.1 in
    rw (p.1, p.2) (rw c.in_ok-write.ensures (c.in_err-fate.ensures (with_armed c.args.script.now c.args.node c.in_ok-write.write)))
