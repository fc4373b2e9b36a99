use Rattle.std.proofs.Common.{◌<◌, ◌≤◌, ap, ◌∙◌, arith}
use Rattle.std.proofs.lemmas.Bool.Decides.{nat_tests}
use Rattle.std.specs.FinMap as table
use Rattle.log_values.specs.Log.{LogValue}
use Rattle.log_memory.proofs.Due.{none_due, some_change, some_revoke}
use Rattle.log_memory.proofs.beginning.is_due.Goals as goal

pub returns-then-fresh_len-gt0-clause-yes : goal.returns-then-fresh_len-gt0-clause-yes
returns-then-fresh_len-gt0-clause-yes c = λ is.
    let many = c.fresh_len.ensures ∙ ap (λ (x : LogValue). table.len x.fresh) c.log.view_is in
    some_change c.args.log.now (omega (arith, many, c.if-fresh_len-gt0.true))

pub returns-else-fresh_len-gt0-clause-yes : goal.returns-else-fresh_len-gt0-clause-yes
returns-else-fresh_len-gt0-clause-yes c = λ is.
    let many = c.len.ensures ∙ ap (λ (x : LogValue). table.len x.gone) c.log.view_is in
    let some : 0 < c.len.result = grind (arith, nat_tests, is) in
    some_revoke c.args.log.now (omega (arith, many, some))

pub returns-else-fresh_len-gt0-clause-no : goal.returns-else-fresh_len-gt0-clause-no
returns-else-fresh_len-gt0-clause-no c = λ is.
    let changes = c.fresh_len.ensures ∙ ap (λ (x : LogValue). table.len x.fresh) c.log.view_is in
    let revokes = c.len.ensures ∙ ap (λ (x : LogValue). table.len x.gone) c.log.view_is in
    let none : c.len.result ≤ 0 = grind (arith, nat_tests, is) in
    none_due c.args.log.now (omega (arith, changes, c.if-fresh_len-gt0.false)) (omega (arith, revokes, none))
