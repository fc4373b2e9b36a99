use Rattle.std.proofs.Common.{inl, ap, ◌∙◌, arith}
use Rattle.std.specs.FinMap as table
use Rattle.log_values.specs.Log.{LogValue}
use Rattle.log_memory.proofs.RowsFound.{no_rows, some_row}
use Rattle.log_memory.proofs.beginning.is_end_due.Goals as goal

pub returns-then-live_len-gt0-clause-yes : goal.returns-then-live_len-gt0-clause-yes
returns-then-live_len-gt0-clause-yes c = λ is.
    let many = c.live_len.ensures ∙ ap (λ (x : LogValue). table.len x.live) c.log.view_is in
    (c.all_are_home.ensures.home is, some_row c.args.log.now.live (omega (arith, many, c.if-live_len-gt0.true)))

pub returns-else-live_len-gt0-clause-no : goal.returns-else-live_len-gt0-clause-no
returns-else-live_len-gt0-clause-no c = λ is.
    let many = c.live_len.ensures ∙ ap (λ (x : LogValue). table.len x.live) c.log.view_is in
    inl (no_rows c.args.log.now.live (omega (arith, many, c.if-live_len-gt0.false)))
