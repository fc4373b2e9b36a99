use Rattle.std.proofs.Common.{◌<◌, length, sym, ap, ◌∙◌, arith}
use Rattle.std.specs.FinMap as table
use Rattle.log_values.specs.Log.{LogValue}
use Rattle.log_memory.proofs.RowsRead.{entry_at}
use Rattle.log_memory.proofs.homing.first_that_goes.Goals as goal

pub returns-then-goes-clause-some : goal.returns-then-goes-clause-some
returns-then-goes-clause-some c =
    let all = c.live_len-place-end.ensures ∙ ap (λ (log : LogValue). table.len log.live) c.log.view_is ∙ table.len-entries c.args.log.now.live in
    let inside : c.loop-place.place < length (table.entries c.args.log.now.live) = omega (arith, all, c.loop-place-test.true) in
    let row = entry_at (table.entries c.args.log.now.live) c.loop-place.place inside in
    record { entry = row.0; here = row.1; goes = sym (c.goes.ensures row.0 row.1) ∙ c.if-goes.true; first = c.loop-place.invariant }
