use Rattle.std.proofs.Common.{◌<◌, ap, ◌∙◌, arith}
use Rattle.std.specs.FinMap as table
use Rattle.log_values.specs.Log.{LogValue}
use Rattle.log_memory.proofs.Barriers.{all_settled, row_settled}
use Rattle.log_memory.proofs.log.Log.settle.Goals as goal

pub settle_row-requires : goal.settle_row-requires
settle_row-requires c =
    let all = c.live_len-place-end.ensures ∙ ap (λ (log : LogValue). table.len log.live) c.self.view_is in
    let many = c.loop-place.invariant.settled.many in
    omega (arith, all, many, c.loop-place-test.true)

pub loop-place-preserved : goal.loop-place-preserved
loop-place-preserved c =
    let all = c.live_len-place-end.ensures ∙ ap (λ (log : LogValue). table.len log.live) c.self.view_is in
    let inside : c.loop-place.place < table.len c.args.self.now.live = omega (arith, all, c.loop-place-test.true) in
    let more = row_settled c.args.self.now c.loop-place.self c.settle_row.new.log c.loop-place.place c.loop-place.invariant.same c.loop-place.invariant.settled inside c.settle_row.ensures in
    record { same = more.0; settled = more.1 }

pub returns : goal.returns
returns c =
    let all = c.live_len-place-end.ensures ∙ ap (λ (log : LogValue). table.len log.live) c.self.view_is in
    all_settled c.args.self.now c.loop-place.self c.loop-place.place (omega (arith, all, c.loop-place-test.false)) c.loop-place.invariant.same c.loop-place.invariant.settled
