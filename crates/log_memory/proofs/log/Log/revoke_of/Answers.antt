use Rattle.std.proofs.Common.{◌<◌, ap, ◌∙◌, arith}
use Rattle.std.specs.FinMap as table
use Rattle.log_values.specs.Log.{LogValue}
use Rattle.log_memory.proofs.Revoking.{all_revoked, row_revoked}
use Rattle.log_memory.proofs.log.Log.revoke_of.Goals as goal

pub loop-place-preserved : goal.loop-place-preserved
loop-place-preserved c =
    let all = c.live_len-place-end.ensures ∙ ap (λ (log : LogValue). table.len log.live) c.self.view_is in
    let inside : c.loop-place.place < table.len c.args.self.now.live = omega (arith, all, c.loop-place-test.true) in
    let more = row_revoked c.args.self.now c.loop-place.self c.revoke_row.new.log c.args.lock c.loop-place.place c.loop-place.invariant.same c.loop-place.invariant.revoked inside c.revoke_row.ensures in
    record { same = more.0; revoked = more.1 }

pub returns : goal.returns
returns c =
    let all = c.live_len-place-end.ensures ∙ ap (λ (log : LogValue). table.len log.live) c.self.view_is in
    all_revoked c.args.self.now c.loop-place.self c.args.lock c.loop-place.place (omega (arith, all, c.loop-place-test.false)) c.loop-place.invariant.same c.loop-place.invariant.revoked
