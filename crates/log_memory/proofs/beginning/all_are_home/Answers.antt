use Rattle.std.proofs.Common.{◌≡◌, ◌<◌, Some, length, slice_get, sym, ap, subst, ◌∙◌, arith}
use Rattle.std.specs.FinMap as table
use Rattle.log_values.specs.Log.{LogValue}
use Rattle.log_memory.proofs.Due.{all_home, one_away}
use Rattle.log_memory.proofs.RowsRead.{entry_at}
use Rattle.log_memory.proofs.beginning.all_are_home.Goals as goal

pub returns-then-not-is_home-clause-away : goal.returns-then-not-is_home-clause-away
returns-then-not-is_home-clause-away c = λ is.
    let log = c.args.log.now in
    let place = c.loop-place.place in
    let all = c.live_len-place-end.ensures ∙ ap (λ (x : LogValue). table.len x.live) c.log.view_is ∙ table.len-entries log.live in
    let inside : place < length (table.entries log.live) = omega (arith, all, c.loop-place-test.true) in
    let row = entry_at (table.entries log.live) place inside in
    let here = subst (λ (x : LogValue). slice_get (table.entries x.live) place ≡ Some row.0) (sym c.log.view_is) row.1 in
    one_away log place row.0 row.1 (sym (c.is_home.ensures row.0 here) ∙ c.if-not-is_home.true)

pub returns-clause-home : goal.returns-clause-home
returns-clause-home c = λ is.
    let all = c.live_len-place-end.ensures ∙ ap (λ (x : LogValue). table.len x.live) c.log.view_is in
    all_home c.args.log.now c.loop-place.place (omega (arith, all, c.loop-place-test.false)) c.loop-place.invariant
