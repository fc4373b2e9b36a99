use Rattle.std.proofs.Common.{◌≡◌, ◌<◌, ℕ, ap, ◌∙◌, arith, slice_get}
use Rattle.std.specs.FinMap as table
use Rattle.log_tables.specs.Kept.{rested}
use Rattle.log_tables.proofs.Steps.{same_some}
use Rattle.log_memory.proofs.Resting.{all_rested, row_rested, with_live}
use Rattle.log_memory.proofs.landing.rest_all.Goals as goal

pub loop-place-preserved : goal.loop-place-preserved
loop-place-preserved c =
    let inside : c.loop-place.place < table.len c.args.revoked.now.at = omega (arith, c.len-place-end.ensures, c.loop-place-test.true) in
    let more = row_rested c.args.tables.now c.loop-place.tables c.rest.new.self c.args.revoked.now.at c.loop-place.place c.loop-place.invariant.same c.loop-place.invariant.rested inside
    (λ e at.
    let same : c.row.result.now ≡ e = same_some (slice_get (table.entries c.args.revoked.now.at) c.loop-place.place) c.row.result.now e c.row.ensures at in
    c.rest.ensures ∙ ap (λ (x : ℕ × Unit {0}). with_live c.loop-place.tables (rested c.loop-place.tables.live x.0 (table.get c.loop-place.tables.live x.0))) same) in
    record { same = more.0; rested = more.1 }

pub returns-clause-rests : goal.returns-clause-rests
returns-clause-rests c =
    all_rested c.args.tables.now.live c.loop-place.tables.live c.args.revoked.now.at c.loop-place.place (omega (arith, c.len-place-end.ensures, c.loop-place-test.false)) c.loop-place.invariant.rested
