use Rattle.std.proofs.Common.{arith}
use Rattle.glock_names.proofs.StepLaws.{answer_at}
use Rattle.resource_groups.proofs.Fits.{fit_of}
use Rattle.resource_groups.proofs.FreePlaces.{is_part}
use Rattle.resource_groups.proofs.Counts.{counted_in_part}
use Rattle.resource_groups.proofs.counting.count_in_part.Goals as goal

pub returns-clause-found : goal.returns-clause-found
returns-clause-found g c at shown =
    let v = g.V.View.seen c.args.view.now in
    let part = is_part v at c.args.group.now c.args.part c.first_place-base.result c.block_size.result c.in-Is.bits.now c.requires.within c.block_size.ensures.view shown
    (answer_at _ _ _ c.in-Is.is (c.in_ok-bits.ensures.bits at shown)) c.first_place-base.ensures c.block_size.ensures.value in
    let fit = fit_of v c.args.group.now c.block_size.ensures.view c.requires.group in
    counted_in_part v at c.args.group.now c.args.part c.first_place-base.result c.min-whole.result c.count_in.result c.in-Is.bits.now part fit.whole
    (omega (arith, c.min-whole.ensures, c.saturating_sub-places.ensures, c.from.ensures)) c.count_in.ensures.value
