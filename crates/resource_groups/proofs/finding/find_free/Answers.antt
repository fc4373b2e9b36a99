use Rattle.std.proofs.Common.{◌<◌, arith}
use Rattle.glock_names.proofs.StepLaws.{needed_at}
use Rattle.resource_groups.proofs.Fits.{fit_of}
use Rattle.resource_groups.proofs.FreePlaces.{in_group, needs}
use Rattle.resource_groups.proofs.Parts.{room_is}
use Rattle.resource_groups.proofs.finding.find_free.Goals as goal

pub find_in_part-requires-clause-within : goal.find_in_part-requires-clause-within
find_in_part-requires-clause-within g c =
    let v = g.V.View.seen c.args.view.now in
    let fit = fit_of v c.args.group.now c.block_size-size.ensures.view c.requires in
    in_group v.size c.args.group.now.count c.args.group.now.length c.loop-place.part c.loop-place.place fit.some (room_is v.size c.args.group.now.count c.args.group.now.length fit.some fit.bits)
    (omega (arith, c.loop-place-test.true, c.from.ensures)) c.loop-place.invariant.stands

pub returns-in-NeedBlock-clause-needed : goal.returns-in-NeedBlock-clause-needed
returns-in-NeedBlock-clause-needed g c at shown =
    let v = g.V.View.seen c.args.view.now in
    let inside : c.loop-place.place < c.args.group.now.count = omega (arith, c.loop-place-test.true, c.from.ensures) in
    needs v at c.args.group.now c.args.after c.loop-place.place c.loop-place.part c.in-NeedBlock.missing (needed_at _ _ _ c.in-NeedBlock.is c.in_ok-found.ensures.needed) (needed_at _ _ _ c.in-NeedBlock.is c.in_ok-found.ensures.which)
    c.loop-place.invariant.stands inside (c.loop-place.invariant.above inside) (c.loop-place.invariant.none at shown)
