use Rattle.std.proofs.Common.{refl, ◌+◌, sym, subst, arith}
use Rattle.glock_names.proofs.StepLaws.{answer_at}
use Rattle.gfs2_layout.specs.Groups.{bitmap_of}
use Rattle.resource_groups.specs.Finding.{IsFirstFree}
use Rattle.resource_groups.specs.Shown.{blocks_of}
use Rattle.resource_groups.proofs.FreePlaces.{is_part, none_in_part, found_in_part}
use Rattle.resource_groups.proofs.finding.find_in_part.Goals as goal

pub returns-in-Some-clause-found : goal.returns-in-Some-clause-found
returns-in-Some-clause-found g c at shown =
    let v = g.V.View.seen c.args.view.now in
    let part = is_part v at c.args.group.now c.args.part c.first_place-base.result c.block_size.result c.in-Is.bits.now c.requires.within c.block_size.ensures.view shown
    (answer_at _ _ _ c.in-Is.is (c.in_ok-bits.ensures.bits at shown)) c.first_place-base.ensures c.block_size.ensures.value in
    subst (λ n. IsFirstFree (bitmap_of (blocks_of at c.args.group.now)) c.args.from c.args.group.now.count (c.first_place-base.result + n)) (sym c.from-in-Some.ensures)
    (found_in_part v at c.args.group.now c.args.part c.first_place-base.result c.in-Is.bits.now c.args.from _ _ c.in-Some.place part (omega (arith, part.base_is, c.requires.stands.low)) refl
    (omega (arith, c.min-end.ensures, c.saturating_sub-places.ensures, c.from.ensures)) c.in-Some.ensures)

pub returns-in-None-clause-found : goal.returns-in-None-clause-found
returns-in-None-clause-found g c at shown =
    let v = g.V.View.seen c.args.view.now in
    let part = is_part v at c.args.group.now c.args.part c.first_place-base.result c.block_size.result c.in-Is.bits.now c.requires.within c.block_size.ensures.view shown
    (answer_at _ _ _ c.in-Is.is (c.in_ok-bits.ensures.bits at shown)) c.first_place-base.ensures c.block_size.ensures.value in
    none_in_part v at c.args.group.now c.args.part c.first_place-base.result c.in-Is.bits.now c.args.from _ _ part (omega (arith, part.base_is, c.requires.stands.low)) refl
    (omega (arith, c.min-end.ensures, c.saturating_sub-places.ensures, c.from.ensures)) c.in-None.ensures
