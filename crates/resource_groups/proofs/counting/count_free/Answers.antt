use Rattle.std.proofs.Common.{ap, sym, ◌∙◌, arith}
use Rattle.glock_names.proofs.StepLaws.{answer_at}
use Rattle.gfs2_layout.specs.declared.group_header.GroupHeader.{GroupHeader}
use Rattle.resource_groups.specs.Shown.{wrong_free}
use Rattle.resource_groups.proofs.Fits.{fit_of}
use Rattle.resource_groups.proofs.Counts.{all_counted}
use Rattle.resource_groups.proofs.counting.count_free.Goals as goal

pub returns-then-free-from-clause-damaged : goal.returns-then-free-from-clause-damaged
returns-then-free-from-clause-damaged g c at shown =
    let v = g.V.View.seen c.args.view.now in
    let fit = fit_of v c.args.group.now c.header_of.ensures.view c.requires in
    let counted = all_counted at c.args.group.now v.size c.loop-part.part c.loop-part.free fit.some fit.bits (omega (arith, c.loop-part-test.false, c.loop-part.auto.part-end)) (c.loop-part.invariant.counted at shown) in
    let header = ap (λ (h : GroupHeader). h.free) (answer_at _ _ _ c.in-Is.is (c.in_ok-header.ensures.header at shown)) in
    wrong_free (λ same. c.if-free-from.true (counted ∙ sym same ∙ sym header ∙ sym c.from.ensures))

pub returns-then-free-from-clause-kept : goal.returns-then-free-from-clause-kept
returns-then-free-from-clause-kept g c = answer_at _ _ _ c.in-Is.is c.in_ok-header.ensures.there

pub returns-clause-bits : goal.returns-clause-bits
returns-clause-bits g c at shown =
    let v = g.V.View.seen c.args.view.now in
    let fit = fit_of v c.args.group.now c.header_of.ensures.view c.requires in
    let counted = all_counted at c.args.group.now v.size c.loop-part.part c.loop-part.free fit.some fit.bits (omega (arith, c.loop-part-test.false, c.loop-part.auto.part-end)) (c.loop-part.invariant.counted at shown) in
    sym c.from.ensures ∙ sym c.if-free-from.false ∙ counted
