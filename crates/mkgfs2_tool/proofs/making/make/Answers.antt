use Rattle.std.proofs.Common.{sym, ◌∙◌}
use Rattle.mkgfs2_tool.proofs.EndingLaws.{same_plan, refused, too_small, tried, good_plan, fitting_plan}
use Rattle.mkgfs2_tool.proofs.making.make.Goals as goal

pub returns-in-Some-clause-ending : goal.returns-in-Some-clause-ending
returns-in-Some-clause-ending g c = refused c.args.options.now _ _ _ c.in-Some.opt (sym c.bad_option.ensures ∙ c.in-Some.is)

pub needed-requires-clause-plan : goal.needed-requires-clause-plan
needed-requires-clause-plan g c =
    good_plan c.of-plan.result _ _ c.args.options.now (same_plan c.of-plan.result _ _ _ _ c.args.options.now c.of-plan.ensures c.block_size.ensures c.blocks-2.ensures.value)
    (sym c.bad_option.ensures ∙ c.in_default.is) c.requires.size c.requires.small

pub returns-then-not-fits-clause-ending : goal.returns-then-not-fits-clause-ending
returns-then-not-fits-clause-ending g c =
    too_small c.args.options.now (g.D.SharedDisk.state c.args.disk.now) _ _ c.of-plan.result c.needed.result
    (same_plan c.of-plan.result _ _ _ _ c.args.options.now c.of-plan.ensures c.block_size.ensures c.blocks-2.ensures.value)
    (sym c.bad_option.ensures ∙ c.in_default.is) (sym c.fits.ensures ∙ c.if-not-fits.true) c.needed.ensures

pub make_plan-requires-clause-plan : goal.make_plan-requires-clause-plan
make_plan-requires-clause-plan g c =
    fitting_plan c.of-plan.result _ _ c.args.options.now (same_plan c.of-plan.result _ _ _ _ c.args.options.now c.of-plan.ensures c.block_size.ensures c.blocks-2.ensures.value)
    (sym c.bad_option.ensures ∙ c.in_default.is) c.requires.size c.requires.small (sym c.fits.ensures ∙ c.if-not-fits.false)

pub returns-clause-ending : goal.returns-clause-ending
returns-clause-ending g c =
    tried c.args.options.now (g.D.SharedDisk.state c.args.disk.now) _ _ _ _ _ c.of-plan.result c.make_plan.result
    (same_plan c.of-plan.result _ _ _ _ c.args.options.now c.of-plan.ensures c.block_size.ensures c.blocks-2.ensures.value)
    (sym c.bad_option.ensures ∙ c.in_default.is) (sym c.fits.ensures ∙ c.if-not-fits.false) c.make_plan.ensures.ending
