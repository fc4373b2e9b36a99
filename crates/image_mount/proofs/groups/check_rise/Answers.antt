use Rattle.std.proofs.Common.{arith}
use Rattle.image_mount.proofs.Causes.{told, lacks}
use Rattle.image_mount.proofs.Grouping.{list_format, list_few, unfit_at, early_at, risen_none, risen_more, risen_all}
use Rattle.image_mount.proofs.groups.check_rise.Goals as goal

pub loop-group-init : goal.loop-group-init
loop-group-init c im is = risen_none im c.args.groups.now

pub returns-then-not-fits-clause-refused : goal.returns-then-not-fits-clause-refused
returns-then-not-fits-clause-refused c im is =
    told im _ c.args.list 18 c.damaged.ensures (list_format im _ _ _ _ is) is.reached
    (unfit_at im _ _ c.args.list c.args.groups.now is c.loop-group.group-index _ c.loop-group-test.true
    (lacks c.fits.result (c.fits.ensures im is.block_size is.blocks (list_few im _ _ _ _ is)) c.if-not-fits.true))

pub returns-then-group-end-clause-refused : goal.returns-then-group-end-clause-refused
returns-then-group-end-clause-refused c im is =
    told im _ c.args.list 18 c.damaged-then-group-end.ensures (list_format im _ _ _ _ is) is.reached
    (early_at im _ _ c.args.list c.args.groups.now is c.loop-group.group-index c.loop-group.end _ c.loop-group-test.true (c.loop-group.invariant im is).ends c.if-group-end.true)

pub loop-group-preserved : goal.loop-group-preserved
loop-group-preserved c im is =
    risen_more im c.args.groups.now c.loop-group.group-index c.loop-group.end _ _ (c.loop-group.invariant im is) c.loop-group-test.true
    ((c.fits.ensures im is.block_size is.blocks (list_few im _ _ _ _ is)).0 (grind (arith, c.if-not-fits.false))) c.if-group-end.false (list_few im _ _ _ _ is) c.end_of-end.ensures

pub returns-clause-rise : goal.returns-clause-rise
returns-clause-rise c im is = risen_all im c.args.groups.now c.loop-group.group-index c.loop-group.end (c.loop-group.invariant im is) (omega (arith, c.loop-group-test.false))
