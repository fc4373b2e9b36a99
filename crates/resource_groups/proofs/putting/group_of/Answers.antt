use Rattle.std.proofs.Common.{◌<◌, ◌∙◌, sym, ap, subst, length, get_or}
use Rattle.resource_groups.proofs.Fits.{lacks}
use Rattle.resource_groups.proofs.Apart.{none_has, none_more}
use Rattle.resource_groups.proofs.putting.group_of.Goals as goal

pub returns-clause-none : goal.returns-clause-none
returns-clause-none g c has =
    let items = c.groups-group-items.result.now in
    none_has items c.loop-group.group-index c.args.block has.1.0 has.0 c.loop-group-test.false c.loop-group.invariant
    (subst (λ gs. has.1.0 < length gs) (sym c.groups-group-items.ensures) has.1.1) (ap (λ gs. get_or gs has.1.0 has.0) c.groups-group-items.ensures ∙ has.1.2) has.2

pub loop-group-preserved : goal.loop-group-preserved
loop-group-preserved g c = none_more c.groups-group-items.result.now c.loop-group.group-index c.args.block _ c.loop-group-test.true (lacks c.has_data.result c.has_data.ensures c.if-has_data.false) c.loop-group.invariant
