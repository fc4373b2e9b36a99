use Rattle.std.proofs.Common.{◌∙◌, refl, sym, ap, arith}
use Rattle.std.specs.Prelude.{filter}
use Rattle.gfs2_layout.specs.Area.{slot_at}
use Rattle.leaf_areas.specs.Parts.{belongs}
use Rattle.leaf_areas.proofs.Next.{is_next, none_yet}
use Rattle.leaf_areas.proofs.parts.next_of.Goals as goal

pub loop-record-init : goal.loop-record-init
loop-record-init c = record { area = c.requires; same = refl; few = omega arith }

pub returns-then-is_of : goal.returns-then-is_of
returns-then-is_of c =
    let rest = c.loop-record.rest.now in
    let first = c.in-Some.ensures in
    let so = c.loop-record.invariant in
    is_next c.args.part c.args.area.now rest c.in-Some.record.head c.in-Some.record.name.now c.in-Some.behind.now so.same so.few so.area first (sym (c.is_of.ensures (slot_at rest) first.shown) ∙ c.if-is_of.true)

pub loop-record-preserved : goal.loop-record-preserved
loop-record-preserved c =
    let rest = c.loop-record.rest.now in
    let first = c.in-Some.ensures in
    let so = c.loop-record.invariant in
    record {
      area = first.later;
      same = none_yet c.args.part c.args.area.now rest c.in-Some.record.head c.in-Some.record.name.now c.in-Some.behind.now so.same first (sym (c.is_of.ensures (slot_at rest) first.shown) ∙ c.if-is_of.false);
      few = omega (arith, so.few, first.shorter);
    }

pub returns : goal.returns
returns c = c.loop-record.invariant.same ∙ ap (filter (belongs c.args.part)) c.in_default.ensures
