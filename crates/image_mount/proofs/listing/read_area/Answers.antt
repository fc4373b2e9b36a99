use Rattle.gfs2_layout.specs.Area.{slot_at}
use Rattle.image_model.specs.Rules.{unfilled}
use Rattle.image_mount.proofs.Areas.{half_more, half_all, half_filled, next_in}
use Rattle.image_mount.proofs.Causes.{told, has, lacks}
use Rattle.image_mount.proofs.Stops.{refused}
use Rattle.image_mount.proofs.listing.read_area.Goals as goal

pub returns-then-not-is_area-clause-refused : goal.returns-then-not-is_area-clause-refused
returns-then-not-is_area-clause-refused c im a format low has =
    told im _ c.args.block 9 c.damaged.ensures format low (unfilled a c.args.block c.args.area.now has (lacks c.is_area.result c.is_area.ensures c.if-not-is_area.true))

pub returns-in_err-add-clause-refused : goal.returns-in_err-add-clause-refused
returns-in_err-add-clause-refused c im a format low has =
    let first = c.in-Some.ensures in
    refused im _ _ c.from_residual.ensures.1
    (c.in_err-add.ensures.refused im a c.args.area.now (slot_at c.loop-record.rest.now) first.shown format low has
    (next_in c.args.area.now c.loop-record.rest.now c.in-Some.behind.now _ (slot_at c.loop-record.rest.now) c.loop-record.invariant.half first.slots))

pub loop-record-preserved : goal.loop-record-preserved
loop-record-preserved c =
    let first = c.in-Some.ensures in
    record {
      area = first.later;
      half = half_more c.args.area.now c.loop-record.rest.now c.in-Some.behind.now _ _ (slot_at c.loop-record.rest.now) c.loop-record.invariant.half first.slots
          (c.in_ok-add.ensures.added (slot_at c.loop-record.rest.now) first.shown) (c.in_ok-add.ensures.hashed (slot_at c.loop-record.rest.now) first.shown);
      here = c.in_ok-add.ensures.here c.loop-record.invariant.here;
    }

pub returns-clause-found : goal.returns-clause-found
returns-clause-found c = half_all c.args.area.now c.loop-record.rest.now _ c.loop-record.invariant.half c.in_default.ensures

pub returns-clause-filled : goal.returns-clause-filled
returns-clause-filled c =
    half_filled c.args.area.now c.loop-record.rest.now _ c.loop-record.invariant.half c.in_default.ensures (has c.is_area.result c.is_area.ensures c.if-not-is_area.false)
