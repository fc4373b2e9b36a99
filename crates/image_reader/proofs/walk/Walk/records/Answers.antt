use Rattle.std.proofs.Common.{refl, arith, ◌∙◌, sym}
use Rattle.image_reader.specs.Going.{IsNameOf}
use Rattle.image_model.specs.Rules.{unfilled}
use Rattle.image_reader.proofs.InodeFaults.{told_at, lacking}
use Rattle.image_reader.proofs.Inside.{area_inside}
use Rattle.image_reader.proofs.Going.{stays, goes_then, over_start, over_more, all_counted, all_found, slot_before, area_at}
use Rattle.image_reader.proofs.walk.Walk.records.Goals as goal

pub returns-then-not-is_area-clause-damaged : goal.returns-then-not-is_area-clause-damaged
returns-then-not-is_area-clause-damaged c =
    let lacks = lacking _ _ c.if-not-is_area.true c.is_area.ensures in
    told_at c.args.self.now.image _ c.args.area.now.block 9 c.damaged.ensures
    (area_inside c.args.self.now.image c.args.visit.now.inode.block.number c.args.area.now.block c.args.area.now.bytes.now c.requires.area lacks)
    (unfilled c.args.visit.now.inode.block.number c.args.area.now.block c.args.area.now.bytes.now c.requires.area lacks)

pub loop-record-init : goal.loop-record-init
loop-record-init c = record {
  area = c.is_area.ensures.0 c.if-not-is_area.false;
  short = c.requires.short;
  going = c.requires.going;
  on = stays (IsNameOf c.args.visit.now.inode.block.number) c.args.visit.now c.args.self.now.owners.entries.items c.args.found.now.items;
  over = over_start c.args.area.now.bytes.now c.args.tally.now c.args.visit.now c.args.found.now.items;
  falls = omega arith;
  free = omega arith;
  grows = omega arith;
  same = refl;
}

pub loop-record-preserved : goal.loop-record-preserved
loop-record-preserved c =
    let first = c.in-Some.ensures in
    let v = c.args.visit.now in
    record {
      area = first.later;
      short = omega (arith, first.shorter, c.loop-record.invariant.short);
      going = c.in_ok-record.ensures.going;
      on = goes_then (IsNameOf v.inode.block.number) v c.args.self.now.owners.entries.items c.args.found.now.items c.loop-record.self.owners.entries.items c.loop-record.found.items
          c.record.new.self.owners.entries.items c.record.new.found.items c.loop-record.invariant.on c.in_ok-record.ensures.on;
      over = over_more c.args.area.now.bytes.now c.loop-record.rest.now c.in-Some.behind.now c.args.tally.now c.loop-record.tally c.record.new.tally v c.loop-record.found.items c.record.new.found.items
          c.in-Some.record.head c.in-Some.record.name.now c.loop-record.invariant.over first c.in_ok-record.ensures.counted c.in_ok-record.ensures.entered c.in_ok-record.ensures.on.finds;
      falls = omega (arith, c.loop-record.invariant.falls, c.in_ok-record.ensures.falls);
      free = omega (arith, c.loop-record.invariant.free, c.in_ok-record.ensures.free);
      grows = omega (arith, c.loop-record.invariant.grows, c.in_ok-record.ensures.grows);
      same = c.in_ok-record.ensures.same ∙ c.loop-record.invariant.same;
    }

pub record-requires-clause-slot : goal.record-requires-clause-slot
record-requires-clause-slot c =
    slot_before c.loop-record.self.image c.args.visit.now.inode.block.number c.args.area.now.block c.args.area.now.bytes.now c.loop-record.rest.now c.in-Some.behind.now c.args.tally.now c.loop-record.tally
    c.args.visit.now c.loop-record.found.items c.in-Some.record.head c.in-Some.record.name.now
    (area_at c.args.self.now.image c.loop-record.self.image c.args.visit.now.inode.block.number c.args.area.now.block c.args.area.now.bytes.now (sym c.loop-record.invariant.same) c.requires.area)
    c.loop-record.invariant.over c.in-Some.ensures

pub returns-clause-counted : goal.returns-clause-counted
returns-clause-counted c = all_counted c.args.area.now.bytes.now c.loop-record.rest.now c.args.tally.now c.loop-record.tally c.args.visit.now c.loop-record.found.items c.loop-record.invariant.over c.in_default.ensures

pub returns-clause-entered : goal.returns-clause-entered
returns-clause-entered c = all_found c.args.area.now.bytes.now c.loop-record.rest.now c.args.tally.now c.loop-record.tally c.args.visit.now c.loop-record.found.items c.loop-record.invariant.over c.in_default.ensures
