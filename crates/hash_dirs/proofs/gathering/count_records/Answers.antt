use Rattle.std.proofs.Common.{◌∙◌, ◌++◌, ◌∷◌, [], length, sym, ap, arith}
use Rattle.gfs2_layout.specs.Area.{slot_at}
use Rattle.gfs2_layout.specs.Structures.{is_in_use}
use Rattle.linear_dirs.specs.Reading.{told_in}
use Rattle.linear_dirs.proofs.Records.{one_more, all_over}
use Rattle.hash_dirs.proofs.Counted.{one_told, none_told}
use Rattle.hash_dirs.proofs.gathering.count_records.Goals as goal

pub loop-record-preserved-then-is_in_use : goal.loop-record-preserved-then-is_in_use
loop-record-preserved-then-is_in_use c =
    let rest = c.loop-record.rest.now in
    let first = c.in-Some.ensures in
    let so = c.loop-record.invariant in
    record {
      area = first.later;
      front = so.front ++ told_in (slot_at rest ∷ []);
      all = one_more c.args.area.now rest c.in-Some.behind.now c.in-Some.record.name.now c.in-Some.record.head so.front so.all first;
      counted = one_told (slot_at rest) so.front c.loop-record.count (ap is_in_use (sym first.shown.head_is) ∙ sym c.is_in_use.ensures ∙ c.if-is_in_use.true) so.counted;
      few = omega (arith, so.few, first.shorter);
    }

pub loop-record-preserved : goal.loop-record-preserved
loop-record-preserved c =
    let rest = c.loop-record.rest.now in
    let first = c.in-Some.ensures in
    let so = c.loop-record.invariant in
    record {
      area = first.later;
      front = so.front ++ told_in (slot_at rest ∷ []);
      all = one_more c.args.area.now rest c.in-Some.behind.now c.in-Some.record.name.now c.in-Some.record.head so.front so.all first;
      counted = none_told (slot_at rest) so.front c.loop-record.count (ap is_in_use (sym first.shown.head_is) ∙ sym c.is_in_use.ensures ∙ c.if-is_in_use.false) so.counted;
      few = omega (arith, so.few, first.shorter);
    }

pub returns : goal.returns
returns c =
    c.loop-record.invariant.counted
    ∙ ap length (sym (all_over c.args.area.now c.loop-record.rest.now c.loop-record.invariant.front c.loop-record.invariant.all c.in_default.ensures))
