use Rattle.std.proofs.Common.{◌+◌, false, arith}
use Rattle.run_reports.specs.Dirty.{is_left_dirty}
use Rattle.run_reports.proofs.Counting.{counted_one, few}
use Rattle.run_reports.proofs.counts.dirty_by.Goals as goal

pub loop-before-preserved : goal.loop-before-preserved
loop-before-preserved c = record {
  count = counted_one (λ node. is_left_dirty node false c.args.items.now) 1 c.loop-before.before (c.loop-before.before + 1) c.loop-before.count c.from-count.result c.is_dirty.result c.loop-before.invariant.count c.from-count.ensures c.is_dirty.ensures (omega arith);
  few = omega (arith, c.loop-before.invariant.few, few c.is_dirty.result c.from-count.result c.from-count.ensures);
}
