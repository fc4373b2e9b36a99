use Rattle.std.proofs.Common.{◌≡◌, false, drop}
use Rattle.run_reports.specs.Dirty.{is_left_dirty}
use Rattle.run_reports.proofs.counts.is_dirty.Given as goal

abbrev pub invariant-loop-item : goal.invariant-loop-item
invariant-loop-item l = is_left_dirty l.node false l.items ≡ is_left_dirty l.node l.dirty (drop l.item-index l.items)
