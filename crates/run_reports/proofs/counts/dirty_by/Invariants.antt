use Rattle.std.proofs.Common.{◌≡◌, ◌≤◌, false}
use Rattle.std.specs.Prelude.{count_by}
use Rattle.std.specs.List.{range_with_len}
use Rattle.run_reports.specs.Dirty.{is_left_dirty}
use Rattle.run_reports.proofs.counts.dirty_by.Given as goal

abbrev pub invariant-loop-before : goal.invariant-loop-before
invariant-loop-before l = record {
  count : l.count ≡ count_by (λ node. is_left_dirty node false l.items) (range_with_len 1 l.before);
  few : l.count ≤ l.before;
}
