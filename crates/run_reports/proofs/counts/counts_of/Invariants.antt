use Rattle.std.proofs.Common.{◌≡◌, ◌≤◌, take}
use Rattle.std.specs.Prelude.{count_by}
use Rattle.run_reports.specs.Out.{is_call, is_commit, is_stop}
use Rattle.run_reports.proofs.counts.counts_of.Given as goal

abbrev pub invariant-loop-item : goal.invariant-loop-item
invariant-loop-item l = record {
  calls : l.calls ≡ count_by is_call (take l.item-index l.items);
  commits : l.commits ≡ count_by is_commit (take l.item-index l.items);
  stops : l.stops ≡ count_by is_stop (take l.item-index l.items);
  few : l.calls ≤ l.item-index;
  fewer : l.commits ≤ l.item-index;
  fewest : l.stops ≤ l.item-index;
}
