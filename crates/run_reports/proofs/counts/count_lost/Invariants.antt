use Rattle.std.proofs.Common.{◌≡◌, ◌+◌, ◌≤◌, List, drop, length}
use Rattle.cluster_history.specs.History.{lost_count}
use Rattle.run_rules.specs.Follows.{history_of}
use Rattle.script_lang.specs.declared.script.Client.{Client}
use Rattle.run_reports.specs.Losses.{HasLeast}
use Rattle.run_reports.proofs.counts.count_lost.Given as goal

abbrev pub invariant-loop-place : goal.invariant-loop-place
invariant-loop-place l = record {
  least : HasLeast l.table (drop l.place l.items);
  count : (clients : List Client) → l.lost ≡ lost_count (history_of clients (drop l.place l.items));
  few : l.lost + l.place ≤ length l.items;
}

abbrev pub decreases-loop-place : goal.decreases-loop-place
decreases-loop-place l = l.place
