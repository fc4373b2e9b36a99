use Rattle.std.proofs.Common.{◌≡◌, ◌+◌, ◌≤◌, drop, length}
use Rattle.run_rules.specs.Follows.{call_items}
use Rattle.run_reports.proofs.down.count_answers.Given as goal

abbrev pub invariant-loop-item : goal.invariant-loop-item
invariant-loop-item l = record {
  so_far : l.count + length (call_items l.clients l.client (drop l.item-index l.items)) ≡ length (call_items l.clients l.client l.items);
  few : l.count ≤ l.item-index;
}
