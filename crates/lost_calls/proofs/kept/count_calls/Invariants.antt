use Rattle.std.proofs.Common.{◌≡◌, ◌+◌, ◌≤◌, List, drop}
use Rattle.cluster_history.specs.History.{calls_of}
use Rattle.run_rules.specs.Follows.{history_of}
use Rattle.script_lang.specs.declared.script.Client.{Client}
use Rattle.lost_calls.proofs.kept.count_calls.Given as goal

abbrev pub invariant-loop-item : goal.invariant-loop-item
invariant-loop-item l = record {
  few : l.count ≤ l.item-index;
  count : (clients : List Client) → calls_of 1 (history_of clients l.items) ≡ l.count + calls_of 1 (history_of clients (drop l.item-index l.items));
}
