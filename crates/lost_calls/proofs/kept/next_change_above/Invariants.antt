use Rattle.std.proofs.Common.{◌≡◌, List, drop}
use Rattle.right_losses.specs.Kept.{next_change}
use Rattle.run_rules.specs.Follows.{history_of}
use Rattle.script_lang.specs.declared.script.Client.{Client}
use Rattle.lost_calls.proofs.kept.next_change_above.Given as goal

abbrev pub invariant-loop-item : goal.invariant-loop-item
invariant-loop-item l = (clients : List Client) → next_change 1 l.upto (history_of clients l.items) ≡ next_change 1 l.upto (history_of clients (drop l.item-index l.items))
