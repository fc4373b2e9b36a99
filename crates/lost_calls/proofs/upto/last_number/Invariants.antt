use Rattle.std.proofs.Common.{◌≡◌, drop}
use Rattle.run_rules.specs.Lives.{last_number}
use Rattle.lost_calls.proofs.upto.last_number.Given as goal

abbrev pub invariant-loop-item : goal.invariant-loop-item
invariant-loop-item l = last_number 1 l.now (drop l.item-index l.items) ≡ last_number 1 0 l.items
