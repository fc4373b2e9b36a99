use Rattle.std.proofs.Common.{◌≡◌, drop}
use Rattle.run_rules.specs.Lives.{named}
use Rattle.lost_calls.specs.Heads.{accepted}
use Rattle.lost_calls.proofs.upto.named.Given as goal

abbrev pub invariant-loop-item : goal.invariant-loop-item
invariant-loop-item l = named 1 (accepted l.head) l.items ≡ named 1 (accepted l.head) (drop l.item-index l.items)
