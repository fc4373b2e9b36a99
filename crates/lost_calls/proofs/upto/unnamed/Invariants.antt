use Rattle.std.proofs.Common.{◌≡◌, drop, false}
use Rattle.run_rules.specs.Lives.{unnamed}
use Rattle.lost_calls.specs.Items.{tally_in}
use Rattle.lost_calls.proofs.upto.unnamed.Given as goal

abbrev pub invariant-loop-item : goal.invariant-loop-item
invariant-loop-item l = unnamed 1 (tally_in l.now) (drop l.item-index l.items) ≡ unnamed 1 (record { upto = 0; is_logged = false; last = 0 }) l.items
