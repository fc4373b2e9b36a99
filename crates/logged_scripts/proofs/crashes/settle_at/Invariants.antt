use Rattle.std.proofs.Common.{◌≡◌, drop}
use Rattle.logged_scripts.specs.Crashes.{fate_at}
use Rattle.logged_scripts.proofs.crashes.settle_at.Given as goal

abbrev pub invariant-loop-crash : goal.invariant-loop-crash
invariant-loop-crash l = fate_at (drop l.crash-index l.armed) l.write ≡ fate_at l.armed l.write
