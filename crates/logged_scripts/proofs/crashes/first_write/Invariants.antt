use Rattle.std.proofs.Common.{◌≡◌, drop}
use Rattle.logged_scripts.specs.Crashes.{first_crash, sooner}
use Rattle.logged_scripts.proofs.crashes.first_write.Given as goal

abbrev pub invariant-loop-crash : goal.invariant-loop-crash
invariant-loop-crash l = sooner l.first (first_crash (drop l.crash-index l.armed)) ≡ first_crash l.armed
