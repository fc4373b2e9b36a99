use Rattle.std.specs.FinMap as table
use Rattle.log_memory.specs.Rows.{NoneGoes}
use Rattle.log_memory.proofs.homing.first_that_goes.Given as goal

abbrev pub invariant-loop-place : goal.invariant-loop-place
invariant-loop-place l = NoneGoes l.lock (table.entries l.log.live) l.place
