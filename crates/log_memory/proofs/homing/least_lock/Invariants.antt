use Rattle.std.specs.FinMap as table
use Rattle.log_memory.specs.Locks.{IsLeastFound}
use Rattle.log_memory.proofs.homing.least_lock.Given as goal

abbrev pub invariant-loop-place : goal.invariant-loop-place
invariant-loop-place l = IsLeastFound (table.entries l.tables.live) l.place l.least
