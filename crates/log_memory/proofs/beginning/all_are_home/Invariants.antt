use Rattle.log_memory.proofs.Due.{AreHome}
use Rattle.log_memory.proofs.beginning.all_are_home.Given as goal

abbrev pub invariant-loop-place : goal.invariant-loop-place
invariant-loop-place l = AreHome l.log l.place
