use Rattle.std.proofs.Common.{◌≡◌, Some}
use Rattle.log_values.specs.Log.{Flush}
use Rattle.log_memory.proofs.Oldest.{IsOldestOf}
use Rattle.log_memory.proofs.tails.oldest.Given as goal

abbrev pub invariant-loop-place : goal.invariant-loop-place
invariant-loop-place l = (f : Flush) → l.log.flush ≡ Some f → IsOldestOf l.log f l.place l.oldest
