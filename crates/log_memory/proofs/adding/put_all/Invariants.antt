use Rattle.std.proofs.Common.{◌≡◌, drop}
use Rattle.log_memory.specs.Adding.{with_written_all}
use Rattle.log_memory.proofs.adding.put_all.Given as goal

abbrev pub invariant-loop-place : goal.invariant-loop-place
invariant-loop-place l = with_written_all l.log (drop l.place l.change.blocks.items) (drop l.place l.change.locks.items) ≡ with_written_all l.initial.log l.change.blocks.items l.change.locks.items
