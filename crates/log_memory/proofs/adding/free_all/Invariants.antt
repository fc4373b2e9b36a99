use Rattle.std.proofs.Common.{◌≡◌, take}
use Rattle.log_memory.specs.Adding.{with_freed_all}
use Rattle.log_memory.proofs.adding.free_all.Given as goal

abbrev pub invariant-loop-block : goal.invariant-loop-block
invariant-loop-block l = l.log ≡ with_freed_all l.initial.log (take l.block-index l.freed)
