use Rattle.std.proofs.Common.{◌≡◌, take}
use Rattle.log_memory.specs.Adding.{counts_of, with_freed_all}
use Rattle.log_memory.proofs.adding.counts_freed.Given as goal

abbrev pub invariant-loop-block : goal.invariant-loop-block
invariant-loop-block l = l.counts ≡ counts_of (with_freed_all l.log (take l.block-index l.change.freed.items))
