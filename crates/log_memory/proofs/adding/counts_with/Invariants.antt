use Rattle.std.proofs.Common.{◌≡◌, take}
use Rattle.log_memory.specs.Adding.{counts_of, with_freed_all, with_written_all}
use Rattle.log_memory.proofs.adding.counts_with.Given as goal

abbrev pub invariant-loop-written : goal.invariant-loop-written
invariant-loop-written l =
    l.counts ≡ counts_of (with_written_all (with_freed_all l.log l.change.freed.items) (take l.written-index l.change.blocks.items) (take l.written-index l.change.locks.items))
