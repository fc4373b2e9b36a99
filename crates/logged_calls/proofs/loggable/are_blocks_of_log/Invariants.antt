use Rattle.std.specs.List.{AllWithin}
use Rattle.logged_calls.specs.Adding.{IsBlockOfLog}
use Rattle.logged_calls.proofs.loggable.are_blocks_of_log.Given as goal

abbrev pub invariant-loop-written : goal.invariant-loop-written
invariant-loop-written l = AllWithin IsBlockOfLog l.blocks 0 l.written-index
