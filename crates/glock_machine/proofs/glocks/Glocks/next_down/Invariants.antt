use Rattle.std.proofs.Common.{◌≡◌}
use Rattle.glock_machine.proofs.Locks.{any_down, first_down}
use Rattle.glock_machine.proofs.glocks.Glocks.next_down.Given as goal

abbrev pub invariant-loop-key : goal.invariant-loop-key
invariant-loop-key l = first_down (any_down l.self-inside.unmounting) l.key-iterator ≡ first_down (any_down l.self-inside.unmounting) l.self-inside.locks.entries
