use Rattle.std.proofs.Common.{◌≡◌}
use Rattle.glock_machine.specs.Keys.{key_of}
use Rattle.glock_machine.proofs.Locks.{down_behind, first_down}
use Rattle.glock_machine.proofs.glocks.Glocks.next_down_after.Given as goal

abbrev pub invariant-loop-key : goal.invariant-loop-key
invariant-loop-key l = first_down (down_behind (key_of l.after) l.self-inside.unmounting) l.key-iterator
    ≡ first_down (down_behind (key_of l.after) l.self-inside.unmounting) l.self-inside.locks.entries
