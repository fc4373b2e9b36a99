use Rattle.std.proofs.Common.{◌≡◌, take}
use Rattle.std.specs.Prelude.{fold}
use Rattle.dlm_master.specs.Locks.{turn}
use Rattle.dlm_master.proofs.turns.Turns.take.Given as goal

abbrev pub invariant-loop-waiter : goal.invariant-loop-waiter
invariant-loop-waiter l = l.self ≡ fold (turn l.before) l.initial.self (take l.waiter-index l.waiters)
