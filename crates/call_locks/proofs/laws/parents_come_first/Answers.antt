use Rattle.call_locks.proofs.Orders.{parents_first}
use Rattle.call_locks.proofs.laws.parents_come_first.Goals as goal

pub returns : goal.returns
returns c = parents_first
