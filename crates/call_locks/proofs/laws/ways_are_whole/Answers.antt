use Rattle.call_locks.proofs.Reaches.{ways_whole}
use Rattle.call_locks.proofs.laws.ways_are_whole.Goals as goal

pub returns : goal.returns
returns c = ways_whole
