use Rattle.damage_laws.proofs.Calls.{writes_tell, writes_tell_exactly}
use Rattle.damage_laws.proofs.telling.writes_tell_broken_blocks.Goals as goal

pub returns-clause-broken : goal.returns-clause-broken
returns-clause-broken c = writes_tell

pub returns-clause-exact : goal.returns-clause-exact
returns-clause-exact c = writes_tell_exactly
