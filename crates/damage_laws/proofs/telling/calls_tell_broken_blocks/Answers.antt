use Rattle.damage_laws.proofs.AllCalls.{calls_tell, calls_tell_exactly}
use Rattle.damage_laws.proofs.telling.calls_tell_broken_blocks.Goals as goal

pub returns-clause-broken : goal.returns-clause-broken
returns-clause-broken c = calls_tell

pub returns-clause-exact : goal.returns-clause-exact
returns-clause-exact c = calls_tell_exactly
