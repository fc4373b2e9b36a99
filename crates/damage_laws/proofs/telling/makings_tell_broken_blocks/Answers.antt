use Rattle.damage_laws.proofs.Calls.{makings_tell, makings_tell_exactly}
use Rattle.damage_laws.proofs.telling.makings_tell_broken_blocks.Goals as goal

pub returns-clause-broken : goal.returns-clause-broken
returns-clause-broken c = makings_tell

pub returns-clause-exact : goal.returns-clause-exact
returns-clause-exact c = makings_tell_exactly
