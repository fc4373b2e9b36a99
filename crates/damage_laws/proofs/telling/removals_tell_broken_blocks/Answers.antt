use Rattle.damage_laws.proofs.Calls.{removals_tell, removals_tell_exactly}
use Rattle.damage_laws.proofs.telling.removals_tell_broken_blocks.Goals as goal

pub returns-clause-broken : goal.returns-clause-broken
returns-clause-broken c = removals_tell

pub returns-clause-exact : goal.returns-clause-exact
returns-clause-exact c = removals_tell_exactly
