use Rattle.damage_laws.proofs.Moves.{moves_tell, moves_tell_exactly}
use Rattle.damage_laws.proofs.telling.moves_tell_broken_blocks.Goals as goal

pub returns-clause-broken : goal.returns-clause-broken
returns-clause-broken c = moves_tell

pub returns-clause-exact : goal.returns-clause-exact
returns-clause-exact c = moves_tell_exactly
