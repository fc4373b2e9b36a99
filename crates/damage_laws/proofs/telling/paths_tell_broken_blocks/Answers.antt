use Rattle.damage_laws.proofs.Paths.{inodes_are_there, paths_tell}
use Rattle.damage_laws.proofs.telling.paths_tell_broken_blocks.Goals as goal

pub returns-clause-there : goal.returns-clause-there
returns-clause-there c = inodes_are_there

pub returns-clause-broken : goal.returns-clause-broken
returns-clause-broken c = paths_tell
