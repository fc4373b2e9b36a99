use Rattle.lone_machine.proofs.Logging.{no_versions, versions_grow}
use Rattle.lone_machine.proofs.versions_grow.Goals as goal

pub returns-clause-grow : goal.returns-clause-grow
returns-clause-grow g c = versions_grow (g.S.LoneSystem.files)

pub returns-clause-none : goal.returns-clause-none
returns-clause-none g c = no_versions (g.S.LoneSystem.files)
