use Rattle.lone_machine.proofs.Going.{answers_alone, syncs_alone}
use Rattle.lone_machine.proofs.it_answers_alone.Goals as goal

pub returns-clause-call : goal.returns-clause-call
returns-clause-call g c = answers_alone (g.S.LoneSystem.files)

pub returns-clause-sync : goal.returns-clause-sync
returns-clause-sync g c = syncs_alone (g.S.LoneSystem.files)
