use Rattle.image_machine.proofs.Answering.{done_is_answered, spaceless_is_answered, sync_is_answered}
use Rattle.image_machine.proofs.answers_are_the_machines.Goals as goal

pub returns-clause-done : goal.returns-clause-done
returns-clause-done c = done_is_answered

pub returns-clause-spaceless : goal.returns-clause-spaceless
returns-clause-spaceless c = spaceless_is_answered

pub returns-clause-sync : goal.returns-clause-sync
returns-clause-sync c = sync_is_answered
