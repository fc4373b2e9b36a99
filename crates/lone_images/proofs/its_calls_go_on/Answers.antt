use Rattle.lone_images.proofs.Calling.{calls_go_on, spaceless_goes_on, sync_goes_on}
use Rattle.lone_images.proofs.its_calls_go_on.Goals as goal

pub returns-clause-done : goal.returns-clause-done
returns-clause-done c = calls_go_on

pub returns-clause-spaceless : goal.returns-clause-spaceless
returns-clause-spaceless c = spaceless_goes_on

pub returns-clause-sync : goal.returns-clause-sync
returns-clause-sync c = sync_goes_on
