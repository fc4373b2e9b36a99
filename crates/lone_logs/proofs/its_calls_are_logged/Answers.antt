use Rattle.lone_logs.proofs.Calling.{calls_are_logged}
use Rattle.lone_logs.proofs.Quiet.{quiet_calls_are_logged, spaceless_calls_are_logged, syncs_are_logged}
use Rattle.lone_logs.proofs.its_calls_are_logged.Goals as goal

pub returns-clause-changing : goal.returns-clause-changing
returns-clause-changing c = calls_are_logged

pub returns-clause-quiet : goal.returns-clause-quiet
returns-clause-quiet c = quiet_calls_are_logged

pub returns-clause-spaceless : goal.returns-clause-spaceless
returns-clause-spaceless c = spaceless_calls_are_logged

pub returns-clause-sync : goal.returns-clause-sync
returns-clause-sync c = syncs_are_logged
