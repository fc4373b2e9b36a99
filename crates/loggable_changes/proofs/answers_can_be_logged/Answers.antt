use Rattle.loggable_changes.proofs.Logged.{answers_can_be_logged}
use Rattle.loggable_changes.proofs.answers_can_be_logged.Goals as goal

pub returns : goal.returns
returns c = answers_can_be_logged
