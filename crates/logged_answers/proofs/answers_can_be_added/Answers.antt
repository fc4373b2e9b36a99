use Rattle.logged_answers.proofs.Logging.{answers_can_be_added}
use Rattle.logged_answers.proofs.answers_can_be_added.Goals as goal

pub returns : goal.returns
returns c = answers_can_be_added
