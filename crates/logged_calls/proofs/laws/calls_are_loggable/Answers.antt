use Rattle.logged_calls.proofs.Room.{calls_are_loggable}
use Rattle.logged_calls.proofs.laws.calls_are_loggable.Goals as goal

pub returns : goal.returns
returns c = calls_are_loggable c.answers_can_be_added.ensures
