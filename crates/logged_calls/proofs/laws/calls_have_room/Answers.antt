use Rattle.logged_calls.proofs.Room.{calls_have_room}
use Rattle.logged_calls.proofs.laws.calls_have_room.Goals as goal

pub returns : goal.returns
returns c = calls_have_room c.answers_have_room.ensures
