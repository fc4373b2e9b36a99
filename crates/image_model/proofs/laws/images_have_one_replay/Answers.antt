use Rattle.image_model.proofs.Replaying.{one_replay, replayed_by_any, replayed_is_there}
use Rattle.image_model.proofs.laws.images_have_one_replay.Goals as goal

pub returns-clause-one : goal.returns-clause-one
returns-clause-one c = one_replay

pub returns-clause-any : goal.returns-clause-any
returns-clause-any c = replayed_by_any

pub returns-clause-there : goal.returns-clause-there
returns-clause-there c = replayed_is_there

pub returns-clause-none : goal.returns-clause-none
returns-clause-none c im replayed l block twice is = twice.apart (is.replayable.once twice.one twice.other block twice.live)
