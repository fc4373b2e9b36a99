use Rattle.image_model.proofs.SystemStays.{replay_keeps, system_back, system_there}
use Rattle.image_model.proofs.laws.replays_keep_system_files.Goals as goal

pub returns-clause-kept : goal.returns-clause-kept
returns-clause-kept c = replay_keeps

pub returns-clause-same : goal.returns-clause-same
returns-clause-same c im other same fits b = (system_there im other same fits b, system_back im other same fits b)
