use Rattle.gfs2_layout.proofs.BitmapLaws.{state_same, state_other}
use Rattle.gfs2_layout.proofs.laws.states_are_put_and_read.Goals as goal

pub returns-clause-put : goal.returns-clause-put
returns-clause-put c = state_same

pub returns-clause-others : goal.returns-clause-others
returns-clause-others c = state_other
