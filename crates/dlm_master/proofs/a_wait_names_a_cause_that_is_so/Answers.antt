use Rattle.dlm_master.proofs.CauseLaws.{cause-is-so}
use Rattle.dlm_master.proofs.a_wait_names_a_cause_that_is_so.Goals as goal

pub returns : goal.returns
returns c = cause-is-so
