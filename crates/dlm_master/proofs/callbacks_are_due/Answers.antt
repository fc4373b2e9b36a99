use Rattle.dlm_master.proofs.CallbackLaws.{callbacks-are-due}
use Rattle.dlm_master.proofs.callbacks_are_due.Goals as goal

pub returns : goal.returns
returns c = callbacks-are-due
