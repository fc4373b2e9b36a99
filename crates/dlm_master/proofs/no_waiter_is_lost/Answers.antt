use Rattle.dlm_master.proofs.TurnLaws.{no-waiter-is-lost}
use Rattle.dlm_master.proofs.no_waiter_is_lost.Goals as goal

pub returns : goal.returns
returns c = no-waiter-is-lost
