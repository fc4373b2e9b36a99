use Rattle.dlm_master.proofs.TakeLaws.{only-lowers-take}
use Rattle.dlm_master.proofs.only_lowers_take.Goals as goal

pub returns : goal.returns
returns c = only-lowers-take
