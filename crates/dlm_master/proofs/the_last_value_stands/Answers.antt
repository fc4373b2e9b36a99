use Rattle.dlm_master.proofs.ValueLaws.{last-value-stands}
use Rattle.dlm_master.proofs.the_last_value_stands.Goals as goal

pub returns : goal.returns
returns c = last-value-stands
