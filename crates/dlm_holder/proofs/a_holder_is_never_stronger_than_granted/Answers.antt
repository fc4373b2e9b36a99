use Rattle.dlm_holder.proofs.Covering.{never-stronger}
use Rattle.dlm_holder.proofs.a_holder_is_never_stronger_than_granted.Goals as goal

pub returns : goal.returns
returns c = never-stronger
