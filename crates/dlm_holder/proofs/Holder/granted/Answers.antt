use Rattle.dlm_holder.proofs.Writing.{written}
use Rattle.dlm_holder.proofs.Holder.granted.Goals as goal

pub returns : goal.returns
returns c = written c.insert.result _ _ _ c.args.lock _ c.self.view_is c.insert.ensures.entries c.insert.ensures.absent c.requires
