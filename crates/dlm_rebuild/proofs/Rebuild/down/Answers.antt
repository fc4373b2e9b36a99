use Rattle.dlm_rebuild.proofs.ValueLaws.{written}
use Rattle.dlm_rebuild.proofs.Rebuild.down.Goals as goal

pub invariant_of-self : goal.invariant_of-self
invariant_of-self c = written c.self.inside.master c.down.new.self c.args.lock _ c.self.invariant (c.self.invariant.1 c.args.lock) c.down.ensures
