use Rattle.dlm_rebuild.proofs.ValueLaws.{maybe-written}
use Rattle.dlm_rebuild.proofs.Rebuild.report.Goals as goal

pub invariant_of-self : goal.invariant_of-self
invariant_of-self c =
    maybe-written c.report.result c.self.inside.master c.report.new.self c.args.lock _ c.self.invariant (c.self.invariant.1 c.args.lock) c.report.ensures.ok c.report.ensures.err
