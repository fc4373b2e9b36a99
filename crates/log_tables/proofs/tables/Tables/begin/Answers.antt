use Rattle.std.proofs.Common.{ap, ◌∙◌}
use Rattle.std.specs.FinMap as map
use Rattle.log_tables.specs.Kept.{Kept}
use Rattle.log_tables.proofs.Steps.{begins_all}
use Rattle.log_tables.proofs.tables.Tables.begin.Goals as goal

pub invariant_of-self : goal.invariant_of-self
invariant_of-self c = (begins_all c.self.inside c.args.self.now c.swap.new.x c.swap.new.y c.self.invariant c.self.view_is c.requires c.swap.ensures.x_after c.swap.ensures.y_after).0

pub returns : goal.returns
returns c =
    (begins_all c.self.inside c.args.self.now c.swap.new.x c.swap.new.y c.self.invariant c.self.view_is c.requires c.swap.ensures.x_after c.swap.ensures.y_after).1
    ∙ ap (λ (k : Kept). let x : Kept = record k { fresh = map.empty; flushed = k.fresh } in x) c.self.view_is
