use Rattle.log_memory.proofs.Stages.{held_at}
use Rattle.log_memory.proofs.flushing.step.Goals as goal

pub step_from-requires-clause-at : goal.step_from-requires-clause-at
step_from-requires-clause-at c = held_at c.log.inside c.log.invariant c.args.log.now c.log.view_is c.in-Some.stage c.in-Some.is
