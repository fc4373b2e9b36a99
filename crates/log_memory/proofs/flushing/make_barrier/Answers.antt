use Rattle.std.proofs.Common.{[], ap, sym, subst, ◌∙◌}
use Rattle.log_values.specs.Log.{LogValue}
use Rattle.log_values.specs.Flushing.{FlushStep}
use Rattle.log_values.specs.declared.steps.LogStep.TheVariants as step
use Rattle.log_memory.specs.declared.kinds.Stage.TheVariants as held
use Rattle.log_memory.proofs.Stages.{all_written, barrier_from_here, barrier_from_there, staged_is, step_stays}
use Rattle.log_memory.proofs.flushing.make_barrier.Goals as goal

pub invariant_of-log : goal.invariant_of-log
invariant_of-log c =
    step_stays c.log.inside c.log.invariant c.settle.new.self c.log.view_is c.requires.flush (ap (λ (x : LogValue). x.flush) c.settle.ensures.same ∙ c.requires.begun) held.Ending [] step.Barrier
    (barrier_from_there c.args.log.now c.settle.new.self c.settle.ensures c.requires.flush c.requires.at [])

pub returns : goal.returns
returns c = λ f bytes begun.
    subst (λ (x : LogValue). FlushStep c.args.log.now x f bytes step.Barrier)
    (sym (staged_is c.log.inside c.log.invariant c.settle.new.self c.log.view_is f (ap (λ (x : LogValue). x.flush) c.settle.ensures.same ∙ begun) held.Ending))
    (barrier_from_here c.args.log.now c.settle.new.self c.settle.ensures f (all_written c.args.log.now c.requires f begun) bytes)
