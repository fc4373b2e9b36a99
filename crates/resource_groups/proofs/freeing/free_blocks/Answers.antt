use Rattle.glock_names.proofs.StepLaws.{answer_at}
use Rattle.resource_groups.proofs.Freed.{nothing_freed, keeps_rest, are_freed}
use Rattle.resource_groups.proofs.freeing.free_blocks.Goals as goal

pub returns-in_err-set_states-clause-rest : goal.returns-in_err-set_states-clause-rest
returns-in_err-set_states-clause-rest g c =
    keeps_rest g.V.View.seen c.args.draft.now c.set_states.new.draft c.set_states.new.draft c.args.blocks.now c.set_states.ensures.view c.requires.blocks c.set_states.ensures.rest
    (nothing_freed c.set_states.new.draft c.args.blocks.now)

pub returns-in_err-free_each-in-Is-clause-rest : goal.returns-in_err-free_each-in-Is-clause-rest
returns-in_err-free_each-in-Is-clause-rest g c =
    keeps_rest g.V.View.seen c.args.draft.now c.set_states.new.draft c.free_each.new.draft c.args.blocks.now c.set_states.ensures.view c.requires.blocks c.set_states.ensures.rest c.free_each.ensures.rest

pub returns-in_ok-free_each-in-Is-clause-rest : goal.returns-in_ok-free_each-in-Is-clause-rest
returns-in_ok-free_each-in-Is-clause-rest g c =
    keeps_rest g.V.View.seen c.args.draft.now c.set_states.new.draft c.free_each.new.draft c.args.blocks.now c.set_states.ensures.view c.requires.blocks c.set_states.ensures.rest c.free_each.ensures.rest

pub returns-in_ok-free_each-in-Is-clause-freed : goal.returns-in_ok-free_each-in-Is-clause-freed
returns-in_ok-free_each-in-Is-clause-freed g c =
    are_freed g.V.View.seen c.args.draft.now c.set_states.new.draft c.free_each.new.draft c.args.blocks.now c.set_states.ensures.view c.requires.blocks c.set_states.ensures.rest c.free_each.ensures.rest
    (answer_at _ _ _ c.in-Is.is c.in_ok-set_states.ensures.set) c.in_ok-free_each-in-Is.ensures.freed

pub returns-in-NeedBlock-clause-rest : goal.returns-in-NeedBlock-clause-rest
returns-in-NeedBlock-clause-rest g c =
    keeps_rest g.V.View.seen c.args.draft.now c.set_states.new.draft c.set_states.new.draft c.args.blocks.now c.set_states.ensures.view c.requires.blocks c.set_states.ensures.rest
    (nothing_freed c.set_states.new.draft c.args.blocks.now)
