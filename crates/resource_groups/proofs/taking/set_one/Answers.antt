use Rattle.resource_groups.proofs.Sets.{keeps_put, set_if}
use Rattle.resource_groups.proofs.taking.set_one.Goals as goal

pub returns-clause-set : goal.returns-clause-set
returns-clause-set g c =
    set_if g.V.View.seen c.args.draft.now c.set_state.new.draft c.args.block c.args.state c.set_state.result c.set_state.ensures.view
    (keeps_put g.V.View.seen c.args.draft.now c.set_state.new.draft c.args.block c.set_state.ensures.view c.requires.block c.set_state.ensures.others)
    c.set_state.ensures.put c.set_state.ensures.two c.set_state.ensures.sees

pub returns-clause-rest : goal.returns-clause-rest
returns-clause-rest g c = keeps_put g.V.View.seen c.args.draft.now c.set_state.new.draft c.args.block c.set_state.ensures.view c.requires.block c.set_state.ensures.others
