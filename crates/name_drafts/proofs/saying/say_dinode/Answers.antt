use Rattle.std.proofs.Common.{[], ◌∷◌}
use Rattle.drafts.specs.Fates.{seen_in}
use Rattle.glock_names.proofs.StepLaws.{needed_so}
use Rattle.resource_groups.specs.Freeing.{IsNeededFor}
use Rattle.resource_groups.specs.Putting.{IsOneOfTwo}
use Rattle.resource_groups.proofs.Sets.{keeps_put, one_has, set_if}
use Rattle.name_drafts.proofs.saying.say_dinode.Goals as goal

pub returns-clause-set : goal.returns-clause-set
returns-clause-set g c =
    set_if g.V.View.seen c.args.draft.now c.set_state.new.draft c.args.block 3 c.set_state.result c.set_state.ensures.view
    (keeps_put g.V.View.seen c.args.draft.now c.set_state.new.draft c.args.block c.set_state.ensures.view c.requires c.set_state.ensures.others)
    c.set_state.ensures.put c.set_state.ensures.two c.set_state.ensures.sees

pub returns-clause-rest : goal.returns-clause-rest
returns-clause-rest g c = keeps_put g.V.View.seen c.args.draft.now c.set_state.new.draft c.args.block c.set_state.ensures.view c.requires c.set_state.ensures.others

pub returns-clause-needed : goal.returns-clause-needed
returns-clause-needed g c =
    needed_so c.set_state.result (IsOneOfTwo (seen_in g.V.View.seen c.args.draft.now) c.requires.0 c.args.block) (IsNeededFor (seen_in g.V.View.seen c.args.draft.now) (c.args.block ∷ []))
    (λ m two. (c.requires.0, c.requires.1, (c.args.block, one_has c.args.block, c.requires.2, two))) (c.set_state.ensures.needed c.requires.0 c.requires.1 c.requires.2)
