use Rattle.std.proofs.Common.{subst}
use Rattle.glock_names.specs.Steps.{IfIs, IfNeedBlock, IfDamaged}
use Rattle.resource_groups.specs.Shown.{IsShown, IsBroken}
use Rattle.drafts.specs.Fates.{seen_in}
use Rattle.resource_groups.specs.Putting.{IsPutIn, PutsTwo, KeepsOthers, IsOneOfTwo, overlaid}
use Rattle.resource_groups.proofs.Apart.{one_group}
use Rattle.resource_groups.proofs.putting.set_state.Goals as goal

pub returns-clause-put : goal.returns-clause-put
returns-clause-put g c h at has own shown =
    let same = one_group (seen_in g.V.View.seen c.args.draft.now) c.args.block c.in-Some.group h c.set_in_group.ensures.view c.in-Some.ensures.group c.in-Some.ensures.own has own in
    subst (λ x. IsShown (seen_in g.V.View.seen c.args.draft.now) x at → IfIs c.set_in_group.result (λ done. IsPutIn at (overlaid (seen_in g.V.View.seen c.set_in_group.new.draft) at) x c.args.block c.args.state)) same
    (c.set_in_group.ensures.put at) shown

pub returns-clause-two : goal.returns-clause-two
returns-clause-two g c h at has own shown =
    let same = one_group (seen_in g.V.View.seen c.args.draft.now) c.args.block c.in-Some.group h c.set_in_group.ensures.view c.in-Some.ensures.group c.in-Some.ensures.own has own in
    subst (λ x. IsShown (seen_in g.V.View.seen c.args.draft.now) x at → IfIs c.set_in_group.result
    (λ done. PutsTwo (g.V.View.seen c.args.draft.now.view).size c.args.draft.now c.set_in_group.new.draft (overlaid (seen_in g.V.View.seen c.set_in_group.new.draft) at) x c.args.block)) same
    (c.set_in_group.ensures.two at) shown

pub returns-clause-needed : goal.returns-clause-needed
returns-clause-needed g c h has own =
    let same = one_group (seen_in g.V.View.seen c.args.draft.now) c.args.block c.in-Some.group h c.set_in_group.ensures.view c.in-Some.ensures.group c.in-Some.ensures.own has own in
    subst (λ x. IfNeedBlock c.set_in_group.result (IsOneOfTwo (seen_in g.V.View.seen c.args.draft.now) x c.args.block)) same c.set_in_group.ensures.needed

pub returns-clause-damaged : goal.returns-clause-damaged
returns-clause-damaged g c h at has own shown =
    let same = one_group (seen_in g.V.View.seen c.args.draft.now) c.args.block c.in-Some.group h c.set_in_group.ensures.view c.in-Some.ensures.group c.in-Some.ensures.own has own in
    subst (λ x. IsShown (seen_in g.V.View.seen c.args.draft.now) x at → IfDamaged c.set_in_group.result (IsBroken at x)) same (c.set_in_group.ensures.damaged at) shown

pub returns-clause-others : goal.returns-clause-others
returns-clause-others g c h has own =
    let same = one_group (seen_in g.V.View.seen c.args.draft.now) c.args.block c.in-Some.group h c.set_in_group.ensures.view c.in-Some.ensures.group c.in-Some.ensures.own has own in
    subst (λ x. KeepsOthers c.args.draft.now c.set_in_group.new.draft x) same c.set_in_group.ensures.others
