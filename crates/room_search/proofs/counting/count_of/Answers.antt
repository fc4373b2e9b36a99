use Rattle.std.proofs.Common.{rules, ◌≡◌, true, false, Ok, subst, ◌∙◌}
use Rattle.glock_names.specs.Steps.{IfNeedBlock}
use Rattle.glock_names.proofs.StepLaws.{answer_at}
use Rattle.resource_groups.specs.Shown.{IsMissing}
use Rattle.path_walks.specs.Holds.{holds, hold_of_group}
use Rattle.room_search.proofs.Free.{free_count}
use Rattle.room_search.proofs.Holds.{block_one, held_one, lack_one}
use Rattle.room_search.proofs.counting.count_of.Goals as goal

pub returns-then-not-is_at_most-clause-found : goal.returns-then-not-is_at_most-clause-found
returns-then-not-is_at_most-clause-found g c = λ at shown.
    let v = g.V.View.seen c.args.view.now in
    let lacks : holds v (hold_of_group c.args.group.now) ≡ false = search rules in
    lack_one v (hold_of_group c.args.group.now) lacks

pub returns-in-Is-clause-found : goal.returns-in-Is-clause-found
returns-in-Is-clause-found g c = λ at shown.
    let v = g.V.View.seen c.args.view.now in
    let group = c.args.group.now in
    let held : holds v (hold_of_group group) ≡ true = search rules in
    let count = answer_at _ _ _ c.in-Is.is (c.in_ok-count.ensures.bits at (shown group c.requires)) in
    (held_one v (hold_of_group group) held, count ∙ free_count at group)

pub returns-in-NeedBlock-clause-found : goal.returns-in-NeedBlock-clause-found
returns-in-NeedBlock-clause-found g c = λ at shown.
    let v = g.V.View.seen c.args.view.now in
    let held : holds v (hold_of_group c.args.group.now) ≡ true = search rules in
    block_one v c.args.group.now c.in-NeedBlock.missing c.requires (subst (λ r. IfNeedBlock (Ok r) (IsMissing v c.args.group.now)) c.in-NeedBlock.is c.in_ok-count.ensures.needed) held
