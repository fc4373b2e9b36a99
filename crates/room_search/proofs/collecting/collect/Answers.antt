use Rattle.std.proofs.Common.{◌<◌, ◌≤◌, length, subst, sym, arith}
use Rattle.std.specs.Prelude.{MatchOption}
use Rattle.glock_names.specs.Views.{end_of}
use Rattle.glock_names.proofs.StepLaws.{answer_at}
use Rattle.resource_groups.specs.Finding.{NoneIsFree, IsLeastFree}
use Rattle.resource_groups.specs.Shown.{said}
use Rattle.room_search.specs.Blocks.{free_in}
use Rattle.room_search.proofs.Collected.{IsCollected, enough, no_more, nothing_yet, one_more}
use Rattle.room_search.proofs.collecting.collect.Goals as goal

pub loop-need-init : goal.loop-need-init
loop-need-init g c = λ at before shown are.
    nothing_yet (g.V.View.seen c.args.view.now) at c.args.group.now c.block_size-size.ensures.view c.requires c.args.need before c.args.blocks.now.items are

pub loop-need-preserved : goal.loop-need-preserved
loop-need-preserved g c = λ at before shown are.
    let v = g.V.View.seen c.args.view.now in
    let group = c.args.group.now in
    let after = c.loop-need.after in
    let least = subst (λ x. MatchOption x (NoneIsFree at group after (end_of group)) (IsLeastFree at group after)) c.in-Is-Some.field-0-is (answer_at _ _ _ c.in-Is-Some.is (c.in_ok-block.ensures.found at shown)) in
    let few : length c.loop-need.blocks.items < c.args.need = omega (arith, c.len.ensures, c.loop-need-test.true) in
    let more = one_more v at group c.block_size-size.ensures.view c.requires c.args.need before c.loop-need.blocks.items after c.in-Is-Some.block (c.loop-need.invariant at before shown are) few least in
    let pushed = c.in_ok-push-in-Is-Some.ensures.items in
    subst (λ xs. IsCollected c.args.need before (free_in (said at) group) xs c.in-Is-Some.block) (sym pushed) more

pub returns-in-Is-None-clause-found : goal.returns-in-Is-None-clause-found
returns-in-Is-None-clause-found g c = λ at before shown are.
    let v = g.V.View.seen c.args.view.now in
    let group = c.args.group.now in
    let after = c.loop-need.after in
    let none = subst (λ x. MatchOption x (NoneIsFree at group after (end_of group)) (IsLeastFree at group after)) c.in-Is-None.field-0-is (answer_at _ _ _ c.in-Is-None.is (c.in_ok-block.ensures.found at shown)) in
    no_more v at group c.block_size-size.ensures.view c.requires c.args.need before c.loop-need.blocks.items after (c.loop-need.invariant at before shown are) none

pub returns-clause-found : goal.returns-clause-found
returns-clause-found g c = λ at before shown are.
    let v = g.V.View.seen c.args.view.now in
    let many : c.args.need ≤ length c.loop-need.blocks.items = omega (arith, c.len.ensures, c.loop-need-test.false) in
    enough c.args.need before (free_in (said at) c.args.group.now) c.loop-need.blocks.items c.loop-need.after (c.loop-need.invariant at before shown are) many
