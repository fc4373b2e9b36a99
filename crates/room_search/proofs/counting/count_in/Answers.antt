use Rattle.std.proofs.Common.{◌≡◌, ℕ, [], ◌∷◌, get_or, length, map, subst, ◌∙◌, arith}
use Rattle.std.proofs.lemmas.List.{take_all}
use Rattle.glock_names.specs.declared.views.Group.{Group}
use Rattle.resource_groups.specs.Shown.{said}
use Rattle.path_walks.specs.Holds.{AreHeld, hold_of_group}
use Rattle.room_search.specs.Blocks.{free_in, free_in_all}
use Rattle.room_search.specs.Searches.{IsUnder}
use Rattle.room_search.proofs.Counted.{count_more}
use Rattle.room_search.proofs.Holds.{next_block, next_held, next_lack}
use Rattle.room_search.proofs.counting.count_in.Goals as goal

abbrev nobody : Group
nobody = record { addr = 0; length = 0; first = 0; count = 0 }

pub returns-in-NeedLock-clause-found : goal.returns-in-NeedLock-clause-found
returns-in-NeedLock-clause-found g c = λ at shown.
    let v = g.V.View.seen c.args.view.now in
    let groups = c.args.groups.now in
    let i = c.loop-group.group-index in
    let x : Group = get_or groups i nobody in
    next_lack v groups i nobody c.loop-group-test.true (c.loop-group.invariant.held at shown) c.in-NeedLock.lock c.in-NeedLock.state
    (subst (IsUnder v (hold_of_group x ∷ []) (λ (n : ℕ). n ≡ length (free_in (said at) x))) c.in-NeedLock.is (c.in_ok-more.ensures.found at shown))

pub returns-in-NeedBlock-clause-found : goal.returns-in-NeedBlock-clause-found
returns-in-NeedBlock-clause-found g c = λ at shown.
    let v = g.V.View.seen c.args.view.now in
    let groups = c.args.groups.now in
    let i = c.loop-group.group-index in
    let x : Group = get_or groups i nobody in
    next_block v groups i nobody c.loop-group-test.true (c.loop-group.invariant.held at shown) c.in-NeedBlock.missing
    (subst (IsUnder v (hold_of_group x ∷ []) (λ (n : ℕ). n ≡ length (free_in (said at) x))) c.in-NeedBlock.is (c.in_ok-more.ensures.found at shown))

pub loop-group-preserved : goal.loop-group-preserved
loop-group-preserved g c = record {
  most = omega (arith, c.loop-group.invariant.most, c.from-count.ensures);
  held = λ at shown.
      let v = g.V.View.seen c.args.view.now in
      let groups = c.args.groups.now in
      let i = c.loop-group.group-index in
      let x : Group = get_or groups i nobody in
      let found = subst (IsUnder v (hold_of_group x ∷ []) (λ (n : ℕ). n ≡ length (free_in (said at) x))) c.in-Is.is (c.in_ok-more.ensures.found at shown) in
      next_held v groups i nobody c.loop-group-test.true (c.loop-group.invariant.held at shown) found.0;
  free = λ at shown.
      let v = g.V.View.seen c.args.view.now in
      let groups = c.args.groups.now in
      let i = c.loop-group.group-index in
      let x : Group = get_or groups i nobody in
      let found = subst (IsUnder v (hold_of_group x ∷ []) (λ (n : ℕ). n ≡ length (free_in (said at) x))) c.in-Is.is (c.in_ok-more.ensures.found at shown) in
      count_more (said at) groups i nobody c.loop-group.count c.from-count.result c.loop-group-test.true (c.loop-group.invariant.free at shown) (c.from-count.ensures ∙ found.1);
}

pub returns-clause-found : goal.returns-clause-found
returns-clause-found g c = λ at shown.
    let v = g.V.View.seen c.args.view.now in
    let whole = take_all c.loop-group.group-index c.args.groups.now c.loop-group-test.false in (
      subst (λ gs. AreHeld v (map hold_of_group gs)) whole (c.loop-group.invariant.held at shown),
      subst (λ gs. c.loop-group.count ≡ length (free_in_all (said at) gs)) whole (c.loop-group.invariant.free at shown),
    )
