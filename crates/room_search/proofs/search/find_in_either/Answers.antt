use Rattle.std.proofs.Common.{◌≡◌, List, ap, map, subst, ◌∙◌, arith}
use Rattle.glock_names.specs.declared.views.Group.{Group}
use Rattle.path_walks.specs.Holds.{hold_of_group}
use Rattle.resource_groups.specs.Shown.{said}
use Rattle.room_search.specs.Blocks.{first_holds, free_in_all}
use Rattle.room_search.specs.Parts.{IsFrontOf}
use Rattle.room_search.specs.Searches.{IsTakenOf, IsUnder}
use Rattle.room_search.specs.declared.search.Locked.TheVariants as locked
use Rattle.room_search.proofs.Room.{block_first, lack_first, ok_so, taken_all, taken_first}
use Rattle.room_search.proofs.search.find_in_either.Goals as goal

pub returns-in-Is-Is-clause-found : goal.returns-in-Is-Is-clause-found
returns-in-Is-Is-clause-found g c = λ at shown.
    let v = g.V.View.seen c.args.view.now in
    let first : List Group = c.args.first.now in
    let some : c.args.need ≡ 0 → ⊥ = λ e. absurd (omega (arith, e, c.if-need-eq0.false)) in
    taken_first v (said at) first c.args.need some c.in-Is-Is.blocks c.requires.of_view c.requires.rise
    (subst (IsUnder v (map hold_of_group first) (IsFrontOf (free_in_all (said at) first) c.args.need)) (c.in-Is-Is.is ∙ ap locked.Is c.in-Is-Is.field-0-is) (c.in_ok-blocks.ensures.found at shown))

pub returns-in-Is-TooFew-clause-found : goal.returns-in-Is-TooFew-clause-found
returns-in-Is-TooFew-clause-found g c = λ at shown.
    let v = g.V.View.seen c.args.view.now in
    let first : List Group = c.args.first.now in
    let need = c.args.need in
    let some : need ≡ 0 → ⊥ = λ e. absurd (omega (arith, e, c.if-need-eq0.false)) in
    let short = subst (IsUnder v (map hold_of_group first) (IsFrontOf (free_in_all (said at) first) need)) (c.in-Is-TooFew.is ∙ ap locked.Is c.in-Is-TooFew.field-0-is) (c.in_ok-blocks.ensures.found at shown) in
    let all : List Group = c.groups.result.now in
    ok_so (IsUnder v (map hold_of_group all) (IsFrontOf (free_in_all (said at) all) need)) (IsUnder v (first_holds (said at) v.groups first need) (IsTakenOf v (said at) v.groups first need)) c.find_in-in-Is-TooFew.result
    (λ r is. taken_all v (said at) first need some c.in-Is-TooFew.field-0-0 r c.block_size-size.ensures.view short
    (subst (λ (gs : List Group). IsUnder v (map hold_of_group gs) (IsFrontOf (free_in_all (said at) gs) need) r) c.groups.ensures is))
    (c.find_in-in-Is-TooFew.ensures.found at shown)

pub returns-in-NeedLock-clause-found : goal.returns-in-NeedLock-clause-found
returns-in-NeedLock-clause-found g c = λ at shown.
    let v = g.V.View.seen c.args.view.now in
    let first : List Group = c.args.first.now in
    let some : c.args.need ≡ 0 → ⊥ = λ e. absurd (omega (arith, e, c.if-need-eq0.false)) in
    lack_first v (said at) first c.args.need some c.in-NeedLock.lock c.in-NeedLock.state
    (subst (IsUnder v (map hold_of_group first) (IsFrontOf (free_in_all (said at) first) c.args.need)) c.in-NeedLock.is (c.in_ok-blocks.ensures.found at shown))

pub returns-in-NeedBlock-clause-found : goal.returns-in-NeedBlock-clause-found
returns-in-NeedBlock-clause-found g c = λ at shown.
    let v = g.V.View.seen c.args.view.now in
    let first : List Group = c.args.first.now in
    let some : c.args.need ≡ 0 → ⊥ = λ e. absurd (omega (arith, e, c.if-need-eq0.false)) in
    block_first v (said at) first c.args.need some c.in-NeedBlock.missing
    (subst (IsUnder v (map hold_of_group first) (IsFrontOf (free_in_all (said at) first) c.args.need)) c.in-NeedBlock.is (c.in_ok-blocks.ensures.found at shown))
