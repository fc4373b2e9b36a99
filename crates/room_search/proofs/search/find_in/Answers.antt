use Rattle.std.proofs.Common.{◌≡◌, ℕ, length, map, subst, ◌≤◌}
use Rattle.glock_names.proofs.StepLaws.{answer_at, needed_at}
use Rattle.resource_groups.specs.Shown.{said}
use Rattle.path_walks.specs.Holds.{hold_of_group}
use Rattle.path_walks.proofs.Faults.{told_on, tells_so}
use Rattle.room_search.specs.Blocks.{free_in_all}
use Rattle.room_search.specs.Parts.{IsBrokenIn}
use Rattle.room_search.specs.Searches.{IsGroupBroken, IsUnder}
use Rattle.room_search.proofs.Holds.{block_under, group_listed, held_in}
use Rattle.room_search.proofs.Shown.{bytes_shown}
use Rattle.room_search.proofs.search.find_in.Goals as goal

pub returns-in_err-blocks-clause-damaged : goal.returns-in_err-blocks-clause-damaged
returns-in_err-blocks-clause-damaged g c =
    let v = g.V.View.seen c.args.view.now in
    let groups = c.args.groups.now in
    let at = bytes_shown v c.block_size-size.ensures.view in
    let count = subst (IsUnder v (map hold_of_group groups) (λ (n : ℕ). n ≡ length (free_in_all (said at.0) groups))) c.in-Is.is (c.in_ok-count.ensures.found at.0 (λ k has. at.1 k)) in
    told_on (IsGroupBroken v) _ _ c.from_residual-in_err-blocks.ensures.1
    (tells_so (IsBrokenIn v groups) (IsGroupBroken v)
    (λ rule b is. record { group = is.group; has = c.requires.of_view is.group is.one; held = held_in v (map hold_of_group groups) (hold_of_group is.group) count.0 (group_listed groups is.group is.one); broken = is.broken })
    c.in_err-blocks.field-0.0 c.in_err-blocks.ensures.damaged)

pub returns-in-Is-2-clause-found : goal.returns-in-Is-2-clause-found
returns-in-Is-2-clause-found g c = λ at shown.
    let v = g.V.View.seen c.args.view.now in
    let groups = c.args.groups.now in
    let count = subst (IsUnder v (map hold_of_group groups) (λ (n : ℕ). n ≡ length (free_in_all (said at) groups))) c.in-Is.is (c.in_ok-count.ensures.found at shown) in
    let many : c.args.need ≤ length (free_in_all (said at) groups) = subst (λ n. c.args.need ≤ n) count.1 (c.if-count-need.false) in
    (count.0, (answer_at _ _ _ c.in-Is-2.is (c.in_ok-blocks.ensures.found at shown), many))

pub returns-in-NeedBlock-2-clause-found : goal.returns-in-NeedBlock-2-clause-found
returns-in-NeedBlock-2-clause-found g c = λ at shown.
    let v = g.V.View.seen c.args.view.now in
    let groups = c.args.groups.now in
    let count = subst (IsUnder v (map hold_of_group groups) (λ (n : ℕ). n ≡ length (free_in_all (said at) groups))) c.in-Is.is (c.in_ok-count.ensures.found at shown) in
    let is = needed_at _ _ _ c.in-NeedBlock-2.is (c.in_ok-blocks.ensures.needed at shown) in
    block_under v (map hold_of_group groups) is.group c.in-NeedBlock-2.missing count.0 (group_listed groups is.group is.one) (c.requires.of_view is.group is.one) is.missing
