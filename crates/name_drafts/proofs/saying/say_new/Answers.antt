use Rattle.std.proofs.Common.{ℕ, List, [], ◌∷◌}
use Rattle.drafts.specs.Fates.{seen_in}
use Rattle.glock_names.specs.Views.{IsOfView}
use Rattle.glock_names.proofs.StepLaws.{answer_at}
use Rattle.path_walks.proofs.Faults.{told_on, tells_so}
use Rattle.resource_groups.specs.Freeing.{BreaksSome}
use Rattle.resource_groups.specs.Putting.{overlaid}
use Rattle.resource_groups.proofs.Sets.{one_has, some_bytes, some_shown, tells_some}
use Rattle.name_drafts.proofs.Faults.{kept_before, sees_below, shown_then, tells_both}
use Rattle.name_drafts.proofs.Said.{breaks_number, sees1}
use Rattle.name_drafts.proofs.saying.say_new.Goals as goal

pub returns-in_err-number-clause-damaged : goal.returns-in_err-number-clause-damaged
returns-in_err-number-clause-damaged g c =
    let v = g.V.View.seen c.args.draft.now.view in
    let k = c.args.new.now.group in
    told_on (BreaksSome v (c.args.new.now.block ∷ [])) _ _ c.from_residual.ensures.1
    (tells_some c.in_err-number.field-0.0 v k (c.args.new.now.block ∷ []) c.requires.group (c.args.new.now.block, one_has c.args.new.now.block, c.requires.block)
    (λ at shown. c.in_err-number.ensures.damaged at (shown_then v c.args.draft.now.fates c.requires.groups k at c.requires.group shown)))

pub returns-in_err-number-clause-kept : goal.returns-in_err-number-clause-kept
returns-in_err-number-clause-kept g c =
    let v = g.V.View.seen c.args.draft.now.view in
    let k = c.args.new.now.group in
    let w = seen_in g.V.View.seen c.args.draft.now in
    let blocks : List ℕ = c.args.new.now.block ∷ [] in
    told_on (IsOfView v) _ _ c.from_residual.ensures.1
    (tells_both (BreaksSome v blocks) (IsOfView w) (IsOfView v)
    (λ rule b breaks there. kept_before v c.args.draft.now.fates c.requires.groups c.is_a_view.ensures w (sees_below v c.args.draft.now.fates c.requires.groups) blocks rule b breaks there)
    c.in_err-number.field-0.0
    (tells_some c.in_err-number.field-0.0 v k blocks c.requires.group (c.args.new.now.block, one_has c.args.new.now.block, c.requires.block)
    (λ at shown. c.in_err-number.ensures.damaged at (shown_then v c.args.draft.now.fates c.requires.groups k at c.requires.group shown)))
    c.in_err-number.ensures.kept)

pub returns-in_err-say_dinode-clause-damaged : goal.returns-in_err-say_dinode-clause-damaged
returns-in_err-say_dinode-clause-damaged g c =
    let v = g.V.View.seen c.args.draft.now.view in
    let k = c.args.new.now.group in
    let w = seen_in g.V.View.seen c.args.draft.now in
    let blocks : List ℕ = c.args.new.now.block ∷ [] in
    let put = answer_at _ _ _ c.in-Is.is (c.in_ok-number.ensures.one (some_bytes w) (some_shown w k c.is_a_view.ensures)) in
    told_on (BreaksSome v blocks) _ _ c.from_residual-in_err-say_dinode.ensures.1
    (tells_so (BreaksSome (seen_in g.V.View.seen c.take_number.new.draft) blocks) (BreaksSome v blocks)
    (breaks_number g.V.View.seen c.args.draft.now c.take_number.new.draft k (overlaid (seen_in g.V.View.seen c.take_number.new.draft) (some_bytes w) k.addr) put c.is_a_view.ensures c.requires.group c.requires.groups c.say_dinode.ensures.view c.in-Is.number
    (λ at shown. answer_at _ _ _ c.in-Is.is (c.in_ok-number.ensures.put at shown)) blocks)
    c.in_err-say_dinode.field-0.0 c.in_err-say_dinode.ensures.damaged)

pub returns-in_err-say_dinode-clause-kept : goal.returns-in_err-say_dinode-clause-kept
returns-in_err-say_dinode-clause-kept g c =
    let v = g.V.View.seen c.args.draft.now.view in
    let k = c.args.new.now.group in
    let w = seen_in g.V.View.seen c.args.draft.now in
    let d1 = c.take_number.new.draft in
    let blocks : List ℕ = c.args.new.now.block ∷ [] in
    let put = answer_at _ _ _ c.in-Is.is (c.in_ok-number.ensures.one (some_bytes w) (some_shown w k c.is_a_view.ensures)) in
    told_on (IsOfView v) _ _ c.from_residual-in_err-say_dinode.ensures.1
    (tells_both (BreaksSome (seen_in g.V.View.seen d1) blocks) (IsOfView (seen_in g.V.View.seen d1)) (IsOfView v)
    (λ rule b breaks there.
    kept_before v c.args.draft.now.fates c.requires.groups c.is_a_view.ensures (seen_in g.V.View.seen d1)
    (sees1 g.V.View.seen c.args.draft.now d1 k (overlaid (seen_in g.V.View.seen c.take_number.new.draft) (some_bytes w) k.addr) put c.is_a_view.ensures c.requires.group c.requires.groups c.requires.there) blocks rule b
    (breaks_number g.V.View.seen c.args.draft.now d1 k (overlaid (seen_in g.V.View.seen c.take_number.new.draft) (some_bytes w) k.addr) put c.is_a_view.ensures c.requires.group c.requires.groups c.say_dinode.ensures.view c.in-Is.number
    (λ at shown. answer_at _ _ _ c.in-Is.is (c.in_ok-number.ensures.put at shown)) blocks rule b breaks) there)
    c.in_err-say_dinode.field-0.0 c.in_err-say_dinode.ensures.damaged c.in_err-say_dinode.ensures.kept)

pub returns-clause-said : goal.returns-clause-said
returns-clause-said g c =
    let k = c.args.new.now.group in
    let w = seen_in g.V.View.seen c.args.draft.now in
    record {
      header = overlaid (seen_in g.V.View.seen c.take_number.new.draft) (some_bytes w) k.addr;
      mid = c.take_number.new.draft;
      put = answer_at _ _ _ c.in-Is.is (c.in_ok-number.ensures.one (some_bytes w) (some_shown w k c.is_a_view.ensures));
      numbered = λ at shown. answer_at _ _ _ c.in-Is.is (c.in_ok-number.ensures.put at shown);
      shows = c.say_dinode.ensures.view;
      then = c.is_a_view-2.ensures;
      set = answer_at _ _ _ c.in-Is-2.is c.in_ok-say_dinode.ensures.set;
      rest = c.say_dinode.ensures.rest;
    }

pub returns-clause-next : goal.returns-clause-next
returns-clause-next g c at shown =
    answer_at _ _ _ c.in-Is.is (c.in_ok-number.ensures.number at (shown_then (g.V.View.seen c.args.draft.now.view) c.args.draft.now.fates c.requires.groups c.args.new.now.group at c.requires.group shown))
