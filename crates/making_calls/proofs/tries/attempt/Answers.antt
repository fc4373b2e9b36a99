use Rattle.std.proofs.Common.{◌≡◌, ◌<◌, true, true≢false, None, Ok, sym, ◌∙◌, subst}
use Rattle.std.specs.List.{AllByRecursion}
use Rattle.cluster_history.specs.Changes.{is_ok}
use Rattle.file_tree.specs.declared.reply.Reply.TheVariants as reply
use Rattle.image_changes.specs.Does.{Does, IsInside, AreInside}
use Rattle.image_changes.proofs.Doing.{nothing_does}
use Rattle.name_drafts.specs.Answers.{IfDone, IfNeedBlock, IfNoSpace, HasSpace}
use Rattle.making_calls.specs.Making.{IsFound, IsMade, IsRefusal, IsStamped, IsToldOf, IsAnswered, IsFullFor, IfMade, call_holds}
use Rattle.making_calls.proofs.Taking.{needed_absent}
use Rattle.making_calls.proofs.Under.{nothing_under}
use Rattle.making_calls.proofs.tries.attempt.Goals.{in-Refused, in-Made, in-NeedBlock, in-NotBuilt, in-NeedLock, in-NoSpace}
use Rattle.making_calls.proofs.tries.attempt.Goals as goal
use Rattle.name_drafts.specs.Holds.{IsUnder}
use Rattle.name_drafts.proofs.Refused.{no_change}

pub returns-clause-done : goal.returns-clause-done
returns-clause-done g c =
    let v = g.V.View.seen c.args.view.now in
    elim c.match-branch-2.branch [
      | in-Refused w ↦ subst (λ a. IfDone (Ok a) (Does v c.args.call.now)) (sym w.result-is)
          (nothing_does v c.args.call.now w.in-Refused.reply w.nothing.result w.nothing.ensures.blocks w.nothing.ensures.locks w.nothing.ensures.freed
          (no_change c.args.call.now w.in-Refused.reply (subst IsRefusal w.in-Refused.is c.in_ok-reply.ensures.refusal).0)
          (λ im o l t of. (subst (IsFound v im o l t c.args.call.now c.args.stamp.now.node) w.in-Refused.is (c.in_ok-reply.ensures.found im o l t of)).0))
      | in-Made w ↦ subst (λ a. IfDone (Ok a) (Does v c.args.call.now)) (sym w.result-is) (subst (IfMade (Does v c.args.call.now reply.Ok)) w.in-Made.is c.in_ok-reply.ensures.done)
      | in-NeedBlock w ↦ subst (λ a. IfDone (Ok a) (Does v c.args.call.now)) (sym w.result-is) tt
      | in-NotBuilt w ↦ subst (λ a. IfDone (Ok a) (Does v c.args.call.now)) (sym w.result-is) tt
      | in-NeedLock w ↦ subst (λ a. IfDone (Ok a) (Does v c.args.call.now)) (sym w.result-is) tt
      | in-NoSpace w ↦ subst (λ a. IfDone (Ok a) (Does v c.args.call.now)) (sym w.result-is) tt
    ]

pub returns-clause-inside : goal.returns-clause-inside
returns-clause-inside g c =
    let v = g.V.View.seen c.args.view.now in
    elim c.match-branch-2.branch [
      | in-Refused w ↦ subst (λ a. IfDone (Ok a) (λ reply change. AreInside v change)) (sym w.result-is) (subst (AllByRecursion (IsInside v)) (sym w.nothing.ensures.blocks) tt)
      | in-Made w ↦ subst (λ a. IfDone (Ok a) (λ reply change. AreInside v change)) (sym w.result-is) (subst (IfMade (AreInside v)) w.in-Made.is c.in_ok-reply.ensures.inside)
      | in-NeedBlock w ↦ subst (λ a. IfDone (Ok a) (λ reply change. AreInside v change)) (sym w.result-is) tt
      | in-NotBuilt w ↦ subst (λ a. IfDone (Ok a) (λ reply change. AreInside v change)) (sym w.result-is) tt
      | in-NeedLock w ↦ subst (λ a. IfDone (Ok a) (λ reply change. AreInside v change)) (sym w.result-is) tt
      | in-NoSpace w ↦ subst (λ a. IfDone (Ok a) (λ reply change. AreInside v change)) (sym w.result-is) tt
    ]

pub returns-clause-under : goal.returns-clause-under
returns-clause-under g c im o l t of =
    let list = call_holds im o l t c.args.call.now c.args.stamp.now.node in
    elim c.match-branch-2.branch [
      | in-Refused w ↦ subst (λ a. IfDone (Ok a) (λ reply change. IsUnder o list change)) (sym w.result-is) (nothing_under o list w.nothing.result w.nothing.ensures.locks w.nothing.ensures.freed)
      | in-Made w ↦ subst (λ a. IfDone (Ok a) (λ reply change. IsUnder o list change)) (sym w.result-is) (subst (IfMade (IsUnder o list)) w.in-Made.is (c.in_ok-reply.ensures.under im o l t of))
      | in-NeedBlock w ↦ subst (λ a. IfDone (Ok a) (λ reply change. IsUnder o list change)) (sym w.result-is) tt
      | in-NotBuilt w ↦ subst (λ a. IfDone (Ok a) (λ reply change. IsUnder o list change)) (sym w.result-is) tt
      | in-NeedLock w ↦ subst (λ a. IfDone (Ok a) (λ reply change. IsUnder o list change)) (sym w.result-is) tt
      | in-NoSpace w ↦ subst (λ a. IfDone (Ok a) (λ reply change. IsUnder o list change)) (sym w.result-is) tt
    ]

pub returns-clause-made : goal.returns-clause-made
returns-clause-made g c im o l t of =
    elim c.match-branch-2.branch [
      | in-Refused w ↦ subst (λ a. IfDone (Ok a) (λ reply change. is_ok reply ≡ true → IsMade im o l c.args.call.now c.args.stamp.now.node c.args.stamp.now.time change)) (sym w.result-is) (λ so. absurd (true≢false (sym so ∙ (subst IsRefusal w.in-Refused.is c.in_ok-reply.ensures.refusal).0)))
      | in-Made w ↦ subst (λ a. IfDone (Ok a) (λ reply change. is_ok reply ≡ true → IsMade im o l c.args.call.now c.args.stamp.now.node c.args.stamp.now.time change)) (sym w.result-is) (λ so. subst (IfMade (IsMade im o l c.args.call.now c.args.stamp.now.node c.args.stamp.now.time)) w.in-Made.is (c.in_ok-reply.ensures.made im o l t of))
      | in-NeedBlock w ↦ subst (λ a. IfDone (Ok a) (λ reply change. is_ok reply ≡ true → IsMade im o l c.args.call.now c.args.stamp.now.node c.args.stamp.now.time change)) (sym w.result-is) tt
      | in-NotBuilt w ↦ subst (λ a. IfDone (Ok a) (λ reply change. is_ok reply ≡ true → IsMade im o l c.args.call.now c.args.stamp.now.node c.args.stamp.now.time change)) (sym w.result-is) tt
      | in-NeedLock w ↦ subst (λ a. IfDone (Ok a) (λ reply change. is_ok reply ≡ true → IsMade im o l c.args.call.now c.args.stamp.now.node c.args.stamp.now.time change)) (sym w.result-is) tt
      | in-NoSpace w ↦ subst (λ a. IfDone (Ok a) (λ reply change. is_ok reply ≡ true → IsMade im o l c.args.call.now c.args.stamp.now.node c.args.stamp.now.time change)) (sym w.result-is) tt
    ]

pub returns-clause-stamped : goal.returns-clause-stamped
returns-clause-stamped g c im o l t of =
    elim c.match-branch-2.branch [
      | in-Refused w ↦ subst (λ a. IfDone (Ok a) (λ reply change. is_ok reply ≡ true → IsStamped im o l c.args.call.now c.args.stamp.now.time change)) (sym w.result-is) (λ so. absurd (true≢false (sym so ∙ (subst IsRefusal w.in-Refused.is c.in_ok-reply.ensures.refusal).0)))
      | in-Made w ↦ subst (λ a. IfDone (Ok a) (λ reply change. is_ok reply ≡ true → IsStamped im o l c.args.call.now c.args.stamp.now.time change)) (sym w.result-is) (λ so. subst (IfMade (IsStamped im o l c.args.call.now c.args.stamp.now.time)) w.in-Made.is (c.in_ok-reply.ensures.stamped im o l t of))
      | in-NeedBlock w ↦ subst (λ a. IfDone (Ok a) (λ reply change. is_ok reply ≡ true → IsStamped im o l c.args.call.now c.args.stamp.now.time change)) (sym w.result-is) tt
      | in-NotBuilt w ↦ subst (λ a. IfDone (Ok a) (λ reply change. is_ok reply ≡ true → IsStamped im o l c.args.call.now c.args.stamp.now.time change)) (sym w.result-is) tt
      | in-NeedLock w ↦ subst (λ a. IfDone (Ok a) (λ reply change. is_ok reply ≡ true → IsStamped im o l c.args.call.now c.args.stamp.now.time change)) (sym w.result-is) tt
      | in-NoSpace w ↦ subst (λ a. IfDone (Ok a) (λ reply change. is_ok reply ≡ true → IsStamped im o l c.args.call.now c.args.stamp.now.time change)) (sym w.result-is) tt
    ]

pub returns-clause-absent : goal.returns-clause-absent
returns-clause-absent g c =
    let v = g.V.View.seen c.args.view.now in
    elim c.match-branch-2.branch [
      | in-Refused w ↦ subst (λ a. IfNeedBlock (Ok a) (λ m. v.block_at m.block ≡ None)) (sym w.result-is) tt
      | in-Made w ↦ subst (λ a. IfNeedBlock (Ok a) (λ m. v.block_at m.block ≡ None)) (sym w.result-is) tt
      | in-NeedBlock w ↦ subst (λ a. IfNeedBlock (Ok a) (λ m. v.block_at m.block ≡ None)) (sym w.result-is) (needed_absent v c.args.call.now w.in-NeedBlock.missing (subst (IsToldOf v c.args.call.now c.args.stamp.now.node c.args.stamp.now.time) w.in-NeedBlock.is c.in_ok-reply.ensures.told))
      | in-NotBuilt w ↦ subst (λ a. IfNeedBlock (Ok a) (λ m. v.block_at m.block ≡ None)) (sym w.result-is) tt
      | in-NeedLock w ↦ subst (λ a. IfNeedBlock (Ok a) (λ m. v.block_at m.block ≡ None)) (sym w.result-is) tt
      | in-NoSpace w ↦ subst (λ a. IfNeedBlock (Ok a) (λ m. v.block_at m.block ≡ None)) (sym w.result-is) tt
    ]

pub returns-clause-spaceless : goal.returns-clause-spaceless
returns-clause-spaceless g c =
    elim c.match-branch-2.branch [
      | in-Refused w ↦ subst (λ a. IfDone (Ok a) (λ reply change. HasSpace reply)) (sym w.result-is) (subst IsRefusal w.in-Refused.is c.in_ok-reply.ensures.refusal).1
      | in-Made w ↦ subst (λ a. IfDone (Ok a) (λ reply change. HasSpace reply)) (sym w.result-is) tt
      | in-NeedBlock w ↦ subst (λ a. IfDone (Ok a) (λ reply change. HasSpace reply)) (sym w.result-is) tt
      | in-NotBuilt w ↦ subst (λ a. IfDone (Ok a) (λ reply change. HasSpace reply)) (sym w.result-is) tt
      | in-NeedLock w ↦ subst (λ a. IfDone (Ok a) (λ reply change. HasSpace reply)) (sym w.result-is) tt
      | in-NoSpace w ↦ subst (λ a. IfDone (Ok a) (λ reply change. HasSpace reply)) (sym w.result-is) tt
    ]

pub returns-clause-answered : goal.returns-clause-answered
returns-clause-answered g c =
    let v = g.V.View.seen c.args.view.now in
    elim c.match-branch-2.branch [
      | in-Refused w ↦ subst (λ a. IfDone (Ok a) (IsAnswered v c.args.call.now c.args.stamp.now.node c.args.stamp.now.time)) (sym w.result-is) (IsAnswered.refused w.in-Refused.reply w.nothing.result (subst (IsToldOf v c.args.call.now c.args.stamp.now.node c.args.stamp.now.time) w.in-Refused.is c.in_ok-reply.ensures.told))
      | in-Made w ↦ subst (λ a. IfDone (Ok a) (IsAnswered v c.args.call.now c.args.stamp.now.node c.args.stamp.now.time)) (sym w.result-is) (IsAnswered.made w.in-Made.change (subst (IsToldOf v c.args.call.now c.args.stamp.now.node c.args.stamp.now.time) w.in-Made.is c.in_ok-reply.ensures.told))
      | in-NeedBlock w ↦ subst (λ a. IfDone (Ok a) (IsAnswered v c.args.call.now c.args.stamp.now.node c.args.stamp.now.time)) (sym w.result-is) tt
      | in-NotBuilt w ↦ subst (λ a. IfDone (Ok a) (IsAnswered v c.args.call.now c.args.stamp.now.node c.args.stamp.now.time)) (sym w.result-is) tt
      | in-NeedLock w ↦ subst (λ a. IfDone (Ok a) (IsAnswered v c.args.call.now c.args.stamp.now.node c.args.stamp.now.time)) (sym w.result-is) tt
      | in-NoSpace w ↦ subst (λ a. IfDone (Ok a) (IsAnswered v c.args.call.now c.args.stamp.now.node c.args.stamp.now.time)) (sym w.result-is) tt
    ]

pub returns-clause-fewer : goal.returns-clause-fewer
returns-clause-fewer g c =
    let v = g.V.View.seen c.args.view.now in
    elim c.match-branch-2.branch [
      | in-Refused w ↦ subst (λ a. IfNoSpace (Ok a) (λ need free. free < need)) (sym w.result-is) tt
      | in-Made w ↦ subst (λ a. IfNoSpace (Ok a) (λ need free. free < need)) (sym w.result-is) tt
      | in-NeedBlock w ↦ subst (λ a. IfNoSpace (Ok a) (λ need free. free < need)) (sym w.result-is) tt
      | in-NotBuilt w ↦ subst (λ a. IfNoSpace (Ok a) (λ need free. free < need)) (sym w.result-is) tt
      | in-NeedLock w ↦ subst (λ a. IfNoSpace (Ok a) (λ need free. free < need)) (sym w.result-is) tt
      | in-NoSpace w ↦ subst (λ a. IfNoSpace (Ok a) (λ need free. free < need)) (sym w.result-is) (IsFullFor.fewer (subst (IsToldOf v c.args.call.now c.args.stamp.now.node c.args.stamp.now.time) w.in-NoSpace.is c.in_ok-reply.ensures.told))
    ]
