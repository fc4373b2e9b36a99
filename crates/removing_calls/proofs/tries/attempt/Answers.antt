use Rattle.std.proofs.Common.{Ok, sym, subst}
use Rattle.file_tree.specs.declared.reply.Reply.TheVariants as reply
use Rattle.image_changes.specs.Does.{Does}
use Rattle.image_changes.proofs.Doing.{nothing_does}
use Rattle.path_walks.specs.Answers.{IfDone, HasSpace}
use Rattle.removing_calls.specs.Removing.{IsAnswered, IsFound, IsRefusal, IsToldOf, IfRemoved, refused, removed}
use Rattle.removing_calls.proofs.tries.attempt.Goals.{in-Refused, in-Removed, in-NeedBlock, in-NeedLock}
use Rattle.removing_calls.proofs.tries.attempt.Goals as goal
use Rattle.path_walks.proofs.Refused.{no_change}

pub returns-clause-done : goal.returns-clause-done
returns-clause-done g c =
    let v = g.V.View.seen c.args.view.now in
    elim c.match-branch-2.branch [
      | in-Refused w ↦ subst (λ a. IfDone (Ok a) (Does v c.args.call.now)) (sym w.result-is)
          (nothing_does v c.args.call.now w.in-Refused.reply w.nothing.result w.nothing.ensures.blocks w.nothing.ensures.locks w.nothing.ensures.freed
          (no_change c.args.call.now w.in-Refused.reply (subst IsRefusal w.in-Refused.is c.in_ok-reply.ensures.refusal).0)
          (λ im o l t of. (subst (IsFound v im o l t c.args.call.now) w.in-Refused.is (c.in_ok-reply.ensures.found im o l t of)).0))
      | in-Removed w ↦ subst (λ a. IfDone (Ok a) (Does v c.args.call.now)) (sym w.result-is) (subst (IfRemoved (Does v c.args.call.now reply.Ok)) w.in-Removed.is c.in_ok-reply.ensures.done)
      | in-NeedBlock w ↦ subst (λ a. IfDone (Ok a) (Does v c.args.call.now)) (sym w.result-is) tt
      | in-NeedLock w ↦ subst (λ a. IfDone (Ok a) (Does v c.args.call.now)) (sym w.result-is) tt
    ]

pub returns-clause-answered : goal.returns-clause-answered
returns-clause-answered g c =
    elim c.match-branch-2.branch [
      | in-Refused w ↦ subst (λ a. IfDone (Ok a) (IsAnswered g.V.View.seen c.args.view.now c.args.call.now c.args.stamp.now.time)) (sym w.result-is)
          (refused w.in-Refused.reply w.nothing.result (subst IsRefusal w.in-Refused.is c.in_ok-reply.ensures.refusal).0
          (subst (IsToldOf g.V.View.seen c.args.view.now c.args.call.now c.args.stamp.now.time) w.in-Refused.is c.in_ok-reply.ensures.told))
      | in-Removed w ↦ subst (λ a. IfDone (Ok a) (IsAnswered g.V.View.seen c.args.view.now c.args.call.now c.args.stamp.now.time)) (sym w.result-is)
          (removed w.in-Removed.change (subst (IsToldOf g.V.View.seen c.args.view.now c.args.call.now c.args.stamp.now.time) w.in-Removed.is c.in_ok-reply.ensures.told))
      | in-NeedBlock w ↦ subst (λ a. IfDone (Ok a) (IsAnswered g.V.View.seen c.args.view.now c.args.call.now c.args.stamp.now.time)) (sym w.result-is) tt
      | in-NeedLock w ↦ subst (λ a. IfDone (Ok a) (IsAnswered g.V.View.seen c.args.view.now c.args.call.now c.args.stamp.now.time)) (sym w.result-is) tt
    ]

pub returns-clause-spaceless : goal.returns-clause-spaceless
returns-clause-spaceless g c =
    elim c.match-branch-2.branch [
      | in-Refused w ↦ subst (λ a. IfDone (Ok a) (λ reply change. HasSpace reply)) (sym w.result-is) (subst IsRefusal w.in-Refused.is c.in_ok-reply.ensures.refusal).1
      | in-Removed w ↦ subst (λ a. IfDone (Ok a) (λ reply change. HasSpace reply)) (sym w.result-is) tt
      | in-NeedBlock w ↦ subst (λ a. IfDone (Ok a) (λ reply change. HasSpace reply)) (sym w.result-is) tt
      | in-NeedLock w ↦ subst (λ a. IfDone (Ok a) (λ reply change. HasSpace reply)) (sym w.result-is) tt
    ]
