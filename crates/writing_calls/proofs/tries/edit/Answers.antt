use Rattle.std.proofs.Common.{Ok, sym, subst}
use Rattle.file_tree.specs.declared.reply.Reply.TheVariants as reply
use Rattle.image_changes.specs.Does.{Does}
use Rattle.image_changes.proofs.Doing.{nothing_does}
use Rattle.path_walks.specs.Answers.{IfDone, HasSpace}
use Rattle.path_walks.proofs.Refused.{no_change}
use Rattle.writing_calls.specs.Writing.{IsEditAnswered, IsFound, IsRefusal, IsToldOf, IfWritten}
use Rattle.writing_calls.proofs.Finding.{edit_refused}
use Rattle.writing_calls.proofs.tries.edit.Goals.{in-Refused, in-Written, in-NeedBlock, in-NotBuilt, in-NeedLock, in-NoSpace}
use Rattle.writing_calls.proofs.tries.edit.Goals as goal

pub returns-clause-done : goal.returns-clause-done
returns-clause-done g c =
    let v = g.V.View.seen c.args.view.now in
    elim c.match-branch-2.branch [
      | in-Refused w ↦ subst (λ a. IfDone (Ok a) (Does v c.args.call.now)) (sym w.result-is)
          (nothing_does v c.args.call.now w.in-Refused.reply w.nothing.result w.nothing.ensures.blocks w.nothing.ensures.locks w.nothing.ensures.freed (no_change c.args.call.now w.in-Refused.reply (subst IsRefusal w.in-Refused.is c.in_ok-reply.ensures.refusal).0) (λ im o l t of. (subst (IsFound v im o l t c.args.call.now c.args.stamp.now.node) w.in-Refused.is (c.in_ok-reply.ensures.found im o l t of)).0))
      | in-Written w ↦ subst (λ a. IfDone (Ok a) (Does v c.args.call.now)) (sym w.result-is)
          (subst (IfWritten (Does v c.args.call.now reply.Ok)) w.in-Written.is c.in_ok-reply.ensures.done)
      | in-NeedBlock w ↦ subst (λ a. IfDone (Ok a) (Does v c.args.call.now)) (sym w.result-is) tt
      | in-NotBuilt w ↦ subst (λ a. IfDone (Ok a) (Does v c.args.call.now)) (sym w.result-is) tt
      | in-NeedLock w ↦ subst (λ a. IfDone (Ok a) (Does v c.args.call.now)) (sym w.result-is) tt
      | in-NoSpace w ↦ subst (λ a. IfDone (Ok a) (Does v c.args.call.now)) (sym w.result-is) tt
    ]

pub returns-clause-answered : goal.returns-clause-answered
returns-clause-answered g c =
    let v = g.V.View.seen c.args.view.now in
    elim c.match-branch-2.branch [
      | in-Refused w ↦ subst (λ a. IfDone (Ok a) (IsEditAnswered v c.args.call.now c.args.stamp.now.node c.args.stamp.now.time)) (sym w.result-is)
          (edit_refused v c.args.call.now c.args.stamp.now.node c.args.stamp.now.time w.in-Refused.reply w.nothing.result (subst IsRefusal w.in-Refused.is c.in_ok-reply.ensures.refusal).0 (subst (IsToldOf v c.args.call.now c.args.stamp.now.node c.args.stamp.now.time) w.in-Refused.is c.in_ok-reply.ensures.told))
      | in-Written w ↦ subst (λ a. IfDone (Ok a) (IsEditAnswered v c.args.call.now c.args.stamp.now.node c.args.stamp.now.time)) (sym w.result-is)
          (subst (IsToldOf v c.args.call.now c.args.stamp.now.node c.args.stamp.now.time) w.in-Written.is c.in_ok-reply.ensures.told)
      | in-NeedBlock w ↦ subst (λ a. IfDone (Ok a) (IsEditAnswered v c.args.call.now c.args.stamp.now.node c.args.stamp.now.time)) (sym w.result-is) tt
      | in-NotBuilt w ↦ subst (λ a. IfDone (Ok a) (IsEditAnswered v c.args.call.now c.args.stamp.now.node c.args.stamp.now.time)) (sym w.result-is) tt
      | in-NeedLock w ↦ subst (λ a. IfDone (Ok a) (IsEditAnswered v c.args.call.now c.args.stamp.now.node c.args.stamp.now.time)) (sym w.result-is) tt
      | in-NoSpace w ↦ subst (λ a. IfDone (Ok a) (IsEditAnswered v c.args.call.now c.args.stamp.now.node c.args.stamp.now.time)) (sym w.result-is) tt
    ]

pub returns-clause-spaceless : goal.returns-clause-spaceless
returns-clause-spaceless g c =
    let v = g.V.View.seen c.args.view.now in
    elim c.match-branch-2.branch [
      | in-Refused w ↦ subst (λ a. IfDone (Ok a) (λ reply change. HasSpace reply)) (sym w.result-is)
          ((subst IsRefusal w.in-Refused.is c.in_ok-reply.ensures.refusal).1)
      | in-Written w ↦ subst (λ a. IfDone (Ok a) (λ reply change. HasSpace reply)) (sym w.result-is)
          (tt)
      | in-NeedBlock w ↦ subst (λ a. IfDone (Ok a) (λ reply change. HasSpace reply)) (sym w.result-is) tt
      | in-NotBuilt w ↦ subst (λ a. IfDone (Ok a) (λ reply change. HasSpace reply)) (sym w.result-is) tt
      | in-NeedLock w ↦ subst (λ a. IfDone (Ok a) (λ reply change. HasSpace reply)) (sym w.result-is) tt
      | in-NoSpace w ↦ subst (λ a. IfDone (Ok a) (λ reply change. HasSpace reply)) (sym w.result-is) tt
    ]
