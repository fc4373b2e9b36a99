use Rattle.std.proofs.Common.{Ok, sym, subst}
use Rattle.image_changes.specs.Does.{Does}
use Rattle.image_changes.proofs.Doing.{nothing_does}
use Rattle.path_walks.specs.Answers.{IfDone, HasSpace}
use Rattle.read_calls.specs.Reading.{IsFound, IsSpaceless}
use Rattle.read_calls.proofs.Lists.{no_change}
use Rattle.read_calls.proofs.tries.attempt.Goals.{in-Reply, in-NeedBlock, in-NeedLock}
use Rattle.read_calls.proofs.tries.attempt.Goals as goal

pub returns-clause-done : goal.returns-clause-done
returns-clause-done g c =
    let v = g.V.View.seen c.args.view.now in
    elim c.match-branch-2.branch [
      | in-Reply w ↦ subst (λ a. IfDone (Ok a) (Does v c.args.call.now)) (sym w.result-is)
          (nothing_does v c.args.call.now w.in-Reply.reply w.nothing.result w.nothing.ensures.blocks w.nothing.ensures.locks w.nothing.ensures.freed
          (no_change c.args.call.now w.in-Reply.reply c.requires.reading)
          (λ im o l t of. (subst (IsFound v im o l t c.args.call.now) w.in-Reply.is (c.in_ok-reply.ensures.found im o l t of)).0))
      | in-NeedBlock w ↦ subst (λ a. IfDone (Ok a) (Does v c.args.call.now)) (sym w.result-is) tt
      | in-NeedLock w ↦ subst (λ a. IfDone (Ok a) (Does v c.args.call.now)) (sym w.result-is) tt
    ]

pub returns-clause-spaceless : goal.returns-clause-spaceless
returns-clause-spaceless g c =
    elim c.match-branch-2.branch [
      | in-Reply w ↦ subst (λ a. IfDone (Ok a) (λ reply change. HasSpace reply)) (sym w.result-is) (subst IsSpaceless w.in-Reply.is c.in_ok-reply.ensures.spaceless)
      | in-NeedBlock w ↦ subst (λ a. IfDone (Ok a) (λ reply change. HasSpace reply)) (sym w.result-is) tt
      | in-NeedLock w ↦ subst (λ a. IfDone (Ok a) (λ reply change. HasSpace reply)) (sym w.result-is) tt
    ]
