use Rattle.std.proofs.Common.{◌<◌, length, subst, arith}
use Rattle.drafts.specs.declared.change.Written.{Written}
use Rattle.replay_marks.specs.Marking.{IsHinderedAt}
use Rattle.replay_marks.proofs.Rising.{hindered_by}
use Rattle.replay_marks.proofs.marks.Marks.take.Goals as goal

pub returns-in-Err-clause-hindered : goal.returns-in-Err-clause-hindered
returns-in-Err-clause-hindered c =
    let w = c.written-item.result in
    let less : c.loop-written.written-index < length c.args.home.now = omega (arith, c.loop-written-test.true) in
    hindered_by c.args.self.now c.loop-written.self c.args.home.now c.loop-written.written-index w c.requires.rising less c.loop-written.invariant.marks c.in-Err.hindrance
    (subst (λ (v : Written). IsHinderedAt c.loop-written.self v.block c.in-Err.hindrance) c.written-item.is c.in-Err.ensures.hindered)
