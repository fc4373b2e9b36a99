use Rattle.std.proofs.Common.{true≢false, sym, ap, ◌∙◌, subst}
use Rattle.file_tree.specs.Apply.{Answer}
use Rattle.file_tree.specs.declared.reply.Reply.TheVariants as reply
use Rattle.image_changes.proofs.Doing.{nothing_does}
use Rattle.move_ends.proofs.Refused.{no_change}
use Rattle.move_ends.specs.Ends.{IsFoundIn, IsRefusal, IsTold}
use Rattle.move_calls.specs.Answering.{IsAnswerAtEnds, IsAnswerOf, IsAtEnds}
use Rattle.move_calls.specs.Moved.{IsMovedIn}
use Rattle.move_calls.proofs.Answered.{done_so, staying}
use Rattle.move_calls.proofs.Meant.{found_there, told_ends, told_inside}
use Rattle.move_calls.proofs.answering.answer.Goals as goal

pub move_name-requires-clause-ends : goal.move_name-requires-clause-ends
move_name-requires-clause-ends g c =
    let v = g.V.View.seen c.args.view.now in
    told_ends v c.args.call.now c.in-Moves.from c.in-Moves.to c.in-Moves.replaced (subst (IsTold v c.args.call.now) c.in-Moves.is c.in_ok-reply.ensures.told)

pub move_name-requires-clause-inside : goal.move_name-requires-clause-inside
move_name-requires-clause-inside g c =
    let v = g.V.View.seen c.args.view.now in
    told_inside v c.args.call.now c.in-Moves.from c.in-Moves.to c.in-Moves.replaced (subst (IsTold v c.args.call.now) c.in-Moves.is c.in_ok-reply.ensures.told)

pub move_name-requires-clause-images : goal.move_name-requires-clause-images
move_name-requires-clause-images g c im o l t of =
    let v = g.V.View.seen c.args.view.now in
    found_there v c.args.call.now c.in-Moves.from c.in-Moves.to im o l t c.in-Moves.replaced (subst (IsFoundIn v im o l t c.args.call.now) c.in-Moves.is (c.in_ok-reply.ensures.found im o l t of))

pub returns-in-Refused-clause-answer : goal.returns-in-Refused-clause-answer
returns-in-Refused-clause-answer g c =
    let e = c.in_ok-reply.ensures in
    IsAnswerOf.by_ends (IsAnswerAtEnds.refused c.in-Refused.reply c.nothing.result
    (subst (IsAtEnds (g.V.View.seen c.args.view.now) c.args.call.now) c.in-Refused.is (record { told = e.told; found = e.found; refusal = e.refusal; absent = e.absent }))
    (record { blocks = c.nothing.ensures.blocks; locks = c.nothing.ensures.locks; freed = c.nothing.ensures.freed }))

pub returns-in-Refused-clause-done : goal.returns-in-Refused-clause-done
returns-in-Refused-clause-done g c =
    let v = g.V.View.seen c.args.view.now in
    nothing_does v c.args.call.now c.in-Refused.reply c.nothing.result c.nothing.ensures.blocks c.nothing.ensures.locks c.nothing.ensures.freed
    (no_change c.args.call.now c.in-Refused.reply (subst IsRefusal c.in-Refused.is c.in_ok-reply.ensures.refusal).0)
    (λ im o l t of. (subst (IsFoundIn v im o l t c.args.call.now) c.in-Refused.is (c.in_ok-reply.ensures.found im o l t of)).0)

pub returns-in-Stays-clause-done : goal.returns-in-Stays-clause-done
returns-in-Stays-clause-done g c =
    let v = g.V.View.seen c.args.view.now in
    let n = c.nothing-in-Stays.ensures in
    nothing_does v c.args.call.now reply.Ok c.nothing-in-Stays.result n.blocks n.locks n.freed
    (staying c.args.call.now c.requires.renaming (subst (IsTold v c.args.call.now) c.in-Stays.is c.in_ok-reply.ensures.told).same)
    (λ im o l t of. ap (λ (a : Answer). a.reply) (subst (IsFoundIn v im o l t c.args.call.now) c.in-Stays.is (c.in_ok-reply.ensures.found im o l t of)).0)

pub returns-in-Refused-clause-moved : goal.returns-in-Refused-clause-moved
returns-in-Refused-clause-moved g c im o l t of ok other =
    absurd (true≢false (sym ok ∙ (subst IsRefusal c.in-Refused.is c.in_ok-reply.ensures.refusal).0))

pub returns-in-Stays-clause-moved : goal.returns-in-Stays-clause-moved
returns-in-Stays-clause-moved g c im o l t of ok other =
    absurd (true≢false (sym (subst (IsTold (g.V.View.seen c.args.view.now) c.args.call.now) c.in-Stays.is c.in_ok-reply.ensures.told).same ∙ other))

pub returns-in-Moves-clause-moved : goal.returns-in-Moves-clause-moved
returns-in-Moves-clause-moved g c im o l t of =
    done_so (λ reply change. IsMovedIn im o l c.args.call.now c.args.stamp.now.node c.args.stamp.now.time change) _ (λ r change is ok other. is) c.move_name.result (c.move_name.ensures.moved im o l t of)

pub returns-in-Stays-clause-answer : goal.returns-in-Stays-clause-answer
returns-in-Stays-clause-answer g c =
    let e = c.in_ok-reply.ensures in
    let n = c.nothing-in-Stays.ensures in
    IsAnswerOf.by_ends (IsAnswerAtEnds.stays c.nothing-in-Stays.result
    (subst (IsAtEnds (g.V.View.seen c.args.view.now) c.args.call.now) c.in-Stays.is (record { told = e.told; found = e.found; refusal = e.refusal; absent = e.absent }))
    (record { blocks = n.blocks; locks = n.locks; freed = n.freed }))

pub returns-in-NeedLock-clause-answer : goal.returns-in-NeedLock-clause-answer
returns-in-NeedLock-clause-answer g c =
    let e = c.in_ok-reply.ensures in
    IsAnswerOf.by_ends (IsAnswerAtEnds.lacks c.in-NeedLock.lock c.in-NeedLock.state
    (subst (IsAtEnds (g.V.View.seen c.args.view.now) c.args.call.now) c.in-NeedLock.is (record { told = e.told; found = e.found; refusal = e.refusal; absent = e.absent })))

pub returns-in-NeedBlock-clause-answer : goal.returns-in-NeedBlock-clause-answer
returns-in-NeedBlock-clause-answer g c =
    let e = c.in_ok-reply.ensures in
    IsAnswerOf.by_ends (IsAnswerAtEnds.needs c.in-NeedBlock.missing
    (subst (IsAtEnds (g.V.View.seen c.args.view.now) c.args.call.now) c.in-NeedBlock.is (record { told = e.told; found = e.found; refusal = e.refusal; absent = e.absent })))
