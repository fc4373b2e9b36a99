use Rattle.std.proofs.Common.{◌≡◌, false, true, refl, sym, ap, ◌∙◌, subst}
use Rattle.std.specs.Option.{option_copied}
use Rattle.std.specs.Prelude.{IfOk}
use Rattle.file_tree.specs.Names.{IsName, last_of}
use Rattle.glock_names.proofs.StepLaws.{answer_at, needed_at}
use Rattle.move_ends.proofs.Faults.{damaged_so, tells_so, told_on}
use Rattle.name_moves.specs.Moving.{CanBeMoved}
use Rattle.move_calls.specs.Answering.{IsAnswerOf, IsDamage, IsMeant, blocks_of_replaced}
use Rattle.move_calls.specs.Carrying.{IsCarried, IsDamageOf}
use Rattle.move_calls.specs.Checks.{IsClear, IsNeededToSee, IsSeenMove, IsUnfit, IsWrongMove}
use Rattle.move_calls.proofs.Answered.{carried_built, carried_does, carried_moved}
use Rattle.move_calls.proofs.Sound.{carry_sound, move_fit, move_sound}
use Rattle.move_calls.proofs.Meant.{is_meant, ok_so, same_move, was_seen, written}
use Rattle.move_calls.proofs.answering.move_name.Goals as goal

pub can_move-requires : goal.can_move-requires
can_move-requires g c =
    let v = g.V.View.seen c.args.view.now in
    let call = c.args.call.now in
    let from = c.args.from in
    let to = c.args.to in
    let r = blocks_of_replaced c.args.replaced.now in
    let first = c.last_name.ensures.last ∙ ap last_of (c.names-2.ensures.names ∙ c.from_of.ensures) in
    let second = c.last_name-new_name.ensures.last ∙ ap last_of (c.names.ensures.names ∙ c.to_of.ensures) in
    subst (IsSeenMove v) (sym (same_move call from to _ _ _ r first second c.blocks_in.ensures))
    (was_seen v call from to c.is_a_view.ensures c.requires.ends (subst IsName second c.last_name-new_name.ensures.named) r c.requires.target c.requires.inside)

pub returns-in_err-can_move-clause-damaged : goal.returns-in_err-can_move-clause-damaged
returns-in_err-can_move-clause-damaged g c =
    let v = g.V.View.seen c.args.view.now in
    let call = c.args.call.now in
    let from = c.args.from in
    let to = c.args.to in
    let r = blocks_of_replaced c.args.replaced.now in
    let m = written from to c.last_name.result.now c.last_name-new_name.result.now (option_copied c.blocks_in.result) in
    let first = c.last_name.ensures.last ∙ ap last_of (c.names-2.ensures.names ∙ c.from_of.ensures) in
    let second = c.last_name-new_name.ensures.last ∙ ap last_of (c.names.ensures.names ∙ c.to_of.ensures) in
    let meant : IsMeant v call m = subst (IsMeant v call) (sym (same_move call from to _ _ _ r first second c.blocks_in.ensures)) (is_meant v call from to c.requires.ends r c.requires.target c.requires.inside c.requires.images) in
    told_on (IsDamage v call c.args.stamp.now.node) c.from_residual.result _ c.from_residual.ensures.1
    (tells_so (IsWrongMove v m) (IsDamage v call c.args.stamp.now.node) (λ rule b wrong. IsDamage.to_see m meant wrong) c.in_err-can_move.field-0.0 c.in_err-can_move.ensures.damaged)

pub returns-in-Is-true-clause-answer : goal.returns-in-Is-true-clause-answer
returns-in-Is-true-clause-answer g c =
    let v = g.V.View.seen c.args.view.now in
    let call = c.args.call.now in
    let from = c.args.from in
    let to = c.args.to in
    let node = c.args.stamp.now.node in
    let time = c.args.stamp.now.time in
    let r = blocks_of_replaced c.args.replaced.now in
    let m = written from to c.last_name.result.now c.last_name-new_name.result.now (option_copied c.blocks_in.result) in
    let first = c.last_name.ensures.last ∙ ap last_of (c.names-2.ensures.names ∙ c.from_of.ensures) in
    let second = c.last_name-new_name.ensures.last ∙ ap last_of (c.names.ensures.names ∙ c.to_of.ensures) in
    let meant : IsMeant v call m = subst (IsMeant v call) (sym (same_move call from to _ _ _ r first second c.blocks_in.ensures)) (is_meant v call from to c.requires.ends r c.requires.target c.requires.inside c.requires.images) in
    let can : CanBeMoved v m = answer_at _ _ (λ can. can ≡ true → CanBeMoved v m) c.in-Is-true.is c.in_ok-can_move.ensures.can c.in-Is-true.field-0-test in
    let clear : IsClear v m = answer_at _ _ (λ can. can ≡ true → IsClear v m) c.in-Is-true.is c.in_ok-can_move.ensures.clear c.in-Is-true.field-0-test in
    ok_so (IsCarried v node time m) (IsAnswerOf v call node time) (λ a is. IsAnswerOf.carried m (record { meant = meant; can = can; clear = clear }) is) c.carry.result c.carry.ensures.carried

pub returns-in-Is-true-clause-done : goal.returns-in-Is-true-clause-done
returns-in-Is-true-clause-done g c =
    let v = g.V.View.seen c.args.view.now in
    let call = c.args.call.now in
    let from = c.args.from in
    let to = c.args.to in
    let node = c.args.stamp.now.node in
    let time = c.args.stamp.now.time in
    let r = blocks_of_replaced c.args.replaced.now in
    let first = c.last_name.ensures.last ∙ ap last_of (c.names-2.ensures.names ∙ c.from_of.ensures) in
    let second = c.last_name-new_name.ensures.last ∙ ap last_of (c.names.ensures.names ∙ c.to_of.ensures) in
    let m = written from to c.last_name.result.now c.last_name-new_name.result.now (option_copied c.blocks_in.result) in
    let can : CanBeMoved v m = answer_at _ _ (λ can. can ≡ true → CanBeMoved v m) c.in-Is-true.is c.in_ok-can_move.ensures.can c.in-Is-true.field-0-test in
    carried_does v call from to r node time c.is_a_view.ensures c.requires.renaming c.requires.ends c.requires.target (subst (CanBeMoved v) (same_move call from to _ _ _ r first second c.blocks_in.ensures) can) (c.requires.hash c.requires.ends.begun.to)
    (λ im o l t of. (c.requires.images im o l t of).0) c.carry.result
    (subst (λ m. IfOk c.carry.result (IsCarried v node time m)) (same_move call from to _ _ _ r first second c.blocks_in.ensures) c.carry.ensures.carried)

pub returns-in-Is-true-clause-moved : goal.returns-in-Is-true-clause-moved
returns-in-Is-true-clause-moved g c im o l t of =
    let v = g.V.View.seen c.args.view.now in
    let call = c.args.call.now in
    let from = c.args.from in
    let to = c.args.to in
    let node = c.args.stamp.now.node in
    let time = c.args.stamp.now.time in
    let r = blocks_of_replaced c.args.replaced.now in
    let first = c.last_name.ensures.last ∙ ap last_of (c.names-2.ensures.names ∙ c.from_of.ensures) in
    let second = c.last_name-new_name.ensures.last ∙ ap last_of (c.names.ensures.names ∙ c.to_of.ensures) in
    let m = written from to c.last_name.result.now c.last_name-new_name.result.now (option_copied c.blocks_in.result) in
    let can : CanBeMoved v m = answer_at _ _ (λ can. can ≡ true → CanBeMoved v m) c.in-Is-true.is c.in_ok-can_move.ensures.can c.in-Is-true.field-0-test in
    carried_moved v call from to r node time c.is_a_view.ensures c.requires.renaming c.requires.ends c.requires.target (subst (CanBeMoved v) (same_move call from to _ _ _ r first second c.blocks_in.ensures) can) (c.requires.hash c.requires.ends.begun.to)
    (λ im o l t of. (c.requires.images im o l t of).0) im o l t of c.carry.result
    (subst (λ m. IfOk c.carry.result (IsCarried v node time m)) (same_move call from to _ _ _ r first second c.blocks_in.ensures) c.carry.ensures.carried)

pub returns-in-Is-true-clause-built : goal.returns-in-Is-true-clause-built
returns-in-Is-true-clause-built g c im o l t of =
    let v = g.V.View.seen c.args.view.now in
    let call = c.args.call.now in
    let from = c.args.from in
    let to = c.args.to in
    let node = c.args.stamp.now.node in
    let time = c.args.stamp.now.time in
    let r = blocks_of_replaced c.args.replaced.now in
    let first = c.last_name.ensures.last ∙ ap last_of (c.names-2.ensures.names ∙ c.from_of.ensures) in
    let second = c.last_name-new_name.ensures.last ∙ ap last_of (c.names.ensures.names ∙ c.to_of.ensures) in
    let m = written from to c.last_name.result.now c.last_name-new_name.result.now (option_copied c.blocks_in.result) in
    let can : CanBeMoved v m = answer_at _ _ (λ can. can ≡ true → CanBeMoved v m) c.in-Is-true.is c.in_ok-can_move.ensures.can c.in-Is-true.field-0-test in
    carried_built v call from to r node time c.is_a_view.ensures c.requires.renaming c.requires.ends c.requires.target (subst (CanBeMoved v) (same_move call from to _ _ _ r first second c.blocks_in.ensures) can) (c.requires.hash c.requires.ends.begun.to)
    (λ im o l t of. (c.requires.images im o l t of).0) im o l t of c.carry.result
    (subst (λ m. IfOk c.carry.result (IsCarried v node time m)) (same_move call from to _ _ _ r first second c.blocks_in.ensures) c.carry.ensures.carried)

pub returns-in-Is-true-clause-damaged : goal.returns-in-Is-true-clause-damaged
returns-in-Is-true-clause-damaged g c =
    let v = g.V.View.seen c.args.view.now in
    let call = c.args.call.now in
    let from = c.args.from in
    let to = c.args.to in
    let node = c.args.stamp.now.node in
    let r = blocks_of_replaced c.args.replaced.now in
    let m = written from to c.last_name.result.now c.last_name-new_name.result.now (option_copied c.blocks_in.result) in
    let first = c.last_name.ensures.last ∙ ap last_of (c.names-2.ensures.names ∙ c.from_of.ensures) in
    let second = c.last_name-new_name.ensures.last ∙ ap last_of (c.names.ensures.names ∙ c.to_of.ensures) in
    let meant : IsMeant v call m = subst (IsMeant v call) (sym (same_move call from to _ _ _ r first second c.blocks_in.ensures)) (is_meant v call from to c.requires.ends r c.requires.target c.requires.inside c.requires.images) in
    let can : CanBeMoved v m = answer_at _ _ (λ can. can ≡ true → CanBeMoved v m) c.in-Is-true.is c.in_ok-can_move.ensures.can c.in-Is-true.field-0-test in
    let clear : IsClear v m = answer_at _ _ (λ can. can ≡ true → IsClear v m) c.in-Is-true.is c.in_ok-can_move.ensures.clear c.in-Is-true.field-0-test in
    damaged_so (IsDamageOf v node m) (IsDamage v call node) (λ rule b wrong. IsDamage.to_move m (record { meant = meant; can = can; clear = clear }) wrong) c.carry.result c.carry.ensures.damaged

pub returns-in-NeedBlock-clause-answer : goal.returns-in-NeedBlock-clause-answer
returns-in-NeedBlock-clause-answer g c =
    let v = g.V.View.seen c.args.view.now in
    let call = c.args.call.now in
    let from = c.args.from in
    let to = c.args.to in
    let r = blocks_of_replaced c.args.replaced.now in
    let m = written from to c.last_name.result.now c.last_name-new_name.result.now (option_copied c.blocks_in.result) in
    let first = c.last_name.ensures.last ∙ ap last_of (c.names-2.ensures.names ∙ c.from_of.ensures) in
    let second = c.last_name-new_name.ensures.last ∙ ap last_of (c.names.ensures.names ∙ c.to_of.ensures) in
    let meant : IsMeant v call m = subst (IsMeant v call) (sym (same_move call from to _ _ _ r first second c.blocks_in.ensures)) (is_meant v call from to c.requires.ends r c.requires.target c.requires.inside c.requires.images) in
    IsAnswerOf.to_see m c.in-NeedBlock.missing meant (needed_at _ _ (IsNeededToSee v m) c.in-NeedBlock.is c.in_ok-can_move.ensures.needed) refl

pub returns-in_err-can_move-clause-sound : goal.returns-in_err-can_move-clause-sound
returns-in_err-can_move-clause-sound g c im o l t of =
    let v = g.V.View.seen c.args.view.now in
    let call = c.args.call.now in
    let from = c.args.from in
    let to = c.args.to in
    let r = blocks_of_replaced c.args.replaced.now in
    let first = c.last_name.ensures.last ∙ ap last_of (c.names-2.ensures.names ∙ c.from_of.ensures) in
    let second = c.last_name-new_name.ensures.last ∙ ap last_of (c.names.ensures.names ∙ c.to_of.ensures) in
    let m = written from to c.last_name.result.now c.last_name-new_name.result.now (option_copied c.blocks_in.result) in
    told_on (λ rule b. ⊥) c.from_residual.result _ c.from_residual.ensures.1
    (tells_so (IsWrongMove v m) (λ rule b. ⊥)
    (λ rule b wrong. move_sound v im o l t of call from to r c.requires.ends (c.requires.images im o l t of).0 rule b (subst (λ x. IsWrongMove v x rule b) (same_move call from to _ _ _ r first second c.blocks_in.ensures) wrong))
    c.in_err-can_move.field-0.0 c.in_err-can_move.ensures.damaged)

pub returns-in-Is-true-clause-sound : goal.returns-in-Is-true-clause-sound
returns-in-Is-true-clause-sound g c im o l t of =
    let v = g.V.View.seen c.args.view.now in
    let call = c.args.call.now in
    let from = c.args.from in
    let to = c.args.to in
    let node = c.args.stamp.now.node in
    let r = blocks_of_replaced c.args.replaced.now in
    let first = c.last_name.ensures.last ∙ ap last_of (c.names-2.ensures.names ∙ c.from_of.ensures) in
    let second = c.last_name-new_name.ensures.last ∙ ap last_of (c.names.ensures.names ∙ c.to_of.ensures) in
    let m = written from to c.last_name.result.now c.last_name-new_name.result.now (option_copied c.blocks_in.result) in
    let same = same_move call from to c.last_name.result.now c.last_name-new_name.result.now (option_copied c.blocks_in.result) r first second c.blocks_in.ensures in
    let can : CanBeMoved v m = answer_at _ _ (λ can. can ≡ true → CanBeMoved v m) c.in-Is-true.is c.in_ok-can_move.ensures.can c.in-Is-true.field-0-test in
    damaged_so (IsDamageOf v node m) (λ rule b. ⊥)
    (λ rule b wrong. carry_sound v im o l t of call from to r c.requires.ends (c.requires.images im o l t of).0 (subst (CanBeMoved v) same can) node rule b (subst (λ x. IsDamageOf v node x rule b) same wrong))
    c.carry.result c.carry.ensures.damaged

pub returns-in-Is-false-clause-answer : goal.returns-in-Is-false-clause-answer
returns-in-Is-false-clause-answer g c =
    let v = g.V.View.seen c.args.view.now in
    let call = c.args.call.now in
    let from = c.args.from in
    let to = c.args.to in
    let r = blocks_of_replaced c.args.replaced.now in
    let m = written from to c.last_name.result.now c.last_name-new_name.result.now (option_copied c.blocks_in.result) in
    let first = c.last_name.ensures.last ∙ ap last_of (c.names-2.ensures.names ∙ c.from_of.ensures) in
    let second = c.last_name-new_name.ensures.last ∙ ap last_of (c.names.ensures.names ∙ c.to_of.ensures) in
    let unfit : IsUnfit v m = answer_at _ _ (λ can. can ≡ false → IsUnfit v m) c.in-Is-false.is c.in_ok-can_move.ensures.unfit c.in-Is-false.field-0-test in
    let meant : IsMeant v call m = subst (IsMeant v call) (sym (same_move call from to _ _ _ r first second c.blocks_in.ensures)) (is_meant v call from to c.requires.ends r c.requires.target c.requires.inside c.requires.images) in
    IsAnswerOf.unfit m meant unfit refl

pub returns-in-Is-false-clause-built : goal.returns-in-Is-false-clause-built
returns-in-Is-false-clause-built g c im o l t of =
    let v = g.V.View.seen c.args.view.now in
    let call = c.args.call.now in
    let from = c.args.from in
    let to = c.args.to in
    let r = blocks_of_replaced c.args.replaced.now in
    let m = written from to c.last_name.result.now c.last_name-new_name.result.now (option_copied c.blocks_in.result) in
    let first = c.last_name.ensures.last ∙ ap last_of (c.names-2.ensures.names ∙ c.from_of.ensures) in
    let second = c.last_name-new_name.ensures.last ∙ ap last_of (c.names.ensures.names ∙ c.to_of.ensures) in
    let unfit : IsUnfit v m = answer_at _ _ (λ can. can ≡ false → IsUnfit v m) c.in-Is-false.is c.in_ok-can_move.ensures.unfit c.in-Is-false.field-0-test in
    move_fit v im o l t of call from to r c.requires.ends (c.requires.images im o l t of).0 (subst (IsUnfit v) (same_move call from to _ _ _ r first second c.blocks_in.ensures) unfit)
