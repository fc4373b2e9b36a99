use Rattle.std.proofs.Common.{◌≡◌, false, true}
use Rattle.glock_names.proofs.StepLaws.{answer_at}
use Rattle.name_moves.specs.Moving.{CanBeMoved, move_of}
use Rattle.move_calls.specs.Checks.{IsUnfit}
use Rattle.move_calls.proofs.checks.can_move.Goals as goal

pub clear_ways-requires : goal.clear_ways-requires
clear_ways-requires g c = answer_at _ _ (λ fit. fit ≡ true → CanBeMoved (g.V.View.seen c.args.view.now) (move_of c.args.m.now)) c.in-Is-true.is c.in_ok-is_fit.ensures.fit c.in-Is-true.field-0-test

pub returns-in-Is-clause-can : goal.returns-in-Is-clause-can
returns-in-Is-clause-can g c e = answer_at _ _ (λ fit. fit ≡ true → CanBeMoved (g.V.View.seen c.args.view.now) (move_of c.args.m.now)) c.in-Is-true.is c.in_ok-is_fit.ensures.fit c.in-Is-true.field-0-test

pub returns-in-Is-false-clause-unfit : goal.returns-in-Is-false-clause-unfit
returns-in-Is-false-clause-unfit g c e = answer_at _ _ (λ fit. fit ≡ false → IsUnfit (g.V.View.seen c.args.view.now) (move_of c.args.m.now)) c.in-Is-false.is c.in_ok-is_fit.ensures.unfit c.in-Is-false.field-0-test
