use Rattle.std.proofs.Common.{ℕ, sym, subst}
use Rattle.std.specs.Prelude.{Contains, IfNone}
use Rattle.glock_names.proofs.StepLaws.{answer_at, needed_at}
use Rattle.hash_dirs.proofs.Leaves.{found_at}
use Rattle.move_ends.proofs.Faults.{tells_so, told_on}
use Rattle.name_moves.specs.Moving.{move_of}
use Rattle.move_calls.specs.Checks.{IsNeededOnWays, IsNeededToSee, IsOffItsWays, IsOnItsWay, IsWrongMove, IsWrongOnWays}
use Rattle.move_calls.proofs.Room.{at_none}
use Rattle.move_calls.proofs.OnWays.{way_stays}
use Rattle.move_calls.proofs.checks.clear_ways.Goals as goal

pub returns-in_err-block_on_ways-clause-damaged : goal.returns-in_err-block_on_ways-clause-damaged
returns-in_err-block_on_ways-clause-damaged g c =
    let v = g.V.View.seen c.args.view.now in
    let m = move_of c.args.m.now in
    told_on (IsWrongMove v m) c.from_residual.result _ c.from_residual.ensures.1
    (tells_so (IsWrongOnWays v m) (IsWrongMove v m) (λ rule b wrong. IsWrongMove.on_way rule b wrong) c.in_err-block_on_ways.field-0.0 c.in_err-block_on_ways.ensures.damaged)

pub returns-in-Is-None-clause-clear : goal.returns-in-Is-None-clause-clear
returns-in-Is-None-clause-clear g c b goes =
    let v = g.V.View.seen c.args.view.now in
    let m = move_of c.args.m.now in
    let none : (x : ℕ) → Contains c.freed_blocks.result.now x → IsOffItsWays v m x =
    at_none ((x : ℕ) → Contains c.freed_blocks.result.now x → IsOffItsWays v m x) c.in-Is-None.field-0 c.in-Is-None.field-0-is
    (answer_at _ _ (λ found. IfNone found ((x : ℕ) → Contains c.freed_blocks.result.now x → IsOffItsWays v m x)) c.in-Is-None.is c.in_ok-block_on_ways.ensures.none) in
    none b (subst (λ xs. Contains xs b) (sym c.freed_blocks.ensures) goes)

pub returns-in-Is-Some-clause-damaged : goal.returns-in-Is-Some-clause-damaged
returns-in-Is-Some-clause-damaged g c =
    let v = g.V.View.seen c.args.view.now in
    let m = move_of c.args.m.now in
    let on = found_at c.in_ok-block_on_ways.field-0 c.in-Is-Some.field-0 c.in-Is-Some.block (λ b. Contains c.freed_blocks.result.now b × IsOnItsWay v m b) c.in-Is-Some.is c.in-Is-Some.field-0-is c.in_ok-block_on_ways.ensures.some in
    IsWrongMove.shared_way c.in-Is-Some.block on.1 (way_stays v m c.requires on.1.directory on.1.name on.1.way) (subst (λ xs. Contains xs c.in-Is-Some.block) c.freed_blocks.ensures on.0)

pub returns-in-NeedBlock-clause-needed : goal.returns-in-NeedBlock-clause-needed
returns-in-NeedBlock-clause-needed g c =
    let v = g.V.View.seen c.args.view.now in
    IsNeededToSee.on_way (needed_at _ _ (IsNeededOnWays v (move_of c.args.m.now)) c.in-NeedBlock.is c.in_ok-block_on_ways.ensures.needed)
