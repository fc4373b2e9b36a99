use Rattle.std.proofs.Common.{◌≡◌, inl, inr, true, refl}
use Rattle.std.specs.Prelude.{codes}
use Rattle.glock_names.proofs.StepLaws.{answer_so}
use Rattle.move_ends.specs.Taking.{HasNameIn}
use Rattle.dinode_tree.specs.Broken as inodes
use Rattle.move_ends.proofs.Faults.{only_so, told_on}
use Rattle.move_ends.proofs.Steps.{fault_all}
use Rattle.name_moves.specs.Moving.{CanBeMoved, is_reparented, move_of}
use Rattle.move_calls.specs.Checks.{IsUnfit, IsWrongMove}
use Rattle.move_calls.proofs.Checked.{can}
use Rattle.move_calls.proofs.checks.is_fit.Goals as goal

pub returns-in-Some-clause-damaged : goal.returns-in-Some-clause-damaged
returns-in-Some-clause-damaged g c = IsWrongMove.no_data_block c.in-Some.block c.in-Some.ensures.some.0 c.in-Some.ensures.some.1

pub returns-then-is_its_own-clause-damaged : goal.returns-then-is_its_own-clause-damaged
returns-then-is_its_own-clause-damaged g c = IsWrongMove.its_own (c.is_its_own.ensures.its_own c.if-is_its_own.true)

pub returns-then-frees_target-clause-damaged : goal.returns-then-frees_target-clause-damaged
returns-then-frees_target-clause-damaged g c = IsWrongMove.shared (c.frees_target.ensures.goes c.if-frees_target.true)

pub returns-then-is_in_its_way-clause-unfit : goal.returns-then-is_in_its_way-clause-unfit
returns-then-is_in_its_way-clause-unfit g c e = elim (c.is_in_its_way.ensures.unfit c.if-is_in_its_way.true) [ inl same ↦ IsUnfit.into_itself same | inr goes ↦ IsUnfit.goes_too goes ]

pub returns-then-is_one_name-clause-unfit : goal.returns-then-is_one_name-clause-unfit
returns-then-is_one_name-clause-unfit g c e =
    let one = c.is_one_name.ensures.one c.if-is_one_name.true in
    IsUnfit.onto_itself (c.frees_inode.ensures.goes c.if-frees_inode.true) one.0 one.1

pub returns-then-frees_inode-clause-damaged : goal.returns-then-frees_inode-clause-damaged
returns-then-frees_inode-clause-damaged g c = IsWrongMove.shared_inode (c.frees_inode.ensures.goes c.if-frees_inode.true) (c.is_one_name.ensures.two c.if-is_one_name.false)

pub returns-in_err-check_inode-clause-damaged : goal.returns-in_err-check_inode-clause-damaged
returns-in_err-check_inode-clause-damaged g c =
    let v = g.V.View.seen c.args.view.now in
    told_on (IsWrongMove v (move_of c.args.m.now)) c.from_residual.result _ c.from_residual.ensures.1
    (only_so _ (IsWrongMove v (move_of c.args.m.now)) (λ rule b broken. IsWrongMove.in_inode c.args.m.now.to.inode rule b (inl refl) broken) c.in_err-check_inode.field-0.0
    (fault_all v c.args.m.now.to.inode inodes.IsBroken c.in_err-check_inode.field-0.0 c.in_err-check_inode.ensures.damaged))

pub returns-in_err-check_inode-2-clause-damaged : goal.returns-in_err-check_inode-2-clause-damaged
returns-in_err-check_inode-2-clause-damaged g c =
    let v = g.V.View.seen c.args.view.now in
    told_on (IsWrongMove v (move_of c.args.m.now)) c.from_residual-in_err-check_inode-2.result _ c.from_residual-in_err-check_inode-2.ensures.1
    (only_so _ (IsWrongMove v (move_of c.args.m.now)) (λ rule b broken. IsWrongMove.in_inode c.args.m.now.moved.inode rule b (inr refl) broken) c.in_err-check_inode-2.field-0.0
    (fault_all v c.args.m.now.moved.inode inodes.IsBroken c.in_err-check_inode-2.field-0.0 c.in_err-check_inode-2.ensures.damaged))

pub returns-clause-fit : goal.returns-clause-fit
returns-clause-fit g c =
    let v = g.V.View.seen c.args.view.now in
    let m = move_of c.args.m.now in
    let way = c.is_in_its_way.ensures.apart c.if-is_in_its_way.false in
    answer_so c.see_parent.result (λ sees. sees ≡ true → is_reparented m ≡ true → HasNameIn v m.moved.inode (codes "..")) (λ fit. fit ≡ true → CanBeMoved v m)
    (λ sees so is. can v m c.is_a_view.ensures c.requires (λ b goes. (way.1 b goes, c.frees_target.ensures.stays c.if-frees_target.false b goes, c.frees_inode.ensures.stays c.if-frees_inode.false b goes)) c.in_default.ensures.none
    (c.is_its_own.ensures.apart c.if-is_its_own.false, way.0) c.in_ok-check_inode.ensures.right c.in_ok-check_inode-2.ensures.right (so is))
    c.see_parent.ensures.parented
