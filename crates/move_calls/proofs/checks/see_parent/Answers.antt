use Rattle.std.proofs.Common.{◌≡◌, ◌&&◌, Bool, true, false, refl, sym, ◌∙◌, subst}
use Rattle.std.specs.Prelude.{codes}
use Rattle.gfs2_layout.specs.Inode.{has_hash_flag}
use Rattle.gfs2_layout.specs.Structures.{is_directory}
use Rattle.glock_names.proofs.StepLaws.{answer_at, needed_at}
use Rattle.move_ends.specs.Shown.{IsBroken, IsNeededFor, IsShown, Says}
use Rattle.move_ends.proofs.Faults.{only_so, told_on}
use Rattle.move_ends.proofs.Steps.{directory_here, fault_of_all}
use Rattle.name_moves.specs.Moving.{move_of}
use Rattle.move_calls.specs.Checks.{IsNeededToSee, IsWrongMove}
use Rattle.move_calls.proofs.Checked.{and_never}
use Rattle.move_calls.proofs.checks.see_parent.Goals as goal

left_of : (a b : Bool) → (a && b) ≡ true → a ≡ true
left_of true b e = refl
left_of false b e = cc

pub look-requires : goal.look-requires
look-requires g c = record {
  directory = directory_here (g.V.View.seen c.args.view.now) c.args.m.now.moved.inode c.args.m.now.moved.dinode c.requires.inode_read
      (left_of (is_directory c.args.m.now.moved.dinode) _ (sym c.gets_parent.ensures ∙ c.if-not-gets_parent.false));
}

pub returns-in_err-look-clause-damaged : goal.returns-in_err-look-clause-damaged
returns-in_err-look-clause-damaged g c =
    let v = g.V.View.seen c.args.view.now in
    told_on (IsWrongMove v (move_of c.args.m.now)) c.from_residual.result _ c.from_residual.ensures.1
    (only_so _ (IsWrongMove v (move_of c.args.m.now)) (λ rule b broken. IsWrongMove.in_directory rule b (sym c.gets_parent.ensures ∙ c.if-not-gets_parent.false) broken) c.in_err-look.field-0.0
    (fault_of_all (IsShown v c.args.m.now.moved.inode) (IsBroken v) _ c.in_err-look.field-0.0 c.in_err-look.ensures.kept c.in_err-look.ensures.damaged))

pub returns-else-is_hashed-clause-damaged : goal.returns-else-is_hashed-clause-damaged
returns-else-is_hashed-clause-damaged g c =
    IsWrongMove.no_parent (sym c.gets_parent.ensures ∙ c.if-not-gets_parent.false)
    (λ h shown. subst (λ d. (is_directory d && has_hash_flag d) ≡ false) (c.requires.inode_read h shown.inode) (and_never _ _ (sym c.is_hashed.ensures ∙ c.if-is_hashed.false)))
    (λ h shown. subst (Says h (codes "..")) c.in-Is-None.field-0-is (answer_at _ _ (Says h (codes "..")) c.in-Is-None.is (c.in_ok-look.ensures.found h shown)))

pub returns-in-NeedBlock-clause-needed : goal.returns-in-NeedBlock-clause-needed
returns-in-NeedBlock-clause-needed g c =
    let v = g.V.View.seen c.args.view.now in
    IsNeededToSee.for_parent (sym c.gets_parent.ensures ∙ c.if-not-gets_parent.false) (λ h shown. needed_at _ _ (IsNeededFor v h (codes "..")) c.in-NeedBlock.is (c.in_ok-look.ensures.needed h shown))
    (needed_at _ _ _ c.in-NeedBlock.is c.in_ok-look.ensures.absent)
