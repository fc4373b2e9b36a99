use Rattle.std.proofs.Common.{ap, ◌∙◌}
use Rattle.std.specs.Prelude.{codes, not}
use Rattle.gfs2_layout.specs.Holding.{Holding}
use Rattle.glock_names.proofs.StepLaws.{answer_at}
use Rattle.dinode_tree.specs.Shown.{IsShown}
use Rattle.linear_dirs.specs.Broken.{IsBroken}
use Rattle.path_walks.specs.Walks.{IsWrongAt}
use Rattle.path_walks.proofs.Faults.{only_so, told_on}
use Rattle.path_walks.proofs.Steps.{fault_all, wrong_linear}
use Rattle.read_calls.proofs.Dots.{none_found, says_of, some_found}
use Rattle.read_calls.proofs.answers.rule_of_few.Goals as goal

pub returns-in_err-dot-clause-damaged : goal.returns-in_err-dot-clause-damaged
returns-in_err-dot-clause-damaged g c =
    let v = g.V.View.seen c.args.view.now in
    told_on (IsWrongAt v c.args.dir) _ _ c.from_residual.ensures.1
    (only_so (λ rule b. (h : Holding) → IsShown v c.args.dir h → IsBroken h rule b) (IsWrongAt v c.args.dir) (wrong_linear v c.args.dir c.requires.linear) c.in_err-dot.field-0.0
    (fault_all v c.args.dir IsBroken c.in_err-dot.field-0.0 c.in_err-dot.ensures.damaged))

pub returns-in_err-dots-clause-damaged : goal.returns-in_err-dots-clause-damaged
returns-in_err-dots-clause-damaged g c =
    let v = g.V.View.seen c.args.view.now in
    told_on (IsWrongAt v c.args.dir) _ _ c.from_residual-in_err-dots.ensures.1
    (only_so (λ rule b. (h : Holding) → IsShown v c.args.dir h → IsBroken h rule b) (IsWrongAt v c.args.dir) (wrong_linear v c.args.dir c.requires.linear) c.in_err-dots.field-0.0
    (fault_all v c.args.dir IsBroken c.in_err-dots.field-0.0 c.in_err-dots.ensures.damaged))

pub returns-then-is_none-clause-rule : goal.returns-then-is_none-clause-rule
returns-then-is_none-clause-rule g c =
    IsWrongAt.no_dot (λ h shown. (c.requires.linear h shown).directory) (λ h shown. (c.requires.linear h shown.inode).linear)
    (λ h shown. says_of h c.as_slice.result.now (codes ".") c.in-Is.dot _ (c.requires.linear h shown.inode).linear c.as_slice.ensures (none_found c.in-Is.dot (c.is_none.ensures ∙ ap not c.if-is_none.true))
    (answer_at _ _ _ c.in-Is.is (c.in_ok-dot.ensures.found h shown.inode)))

pub returns-then-is_none-2-clause-rule : goal.returns-then-is_none-2-clause-rule
returns-then-is_none-2-clause-rule g c =
    IsWrongAt.no_dots (λ h shown. (c.requires.linear h shown).directory) (λ h shown. (c.requires.linear h shown.inode).linear)
    (λ h shown. says_of h c.as_slice-2.result.now (codes "..") c.in-Is-2.dots _ (c.requires.linear h shown.inode).linear c.as_slice-2.ensures (none_found c.in-Is-2.dots (c.is_none-2.ensures ∙ ap not c.if-is_none-2.true))
    (answer_at _ _ _ c.in-Is-2.is (c.in_ok-dots.ensures.found h shown.inode)))

pub returns-clause-rule : goal.returns-clause-rule
returns-clause-rule g c =
    let own = some_found c.in-Is.dot (c.is_none.ensures ∙ ap not c.if-is_none.false) in
    let up = some_found c.in-Is-2.dots (c.is_none-2.ensures ∙ ap not c.if-is_none-2.false) in
    IsWrongAt.too_few own.0 up.0 (λ h shown. (c.requires.linear h shown).directory) (λ h shown. (c.requires.linear h shown.inode).linear)
    (λ h shown. (
      says_of h c.as_slice.result.now (codes ".") c.in-Is.dot _ (c.requires.linear h shown.inode).linear c.as_slice.ensures own.1 (answer_at _ _ _ c.in-Is.is (c.in_ok-dot.ensures.found h shown.inode)),
      says_of h c.as_slice-2.result.now (codes "..") c.in-Is-2.dots _ (c.requires.linear h shown.inode).linear c.as_slice-2.ensures up.1 (answer_at _ _ _ c.in-Is-2.is (c.in_ok-dots.ensures.found h shown.inode)),
    )) c.requires.few
