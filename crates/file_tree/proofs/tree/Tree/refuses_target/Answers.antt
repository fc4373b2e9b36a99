use Rattle.std.proofs.Common.{sym, ap, ◌∙◌}
use Rattle.file_tree.specs.Walks.{target_refusal}
use Rattle.file_tree.proofs.MoveLaws.{target_path}
use Rattle.file_tree.proofs.tree.Tree.refuses_target.Goals as goal

pub returns-in-Err : goal.returns-in-Err
returns-in-Err c =
    sym (target_path c.args.self.now c.args.moved.now c.args.to.now c.in-Some.parent.now c.in-Some.name.now c.in-Some.ensures.cases.0
    ∙ ap (λ w. target_refusal w c.args.moved.now c.in-Some.name.now) c.in-Err.ensures)

pub returns-in-Ok : goal.returns-in-Ok
returns-in-Ok c =
    c.refuses_in.ensures ∙ sym (target_path c.args.self.now c.args.moved.now c.args.to.now c.in-Some.parent.now c.in-Some.name.now c.in-Some.ensures.cases.0
    ∙ ap (λ w. target_refusal w c.args.moved.now c.in-Some.name.now) c.in-Ok.ensures)
