use Rattle.std.proofs.Common.{sym, ◌∙◌}
use Rattle.file_tree.proofs.WalkLaws.{add_refused, add_taken}
use Rattle.file_tree.proofs.tree.Tree.add.Goals as goal

pub returns-in-Some-refuses_new-clause-ok : goal.returns-in-Some-refuses_new-clause-ok
returns-in-Some-refuses_new-clause-ok c =
    add_refused c.args.self.now c.args.new c.args.path.now c.in-Some.parent.now c.in-Some.name.now c.in-Some-refuses_new.refusal c.in-Some.ensures.cases.0
    (sym c.refuses_new.ensures ∙ c.in-Some-refuses_new.is)

pub returns-in_ok-put_new-in-Some-clause-ok : goal.returns-in_ok-put_new-in-Some-clause-ok
returns-in_ok-put_new-in-Some-clause-ok c =
    add_taken c.args.self.now c.args.new c.put_new.new.self c.args.path.now c.in-Some.parent.now c.in-Some.name.now c.in-Some.ensures.cases.0
    (sym c.refuses_new.ensures ∙ c.in_default.is) c.in_ok-put_new-in-Some.ensures.ok
