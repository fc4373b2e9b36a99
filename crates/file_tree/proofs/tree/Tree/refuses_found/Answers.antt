use Rattle.std.proofs.Common.{sym, ◌∙◌}
use Rattle.file_tree.proofs.MoveLaws.{found_match}
use Rattle.file_tree.proofs.tree.Tree.refuses_found.Goals as goal

pub returns : goal.returns
returns c =
    found_match c.args.self.now c.args.moved.now c.args.from.now c.args.to.now c.refuses_target.result c.refuses_target.ensures c.requires.moved c.requires.some
    (sym c.leads.ensures ∙ c.if-leads.false)
