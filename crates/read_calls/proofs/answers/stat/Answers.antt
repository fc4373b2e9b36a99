use Rattle.std.proofs.Common.{sym, ◌∙◌}
use Rattle.path_walks.proofs.Steps.{differs, linear_all, linear_block}
use Rattle.read_calls.proofs.answers.stat.Goals as goal

pub rule_of_few-requires-clause-plain : goal.rule_of_few-requires-clause-plain
rule_of_few-requires-clause-plain g c =
    linear_block (g.V.View.seen c.args.view.now) c.args.place.now.inode c.args.place.now.dinode c.requires.dinode (sym c.is_directory.ensures ∙ c.if-not-is_directory.false) (differs _ _ c.if-place-eq1.false)

pub rule_of_few-requires-clause-linear : goal.rule_of_few-requires-clause-linear
rule_of_few-requires-clause-linear g c =
    linear_all (g.V.View.seen c.args.view.now) c.args.place.now.inode c.args.place.now.dinode c.requires.dinode (sym c.is_directory.ensures ∙ c.if-not-is_directory.false) (differs _ _ c.if-place-eq1.false)
