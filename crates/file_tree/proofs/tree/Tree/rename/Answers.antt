use Rattle.std.proofs.Common.{sym, ◌∙◌}
use Rattle.file_tree.specs.Apply.{walk}
use Rattle.file_tree.specs.declared.reply.Reply.TheVariants as reply
use Rattle.file_tree.proofs.MoveLaws.{found_there, rename_is}
use Rattle.file_tree.proofs.tree.Tree.rename.Goals as goal

pub returns-clause-ok : goal.returns-clause-ok
returns-clause-ok c =
    let may = c.in_default.ensures in
    let found = found_there (walk c.args.self.now c.args.from.now) may.there in
    rename_is c.args.self.now found.0 c.args.from.now c.args.to.now may found.1
    ∙ (λ i. record { reply = reply.Ok; tree = sym (c.in_ok-move_below.ensures.ok found.0 found.1) i })
