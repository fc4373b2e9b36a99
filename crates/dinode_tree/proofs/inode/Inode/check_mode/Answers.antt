use Rattle.std.proofs.Common.{sym, ◌∙◌}
use Rattle.dinode_tree.proofs.Dinodes.{wrong_mode}
use Rattle.dinode_tree.proofs.inode.Inode.check_mode.Goals as goal

pub returns-clause-damaged : goal.returns-clause-damaged
returns-clause-damaged c h o = wrong_mode h c.args.self.now _ o c.damaged.ensures (sym c.is_directory.ensures ∙ c.if-is_directory.false) (sym c.is_regular.ensures ∙ c.if-is_regular.false)
