use Rattle.std.proofs.Common.{sym, ◌∙◌}
use Rattle.dinode_tree.proofs.Dinodes.{unit_of_directory, unit_of_file}
use Rattle.dinode_tree.proofs.inode.Inode.unit.Goals as goal

pub returns-then-is_directory-clause-value : goal.returns-then-is_directory-clause-value
returns-then-is_directory-clause-value c = sym (unit_of_directory c.args.self.now (sym c.is_directory.ensures ∙ c.if-is_directory.true))

pub returns-else-is_directory-clause-value : goal.returns-else-is_directory-clause-value
returns-else-is_directory-clause-value c = sym (unit_of_file c.args.self.now (sym c.is_directory.ensures ∙ c.if-is_directory.false))
