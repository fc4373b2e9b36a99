use Rattle.dinode_tree.proofs.Dinodes.{wrong_height}
use Rattle.dinode_tree.proofs.inode.Inode.check_fits.Goals as goal

pub returns-then-self-gt10-clause-damaged : goal.returns-then-self-gt10-clause-damaged
returns-then-self-gt10-clause-damaged c h o = wrong_height h c.args.self.now _ o c.damaged.ensures c.if-self-gt10.true
