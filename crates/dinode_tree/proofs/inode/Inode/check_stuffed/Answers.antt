use Rattle.std.proofs.Common.{arith}
use Rattle.dinode_tree.proofs.Dinodes.{wrong_stuffed, fits_stuffed}
use Rattle.dinode_tree.proofs.inode.Inode.check_stuffed.Goals as goal

pub returns-then-self-clause-damaged : goal.returns-then-self-clause-damaged
returns-then-self-clause-damaged c h o = wrong_stuffed h c.args.self.now _ o c.damaged.ensures c.requires (omega (arith, c.if-self.true, c.args.self.now.least))

pub returns-clause-fits : goal.returns-clause-fits
returns-clause-fits c = fits_stuffed c.args.self.now c.requires (omega (arith, c.if-self.false, c.args.self.now.least))
