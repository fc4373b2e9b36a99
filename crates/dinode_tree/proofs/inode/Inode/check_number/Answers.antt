use Rattle.dinode_tree.proofs.Dinodes.{wrong_address, wrong_number}
use Rattle.dinode_tree.proofs.inode.Inode.check_number.Goals as goal

pub returns-then-self-clause-damaged : goal.returns-then-self-clause-damaged
returns-then-self-clause-damaged c h o = wrong_address h c.args.self.now _ o c.damaged.ensures c.if-self.true

pub returns-then-self-eq0-clause-damaged : goal.returns-then-self-eq0-clause-damaged
returns-then-self-eq0-clause-damaged c h o = wrong_number h c.args.self.now _ o c.damaged-then-self-eq0.ensures c.if-self-eq0.true
