use Rattle.std.proofs.Common.{arith}
use Rattle.dinode_tree.proofs.Dinodes.{wrong_pointed, fits_pointed, fits_last}
use Rattle.dinode_tree.proofs.inode.Inode.check_pointed.Goals as goal

pub returns-then-count-eq0-clause-fits : goal.returns-then-count-eq0-clause-fits
returns-then-count-eq0-clause-fits c = fits_pointed c.args.self.now c.args.level c.requires.height c.requires.low (omega (arith, c.content_count-count.ensures, c.if-count-eq0.true))

pub returns-then-last-fan-clause-damaged : goal.returns-then-last-fan-clause-damaged
returns-then-last-fan-clause-damaged c h o =
    wrong_pointed h c.args.self.now _ c.args.level _ _ o c.damaged.ensures c.requires.height c.content_count-count.ensures c.if-count-eq0.false c.split-last.ensures.pointer (omega (arith, c.if-last-fan.true, c.fan.ensures))

pub returns-clause-fits : goal.returns-clause-fits
returns-clause-fits c =
    fits_last c.args.self.now c.args.level _ _ c.requires.height c.requires.low c.content_count-count.ensures c.split-last.ensures.pointer (omega (arith, c.if-last-fan.false, c.fan.ensures))
