use Rattle.std.proofs.Common.{arith}
use Rattle.image_mount.proofs.Causes.{wrong_height, wrong_size}
use Rattle.image_mount.proofs.inodes.Inode.check_linear.Goals as goal

pub returns-then-self-ne0-clause-refused : goal.returns-then-self-ne0-clause-refused
returns-then-self-ne0-clause-refused c im read of format low has =
    wrong_height im _ c.args.self.now.block c.args.self.now.dinode c.damaged.ensures read format low has c.requires.linear c.if-self-ne0.true

pub returns-then-self-from-clause-refused : goal.returns-then-self-from-clause-refused
returns-then-self-from-clause-refused c im read of format low has =
    wrong_size im _ c.args.self.now.block c.args.size c.args.self.now.dinode c.damaged-then-self-from.ensures read of c.requires.size format low has c.requires.linear
    (λ e. c.if-self-from.true (omega (arith, e, c.from.ensures, c.requires.size)))

pub returns-clause-linear : goal.returns-clause-linear
returns-clause-linear c = (c.if-self-ne0.false, omega (arith, c.if-self-from.false, c.from.ensures, c.requires.size))
