use Rattle.image_mount.proofs.LeafCauses.{table_deep, table_large, table_misfit, table_small}
use Rattle.image_mount.proofs.inodes.Inode.table_depth.Goals as goal
use Rattle.std.proofs.Common.{arith}

pub returns-then-depth-gt15-clause-refused : goal.returns-then-depth-gt15-clause-refused
returns-then-depth-gt15-clause-refused c im read of format low hashed =
    table_deep im _ c.args.self.now.block c.args.size c.args.self.now.dinode c.damaged.ensures read of format low hashed c.requires.most c.if-depth-gt15.true

pub returns-then-count-from-clause-refused : goal.returns-then-count-from-clause-refused
returns-then-count-from-clause-refused c im read of format low hashed =
    table_small im _ c.args.self.now.block c.args.size c.args.self.now.dinode c.damaged-then-count-from.ensures read of format low hashed c.pointers_of-count.result c.pointers_of-count.ensures
    (omega (arith, c.if-count-from.true, c.from.ensures))

pub returns-then-from-count-clause-refused : goal.returns-then-from-count-clause-refused
returns-then-from-count-clause-refused c im read of format low hashed =
    table_large im _ c.args.self.now.block c.args.size c.args.self.now.dinode c.damaged-then-from-count.ensures read of format low hashed
    (omega (arith, c.if-from-count.true, c.from-2.ensures, c.pointers_of-count.ensures))

pub returns-then-self-count-clause-refused : goal.returns-then-self-count-clause-refused
returns-then-self-count-clause-refused c im read of format low hashed =
    table_misfit im _ c.args.self.now.block c.args.size c.args.self.now.dinode c.damaged-then-self-count.ensures read of format low hashed c.pointers_of-count.result c.pointers_of-count.ensures c.if-self-count.true

pub returns-clause-least : goal.returns-clause-least
returns-clause-least c = omega (arith, c.if-count-from.false, c.from.ensures, c.pointers_of-count.ensures)

pub returns-clause-greatest : goal.returns-clause-greatest
returns-clause-greatest c = omega (arith, c.if-from-count.false, c.from-2.ensures, c.pointers_of-count.ensures)
