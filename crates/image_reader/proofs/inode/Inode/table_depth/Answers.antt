use Rattle.std.proofs.Common.{arith}
use Rattle.image_reader.proofs.LeafFaults.{table_large, table_deep, table_small, table_misfit, depth_is}
use Rattle.image_reader.proofs.inode.Inode.table_depth.Goals as goal

pub returns-then-depth-gt15-clause-damaged : goal.returns-then-depth-gt15-clause-damaged
returns-then-depth-gt15-clause-damaged c = table_deep c.args.self.now _ c.damaged.ensures c.requires (omega arith)

pub returns-then-count-size-clause-damaged : goal.returns-then-count-size-clause-damaged
returns-then-count-size-clause-damaged c = table_small c.args.self.now _ c.pointers_of-count.result c.damaged-then-count-size.ensures c.requires c.pointers_of-count.ensures c.if-count-size.true

pub returns-then-size-count-clause-damaged : goal.returns-then-size-count-clause-damaged
returns-then-size-count-clause-damaged c = table_large c.args.self.now _ c.damaged-then-size-count.ensures c.requires (omega (arith, c.if-size-count.true, c.pointers_of-count.ensures))

pub returns-then-self-count-clause-damaged : goal.returns-then-self-count-clause-damaged
returns-then-self-count-clause-damaged c = table_misfit c.args.self.now _ c.pointers_of-count.result c.damaged-then-self-count.ensures c.requires c.pointers_of-count.ensures c.if-self-count.true

pub returns-clause-depth : goal.returns-clause-depth
returns-clause-depth c = depth_is c.args.self.now
