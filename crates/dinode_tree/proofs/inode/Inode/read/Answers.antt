use Rattle.dinode_tree.proofs.Dinodes.{lacks_header, lacks}
use Rattle.dinode_tree.proofs.inode.Inode.read.Goals as goal

pub returns-then-not-has_header-clause-damaged : goal.returns-then-not-has_header-clause-damaged
returns-then-not-has_header-clause-damaged c h own same =
    lacks_header h _ c.args.block c.args.bytes.now c.damaged.ensures own same (lacks c.has_header.result c.has_header.ensures c.if-not-has_header.true)
