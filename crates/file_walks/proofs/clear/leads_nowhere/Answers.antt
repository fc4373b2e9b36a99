use Rattle.dinode_tree.proofs.Dinodes.{lacks}
use Rattle.file_walks.proofs.Steps.{lacks_header, needed_first}
use Rattle.file_walks.proofs.clear.leads_nowhere.Goals as goal

pub returns-in_default-clause-needed : goal.returns-in_default-clause-needed
returns-in_default-clause-needed g c h first shown leads =
    needed_first (g.V.View.seen c.args.view.now) h c.args.inode first c.args.stop.now c.missing_block.result shown (c.in_default.ensures.view.block_size) leads c.requires.indirect c.in_default.ensures.none c.missing_block.ensures

pub returns-then-not-has_header-clause-damaged : goal.returns-then-not-has_header-clause-damaged
returns-then-not-has_header-clause-damaged g c h first shown leads =
    lacks_header (g.V.View.seen c.args.view.now) h c.args.inode c.args.stop.now.pointer.from c.args.stop.now.pointer.index c.args.stop.now.level first c.args.stop.now.block c.in-Some.bytes.now c.damaged.result
    shown c.requires.indirect leads c.in-Some.ensures.some c.damaged.ensures (lacks c.has_header.result c.has_header.ensures c.if-not-has_header.true)
