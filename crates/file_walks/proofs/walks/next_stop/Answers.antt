use Rattle.std.proofs.Common.{◌≤◌, sym, ap, subst, ◌∙◌, arith}
use Rattle.dinode_tree.proofs.Dinodes.{lacks}
use Rattle.growth_laws.proofs.Places.{size_large}
use Rattle.file_walks.proofs.Steps.{lacks_header, needed_stop, seen_bytes}
use Rattle.file_walks.proofs.walks.next_stop.Goals as goal

pub returns-in_default-clause-needed : goal.returns-in_default-clause-needed
returns-in_default-clause-needed g c h i shown leads wanted =
    needed_stop (g.V.View.seen c.args.view.now) h c.args.way.now.inode c.args.way.now.level c.args.way.now.index i c.args.stop.now c.missing_block.result shown
    (subst (λ n. 512 ≤ n) (sym shown.size) (size_large (g.V.View.seen c.args.view.now).size c.in_default.ensures.view.block_size)) leads wanted c.requires.some c.requires.above c.in_default.ensures.none c.missing_block.ensures

pub returns-then-not-has_header-clause-damaged : goal.returns-then-not-has_header-clause-damaged
returns-then-not-has_header-clause-damaged g c h shown w leads =
    lacks_header (g.V.View.seen c.args.view.now) h c.args.way.now.inode c.args.stop.now.pointer.from c.args.stop.now.pointer.index c.args.stop.now.level _ c.args.stop.now.block c.in-Some.bytes.now c.damaged.result
    shown (omega (arith, c.requires.above)) (leads c.requires.some) c.in-Some.ensures.some c.damaged.ensures (lacks c.has_header.result c.has_header.ensures c.if-not-has_header.true)

pub returns-clause-there : goal.returns-clause-there
returns-clause-there g c = (c.in-Some.bytes.now, ap (g.V.View.seen c.args.view.now).block_at c.in_ok-next.ensures.from ∙ c.in-Some.ensures.some)

pub returns-clause-passed : goal.returns-clause-passed
returns-clause-passed g c h file shown passed leads =
    c.in_ok-next.ensures.passed h file c.requires.some passed
    (seen_bytes (g.V.View.seen c.args.view.now) h c.args.way.now.inode _ _ _ _ c.args.stop.now.block c.in-Some.bytes.now shown (leads c.requires.some) c.in-Some.ensures.some c.in-Some.ensures.size)
