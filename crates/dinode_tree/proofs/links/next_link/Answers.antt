use Rattle.dinode_tree.proofs.Dinodes.{lacks}
use Rattle.dinode_tree.proofs.Pointers.{lacks_indirect, needed_link, same_bytes, shown_of}
use Rattle.dinode_tree.proofs.Stepping.{handed_kept}
use Rattle.dinode_tree.proofs.links.next_link.Goals as goal

pub returns-in_default-clause-needed : goal.returns-in_default-clause-needed
returns-in_default-clause-needed g c h index shown is =
    needed_link (g.V.View.seen c.args.view.now) h c.args.inode.now index 1 c.args.link.now _ shown c.requires.seen is c.requires.above c.in_default.ensures.none c.missing_block.ensures

pub returns-then-not-has_header-clause-damaged : goal.returns-then-not-has_header-clause-damaged
returns-then-not-has_header-clause-damaged g c h index shown is =
    lacks_indirect (g.V.View.seen c.args.view.now) h _ index c.args.link.now c.in-Some.bytes.now _ shown is c.requires.above c.in-Some.ensures.some c.damaged.ensures
    (lacks c.has_header.result c.has_header.ensures c.if-not-has_header.true)

pub returns-in_err-found-clause-kept : goal.returns-in_err-found-clause-kept
returns-in_err-found-clause-kept g c =
    handed_kept _ (g.V.View.seen c.args.view.now) c.args.inode.now.block c.args.inode.now.bytes.now _ c.from_residual.ensures.1 c.requires.seen.bytes c.in_err-found.ensures.own

pub returns-clause-step : goal.returns-clause-step
returns-clause-step g c h index shown is =
    (c.in_ok-found.ensures.step h index (shown_of (g.V.View.seen c.args.view.now) h c.args.inode.now shown c.requires.seen)
    (same_bytes (g.V.View.seen c.args.view.now) h c.args.inode.now.block index c.args.link.now c.in-Some.bytes.now shown is c.in-Some.ensures.some) (c.has_header.ensures.0 c.if-not-has_header.false) is)
