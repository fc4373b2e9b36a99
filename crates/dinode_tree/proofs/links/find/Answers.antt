use Rattle.std.proofs.Common.{arith}
use Rattle.dinode_tree.proofs.Pointers.{all_headed}
use Rattle.dinode_tree.proofs.Stepping.{needed_at, handed_kept}
use Rattle.dinode_tree.proofs.links.find.Goals as goal

pub returns-in-NeedBlock-clause-needed : goal.returns-in-NeedBlock-clause-needed
returns-in-NeedBlock-clause-needed g c h shown =
    needed_at c.in_ok-next.field-0 c.in-NeedBlock.missing _ c.in-NeedBlock.is (c.in_ok-next.ensures.needed h c.args.index shown (c.loop-link.invariant.step h shown))

pub returns-in_err-link-clause-kept : goal.returns-in_err-link-clause-kept
returns-in_err-link-clause-kept g c =
    handed_kept _ (g.V.View.seen c.args.view.now) c.args.inode.now.block c.args.inode.now.bytes.now _ c.from_residual.ensures.1 c.requires.bytes c.in_err-link.ensures.own

pub returns-clause-headed : goal.returns-clause-headed
returns-clause-headed g c h shown = all_headed h c.args.index c.loop-link.link (omega (arith, c.loop-link-test.false)) (c.loop-link.invariant.step h shown)
