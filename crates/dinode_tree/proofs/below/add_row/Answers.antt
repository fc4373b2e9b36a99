use Rattle.std.proofs.Common.{arith}
use Rattle.dinode_tree.proofs.Rows.{UnderAt, item_in, upto_more, under_at, under_row, there_more}
use Rattle.dinode_tree.proofs.Stepping.{answer_at, needed_at}
use Rattle.dinode_tree.proofs.below.add_row.Goals as goal

pub add_block-requires-clause-above : goal.add_block-requires-clause-above
add_block-requires-clause-above g c = c.requires.above _ (item_in c.args.row.now c.loop-link.link-index _ c.loop-link-test.true)

pub returns-in-NeedBlock-clause-needed : goal.returns-in-NeedBlock-clause-needed
returns-in-NeedBlock-clause-needed g c h shown led =
    needed_at c.in_ok-add_block.field-0 c.in-NeedBlock.missing _ c.in-NeedBlock.is (c.in_ok-add_block.ensures.needed h shown (led _ (item_in c.args.row.now c.loop-link.link-index _ c.loop-link-test.true)))

pub loop-link-preserved : goal.loop-link-preserved
loop-link-preserved g c =
    let v = g.V.View.seen c.args.view.now in
    record {
      within = omega (arith, c.loop-link-test.true);
      added = upto_more _ _ _ (UnderAt v c.args.row.now) c.loop-link.link-index c.loop-link.invariant.added
          (under_at v _ _ c.args.row.now c.loop-link.link-index _ c.loop-link-test.true (answer_at _ _ _ c.in-Is.is c.in_ok-add_block.ensures.added));
      there = there_more v c.args.row.now c.loop-link.link-index _ c.loop-link-test.true (answer_at _ _ _ c.in-Is.is c.in_ok-add_block.ensures.there) c.loop-link.invariant.there;
    }

pub returns-clause-added : goal.returns-clause-added
returns-clause-added g c =
    under_row (g.V.View.seen c.args.view.now) _ _ c.args.row.now c.loop-link.link-index (omega (arith, c.loop-link.invariant.within, c.loop-link-test.false)) c.loop-link.invariant.added
