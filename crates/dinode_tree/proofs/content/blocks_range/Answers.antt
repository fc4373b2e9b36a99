use Rattle.std.proofs.Common.{◌≡◌, ◌≤◌, ◌+◌, ◌*◌, ◌/◌, ◌∙◌, length, length-append, ap, arith}
use Rattle.dinode_tree.specs.Reading.{IsHeadedAt}
use Rattle.dinode_tree.specs.Walking.{laid_range, ArePieces}
use Rattle.gfs2_layout.specs.Inode.{unit}
use Rattle.dinode_tree.proofs.Pointers.{shown_of}
use Rattle.dinode_tree.proofs.Pieces.{appended, headed_more, nothing_read, pieces_of_whole, in_range, unit_some, needed_for}
use Rattle.dinode_tree.proofs.Stepping.{needed_at, answer_at}
use Rattle.dinode_tree.proofs.content.blocks_range.Goals as goal

pub loop-next-init : goal.loop-next-init
loop-next-init g c = record {
  least = omega arith;
  most = c.requires.order;
  count = omega (arith, ap length c.in_ok-bytes.ensures.items);
  read = λ h shown whole. c.in_ok-bytes.ensures.items ∙ nothing_read h c.args.at;
  headed = λ h shown i low high. absurd (omega (arith, low, high));
  pieces = λ h shown whole.
      pieces_of_whole h c.args.inode.now c.args.at (shown_of (g.V.View.seen c.args.view.now) h c.args.inode.now shown c.requires.seen) c.requires.fits c.requires.below (omega (arith, c.requires.order, c.requires.within)) whole;
}

pub loop-next-preserved : goal.loop-next-preserved
loop-next-preserved g c = record {
  least = omega (arith, c.loop-next.invariant.least);
  most = answer_at c.in_ok-part.field-0 c.in-Is.part (λ p. c.loop-next.next + length p.now ≤ c.args.end) c.in-Is.is c.in_ok-part.ensures.least;
  count = omega (arith, c.loop-next.invariant.count, c.loop-next.invariant.least, ap length c.in_ok-extend_from_slice-in-Is.ensures.items, length-append c.loop-next.bytes.items c.in-Is.part.now);
  read = λ h shown whole.
      c.in_ok-extend_from_slice-in-Is.ensures.items ∙ appended h c.args.at c.loop-next.next c.loop-next.bytes.items c.in-Is.part.now c.loop-next.invariant.least (c.loop-next.invariant.read h shown whole)
      (answer_at c.in_ok-part.field-0 c.in-Is.part (λ p. p.now ≡ laid_range h c.loop-next.next (c.loop-next.next + length p.now)) c.in-Is.is
      (c.in_ok-part.ensures.read h shown (c.loop-next.invariant.pieces h shown whole)));
  headed = λ h shown.
      headed_more h c.args.at c.loop-next.next (length c.in-Is.part.now) (unit_some h c.args.inode.now (shown_of (g.V.View.seen c.args.view.now) h c.args.inode.now shown c.requires.seen)) (c.loop-next.invariant.headed h shown)
      (answer_at c.in_ok-part.field-0 c.in-Is.part (λ p. IsHeadedAt h (c.loop-next.next / unit h)) c.in-Is.is (c.in_ok-part.ensures.headed h shown))
      (answer_at c.in_ok-part.field-0 c.in-Is.part (λ p. c.loop-next.next + length p.now ≤ (c.loop-next.next / unit h + 1) * unit h) c.in-Is.is (c.in_ok-part.ensures.short h shown));
  pieces = λ h shown whole.
      answer_at c.in_ok-part.field-0 c.in-Is.part (λ p. ArePieces h ((c.loop-next.next + length p.now) / unit h)) c.in-Is.is
      (c.in_ok-part.ensures.pieces h shown (c.loop-next.invariant.pieces h shown whole));
}

pub returns-in-NeedBlock-clause-needed : goal.returns-in-NeedBlock-clause-needed
returns-in-NeedBlock-clause-needed g c h shown =
    let o = shown_of (g.V.View.seen c.args.view.now) h c.args.inode.now shown c.requires.seen in
    needed_for (g.V.View.seen c.args.view.now) h _ _ 0 0 _
    (in_range h c.args.inode.now c.args.at c.args.end c.loop-next.next o (unit_some h c.args.inode.now o) c.loop-next.invariant.least c.loop-next-test.true c.requires.within) (omega arith)
    (needed_at c.in_ok-part.field-0 c.in-NeedBlock.missing _ c.in-NeedBlock.is (c.in_ok-part.ensures.needed h shown))

pub returns-clause-headed : goal.returns-clause-headed
returns-clause-headed g c h shown i low high = c.loop-next.invariant.headed h shown i low (omega (arith, high, c.loop-next-test.false))
