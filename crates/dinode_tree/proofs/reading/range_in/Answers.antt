use Rattle.std.proofs.Common.{◌≡◌, ◌+◌, ◌-◌, ◌∙◌, sym, arith}
use Rattle.std.specs.Prelude.{min}
use Rattle.dinode_tree.specs.Walking.{laid_range}
use Rattle.dinode_tree.specs.Reading.{AreHeaded, content_range, IsInRange}
use Rattle.dinode_tree.proofs.Dinodes.{height_held, height_same, size_held}
use Rattle.dinode_tree.proofs.Pointers.{shown_of}
use Rattle.dinode_tree.proofs.Pieces.{range_is, stuffed_headed, range_none, needed_for, in_longer, end_is}
use Rattle.dinode_tree.proofs.Stepping.{answer_so, needed_so}
use Rattle.dinode_tree.proofs.reading.range_in.Goals as goal

pub returns-then-at-end-clause-found : goal.returns-then-at-end-clause-found
returns-then-at-end-clause-found g c h shown whole =
    let o = shown_of (g.V.View.seen c.args.view.now) h c.args.inode.now shown c.requires.seen in
    c.new.ensures.items ∙ range_none h c.args.at c.args.len c.end_of-end.result (end_is h c.args.inode.now c.args.at c.args.len c.end_of-end.result o c.end_of-end.ensures) c.if-at-end.true

pub stuffed_range-requires-clause-within : goal.stuffed_range-requires-clause-within
stuffed_range-requires-clause-within g c =
    omega (arith, c.requires.fits.stuffed (sym (height_held c.args.inode.now) ∙ c.if-inode-eq0.true), size_held c.args.inode.now, c.end_of-end.ensures)

pub returns-then-inode-eq0-clause-found : goal.returns-then-inode-eq0-clause-found
returns-then-inode-eq0-clause-found g c h shown whole =
    let o = shown_of (g.V.View.seen c.args.view.now) h c.args.inode.now shown c.requires.seen in
    c.in_ok-bytes.ensures.found h o ∙ range_is h c.args.at c.args.len c.end_of-end.result (end_is h c.args.inode.now c.args.at c.args.len c.end_of-end.result o c.end_of-end.ensures)

pub returns-clause-found : goal.returns-clause-found
returns-clause-found g c h shown whole =
    let o = shown_of (g.V.View.seen c.args.view.now) h c.args.inode.now shown c.requires.seen in
    answer_so c.blocks_range.result (λ bytes. bytes.items ≡ laid_range h c.args.at c.end_of-end.result) (λ bytes. bytes.items ≡ content_range h c.args.at c.args.len)
    (λ bytes is. is ∙ range_is h c.args.at c.args.len c.end_of-end.result (end_is h c.args.inode.now c.args.at c.args.len c.end_of-end.result o c.end_of-end.ensures))
    (c.blocks_range.ensures.found h shown whole)

pub returns-clause-needed : goal.returns-clause-needed
returns-clause-needed g c h shown =
    needed_so c.blocks_range.result _ _
    (λ m. needed_for (g.V.View.seen c.args.view.now) h (IsInRange h c.args.at (c.end_of-end.result - c.args.at)) (IsInRange h c.args.at c.args.len) 0 0 m
    (λ i. in_longer h c.args.at (c.end_of-end.result - c.args.at) c.args.len i (omega (arith, c.end_of-end.ensures))) (omega arith))
    (c.blocks_range.ensures.needed h shown)

pub returns-then-at-end-clause-headed : goal.returns-then-at-end-clause-headed
returns-then-at-end-clause-headed g c h shown i low high = absurd (omega (arith, low, high, c.if-at-end.true, c.end_of-end.ensures))

pub returns-then-inode-eq0-clause-headed : goal.returns-then-inode-eq0-clause-headed
returns-then-inode-eq0-clause-headed g c h shown =
    let o = shown_of (g.V.View.seen c.args.view.now) h c.args.inode.now shown c.requires.seen in
    stuffed_headed h c.args.at (min (c.args.at + c.args.len) c.args.inode.now.dinode.size) (sym (height_same h c.args.inode.now o) ∙ c.if-inode-eq0.true)

pub returns-clause-headed : goal.returns-clause-headed
returns-clause-headed g c h shown =
    answer_so c.blocks_range.result (λ bytes. AreHeaded h c.args.at c.end_of-end.result) (λ bytes. AreHeaded h c.args.at (min (c.args.at + c.args.len) c.args.inode.now.dinode.size))
    (λ bytes all i low high. all i low (omega (arith, high, c.end_of-end.ensures))) (c.blocks_range.ensures.headed h shown)
