use Rattle.std.proofs.Common.{◌≡◌, ◌+◌, ◌*◌, ◌/◌, ◌%◌, ◌∙◌, ap, subst, refl, length, arith}
use Rattle.gfs2_layout.specs.Inode.{carried, content_block, unit}
use Rattle.dinode_tree.specs.Reading.{IsHeadedAt}
use Rattle.dinode_tree.specs.Walking.{held}
use Rattle.dinode_tree.proofs.Dinodes.{unit_same}
use Rattle.dinode_tree.proofs.Pointers.{shown_of}
use Rattle.dinode_tree.proofs.Pieces.{part_is, part_pieces, part_short, count_held, needed_for}
use Rattle.dinode_tree.proofs.Stepping.{needed_at, answer_at}
use Rattle.dinode_tree.proofs.content.part.Goals as goal

pub piece-requires-clause-within : goal.piece-requires-clause-within
piece-requires-clause-within g c =
    count_held c.args.inode.now c.args.at c.unit-unit.result c.unit-unit.ensures.value (omega (arith, c.requires.some, c.requires.within))

pub returns-in-Is-clause-read : goal.returns-in-Is-clause-read
returns-in-Is-clause-read g c h shown pieces =
    let o = shown_of (g.V.View.seen c.args.view.now) h c.args.inode.now shown c.requires.seen in
    part_is h c.args.inode.now o c.requires.below c.unit-unit.result c.args.at c.args.end _ _ c.in-Is.piece.now c.unit-unit.ensures.value (omega (arith, c.unit-unit.ensures.least)) refl c.min-to.ensures
    (count_held c.args.inode.now c.args.at c.unit-unit.result c.unit-unit.ensures.value (omega (arith, c.requires.some, c.requires.within))) pieces
    (answer_at c.in_ok-piece.field-0 c.in-Is.piece (λ p. length p.now ≡ unit (held c.args.inode.now)) c.in-Is.is c.in_ok-piece.ensures.length)
    (answer_at c.in_ok-piece.field-0 c.in-Is.piece (λ p. p.now ≡ carried h (content_block h (c.args.at / c.unit-unit.result))) c.in-Is.is (c.in_ok-piece.ensures.carried h shown))

pub returns-in-Is-clause-pieces : goal.returns-in-Is-clause-pieces
returns-in-Is-clause-pieces g c h shown pieces =
    let o = shown_of (g.V.View.seen c.args.view.now) h c.args.inode.now shown c.requires.seen in
    part_pieces h c.args.inode.now o c.requires.below c.unit-unit.result c.args.at c.args.end _ _ c.in-Is.piece.now c.unit-unit.ensures.value (omega (arith, c.unit-unit.ensures.least)) refl c.min-to.ensures
    (count_held c.args.inode.now c.args.at c.unit-unit.result c.unit-unit.ensures.value (omega (arith, c.requires.some, c.requires.within))) pieces
    (answer_at c.in_ok-piece.field-0 c.in-Is.piece (λ p. length p.now ≡ unit (held c.args.inode.now)) c.in-Is.is c.in_ok-piece.ensures.length)
    (answer_at c.in_ok-piece.field-0 c.in-Is.piece (λ p. p.now ≡ carried h (content_block h (c.args.at / c.unit-unit.result))) c.in-Is.is (c.in_ok-piece.ensures.carried h shown))

pub returns-in-NeedBlock-clause-needed : goal.returns-in-NeedBlock-clause-needed
returns-in-NeedBlock-clause-needed g c h shown =
    let o = shown_of (g.V.View.seen c.args.view.now) h c.args.inode.now shown c.requires.seen in
    let same : c.args.at / c.unit-unit.result ≡ c.args.at / unit h = ap (λ n. c.args.at / n) (c.unit-unit.ensures.value ∙ unit_same h c.args.inode.now o) in
    needed_for (g.V.View.seen c.args.view.now) h _ _ 0 0 _ (λ i is. is ∙ same) (omega arith)
    (needed_at c.in_ok-piece.field-0 c.in-NeedBlock.missing _ c.in-NeedBlock.is (c.in_ok-piece.ensures.needed h shown))

pub returns-in-Is-clause-headed : goal.returns-in-Is-clause-headed
returns-in-Is-clause-headed g c h shown =
    let o = shown_of (g.V.View.seen c.args.view.now) h c.args.inode.now shown c.requires.seen in
    let same : c.args.at / c.unit-unit.result ≡ c.args.at / unit h = ap (λ n. c.args.at / n) (c.unit-unit.ensures.value ∙ unit_same h c.args.inode.now o) in
    subst (IsHeadedAt h) same (answer_at c.in_ok-piece.field-0 c.in-Is.piece (λ p. IsHeadedAt h (c.args.at / c.unit-unit.result)) c.in-Is.is (c.in_ok-piece.ensures.headed h shown))

pub returns-in-Is-clause-short : goal.returns-in-Is-clause-short
returns-in-Is-clause-short g c h shown =
    let o = shown_of (g.V.View.seen c.args.view.now) h c.args.inode.now shown c.requires.seen in
    let same : c.unit-unit.result ≡ unit h = c.unit-unit.ensures.value ∙ unit_same h c.args.inode.now o in
    let wide : (c.args.at / c.unit-unit.result + 1) * c.unit-unit.result ≡ (c.args.at / unit h + 1) * unit h = ap (λ u. (c.args.at / u + 1) * u) same in
    let short = part_short c.unit-unit.result c.args.at c.args.end (c.args.at % c.unit-unit.result) c.min-to.result c.in-Is.piece.now (omega (arith, c.unit-unit.ensures.least)) refl c.min-to.ensures in
    omega (arith, short, wide)
