use Rattle.std.proofs.Common.{◌≡◌, true, Some, ◌∙◌, ap, arith}
use Rattle.std.specs.Prelude.{replicate, IfSome}
use Rattle.gfs2_layout.specs.Headers.{HasHeader}
use Rattle.gfs2_layout.specs.Holding.{bytes_at}
use Rattle.gfs2_layout.specs.Inode.{is_directory_in}
use Rattle.glock_names.specs.declared.steps.Step.TheVariants.{Is}
use Rattle.dinode_tree.specs.Reading.{IsHeadedAt, IsHeadedWay}
use Rattle.dinode_tree.specs.declared.ways.Link.{Link}
use Rattle.dinode_tree.specs.Walking.{IsStep}
use Rattle.dinode_tree.proofs.Pointers.{shown_of}
use Rattle.dinode_tree.proofs.Pieces.{hole_carries, link_headed, none_at, none_headed, needed_for}
use Rattle.dinode_tree.proofs.Stepping.{needed_at, answer_at, answer_so}
use Rattle.dinode_tree.proofs.content.piece.Goals as goal

pub returns-in-Is-None-clause-carried : goal.returns-in-Is-None-clause-carried
returns-in-Is-None-clause-carried g c h shown =
    hole_carries h c.args.inode.now c.args.index _ (shown_of (g.V.View.seen c.args.view.now) h c.args.inode.now shown c.requires.seen) c.requires.fits c.requires.below c.requires.within
    (none_at h c.args.index c.in-Is-None.field-0 c.in-Is-None.field-0-is (answer_at c.in_ok-link.field-0 c.in-Is-None.field-0 (IsStep h c.args.index) c.in-Is-None.is (c.in_ok-link.ensures.step h shown)))
    (c.zeros.ensures ∙ ap (λ n. replicate n 0) c.unit.ensures.value)

pub returns-in-NeedBlock-clause-needed : goal.returns-in-NeedBlock-clause-needed
returns-in-NeedBlock-clause-needed g c h shown =
    needed_for (g.V.View.seen c.args.view.now) h _ _ 1 0 _ (λ i is. is) (omega arith)
    (needed_at c.in_ok-link.field-0 c.in-NeedBlock.missing _ c.in-NeedBlock.is (c.in_ok-link.ensures.needed h shown))

pub returns-in-Is-None-clause-headed : goal.returns-in-Is-None-clause-headed
returns-in-Is-None-clause-headed g c h shown =
    none_headed h c.args.index (none_at h c.args.index c.in-Is-None.field-0 c.in-Is-None.field-0-is (answer_at c.in_ok-link.field-0 c.in-Is-None.field-0 (IsStep h c.args.index) c.in-Is-None.is (c.in_ok-link.ensures.step h shown)))

pub returns-in-Is-Some-clause-headed : goal.returns-in-Is-Some-clause-headed
returns-in-Is-Some-clause-headed g c h shown =
    let link = c.in-Is-Some.link in
    let is = c.in-Is-Some.is ∙ ap Is c.in-Is-Some.field-0-is in
    let way = answer_at c.in_ok-link.field-0 (Some link) (λ o. IfSome o (λ l. IsHeadedWay h c.args.index)) is (c.in_ok-link.ensures.headed h shown) in
    let step = answer_at c.in_ok-link.field-0 (Some link) (IsStep h c.args.index) is (c.in_ok-link.ensures.step h shown) in
    let level = answer_at c.in_ok-link.field-0 (Some link) (λ o. IfSome o (λ (l : Link). l.way.level ≡ 0)) is c.in_ok-link.ensures.level in
    answer_so c.carried_by.result (λ p. is_directory_in h ≡ true → HasHeader 7 700 (bytes_at h link.block)) (λ p. IsHeadedAt h c.args.index) (λ p table. link_headed h c.args.index link level step way table)
    (c.carried_by.ensures.table h c.args.index shown step)
