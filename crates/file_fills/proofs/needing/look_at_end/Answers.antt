use Rattle.std.proofs.Common.{◌≡◌, ◌+◌, ◌-◌, ◌<◌, ◌≤◌, ap, subst, ◌∙◌, arith}
use Rattle.gfs2_layout.specs.Inode.{content_count, dinode_in}
use Rattle.gfs2_layout.specs.Structures.{is_regular}
use Rattle.gfs2_layout.specs.declared.dinode.Dinode.{Dinode}
use Rattle.glock_names.proofs.StepLaws.{needed_so}
use Rattle.file_fills.proofs.Seeing.{count_is, needed_wider}
use Rattle.file_fills.proofs.needing.look_at_end.Goals as goal

pub returns-then-count-gt0-clause-needed : goal.returns-then-count-gt0-clause-needed
returns-then-count-gt0-clause-needed g c h shown d_is =
    let count : c.count_blocks-count.result ≡ content_count h = c.count_blocks-count.ensures ∙ count_is (g.V.View.seen c.args.view.now) h c.args.inode c.block_size.result c.args.dinode.now shown d_is c.block_size.ensures.value in
    let size : (dinode_in h).size < c.args.end = subst (λ (d : Dinode). d.size < c.args.end) d_is c.if-dinode-end.true in
    let last : c.count_blocks-count.result - 1 + 1 ≡ content_count h = omega (arith, count, c.if-count-gt0.true) in
    needed_so c.look_at.result _ _
    (needed_wider (g.V.View.seen c.args.view.now) h (λ x. x ≡ c.count_blocks-count.result - 1) (λ i. ((dinode_in h).size < c.args.end) × (i + 1 ≡ content_count h)) 0 0
    (λ i e. (size, ap (λ n. n + 1) e ∙ last)) (let low : 0 ≤ 0 = omega arith in low)) (c.look_at.ensures.needed h shown (c.is_regular.ensures ∙ ap is_regular d_is))
