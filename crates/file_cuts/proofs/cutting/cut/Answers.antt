use Rattle.std.proofs.Common.{◌≡◌, sym, ap, ◌∙◌, arith}
use Rattle.drafts.specs.Fates.{seen_in}
use Rattle.gfs2_layout.specs.Inode.{Fits, dinode_in}
use Rattle.gfs2_layout.specs.declared.dinode.Dinode.{Dinode}
use Rattle.glock_names.proofs.StepLaws.{answer_at, needed_at}
use Rattle.dinode_tree.proofs.Sound.{some_is_shown}
use Rattle.growth_drafts.specs.Touched.{as_it_was}
use Rattle.file_fills.specs.Filling.{IsSeenWay}
use Rattle.file_cuts.specs.Progress.{IsSeenOver}
use Rattle.file_cuts.proofs.cutting.cut.Goals as goal

pub returns-in-NeedBlock-2-clause-needed : goal.returns-in-NeedBlock-2-clause-needed
returns-in-NeedBlock-2-clause-needed g c h shown =
    let d_is : c.in-Is.dinode ≡ dinode_in h = answer_at c.in_ok-dinode.field-0 c.in-Is.dinode _ c.in-Is.is (c.in_ok-dinode.ensures.found h shown) in
    needed_at c.in_ok-look_for_cut.field-0 c.in-NeedBlock-2.missing _ c.in-NeedBlock-2.is (c.in_ok-look_for_cut.ensures.needed h shown d_is)

pub returns-then-not-is_regular-clause-within : goal.returns-then-not-is_regular-clause-within
returns-then-not-is_regular-clause-within g c room = as_it_was c.args.draft.now.fates

pub cut_seen-requires-clause-stuffed : goal.cut_seen-requires-clause-stuffed
cut_seen-requires-clause-stuffed g c none =
    let any = some_is_shown (seen_in g.V.View.seen c.args.draft.now) c.args.inode in
    let d_is = answer_at c.in_ok-dinode.field-0 c.in-Is.dinode (λ d. d ≡ dinode_in any.0) c.in-Is.is (c.in_ok-dinode.ensures.found any.0 any.1.0) in
    let fits = answer_at c.in_ok-dinode.field-0 c.in-Is.dinode (λ d. Fits any.0) c.in-Is.is (c.in_ok-dinode.ensures.fits any.0 any.1.0) in
    omega (arith, fits.stuffed (sym (ap (λ (d : Dinode). d.height) d_is) ∙ none), ap (λ (d : Dinode). d.size) d_is, any.1.0.size)

pub returns-clause-cut : goal.returns-clause-cut
returns-clause-cut g c h shown can =
    let d_is : c.in-Is.dinode ≡ dinode_in h = answer_at c.in_ok-dinode.field-0 c.in-Is.dinode _ c.in-Is.is (c.in_ok-dinode.ensures.found h shown) in
    c.in_ok-freed.ensures.cut h shown d_is can
    (λ i from near. answer_at c.in_ok-look_for_cut.field-0 c.in-Is-2.field-0 (λ done. IsSeenOver (seen_in g.V.View.seen c.args.draft.now) h i) c.in-Is-2.is (c.in_ok-look_for_cut.ensures.over h i can.counted.file shown d_is from near))
    (λ i at_last is_cut. answer_at c.in_ok-look_for_cut.field-0 c.in-Is-2.field-0 (λ done. IsSeenWay (seen_in g.V.View.seen c.args.draft.now) h i) c.in-Is-2.is (c.in_ok-look_for_cut.ensures.last h i can.counted.file shown d_is at_last is_cut))
