use Rattle.std.proofs.Common.{◌≡◌, ◌+◌, ◌<◌, ◌≤◌, length, ap, sym, ◌∙◌, arith}
use Rattle.drafts.specs.Fates.{seen_in}
use Rattle.gfs2_layout.specs.Inode.{dinode_in}
use Rattle.gfs2_layout.specs.Structures.{is_regular}
use Rattle.glock_names.proofs.StepLaws.{answer_at, needed_at}
use Rattle.growth_drafts.specs.Taken.{HasBytes}
use Rattle.file_fills.specs.Filling.{IsSeenWay}
use Rattle.file_fills.proofs.Over.{bytes_of_over, over_of_bytes}
use Rattle.file_fills.proofs.Seeing.{needed_wider, over_in}
use Rattle.file_fills.proofs.filling.fill.Goals as goal

pub returns-in-NeedBlock-2-clause-needed : goal.returns-in-NeedBlock-2-clause-needed
returns-in-NeedBlock-2-clause-needed g c h shown =
    let d_is : c.in-Is.dinode ≡ dinode_in h = answer_at c.in_ok-dinode.field-0 c.in-Is.dinode _ c.in-Is.is (c.in_ok-dinode.ensures.found h shown) in
    needed_wider (seen_in g.V.View.seen c.args.draft.now) h (λ x. (c.places_over-first.result.0 ≤ x) × (x < c.places_over-first.result.1)) (HasBytes h.size c.args.at (c.args.at + length c.args.bytes.now)) 0 0
    (λ i inside. bytes_of_over h.size c.args.at (c.args.at + length c.args.bytes.now) i
    ((over_in c.block_size.result h.size c.args.at (c.args.at + length c.args.bytes.now) 0 _ _ (c.block_size.ensures.value ∙ sym shown.size) c.places_over-first.ensures.over i).1 inside))
    (let low : 0 ≤ 0 = omega arith in low) _
    (needed_at c.in_ok-look_between.field-0 c.in-NeedBlock-2.missing _ c.in-NeedBlock-2.is (c.in_ok-look_between.ensures.needed h shown (c.is_regular.ensures ∙ ap is_regular d_is)))

pub returns-clause-filled : goal.returns-clause-filled
returns-clause-filled g c h shown r =
    c.in_ok-done.ensures.written h shown r (λ i has.
    let inside = (over_in c.block_size.result h.size c.args.at (c.args.at + length c.args.bytes.now) 0 _ _ (c.block_size.ensures.value ∙ sym shown.size) c.places_over-first.ensures.over i).0
    (over_of_bytes h.size c.args.at (c.args.at + length c.args.bytes.now) i has) in
    answer_at c.in_ok-look_between.field-0 c.in-Is-2.field-0 (λ done. IsSeenWay (seen_in g.V.View.seen c.args.draft.now) h i) c.in-Is-2.is (c.in_ok-look_between.ensures.seen h i r.file shown inside.0 inside.1))
