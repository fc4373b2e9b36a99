use Rattle.std.proofs.Common.{◌≡◌, ◌+◌, ◌<◌, ◌≤◌, inl, inr, ap, sym, ◌∙◌, arith}
use Rattle.gfs2_layout.specs.Inode.{content_count, dinode_in}
use Rattle.gfs2_layout.specs.Structures.{is_regular}
use Rattle.glock_names.proofs.StepLaws.{answer_at, needed_at, needed_so}
use Rattle.growth_drafts.specs.Taken.{IsLookedAt}
use Rattle.file_fills.specs.Filling.{IsSeenWay}
use Rattle.file_fills.proofs.Over.{bytes_of_over, over_of_bytes}
use Rattle.file_fills.proofs.Seeing.{always, needed_wider, over_in}
use Rattle.file_fills.proofs.needing.look_for_write.Goals as goal

pub returns-in-NeedBlock-clause-needed : goal.returns-in-NeedBlock-clause-needed
returns-in-NeedBlock-clause-needed g c h shown d_is =
    needed_wider (g.V.View.seen c.args.view.now) h (λ i. ((dinode_in h).size < c.args.end) × (i + 1 ≡ content_count h)) (IsLookedAt h c.args.at c.args.end) 0 0
    (λ i last. inr last) (let low : 0 ≤ 0 = omega arith in low) _
    (needed_at c.in_ok-look_at_end.field-0 c.in-NeedBlock.missing _ c.in-NeedBlock.is (c.in_ok-look_at_end.ensures.needed h shown d_is))

pub returns-clause-seen : goal.returns-clause-seen
returns-clause-seen g c h i file shown d_is looked = elim looked [
  | inl has ↦
      let inside = (over_in c.block_size.result h.size c.args.at c.args.end 0 _ _ (c.block_size.ensures.value ∙ sym shown.size) c.places_over-first.ensures.over i).0 (over_of_bytes h.size c.args.at c.args.end i has) in
      c.look_between.ensures.seen h i file shown inside.0 inside.1
  | inr last ↦
      always c.look_between.result (IsSeenWay (g.V.View.seen c.args.view.now) h i)
      (answer_at c.in_ok-look_at_end.field-0 c.in-Is.field-0 (λ done. IsSeenWay (g.V.View.seen c.args.view.now) h i) c.in-Is.is (c.in_ok-look_at_end.ensures.seen h i file shown d_is last.0 last.1))
]

pub returns-clause-needed : goal.returns-clause-needed
returns-clause-needed g c h shown d_is =
    needed_so c.look_between.result _ _
    (needed_wider (g.V.View.seen c.args.view.now) h (λ x. (c.places_over-first.result.0 ≤ x) × (x < c.places_over-first.result.1)) (IsLookedAt h c.args.at c.args.end) 0 0
    (λ i inside. inl (bytes_of_over h.size c.args.at c.args.end i ((over_in c.block_size.result h.size c.args.at c.args.end 0 _ _ (c.block_size.ensures.value ∙ sym shown.size) c.places_over-first.ensures.over i).1 inside)))
    (let low : 0 ≤ 0 = omega arith in low)) (c.look_between.ensures.needed h shown (c.is_regular.ensures ∙ ap is_regular d_is))
