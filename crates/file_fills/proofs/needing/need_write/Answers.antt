use Rattle.std.proofs.Common.{◌≡◌, ◌+◌, ◌≤◌, inl, subst, arith}
use Rattle.gfs2_layout.specs.Inode.{dinode_in}
use Rattle.glock_names.proofs.StepLaws.{answer_at, needed_at, needed_so}
use Rattle.growth_drafts.specs.Taken.{HasBytes, IsLookedAt}
use Rattle.dinode_tree.specs.Reading.{IsNeeded}
use Rattle.file_fills.proofs.Seeing.{needed_wider}
use Rattle.file_fills.proofs.needing.need_write.Goals as goal

pub returns-in-NeedBlock-2-clause-needed : goal.returns-in-NeedBlock-2-clause-needed
returns-in-NeedBlock-2-clause-needed g c h shown =
    let d_is : c.in-Is.dinode ≡ dinode_in h = answer_at c.in_ok-dinode.field-0 c.in-Is.dinode _ c.in-Is.is (c.in_ok-dinode.ensures.found h shown) in
    subst (λ n. IsNeeded (g.V.View.seen c.args.view.now) h (IsLookedAt h c.args.at (c.args.at + n)) 0 c.in-NeedBlock-2.missing) c.from.ensures
    (needed_at c.in_ok-look_for_write.field-0 c.in-NeedBlock-2.missing _ c.in-NeedBlock-2.is (c.in_ok-look_for_write.ensures.needed h shown d_is))

pub returns-clause-needed : goal.returns-clause-needed
returns-clause-needed g c h shown =
    needed_so c.count_need.result _ _
    (λ m needed. subst (λ n. IsNeeded (g.V.View.seen c.args.view.now) h (IsLookedAt h c.args.at (c.args.at + n)) 0 m) c.from.ensures
    (needed_wider (g.V.View.seen c.args.view.now) h (HasBytes h.size c.args.at (c.args.at + c.from.result)) (IsLookedAt h c.args.at (c.args.at + c.from.result)) 0 0 (λ i has. inl has)
    (let low : 0 ≤ 0 = omega arith in low) m needed)) (c.count_need.ensures.needed h shown)
