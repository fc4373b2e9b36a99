use Rattle.std.proofs.Common.{◌≡◌, ◌+◌, ◌≤◌, subst, sym, arith}
use Rattle.glock_names.proofs.StepLaws.{needed_at}
use Rattle.growth_drafts.specs.Taken.{HasBytes}
use Rattle.file_fills.proofs.Seeing.{needed_wider, over_under}
use Rattle.file_fills.proofs.needing.is_lacking.Goals as goal

pub returns-in-NeedBlock-clause-needed : goal.returns-in-NeedBlock-clause-needed
returns-in-NeedBlock-clause-needed g c h shown size =
    let found = over_under h c.args.write.now.size c.args.write.now.at c.args.write.now.end c.args.level c.args.place size (omega (arith, size, c.requires.large)) c.requires.over in
    needed_wider (g.V.View.seen c.args.view.now) h (λ x. x ≡ found.0) (HasBytes h.size c.args.write.now.at c.args.write.now.end) (c.args.level + 1) 0
    (λ i e. subst (HasBytes h.size c.args.write.now.at c.args.write.now.end) (sym e) found.1) (let low : 0 ≤ c.args.level + 1 = omega arith in low) _
    (needed_at c.in_ok-stop.field-0 c.in-NeedBlock.missing _ c.in-NeedBlock.is (c.in_ok-stop.ensures.needed h found.0 shown found.2))
