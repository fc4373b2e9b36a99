use Rattle.std.proofs.Common.{◌<◌, ◌∙◌, arith}
use Rattle.gfs2_layout.specs.Inode.{height_in}
use Rattle.glock_names.proofs.StepLaws.{answer_so}
use Rattle.growth_laws.proofs.Places.{size_large}
use Rattle.file_fills.proofs.Counted.{needed_there}
use Rattle.file_fills.proofs.Seeing.{over_in}
use Rattle.file_fills.proofs.needing.need_on.Goals as goal

pub returns-clause-found : goal.returns-clause-found
returns-clause-found g c h file shown w =
    let low : c.args.level < height_in h = omega (arith, c.if-level-write.false, w.height) in
    answer_so c.count_lacking.result _ _
    (λ need is. is ∙ needed_there h c.args.write.now.at c.args.write.now.end c.args.level c.places_over-first.result.0 c.places_over-first.result.1 (size_large h.size file.block_size) c.places_over-first.ensures.order
    (over_in c.args.write.now.size h.size c.args.write.now.at c.args.write.now.end c.args.level _ _ w.size c.places_over-first.ensures.over) low) (c.count_lacking.ensures.found h file shown)
