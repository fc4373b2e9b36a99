use Rattle.growth_steps.proofs.Stepping.{on_ok}
use Rattle.growth_steps.proofs.Written.{put_after}
use Rattle.growth_steps.proofs.contents.put_content.Goals as goal

pub returns-clause-written : goal.returns-clause-written
returns-clause-written g c h i file shown high low same some within =
    on_ok c.put_over.result _ _
    (λ is. put_after g.V.View.seen c.args.draft.now c.put_over.new.draft c.args.inode c.args.block c.args.at c.args.new.now c.requires.there.0 c.requires.there.1 is c.requires.fits h i file shown high low same some within)
    (c.put_over.ensures.put c.requires.there.0 c.requires.there.1)
