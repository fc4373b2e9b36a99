use Rattle.std.proofs.Common.{◌+◌, arith}
use Rattle.glock_names.proofs.StepLaws.{answer_at, needed_at}
use Rattle.file_walks.specs.Walks.{IsWalk}
use Rattle.file_fills.proofs.Seeing.{no_damage}
use Rattle.file_cuts.proofs.Ways.{nothing_needed_over, stop_of_walk}
use Rattle.file_cuts.proofs.freeing.stop_at.Goals as goal

pub returns-in-Ok-Is-clause-found : goal.returns-in-Ok-Is-clause-found
returns-in-Ok-Is-clause-found g c h i file shown place under way =
    stop_of_walk h c.args.level c.args.place c.in-Ok-Is.found place (answer_at c.in-Ok-Is.field-0 c.in-Ok-Is.found (IsWalk h c.args.level c.args.place) c.in-Ok-Is.field-0-is (c.in-Ok-Is.ensures.found h file shown))

pub returns-in-Ok-NeedBlock-clause-found : goal.returns-in-Ok-NeedBlock-clause-found
returns-in-Ok-NeedBlock-clause-found g c h i file shown place under way =
    nothing_needed_over (g.V.View.seen c.args.view.now) h (c.args.level + 1) i c.in-Ok-NeedBlock.field-0-0 file way (omega arith)
    (needed_at c.in-Ok-NeedBlock.field-0 c.in-Ok-NeedBlock.field-0-0 _ c.in-Ok-NeedBlock.field-0-is (c.in-Ok-NeedBlock.ensures.needed h i shown under))

pub returns-in-Err-clause-found : goal.returns-in-Err-clause-found
returns-in-Err-clause-found g c h i file shown place under way = no_damage h c.in-Err.field-0 file (c.in-Err.ensures.damaged h shown)
