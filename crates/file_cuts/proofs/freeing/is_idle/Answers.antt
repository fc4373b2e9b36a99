use Rattle.std.proofs.Common.{◌≡◌, None, arith}
use Rattle.glock_names.proofs.StepLaws.{needed_at}
use Rattle.file_fills.proofs.Seeing.{no_damage}
use Rattle.file_cuts.proofs.Ways.{none_of}
use Rattle.file_cuts.proofs.freeing.is_idle.Goals as goal

pub returns-in-Ok-NeedBlock-clause-found : goal.returns-in-Ok-NeedBlock-clause-found
returns-in-Ok-NeedBlock-clause-found g c h first file shown leads has =
    absurd (none_of (g.V.View.seen c.args.view.now) c.args.stop.now.block (has (omega (arith, c.if-stop-eq0.false))) (needed_at c.in-Ok-NeedBlock.field-0 c.in-Ok-NeedBlock.field-0-0 (λ m. (g.V.View.seen c.args.view.now).block_at c.args.stop.now.block ≡ None) c.in-Ok-NeedBlock.field-0-is c.in-Ok-NeedBlock.ensures.absent))

pub returns-in-Err-clause-found : goal.returns-in-Err-clause-found
returns-in-Err-clause-found g c h first file shown leads has = no_damage h c.in-Err.field-0 file (c.in-Err.ensures.damaged h first shown leads)
