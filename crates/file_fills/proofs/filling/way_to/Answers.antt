use Rattle.std.proofs.Common.{subst}
use Rattle.glock_names.proofs.StepLaws.{answer_at, needed_at}
use Rattle.file_walks.specs.Walks.{IsWalk}
use Rattle.file_fills.proofs.Seeing.{no_damage, nothing_needed, seen_found, under_self}
use Rattle.file_fills.proofs.filling.way_to.Goals as goal

pub returns-in-Ok-Is-Some-clause-found : goal.returns-in-Ok-Is-Some-clause-found
returns-in-Ok-Is-Some-clause-found g c h file shown place way =
    let found = subst (IsWalk h 0 c.args.index) c.in-Ok-Is-Some.field-0-0-is
    (answer_at c.in-Ok-Is-Some.field-0 c.in-Ok-Is-Some.field-0-0 (IsWalk h 0 c.args.index) c.in-Ok-Is-Some.field-0-is (c.in-Ok-Is-Some.ensures.found h file shown)) in
    seen_found (g.V.View.seen c.args.view.now) h c.args.index c.in-Ok-Is-Some.stop c.seen_stop.result way found.1 c.seen_stop.ensures.is c.seen_stop.ensures.none c.seen_stop.ensures.absent

pub returns-in-Ok-NeedBlock-clause-found : goal.returns-in-Ok-NeedBlock-clause-found
returns-in-Ok-NeedBlock-clause-found g c h file shown place way =
    nothing_needed (g.V.View.seen c.args.view.now) h c.args.inode c.args.index c.in-Ok-NeedBlock.field-0-0 file shown way
    (needed_at c.in-Ok-NeedBlock.field-0 c.in-Ok-NeedBlock.field-0-0 _ c.in-Ok-NeedBlock.field-0-is (c.in-Ok-NeedBlock.ensures.needed h c.args.index shown (under_self h c.args.index)))

pub returns-in-Err-clause-found : goal.returns-in-Err-clause-found
returns-in-Err-clause-found g c h file shown place way = no_damage h c.in-Err.field-0 file (c.in-Err.ensures.damaged h shown)
