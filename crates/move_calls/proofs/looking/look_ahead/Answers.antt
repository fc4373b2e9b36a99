use Rattle.std.proofs.Common.{subst}
use Rattle.glock_names.proofs.StepLaws.{answer_at, needed_at}
use Rattle.name_moves.specs.Inserting.{IsNeededForName, SeesForName}
use Rattle.move_calls.proofs.looking.look_ahead.Goals as goal

pub returns-in-NeedBlock-clause-needed : goal.returns-in-NeedBlock-clause-needed
returns-in-NeedBlock-clause-needed g c h shown =
    let v = g.V.View.seen c.args.view.now in
    subst (λ n. IsNeededForName v h n c.in-NeedBlock.missing) c.bytes.ensures.bytes (needed_at _ _ (IsNeededForName v h c.bytes.result.now) c.in-NeedBlock.is (c.in_ok-need_name.ensures.needed h shown))

pub returns-then-not-loses_names-clause-seen : goal.returns-then-not-loses_names-clause-seen
returns-then-not-loses_names-clause-seen g c h shown some = absurd (some (c.loses_names.ensures.none c.if-not-loses_names.true))

pub returns-in-Is-clause-seen : goal.returns-in-Is-clause-seen
returns-in-Is-clause-seen g c h shown some =
    let v = g.V.View.seen c.args.view.now in
    subst (SeesForName v h) c.bytes.ensures.bytes (answer_at _ _ (λ need. SeesForName v h c.bytes.result.now) c.in-Is.is (c.in_ok-need_name.ensures.seen h shown))
