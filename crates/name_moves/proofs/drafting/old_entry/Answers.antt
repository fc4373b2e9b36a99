use Rattle.std.proofs.Common.{None, Some, subst}
use Rattle.glock_names.proofs.StepLaws.{answer_at, needed_at}
use Rattle.directories.specs.Shown.{IsBroken, IsNeededFor, Says}
use Rattle.directories.proofs.Forms.{only_tells, some_directory}
use Rattle.directories.proofs.Sound.{says_once}
use Rattle.image_model.proofs.Held.{none_some}
use Rattle.name_drafts.proofs.WalkFaults.{told_on}
use Rattle.name_moves.specs.Moving.{IsWrongIn, move_of}
use Rattle.name_moves.proofs.Ways.{broken_old, needed_old}
use Rattle.name_moves.proofs.Under.{asked_to_go}
use Rattle.name_moves.proofs.drafting.old_entry.Goals as goal

pub returns-in_err-old-clause-damaged : goal.returns-in_err-old-clause-damaged
returns-in_err-old-clause-damaged g c blocks =
    let v = g.V.View.seen c.args.view.now in
    told_on (IsWrongIn v (move_of c.args.m.now) blocks) _ _ c.from_residual.ensures.1
    (broken_old v (move_of c.args.m.now) blocks c.in_err-old.field-0.0
    (λ h shown. only_tells (IsBroken v h) c.in_err-old.field-0.0 (c.in_err-old.ensures.damaged h shown)))

pub unreachable-requires : goal.unreachable-requires
unreachable-requires g c =
    let v = g.V.View.seen c.args.view.now in
    let s = some_directory v c.args.m.now.from c.is_a_view.ensures in
    let has = c.requires.can.named s.0 s.1 in
    let says = subst (Says s.0 c.bytes.result.now) c.in-Is-None.field-0-is (answer_at _ _ _ c.in-Is-None.is (c.in_ok-old.ensures.found s.0 s.1)) in
    none_some (says_once s.0 c.args.m.now.name.now None (Some has.entry) (subst (λ n. Says s.0 n None) c.bytes.ensures.bytes says) has.says)

pub returns-in-NeedBlock-clause-needed : goal.returns-in-NeedBlock-clause-needed
returns-in-NeedBlock-clause-needed g c blocks =
    let v = g.V.View.seen c.args.view.now in
    needed_old v (move_of c.args.m.now) blocks c.in-NeedBlock.missing
    (asked_to_go v v c.is_a_view.ensures c.args.m.now.from c.requires.can.source c.requires.can.source_there c.in-NeedBlock.missing (needed_at _ _ _ c.in-NeedBlock.is c.in_ok-old.ensures.absent) c.bytes.result.now
    (λ h shown. needed_at _ _ _ c.in-NeedBlock.is (c.in_ok-old.ensures.needed h shown)))
    (λ h shown. subst (λ n. IsNeededFor v h n c.in-NeedBlock.missing) c.bytes.ensures.bytes (needed_at _ _ _ c.in-NeedBlock.is (c.in_ok-old.ensures.needed h shown)))
