use Rattle.glock_names.proofs.StepLaws.{needed_at}
use Rattle.group_locks.proofs.Faults.{told_on}
use Rattle.file_changes.specs.Drafting.{IsWrongAt}
use Rattle.file_changes.proofs.Lying.{whole_written}
use Rattle.file_changes.proofs.Stepping.{not_both}
use Rattle.file_changes.proofs.inside.finish_inside.Goals as goal

pub check_inside-requires : goal.check_inside-requires
check_inside-requires g c = record {
  whole = whole_written (g.V.View.seen c.args.view.now).size c.args.draft.fates c.in_ok-change.change
      (record { blocks = c.in_ok-change.ensures.blocks; locks = c.in_ok-change.ensures.locks; freed = c.in_ok-change.ensures.freed }) c.requires.whole;
}

pub returns-in_err-check_inside-clause-damaged : goal.returns-in_err-check_inside-clause-damaged
returns-in_err-check_inside-clause-damaged g c blocks =
    told_on (IsWrongAt (g.V.View.seen c.args.view.now) c.args.inode blocks) _ _ c.from_residual-in_err-check_inside.ensures.1 (c.in_err-check_inside.ensures.damaged blocks)

pub returns-in-Is-false-clause-all : goal.returns-in-Is-false-clause-all
returns-in-Is-false-clause-all g c inside =
    absurd (not_both c.in_ok-check_inside.field-0 c.in-Is-false.field-0
    (c.in_ok-check_inside.ensures.all
    (inside c.in_ok-change.change (record { blocks = c.in_ok-change.ensures.blocks; locks = c.in_ok-change.ensures.locks; freed = c.in_ok-change.ensures.freed })))
    c.in-Is-false.is c.in-Is-false.field-0-test)

pub returns-in-NeedBlock-clause-needed : goal.returns-in-NeedBlock-clause-needed
returns-in-NeedBlock-clause-needed g c h shown = needed_at _ _ _ c.in-NeedBlock.is (c.in_ok-check_inside.ensures.needed h shown)
