use Rattle.std.proofs.Common.{true≢false, sym, ◌∙◌, subst}
use Rattle.drafts.specs.Fates.{AreWhole, Drafted}
use Rattle.glock_names.proofs.StepLaws.{answer_at, needed_at, needed_so}
use Rattle.group_locks.proofs.Faults.{told_on, tells_so}
use Rattle.resource_groups.specs.Freeing.{BreaksSome, IsNeededFor}
use Rattle.file_changes.specs.Drafting.{IsWrongAt, in_group, of_any, of_group}
use Rattle.file_changes.proofs.Cutting.{cut_inside, leaves}
use Rattle.file_changes.proofs.Stepping.{change_so, needed_all, whole_over}
use Rattle.file_changes.proofs.cuts.free_and_finish.Goals as goal

pub returns-in_err-free_in_draft-clause-damaged : goal.returns-in_err-free_in_draft-clause-damaged
returns-in_err-free_in_draft-clause-damaged g c =
    let v = g.V.View.seen c.args.view.now in
    told_on (IsWrongAt v c.args.inode c.args.freed.now) _ _ c.from_residual.ensures.1
    (tells_so (BreaksSome v c.args.freed.now) (IsWrongAt v c.args.inode c.args.freed.now) in_group c.in_err-free_in_draft.field-0.0 c.in_err-free_in_draft.ensures.damaged)

pub returns-in-Is-false-clause-sound : goal.returns-in-Is-false-clause-sound
returns-in-Is-false-clause-sound g c im o l t path size time of at cut can =
    let v = g.V.View.seen c.args.view.now in
    absurd (true≢false (sym (answer_at _ _ _ c.in-Is-false.is (c.in_ok-free_in_draft.ensures.sound im o l t of
    (leaves v im o l t path of c.args.inode at c.files_are_inodes.ensures.files size can time c.args.freed.now c.args.draft.fates cut c.files_are_inodes.ensures.inodes))) ∙ c.in-Is-false.field-0-test))

pub returns-in-NeedBlock-clause-needed : goal.returns-in-NeedBlock-clause-needed
returns-in-NeedBlock-clause-needed g c =
    of_group (needed_at c.in_ok-free_in_draft.field-0 c.in-NeedBlock.missing (IsNeededFor (g.V.View.seen c.args.view.now) c.args.freed.now) c.in-NeedBlock.is c.in_ok-free_in_draft.ensures.needed)

pub finish_inside-requires : goal.finish_inside-requires
finish_inside-requires g c = record {
  whole = whole_over g.V.View.seen c.args.view.now c.free_in_draft.new.draft c.free_in_draft.ensures.view
      (subst (λ (d : Drafted g.row.V.Denot). AreWhole (g.V.View.seen d.view).size d.fates) c.draft.view_is c.draft.invariant.0);
}

pub returns-clause-done : goal.returns-clause-done
returns-clause-done g c =
    change_so c.finish_inside.result _ _
    (λ change finished. record {
      last = c.free_in_draft.new.draft.fates;
      frees = answer_at _ _ _ c.in-Is-true.is c.in_ok-free_in_draft.ensures.frees c.in-Is-true.field-0-test;
      whole = whole_over g.V.View.seen c.args.view.now c.free_in_draft.new.draft c.free_in_draft.ensures.view
          (subst (λ (d : Drafted g.row.V.Denot). AreWhole (g.V.View.seen d.view).size d.fates) c.draft.view_is c.draft.invariant.0);
      finished = finished;
    })
    c.finish_inside.ensures.finished

pub returns-clause-sound : goal.returns-clause-sound
returns-clause-sound g c im o l t path size time of at cut can =
    let v = g.V.View.seen c.args.view.now in
    let frees = answer_at _ _ _ c.in-Is-true.is c.in_ok-free_in_draft.ensures.frees c.in-Is-true.field-0-test in
    let whole = whole_over g.V.View.seen c.args.view.now c.free_in_draft.new.draft c.free_in_draft.ensures.view
    (subst (λ (d : Drafted g.row.V.Denot). AreWhole (g.V.View.seen d.view).size d.fates) c.draft.view_is c.draft.invariant.0) in
    c.finish_inside.ensures.all (λ change finished.
    cut_inside v im o l t path of c.args.inode at c.files_are_inodes.ensures.files size can time c.args.freed.now c.args.draft.fates cut c.files_are_inodes.ensures.inodes c.is_a_view.ensures c.groups_say_what_is_taken.ensures.freed
    c.free_in_draft.new.draft.fates change whole frees finished)

pub returns-clause-needed : goal.returns-clause-needed
returns-clause-needed g c = needed_so c.finish_inside.result _ _ (λ m is. of_any is) (needed_all c.finish_inside.result (g.V.View.seen c.args.view.now) c.args.inode _ c.finish_inside.ensures.needed)

pub returns-clause-damaged : goal.returns-clause-damaged
returns-clause-damaged g c = c.finish_inside.ensures.damaged c.args.freed.now
