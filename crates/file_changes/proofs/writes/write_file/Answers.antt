use Rattle.std.proofs.Common.{subst}
use Rattle.drafts.specs.Fates.{AreWhole, Drafted}
use Rattle.glock_names.proofs.StepLaws.{answer_at, needed_so}
use Rattle.file_changes.specs.Drafting.{of_any}
use Rattle.file_changes.proofs.Stepping.{change_so, needed_all, whole_over}
use Rattle.file_changes.proofs.Writing.{write_inside}
use Rattle.file_changes.proofs.writes.write_file.Goals as goal

pub finish_inside-requires : goal.finish_inside-requires
finish_inside-requires g c = record {
  whole = whole_over g.V.View.seen c.args.view.now c.draft_write.new.draft (answer_at _ _ _ c.in-Is-true.is c.in_ok-draft_write.ensures.view c.in-Is-true.field-0-test)
      (subst (λ (d : Drafted g.row.V.Denot). AreWhole (g.V.View.seen d.view).size d.fates) c.draft.view_is c.draft.invariant.0);
}

pub returns-clause-written : goal.returns-clause-written
returns-clause-written g c =
    change_so c.finish_inside.result _ _
    (λ change is. record {
      last = c.draft_write.new.draft.fates;
      writes = answer_at _ _ _ c.in-Is-true.is c.in_ok-draft_write.ensures.written c.in-Is-true.field-0-test;
      whole = whole_over g.V.View.seen c.args.view.now c.draft_write.new.draft (answer_at _ _ _ c.in-Is-true.is c.in_ok-draft_write.ensures.view c.in-Is-true.field-0-test)
          (subst (λ (d : Drafted g.row.V.Denot). AreWhole (g.V.View.seen d.view).size d.fates) c.draft.view_is c.draft.invariant.0);
      finished = is;
    })
    c.finish_inside.ensures.finished

pub returns-clause-done : goal.returns-clause-done
returns-clause-done g c im o l t path of at can =
    let v = g.V.View.seen c.args.view.now in
    let writes = answer_at _ _ _ c.in-Is-true.is c.in_ok-draft_write.ensures.written c.in-Is-true.field-0-test in
    c.finish_inside.ensures.all (λ change finished.
    write_inside v im o l t of c.is_a_view.ensures path c.args.inode at c.files_are_inodes.ensures.files c.files_are_inodes.ensures.inodes c.free_blocks_are_new.ensures c.args.at c.args.new.now c.args.time c.args.room.now can
    writes.first writes.second writes.written writes.timed c.draft_write.new.draft.fates writes.taken c.groups_say_what_is_taken.ensures.taken
    (whole_over g.V.View.seen c.args.view.now c.draft_write.new.draft (answer_at _ _ _ c.in-Is-true.is c.in_ok-draft_write.ensures.view c.in-Is-true.field-0-test)
    (subst (λ (d : Drafted g.row.V.Denot). AreWhole (g.V.View.seen d.view).size d.fates) c.draft.view_is c.draft.invariant.0)) change finished)

pub returns-clause-needed : goal.returns-clause-needed
returns-clause-needed g c = needed_so c.finish_inside.result _ _ (λ m is. of_any is) (needed_all c.finish_inside.result (g.V.View.seen c.args.view.now) c.args.inode _ c.finish_inside.ensures.needed)

pub returns-clause-damaged : goal.returns-clause-damaged
returns-clause-damaged g c = c.finish_inside.ensures.damaged c.args.room.now
