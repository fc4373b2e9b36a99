use Rattle.std.proofs.Common.{◌+◌, length, sym, ap, ◌∙◌, subst}
use Rattle.drafts.specs.Fates.{seen_with}
use Rattle.gfs2_layout.specs.Holding.{Holding}
use Rattle.glock_names.specs.Views.{HasBlock}
use Rattle.glock_names.proofs.StepLaws.{answer_at, answer_so, needed_at}
use Rattle.dinode_tree.specs.Broken.{IsBroken}
use Rattle.dinode_tree.specs.Reading.{IsNeeded}
use Rattle.dinode_tree.specs.Shown.{IsShown}
use Rattle.growth_drafts.specs.Taken.{IsLookedAt}
use Rattle.resource_groups.specs.Freeing.{BreaksSome}
use Rattle.image_model.specs.Owners.{holding}
use Rattle.group_locks.proofs.Faults.{told_on, tells_so, tells_all, damaged_so}
use Rattle.group_locks.proofs.Images.{is_shown}
use Rattle.file_changes.specs.Drafting.{IsWrongAt, in_inode, in_group, of_inode}
use Rattle.file_changes.proofs.Fresh.{still_there}
use Rattle.file_changes.proofs.Stepping.{writes_file, wrote_over, timed_over}
use Rattle.file_changes.proofs.Writing.{can_write, leaves}
use Rattle.file_changes.proofs.writes.draft_write.Goals as goal

pub returns-in_err-write_bytes-clause-damaged : goal.returns-in_err-write_bytes-clause-damaged
returns-in_err-write_bytes-clause-damaged g c =
    let v = g.V.View.seen c.args.view.now in
    let over = ap (λ d. d.view) c.requires.new in
    told_on (IsWrongAt v c.args.inode c.args.room.now) c.from_residual.result _ c.from_residual.ensures.1
    (tells_so _ (IsWrongAt v c.args.inode c.args.room.now) in_inode c.in_err-write_bytes.field-0.0
    (tells_all v c.args.inode IsBroken c.in_err-write_bytes.field-0.0 (λ h shown. c.in_err-write_bytes.ensures.damaged h (subst (λ x. IsShown (g.V.View.seen x) c.args.inode h) (sym over) shown))))

pub returns-in-Is-false-clause-done : goal.returns-in-Is-false-clause-done
returns-in-Is-false-clause-done g c im o l t path of at can =
    let v = g.V.View.seen c.args.view.now in
    let over = ap (λ d. d.view) c.requires.new in
    let shown = subst (λ x. IsShown (g.V.View.seen x) c.args.inode (holding im o c.args.inode)) (sym over) (is_shown v im o l t of path c.args.inode at) in
    sym c.in-Is-false.field-0-test ∙ answer_at _ _ _ c.in-Is-false.is (c.in_ok-write_bytes.ensures.done (holding im o c.args.inode) shown
    (can_write v im o l t of c.is_a_view.ensures path c.args.inode at c.files_are_inodes.ensures.files c.free_blocks_are_new.ensures c.args.at (length c.args.new.now) c.args.room.now can) can.as_many)

pub returns-in-NeedBlock-clause-needed : goal.returns-in-NeedBlock-clause-needed
returns-in-NeedBlock-clause-needed g c =
    of_inode (subst (λ x. (h : Holding) → IsShown (g.V.View.seen x) c.args.inode h → IsNeeded (g.V.View.seen x) h (IsLookedAt h c.args.at (c.args.at + length c.args.new.now)) 0 c.in-NeedBlock.missing) (ap (λ d. d.view) c.requires.new)
    (λ h shown. needed_at _ _ _ c.in-NeedBlock.is (c.in_ok-write_bytes.ensures.needed h shown)))

pub put_time-requires : goal.put_time-requires
put_time-requires g c = record {
  there = still_there (g.V.View.seen c.write_bytes.new.draft.view) c.write_bytes.new.draft.fates c.args.inode
      (subst (λ x. HasBlock (g.V.View.seen x) c.args.inode) (sym c.write_bytes.ensures.view) (answer_at _ _ _ c.in-Is-true.is c.in_ok-write_bytes.ensures.there));
}

pub returns-then-not-branch-clause-done : goal.returns-then-not-branch-clause-done
returns-then-not-branch-clause-done g c im o l t path of at can =
    let v = g.V.View.seen c.args.view.now in
    let over = ap (λ d. d.view) c.requires.new in
    let shown = subst (λ x. IsShown (g.V.View.seen x) c.args.inode (holding im o c.args.inode)) (sym over) (is_shown v im o l t of path c.args.inode at) in
    let can_be = can_write v im o l t of c.is_a_view.ensures path c.args.inode at c.files_are_inodes.ensures.files c.free_blocks_are_new.ensures c.args.at (length c.args.new.now) c.args.room.now can in
    let has = answer_at _ _ _ c.in-Is-true.is (c.in_ok-write_bytes.ensures.written (holding im o c.args.inode) shown can_be) c.in-Is-true.field-0-test in
    sym c.if-not-branch.true
    ∙ c.in_ok-put_time.ensures.sound has.g (subst (λ x. IsShown (seen_with (g.V.View.seen x) c.write_bytes.new.draft.fates) c.args.inode has.g) (sym c.write_bytes.ensures.view) has.shown)
    (c.files_are_inodes.ensures.inodes has.g has.written.sound.file has.written.sound.blocks)

pub returns-clause-written : goal.returns-clause-written
returns-clause-written g c =
    answer_so c.take_room.result _ _
    (λ done taken is. writes_file g.V.View.seen c.args.view.now c.args.draft.now c.write_bytes.new.draft c.put_time.new.draft c.take_room.new.draft.fates c.args.inode c.args.at c.args.new.now c.args.time c.args.room.now
    (ap (λ d. d.view) c.requires.new) c.write_bytes.ensures.view (answer_at _ _ _ c.in-Is-true.is c.in_ok-write_bytes.ensures.within c.in-Is-true.field-0-test)
    (λ h shown can. answer_at _ _ _ c.in-Is-true.is (c.in_ok-write_bytes.ensures.written h shown can) c.in-Is-true.field-0-test) (c.in_ok-put_time.ensures.timed c.if-not-branch.false) (taken is))
    c.take_room.ensures.taken

pub returns-clause-done : goal.returns-clause-done
returns-clause-done g c im o l t path of at can =
    let v = g.V.View.seen c.args.view.now in
    c.take_room.ensures.sound im o l t of
    (leaves v im o l t of c.is_a_view.ensures path c.args.inode at c.files_are_inodes.ensures.files c.files_are_inodes.ensures.inodes c.free_blocks_are_new.ensures c.args.at c.args.new.now c.args.time c.args.room.now can
    c.write_bytes.new.draft.fates c.put_time.new.draft.fates
    (wrote_over g.V.View.seen c.args.view.now c.args.draft.now c.write_bytes.new.draft c.args.inode c.args.at c.args.new.now c.args.room.now (ap (λ d. d.view) c.requires.new)
    (λ h shown can. answer_at _ _ _ c.in-Is-true.is (c.in_ok-write_bytes.ensures.written h shown can) c.in-Is-true.field-0-test))
    (timed_over g.V.View.seen c.args.view.now c.write_bytes.new.draft c.put_time.new.draft c.args.inode c.args.time (c.write_bytes.ensures.view ∙ ap (λ d. d.view) c.requires.new) (c.in_ok-put_time.ensures.timed c.if-not-branch.false)))

pub returns-clause-damaged : goal.returns-clause-damaged
returns-clause-damaged g c =
    let v = g.V.View.seen c.args.view.now in
    damaged_so (BreaksSome v c.args.room.now) (IsWrongAt v c.args.inode c.args.room.now) in_group c.take_room.result c.take_room.ensures.damaged
