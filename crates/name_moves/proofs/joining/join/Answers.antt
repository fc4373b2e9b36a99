use Rattle.std.proofs.Common.{sym, ap, ◌∙◌, subst}
use Rattle.std.specs.FinMap.{FinMap}
use Rattle.std.specs.Ordering.{nat_cmp}
use Rattle.std.specs.Prelude.{IfSome, take}
use Rattle.drafts.specs.declared.fate.Fate.{Fate}
use Rattle.glock_names.proofs.StepLaws.{answer_at, needed_at}
use Rattle.glock_names.specs.Steps.{TellsOf}
use Rattle.name_drafts.proofs.WalkFaults.{tells_so, told_on}
use Rattle.resource_groups.specs.Putting.{HasDataBlock}
use Rattle.directories.specs.Shown.{IsShown}
use Rattle.name_moves.specs.Moving.{IsNeededIn, IsNeededThere, IsWrongIn, IsWrongThere, entry_for, lost_there, move_of}
use Rattle.name_moves.specs.Steps.{GivesThere, IsNamedThere, IsPutOver, LeadsUp}
use Rattle.name_moves.proofs.Ways.{needed_of_move, wrong_of_move}
use Rattle.name_moves.proofs.joining.join.Goals as goal

pub get_name-requires-clause-room : goal.get_name-requires-clause-room
get_name-requires-clause-room g c b there = subst (λ x. HasDataBlock (g.V.View.seen x) b) (sym (ap (λ d. d.view) c.new-target.ensures)) (c.requires.room b there)

pub returns-in_err-taken-clause-damaged : goal.returns-in_err-taken-clause-damaged
returns-in_err-taken-clause-damaged g c blocks =
    let v = g.V.View.seen c.args.view.now in
    let m = move_of c.args.m.now in
    told_on (IsWrongIn v m blocks) _ _ c.from_residual.ensures.1
    (tells_so (IsWrongThere v m) (IsWrongIn v m blocks) (wrong_of_move v m blocks) c.in_err-taken.field-0.0
    (subst (λ x. TellsOf (IsWrongThere (g.V.View.seen x) m) c.in_err-taken.field-0.0) (ap (λ d. d.view) c.new-target.ensures) c.in_err-taken.ensures.damaged))

pub returns-in-NeedBlock-clause-needed : goal.returns-in-NeedBlock-clause-needed
returns-in-NeedBlock-clause-needed g c blocks =
    needed_of_move (g.V.View.seen c.args.view.now) (move_of c.args.m.now) blocks c.in-NeedBlock.missing
    (subst (λ x. IsNeededThere (g.V.View.seen x) (move_of c.args.m.now) c.in-NeedBlock.missing) (ap (λ d. d.view) c.new-target.ensures) (needed_at _ _ _ c.in-NeedBlock.is c.in_ok-taken.ensures.needed))

pub returns-in_err-give_name-clause-damaged : goal.returns-in_err-give_name-clause-damaged
returns-in_err-give_name-clause-damaged g c blocks =
    told_on (IsWrongIn (g.V.View.seen c.args.view.now) (move_of c.args.m.now) blocks) _ _ c.from_residual-in_err-give_name.ensures.1
    (subst (λ x. TellsOf (IsWrongIn (g.V.View.seen x) (move_of c.args.m.now) blocks) c.in_err-give_name.field-0.0) (ap (λ d. d.view) c.new-source.ensures) (c.in_err-give_name.ensures.damaged blocks))

pub returns-in-NeedBlock-2-clause-needed : goal.returns-in-NeedBlock-2-clause-needed
returns-in-NeedBlock-2-clause-needed g c blocks =
    subst (λ x. IsNeededIn (g.V.View.seen x) (move_of c.args.m.now) blocks c.in-NeedBlock-2.missing) (ap (λ d. d.view) c.new-source.ensures) (needed_at _ _ _ c.in-NeedBlock-2.is (c.in_ok-give_name.ensures.needed blocks))

pub returns-in_err-lead_up-clause-damaged : goal.returns-in_err-lead_up-clause-damaged
returns-in_err-lead_up-clause-damaged g c blocks =
    told_on (IsWrongIn (g.V.View.seen c.args.view.now) (move_of c.args.m.now) blocks) _ _ c.from_residual-in_err-lead_up.ensures.1
    (subst (λ x. TellsOf (IsWrongIn (g.V.View.seen x) (move_of c.args.m.now) blocks) c.in_err-lead_up.field-0.0) (ap (λ d. d.view) c.new-inode.ensures) (c.in_err-lead_up.ensures.damaged blocks))

pub returns-in-Is-false-clause-able : goal.returns-in-Is-false-clause-able
returns-in-Is-false-clause-able g c target inode may =
    let over = ap (λ d. d.view) c.new-inode.ensures in
    sym c.in-Is-false.field-0-test ∙ answer_at _ _ _ c.in-Is-false.is (c.in_ok-lead_up.ensures.able inode
    (λ moves. (subst (λ x. IsShown (g.V.View.seen x) c.args.m.now.moved.inode inode) (sym over) (may.inode_shown moves), may.inode_sound moves)))

pub returns-in-NeedBlock-3-clause-needed : goal.returns-in-NeedBlock-3-clause-needed
returns-in-NeedBlock-3-clause-needed g c blocks =
    subst (λ x. IsNeededIn (g.V.View.seen x) (move_of c.args.m.now) blocks c.in-NeedBlock-3.missing) (ap (λ d. d.view) c.new-inode.ensures) (needed_at _ _ _ c.in-NeedBlock-3.is (c.in_ok-lead_up.ensures.needed blocks))

pub returns-clause-joined : goal.returns-clause-joined
returns-clause-joined g c =
    let m = move_of c.args.m.now in
    let room = c.args.room.now in
    let taken = take c.in-Is-Some.taken room in
    record {
      target = c.get_name.new.draft.fates;
      named = subst (λ x. IsNamedThere (g.V.View.seen x) m.to.inode (lost_there m) m.new_name (entry_for m c.args.old.now) c.args.time room taken c.get_name.new.draft.fates) (ap (λ d. d.view) c.new-target.ensures)
          (subst (λ o. IfSome o (λ n. IsNamedThere (g.V.View.seen c.new-target.result.view) m.to.inode (lost_there m) m.new_name (entry_for m c.args.old.now) c.args.time room (take n room) c.get_name.new.draft.fates)) c.in-Is-Some.field-0-is (answer_at _ _ _ c.in-Is-Some.is c.in_ok-taken.ensures.named));
      source = c.give_name.new.draft.fates;
      given = subst (λ x. GivesThere (g.V.View.seen x) m c.args.time c.give_name.new.draft.fates) (ap (λ d. d.view) c.new-source.ensures) (answer_at _ _ _ c.in-Is.is c.in_ok-give_name.ensures.given);
      inode = c.lead_up.new.draft.fates;
      led = subst (λ x. LeadsUp (g.V.View.seen x) m c.args.time c.lead_up.new.draft.fates) (ap (λ d. d.view) c.new-inode.ensures) (answer_at _ _ _ c.in-Is-true.is c.in_ok-lead_up.ensures.led c.in-Is-true.field-0-test);
      first = c.put_part.new.draft.fates;
      first_is = subst (λ (fates : FinMap nat_cmp Fate). IsPutOver m.to.inode c.get_name.new.draft.fates fates c.put_part.new.draft.fates) (ap (λ d. d.fates) c.requires.new) c.in_ok-put_part.ensures.put;
      second = c.put_part-2.new.draft.fates;
      second_is = c.in_ok-put_part-2.ensures.put;
      joined = c.in_ok-put_part-3.ensures.put;
    }
