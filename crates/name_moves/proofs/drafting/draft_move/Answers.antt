use Rattle.std.proofs.Common.{inl, inr, ℕ, List, ◌++◌, take, sym, subst}
use Rattle.std.proofs.lemmas.List.Elements.{Contains-append_cases, Contains-append_left, Contains-append_right}
use Rattle.std.specs.Prelude.{Contains, IfSome, IsSome}
use Rattle.glock_names.proofs.StepLaws.{answer_at, needed_at}
use Rattle.glock_names.specs.Steps.{TellsOf}
use Rattle.image_model.specs.Owners.{holding}
use Rattle.name_drafts.proofs.WalkFaults.{told_on, tells_so}
use Rattle.resource_groups.specs.Freeing.{BreaksSome, IsNeededFor}
use Rattle.resource_groups.specs.Putting.{HasDataBlock}
use Rattle.resource_groups.proofs.Sets.{take_has}
use Rattle.name_drafts.specs.Steps.{LeavesGroups}
use Rattle.name_drafts.proofs.Faults.{breaks_wide, needed_wide}
use Rattle.name_moves.specs.Moving.{IsWrongIn, freed_by, move_of, of_replaced}
use Rattle.name_moves.specs.Moving as moving
use Rattle.name_moves.specs.Steps.{AreJoined, AreSaidAndDone}
use Rattle.name_moves.proofs.Imaged.{apart_there}
use Rattle.name_moves.proofs.Joined.{joined_leaves}
use Rattle.name_moves.proofs.Moves.{moving_is}
use Rattle.name_moves.proofs.drafting.draft_move.Goals as goal

-- what is taken is of the room
wide : (room freed : List ℕ) (n b : ℕ) → Contains (take n room ++ freed) b → Contains (room ++ freed) b
wide room freed n b there = elim (Contains-append_cases (take n room) freed b there) [
  | inl early ↦ Contains-append_left room freed b (take_has room n b early)
  | inr later ↦ Contains-append_right room freed b later
]

pub returns-in_err-old-clause-damaged : goal.returns-in_err-old-clause-damaged
returns-in_err-old-clause-damaged g c =
    let m = move_of c.args.m.now in
    told_on (IsWrongIn (g.V.View.seen c.args.view.now) m (c.args.room.now ++ freed_by m)) _ _ c.from_residual.ensures.1 (c.in_err-old.ensures.damaged (c.args.room.now ++ freed_by m))

pub returns-in-NeedBlock-clause-needed : goal.returns-in-NeedBlock-clause-needed
returns-in-NeedBlock-clause-needed g c = needed_at _ _ _ c.in-NeedBlock.is (c.in_ok-old.ensures.needed (c.args.room.now ++ freed_by (move_of c.args.m.now)))

pub returns-in_err-taken-clause-damaged : goal.returns-in_err-taken-clause-damaged
returns-in_err-taken-clause-damaged g c =
    let m = move_of c.args.m.now in
    told_on (IsWrongIn (g.V.View.seen c.args.view.now) m (c.args.room.now ++ freed_by m)) _ _ c.from_residual-in_err-taken.ensures.1 (c.in_err-taken.ensures.damaged (c.args.room.now ++ freed_by m))

pub returns-in-Is-None-clause-done : goal.returns-in-Is-None-clause-done
returns-in-Is-None-clause-done g c im o l t path path' of place =
    let v = g.V.View.seen c.args.view.now in
    let m = move_of c.args.m.now in
    let apart = apart_there v im o l t of c.is_a_view.ensures m c.args.room.now path path' c.requires.can place in
    subst IsSome c.in-Is-None.field-0-is (answer_at _ _ _ c.in-Is-None.is (c.in_ok-taken.ensures.able (holding im o m.to.inode) (holding im o m.moved.inode)
    (record { shown = apart.target_shown; sound = apart.target_sound; can = apart.can; inode_shown = apart.inode_shown; inode_sound = apart.inode_sound })))

pub returns-in-NeedBlock-2-clause-needed : goal.returns-in-NeedBlock-2-clause-needed
returns-in-NeedBlock-2-clause-needed g c = needed_at _ _ _ c.in-NeedBlock-2.is (c.in_ok-taken.ensures.needed (c.args.room.now ++ freed_by (move_of c.args.m.now)))

pub say_and_finish-requires-clause-taken : goal.say_and_finish-requires-clause-taken
say_and_finish-requires-clause-taken g c b there =
    subst (λ x. HasDataBlock (g.V.View.seen x) b) (sym (answer_at _ _ _ c.in-Is-Some.is c.in_ok-taken.ensures.view)) (c.requires.room b (take_has c.args.room.now c.in-Is-Some.taken b there))

pub say_and_finish-requires-clause-freed : goal.say_and_finish-requires-clause-freed
say_and_finish-requires-clause-freed g c b there =
    subst (λ x. HasDataBlock (g.V.View.seen x) b) (sym (answer_at _ _ _ c.in-Is-Some.is c.in_ok-taken.ensures.view)) (c.requires.can.inside b (of_replaced (subst (λ xs. Contains xs b) c.freed_blocks.ensures there)))

pub say_and_finish-requires-clause-groups : goal.say_and_finish-requires-clause-groups
say_and_finish-requires-clause-groups g c =
    let v = g.V.View.seen c.args.view.now in
    let m = move_of c.args.m.now in
    let d = c.join.new.draft in
    let taken = take c.in-Is-Some.taken c.args.room.now in
    let joined = subst (λ x. IfSome x (λ n. AreJoined v m c.in-Is.old c.args.room.now c.args.time (take n c.args.room.now) d.fates)) c.in-Is-Some.field-0-is (answer_at _ _ _ c.in-Is-Some.is c.in_ok-taken.ensures.joined) in
    subst (λ x. LeavesGroups (g.V.View.seen x) d.fates) (sym (answer_at _ _ _ c.in-Is-Some.is c.in_ok-taken.ensures.view))
    (joined_leaves v m c.in-Is.old c.args.room.now c.args.time taken d.fates joined c.requires.can.inside (λ b there. c.requires.room b (take_has c.args.room.now c.in-Is-Some.taken b there)) c.is_a_view.ensures)

pub returns-in_err-change-clause-damaged : goal.returns-in_err-change-clause-damaged
returns-in_err-change-clause-damaged g c =
    let v = g.V.View.seen c.args.view.now in
    let m = move_of c.args.m.now in
    let all : List ℕ = c.args.room.now ++ freed_by m in
    let some : List ℕ = take c.in-Is-Some.taken c.args.room.now ++ freed_by m in
    let f = c.in_err-change.field-0.0 in
    told_on (IsWrongIn v m all) _ _ c.from_residual-in_err-change.ensures.1
    (tells_so (BreaksSome v some) (IsWrongIn v m all) (λ rule b breaks. moving.IsWrongIn.in_group rule b (breaks_wide v some all rule b (wide c.args.room.now (freed_by m) c.in-Is-Some.taken) breaks)) f
    (subst (λ xs. TellsOf (BreaksSome v (take c.in-Is-Some.taken c.args.room.now ++ xs)) f) c.freed_blocks.ensures
    (subst (λ x. TellsOf (BreaksSome (g.V.View.seen x) (take c.in-Is-Some.taken c.args.room.now ++ c.freed_blocks.result.now)) f) (answer_at _ _ _ c.in-Is-Some.is c.in_ok-taken.ensures.view) c.in_err-change.ensures.damaged)))

pub returns-in-Is-2-clause-moving : goal.returns-in-Is-2-clause-moving
returns-in-Is-2-clause-moving g c =
    let v = g.V.View.seen c.args.view.now in
    let m = move_of c.args.m.now in
    let d = c.join.new.draft in
    let taken = take c.in-Is-Some.taken c.args.room.now in
    let view = answer_at _ _ _ c.in-Is-Some.is c.in_ok-taken.ensures.view in
    let joined = subst (λ x. IfSome x (λ n. AreJoined v m c.in-Is.old c.args.room.now c.args.time (take n c.args.room.now) d.fates)) c.in-Is-Some.field-0-is (answer_at _ _ _ c.in-Is-Some.is c.in_ok-taken.ensures.joined) in
    let said = subst (λ xs. AreSaidAndDone v d.fates taken xs c.in-Is-2.change) c.freed_blocks.ensures
    (subst (λ x. AreSaidAndDone (g.V.View.seen x) d.fates taken c.freed_blocks.result.now c.in-Is-2.change) view (answer_at _ _ _ c.in-Is-2.is c.in_ok-change.ensures.said)) in
    moving_is v m c.in-Is.old c.args.room.now c.args.time taken c.in-Is-2.change (record { fates = d.fates; joined = joined; said = said }) c.is_a_view.ensures c.requires.can
    (λ b there. c.requires.room b (take_has c.args.room.now c.in-Is-Some.taken b there)) (λ b there goes. c.requires.apart b there (of_replaced goes))
    (λ h shown. answer_at _ _ _ c.in-Is.is c.in_ok-old.ensures.old h shown)

pub returns-in-NeedBlock-3-clause-needed : goal.returns-in-NeedBlock-3-clause-needed
returns-in-NeedBlock-3-clause-needed g c =
    let v = g.V.View.seen c.args.view.now in
    let m = move_of c.args.m.now in
    let all : List ℕ = c.args.room.now ++ freed_by m in
    let some : List ℕ = take c.in-Is-Some.taken c.args.room.now ++ freed_by m in
    let n = c.in-NeedBlock-3.missing in
    moving.IsNeededIn.in_group (needed_wide v some all n (wide c.args.room.now (freed_by m) c.in-Is-Some.taken)
    (subst (λ xs. IsNeededFor v (take c.in-Is-Some.taken c.args.room.now ++ xs) n) c.freed_blocks.ensures
    (subst (λ x. IsNeededFor (g.V.View.seen x) (take c.in-Is-Some.taken c.args.room.now ++ c.freed_blocks.result.now) n) (answer_at _ _ _ c.in-Is-Some.is c.in_ok-taken.ensures.view)
    (needed_at _ _ _ c.in-NeedBlock-3.is c.in_ok-change.ensures.needed))))
