use Rattle.std.proofs.Common.{rules, ℕ, ◌≡◌, ◌≢◌, false, true, Result, Ok, Err, sym, ap, ◌∙◌, subst}
use Rattle.std.specs.Prelude.{List, not}
use Rattle.drafts.specs.declared.attempt.Attempt.{Attempt}
use Rattle.drafts.specs.declared.attempt.Attempt.TheVariants.{Done, NeedLock, NeedBlock, NoSpace, NotBuilt}
use Rattle.glock_names.specs.declared.LockName.{LockName}
use Rattle.glock_names.specs.declared.State.{State}
use Rattle.glock_names.specs.declared.steps.CallFault.{CallFault}
use Rattle.glock_names.specs.declared.steps.Missing.{Missing}
use Rattle.cluster_history.specs.Changes.{is_ok}
use Rattle.read_calls.specs.Answers.{IfDone, IfNeedBlock, IfNeedLock, IfNoSpace, IfNotBuilt, HasSpace}
use Rattle.call_locks.specs.WantLaws.{path_of}
use Rattle.call_locks.specs.Wants.{wanted}
use Rattle.read_calls.specs.Holds.{AreHeld, Hold, IsAskedFor, IsFirstLack, IsUnder, holds_in}
use Rattle.making_calls.specs.Making as making
use Rattle.making_calls.specs.Making.{IsMaking}
use Rattle.move_calls.specs.Locks.{IsNeed, call_holds}
use Rattle.move_calls.specs.MoveEnds.{IsRenaming}
use Rattle.removing_calls.specs.Removing.{IsRemoving, holds_for}
use Rattle.writing_calls.specs.Writing as writing
use Rattle.writing_calls.specs.Writing.{IsWriting}
use Rattle.file_tree.specs.Apply.{apply}
use Rattle.file_tree.specs.Tree.{Tree}
use Rattle.file_tree.specs.declared.call.Call.{Call}
use Rattle.file_tree.specs.declared.reply.Reply.{Reply}
use Rattle.file_tree.specs.declared.reply.Reply.TheVariants as reply
use Rattle.drafts.specs.declared.change.Change.{Change}
use Rattle.image_changes.specs.Does.{Does, AreInside}
use Rattle.read_calls.specs.Reading.{IsReading}
use Rattle.read_calls.proofs.Lists.{no_change}
use Rattle.file_calls.specs.Answers.{IsMadeIn}
use Rattle.file_calls.specs.Calls.{IsLackedFor, IsSoOfList}
use Rattle.file_calls.proofs.Lacked.{lacked_lacks}
use Rattle.file_calls.proofs.Made.{making_full, making_made, moving_full, moving_made, removing_made, writing_full}
use Rattle.file_calls.proofs.Blocks.{needed_absent, covered_low, list_of_move, making_few, making_list, makings_move_none, moving_few, moving_list, moving_so, reads_move_none, removals_move_none, so_of_list, nothing_under, reading_list, removing_absent, removing_inside, removing_list, removing_under, writing_absent, writes_move_none, writing_few, writing_list}
use Rattle.file_calls.proofs.tries.attempt.Goals as goal

mapped : (r : Result Attempt CallFault) (P Q : Missing → Type 0) → ((m : Missing) → P m → Q m) → IfNeedBlock r P → IfNeedBlock r Q
mapped (Ok (NeedBlock m)) P Q f is = f m is
mapped (Ok (Done reply change)) P Q f is = tt
mapped (Ok (NeedLock lock state)) P Q f is = tt
mapped (Ok (NoSpace need free)) P Q f is = tt
mapped (Ok NotBuilt) P Q f is = tt
mapped (Err e) P Q f is = tt

-- and of a lock that is asked for
lock_so : (r : Result Attempt CallFault) (P Q : LockName → State → Type 0) → ((lock : LockName) (state : State) → P lock state → Q lock state) → IfNeedLock r P → IfNeedLock r Q
lock_so (Ok (NeedLock lock state)) P Q f is = f lock state is
lock_so (Ok (NeedBlock m)) P Q f is = tt
lock_so (Ok (Done reply change)) P Q f is = tt
lock_so (Ok (NoSpace need free)) P Q f is = tt
lock_so (Ok NotBuilt) P Q f is = tt
lock_so (Err e) P Q f is = tt

-- and of what is done
done_so : (r : Result Attempt CallFault) (P Q : Reply → Change → Type 0) → ((x : Reply) (change : Change) → P x change → Q x change) → IfDone r P → IfDone r Q
done_so (Ok (NeedBlock m)) P Q f is = tt
done_so (Ok (Done reply change)) P Q f is = f reply change is
done_so (Ok (NeedLock lock state)) P Q f is = tt
done_so (Ok (NoSpace need free)) P Q f is = tt
done_so (Ok NotBuilt) P Q f is = tt
done_so (Err e) P Q f is = tt

done_two : (r : Result Attempt CallFault) (P Q : Reply → Change → Type 0) → IfDone r P → IfDone r Q → IfDone r (λ x change. P x change × Q x change)
done_two (Ok (NeedBlock m)) P Q p q = tt
done_two (Ok (Done reply change)) P Q p q = (p, q)
done_two (Ok (NeedLock lock state)) P Q p q = tt
done_two (Ok (NoSpace need free)) P Q p q = tt
done_two (Ok NotBuilt) P Q p q = tt
done_two (Err e) P Q p q = tt

done_three : (r : Result Attempt CallFault) (P Q R : Reply → Change → Type 0) → IfDone r P → IfDone r Q → IfDone r R → IfDone r (λ x change. P x change × Q x change × R x change)
done_three (Ok (NeedBlock m)) P Q R p q s = tt
done_three (Ok (Done reply change)) P Q R p q s = (p, q, s)
done_three (Ok (NeedLock lock state)) P Q R p q s = tt
done_three (Ok (NoSpace need free)) P Q R p q s = tt
done_three (Ok NotBuilt) P Q R p q s = tt
done_three (Err e) P Q R p q s = tt

pub returns-in-Read-clause-on_device : goal.returns-in-Read-clause-on_device
returns-in-Read-clause-on_device g c im o l t of = mapped c.attempt-in-Read.result _ _ (λ m asked. covered_low im o l of.stands.laid m.block m.lock asked.covered) (c.attempt-in-Read.ensures.block im o l t of)

pub returns-in-Write-clause-on_device : goal.returns-in-Write-clause-on_device
returns-in-Write-clause-on_device g c im o l t of = mapped c.attempt-in-Write.result _ _ (λ m asked. covered_low im o l of.stands.laid m.block m.lock asked.covered) (c.attempt-in-Write.ensures.block im o l t of)

pub returns-in-Read-clause-absent : goal.returns-in-Read-clause-absent
returns-in-Read-clause-absent g c =
    let v = g.V.View.seen c.args.view.now in
    mapped c.attempt-in-Read.result _ _ (λ m needed. needed_absent v c.args.call.now m (λ a. let s = c.every_view_shows_an_inode.ensures v a in (s.0, s.1.0)) needed) c.attempt-in-Read.ensures.needed

pub returns-in-Read-clause-under : goal.returns-in-Read-clause-under
returns-in-Read-clause-under g c im o l t of =
    let is : IsReading c.args.call.now = search rules in
    let of_list = reading_list im o l t c.args.stamp.now.node c.args.call.now is in
    done_so c.attempt-in-Read.result _ _
    (λ x change all. record { list = holds_in im o l (path_of c.args.call.now false) (wanted c.args.call.now); is = of_list.0; held = all.0; under = nothing_under change (all.1.tells ∙ ap not (no_change c.args.call.now x is)) o (holds_in im o l (path_of c.args.call.now false) (wanted c.args.call.now)) all.1.form })
    (done_two c.attempt-in-Read.result _ _ (c.attempt-in-Read.ensures.held im o l t of) c.attempt-in-Read.ensures.done)

pub returns-in-Write-clause-under : goal.returns-in-Write-clause-under
returns-in-Write-clause-under g c im o l t of =
    let is : IsWriting c.args.call.now = search rules in
    let of_list = writing_list im o l t c.args.stamp.now.node c.args.call.now is in
    done_so c.attempt-in-Write.result _ _
    (λ x change all. record { list = writing.call_holds im o l t c.args.call.now c.args.stamp.now.node; is = of_list.0; held = all.0; under = all.1 })
    (done_two c.attempt-in-Write.result _ _ (c.attempt-in-Write.ensures.held im o l t of) (c.attempt-in-Write.ensures.under im o l t of))

pub returns-in-Write-clause-lock : goal.returns-in-Write-clause-lock
returns-in-Write-clause-lock g c im o l t list of listed =
    let is : IsWriting c.args.call.now = search rules in
    subst (λ list. IfNeedLock c.attempt-in-Write.result (IsFirstLack (g.V.View.seen c.args.view.now) list)) (sym ((writing_list im o l t c.args.stamp.now.node c.args.call.now is).1 list listed)) (c.attempt-in-Write.ensures.lock im o l t of)

pub returns-in-Write-clause-block : goal.returns-in-Write-clause-block
returns-in-Write-clause-block g c im o l t list of listed =
    let is : IsWriting c.args.call.now = search rules in
    subst (λ list. IfNeedBlock c.attempt-in-Write.result (IsAskedFor (g.V.View.seen c.args.view.now) im o l list)) (sym ((writing_list im o l t c.args.stamp.now.node c.args.call.now is).1 list listed)) (c.attempt-in-Write.ensures.block im o l t of)

pub returns-in-Write-clause-absent : goal.returns-in-Write-clause-absent
returns-in-Write-clause-absent g c =
    let v = g.V.View.seen c.args.view.now in
    mapped c.attempt-in-Write.result _ _ (λ m needed. writing_absent v c.args.call.now m (λ a. let s = c.every_view_shows_an_inode.ensures v a in (s.0, s.1.0)) needed) c.attempt-in-Write.ensures.needed

pub returns-in-Unlink-clause-lock : goal.returns-in-Unlink-clause-lock
returns-in-Unlink-clause-lock g c im o l t list of listed =
    let is : IsRemoving c.args.call.now = search rules in
    subst (λ list. IfNeedLock c.attempt-in-Unlink.result (IsFirstLack (g.V.View.seen c.args.view.now) list)) (sym ((removing_list im o l t c.args.stamp.now.node c.args.call.now is).1 list listed)) (c.attempt-in-Unlink.ensures.lock im o l t of)

pub returns-in-Unlink-clause-block : goal.returns-in-Unlink-clause-block
returns-in-Unlink-clause-block g c im o l t list of listed =
    let is : IsRemoving c.args.call.now = search rules in
    subst (λ list. IfNeedBlock c.attempt-in-Unlink.result (IsAskedFor (g.V.View.seen c.args.view.now) im o l list)) (sym ((removing_list im o l t c.args.stamp.now.node c.args.call.now is).1 list listed)) (c.attempt-in-Unlink.ensures.block im o l t of)

pub returns-in-Unlink-clause-on_device : goal.returns-in-Unlink-clause-on_device
returns-in-Unlink-clause-on_device g c im o l t of = mapped c.attempt-in-Unlink.result _ _ (λ m asked. covered_low im o l of.stands.laid m.block m.lock asked.covered) (c.attempt-in-Unlink.ensures.block im o l t of)

pub returns-in-Unlink-clause-absent : goal.returns-in-Unlink-clause-absent
returns-in-Unlink-clause-absent g c =
    let v = g.V.View.seen c.args.view.now in
    mapped c.attempt-in-Unlink.result _ _ (λ m needed. removing_absent v c.args.call.now m (λ a. let s = c.every_view_shows_an_inode.ensures v a in (s.0, s.1.0)) needed) c.attempt-in-Unlink.ensures.needed

pub returns-in-Unlink-clause-under : goal.returns-in-Unlink-clause-under
returns-in-Unlink-clause-under g c im o l t of =
    let is : IsRemoving c.args.call.now = search rules in
    let v = g.V.View.seen c.args.view.now in
    let list = holds_for im o l t c.args.call.now in
    let of_list = removing_list im o l t c.args.stamp.now.node c.args.call.now is in
    done_so c.attempt-in-Unlink.result _ _
    (λ x change all. record { list = list; is = of_list.0; held = all.0; under = removing_under v o list c.args.call.now x change all.1 all.2 })
    (done_three c.attempt-in-Unlink.result _ _ _ (c.attempt-in-Unlink.ensures.held im o l t of) c.attempt-in-Unlink.ensures.done (c.attempt-in-Unlink.ensures.under im o l t of))

pub returns-in-Unlink-clause-inside : goal.returns-in-Unlink-clause-inside
returns-in-Unlink-clause-inside g c =
    let v = g.V.View.seen c.args.view.now in
    done_so c.attempt-in-Unlink.result _ (λ reply change. AreInside v change)
    (λ x change all. removing_inside v c.args.call.now x change all.0 all.1) (done_two c.attempt-in-Unlink.result _ _ c.attempt-in-Unlink.ensures.done c.attempt-in-Unlink.ensures.inside)

pub returns-in-Create-clause-lock : goal.returns-in-Create-clause-lock
returns-in-Create-clause-lock g c im o l t list of listed =
    let is : IsMaking c.args.call.now = search rules in
    subst (λ list. IfNeedLock c.attempt-in-Create.result (IsFirstLack (g.V.View.seen c.args.view.now) list)) (sym ((making_list im o l t c.args.stamp.now.node c.args.call.now is).1 list listed)) (c.attempt-in-Create.ensures.lock im o l t of)

pub returns-in-Create-clause-block : goal.returns-in-Create-clause-block
returns-in-Create-clause-block g c im o l t list of listed =
    let is : IsMaking c.args.call.now = search rules in
    subst (λ list. IfNeedBlock c.attempt-in-Create.result (IsAskedFor (g.V.View.seen c.args.view.now) im o l list)) (sym ((making_list im o l t c.args.stamp.now.node c.args.call.now is).1 list listed)) (c.attempt-in-Create.ensures.block im o l t of)

pub returns-in-Create-clause-on_device : goal.returns-in-Create-clause-on_device
returns-in-Create-clause-on_device g c im o l t of = mapped c.attempt-in-Create.result _ _ (λ m asked. covered_low im o l of.stands.laid m.block m.lock asked.covered) (c.attempt-in-Create.ensures.block im o l t of)

pub returns-in-Create-clause-under : goal.returns-in-Create-clause-under
returns-in-Create-clause-under g c im o l t of =
    let is : IsMaking c.args.call.now = search rules in
    let of_list = making_list im o l t c.args.stamp.now.node c.args.call.now is in
    done_so c.attempt-in-Create.result _ _
    (λ x change all. record { list = making.call_holds im o l t c.args.call.now c.args.stamp.now.node; is = of_list.0; held = all.0; under = all.1 })
    (done_two c.attempt-in-Create.result _ _ (c.attempt-in-Create.ensures.held im o l t of) (c.attempt-in-Create.ensures.under im o l t of))

few_so : (r : Result Attempt CallFault) (P Q : ℕ → ℕ → Type 0) → ((need free : ℕ) → P need free → Q need free) → IfNoSpace r P → IfNoSpace r Q
few_so (Ok (NeedBlock m)) P Q f is = tt
few_so (Ok (Done reply change)) P Q f is = tt
few_so (Ok (NeedLock lock state)) P Q f is = tt
few_so (Ok (NoSpace need free)) P Q f is = f need free is
few_so (Ok NotBuilt) P Q f is = tt
few_so (Err e) P Q f is = tt

pub returns-in-Create-clause-space : goal.returns-in-Create-clause-space
returns-in-Create-clause-space g c im o l t of =
    let is : IsMaking c.args.call.now = search rules in
    few_so c.attempt-in-Create.result _ _ (making_few (g.V.View.seen c.args.view.now) im o l t c.args.call.now is) (c.attempt-in-Create.ensures.space im o l t of)

-- what is always built is so whatever is asked of what isn't
built_so : (r : Result Attempt CallFault) (P : Type 0) → IfNotBuilt r ⊥ → IfNotBuilt r P
built_so (Ok (NeedBlock m)) P is = tt
built_so (Ok (Done reply change)) P is = tt
built_so (Ok (NeedLock lock state)) P is = tt
built_so (Ok (NoSpace need free)) P is = tt
built_so (Ok NotBuilt) P is = absurd is
built_so (Err e) P is = tt

pub returns-in-Read-clause-unbuilt : goal.returns-in-Read-clause-unbuilt
returns-in-Read-clause-unbuilt g c = built_so c.attempt-in-Read.result _ c.attempt-in-Read.ensures.built

pub returns-in-Unlink-clause-unbuilt : goal.returns-in-Unlink-clause-unbuilt
returns-in-Unlink-clause-unbuilt g c = built_so c.attempt-in-Unlink.result _ c.attempt-in-Unlink.ensures.built

-- a reply that doesn't tell of too few free blocks is another one
space_so : (r : Reply) → HasSpace r → r ≢ reply.NoSpace
space_so r has e = subst HasSpace e has

pub returns-in-Read-clause-spaceless : goal.returns-in-Read-clause-spaceless
returns-in-Read-clause-spaceless g c = done_so c.attempt-in-Read.result _ _ (λ x change has. space_so x has) c.attempt-in-Read.ensures.spaceless

pub returns-in-Read-clause-fewer : goal.returns-in-Read-clause-fewer
returns-in-Read-clause-fewer g c = few_so c.attempt-in-Read.result _ _ (λ need free never. absurd never) c.attempt-in-Read.ensures.space

pub returns-in-Create-clause-spaceless : goal.returns-in-Create-clause-spaceless
returns-in-Create-clause-spaceless g c = done_so c.attempt-in-Create.result _ _ (λ x change has. space_so x has) c.attempt-in-Create.ensures.spaceless

pub returns-in-Unlink-clause-spaceless : goal.returns-in-Unlink-clause-spaceless
returns-in-Unlink-clause-spaceless g c = done_so c.attempt-in-Unlink.result _ _ (λ x change has. space_so x has) c.attempt-in-Unlink.ensures.spaceless

pub returns-in-Unlink-clause-fewer : goal.returns-in-Unlink-clause-fewer
returns-in-Unlink-clause-fewer g c = few_so c.attempt-in-Unlink.result _ _ (λ need free never. absurd never) c.attempt-in-Unlink.ensures.space

pub returns-in-Write-clause-spaceless : goal.returns-in-Write-clause-spaceless
returns-in-Write-clause-spaceless g c = done_so c.attempt-in-Write.result _ _ (λ x change has. space_so x has) c.attempt-in-Write.ensures.spaceless

pub returns-in-Write-clause-space : goal.returns-in-Write-clause-space
returns-in-Write-clause-space g c im o l t of =
    let is : IsWriting c.args.call.now = search rules in
    few_so c.attempt-in-Write.result _ _ (λ need free. writing_few (g.V.View.seen c.args.view.now) im o l t need free c.args.call.now is) (c.attempt-in-Write.ensures.space im o l t of)

pub returns-in-Write-clause-fewer : goal.returns-in-Write-clause-fewer
returns-in-Write-clause-fewer g c = few_so c.attempt-in-Write.result _ _ (λ need free full. full.fewer) c.attempt-in-Write.ensures.full

pub returns-in-Create-clause-made : goal.returns-in-Create-clause-made
returns-in-Create-clause-made g c im o l t of =
    let is : IsMaking c.args.call.now = search rules in
    done_so c.attempt-in-Create.result _ (IsMadeIn im o l c.args.call.now c.args.stamp.now.node c.args.stamp.now.time)
    (λ x change all so. making_made im o l c.args.stamp.now.node c.args.stamp.now.time change c.args.call.now is (all.0 so) (all.1 so))
    (done_two c.attempt-in-Create.result _ _ (c.attempt-in-Create.ensures.made im o l t of) (c.attempt-in-Create.ensures.stamped im o l t of))

pub returns-in-Unlink-clause-made : goal.returns-in-Unlink-clause-made
returns-in-Unlink-clause-made g c im o l t of =
    let is : IsRemoving c.args.call.now = search rules in
    done_so c.attempt-in-Unlink.result _ (IsMadeIn im o l c.args.call.now c.args.stamp.now.node c.args.stamp.now.time)
    (λ x change stamped so. removing_made im o l c.args.stamp.now.node c.args.stamp.now.time change c.args.call.now is (stamped so)) (c.attempt-in-Unlink.ensures.stamped im o l t of)

pub returns-in-Create-clause-full : goal.returns-in-Create-clause-full
returns-in-Create-clause-full g c =
    let is : IsMaking c.args.call.now = search rules in
    few_so c.attempt-in-Create.result _ _ (making_full (g.V.View.seen c.args.view.now) c.args.stamp.now.node c.args.call.now is) c.attempt-in-Create.ensures.full

pub returns-in-Read-clause-full : goal.returns-in-Read-clause-full
returns-in-Read-clause-full g c = few_so c.attempt-in-Read.result _ _ (λ need free never. absurd never) c.attempt-in-Read.ensures.space

pub returns-in-Unlink-clause-full : goal.returns-in-Unlink-clause-full
returns-in-Unlink-clause-full g c = few_so c.attempt-in-Unlink.result _ _ (λ need free never. absurd never) c.attempt-in-Unlink.ensures.space

pub returns-in-Write-clause-full : goal.returns-in-Write-clause-full
returns-in-Write-clause-full g c =
    let is : IsWriting c.args.call.now = search rules in
    few_so c.attempt-in-Write.result _ _ (λ need free. writing_full (g.V.View.seen c.args.view.now) c.args.stamp.now.node need free c.args.call.now is) c.attempt-in-Write.ensures.full

pub returns-in-Read-clause-lacks : goal.returns-in-Read-clause-lacks
returns-in-Read-clause-lacks g c =
    let v = g.V.View.seen c.args.view.now in
    let lacked : IfNeedLock c.attempt-in-Read.result (IsLackedFor v c.args.call.now c.args.stamp.now.node) = search rules in
    lacked_lacks v c.args.call.now c.args.stamp.now.node c.attempt-in-Read.result lacked

pub returns-in-Create-clause-lacks : goal.returns-in-Create-clause-lacks
returns-in-Create-clause-lacks g c =
    let v = g.V.View.seen c.args.view.now in
    let lacked : IfNeedLock c.attempt-in-Create.result (IsLackedFor v c.args.call.now c.args.stamp.now.node) = search rules in
    lacked_lacks v c.args.call.now c.args.stamp.now.node c.attempt-in-Create.result lacked

pub returns-in-Unlink-clause-lacks : goal.returns-in-Unlink-clause-lacks
returns-in-Unlink-clause-lacks g c =
    let v = g.V.View.seen c.args.view.now in
    let lacked : IfNeedLock c.attempt-in-Unlink.result (IsLackedFor v c.args.call.now c.args.stamp.now.node) = search rules in
    lacked_lacks v c.args.call.now c.args.stamp.now.node c.attempt-in-Unlink.result lacked

pub returns-in-Write-clause-lacks : goal.returns-in-Write-clause-lacks
returns-in-Write-clause-lacks g c =
    let v = g.V.View.seen c.args.view.now in
    let lacked : IfNeedLock c.attempt-in-Write.result (IsLackedFor v c.args.call.now c.args.stamp.now.node) = search rules in
    lacked_lacks v c.args.call.now c.args.stamp.now.node c.attempt-in-Write.result lacked

-- ---- a call that moves a name

-- what is held and touched, for one number of blocks that are needed
under_so : (r : Result Attempt CallFault) (N H : ℕ → Type 0) (U : ℕ → Change → Type 0) → IfDone r (λ x change. (need : ℕ) × (N need × H need)) → ((need : ℕ) → N need → IfDone r (λ x change. U need change))
    → IfDone r (λ x change. (need : ℕ) × N need × H need × U need change)
under_so (Ok (NeedBlock m)) N H U held under = tt
under_so (Ok (Done reply change)) N H U held under = (held.0, held.1.0, held.1.1, under held.0 held.1.0)
under_so (Ok (NeedLock lock state)) N H U held under = tt
under_so (Ok (NoSpace need free)) N H U held under = tt
under_so (Ok NotBuilt) N H U held under = tt
under_so (Err e) N H U held under = tt

pub returns-in-Rename-clause-under : goal.returns-in-Rename-clause-under
returns-in-Rename-clause-under g c im o l t of =
    let is : IsRenaming c.args.call.now = search rules in
    let v = g.V.View.seen c.args.view.now in
    let list : ℕ → List Hold = λ need. call_holds im o l t c.args.call.now c.args.stamp.now.node need in
    done_so c.attempt.result _ _
    (λ x change all. record { list = list all.0; is = list_of_move im o l t c.args.stamp.now.node c.args.call.now is all.0 all.1; held = all.2; under = all.3 })
    (under_so c.attempt.result (IsNeed im o l t c.args.call.now) (λ need. AreHeld v (list need)) (λ need change. IsUnder o (list need) change) (c.attempt.ensures.held im o l t of)
    (λ need needs. c.attempt.ensures.under im o l t need of needs))

pub returns-in-Rename-clause-lock : goal.returns-in-Rename-clause-lock
returns-in-Rename-clause-lock g c im o l t list of listed =
    let is : IsRenaming c.args.call.now = search rules in
    let needs = moving_list im o l t c.args.stamp.now.node c.args.call.now is list listed in
    subst (λ list. IfNeedLock c.attempt.result (IsFirstLack (g.V.View.seen c.args.view.now) list)) (sym needs.2) (c.attempt.ensures.lock im o l t needs.0 of needs.1)

pub returns-in-Rename-clause-block : goal.returns-in-Rename-clause-block
returns-in-Rename-clause-block g c im o l t list of listed =
    let is : IsRenaming c.args.call.now = search rules in
    let needs = moving_list im o l t c.args.stamp.now.node c.args.call.now is list listed in
    subst (λ list. IfNeedBlock c.attempt.result (IsAskedFor (g.V.View.seen c.args.view.now) im o l list)) (sym needs.2) (c.attempt.ensures.block im o l t needs.0 of needs.1)

pub returns-in-Rename-clause-space : goal.returns-in-Rename-clause-space
returns-in-Rename-clause-space g c im o l t of =
    let is : IsRenaming c.args.call.now = search rules in
    few_so c.attempt.result _ _ (moving_few (g.V.View.seen c.args.view.now) im o l t c.args.call.now is) (c.attempt.ensures.space im o l t of)

pub returns-in-Rename-clause-full : goal.returns-in-Rename-clause-full
returns-in-Rename-clause-full g c =
    let is : IsRenaming c.args.call.now = search rules in
    few_so c.attempt.result _ _ (moving_full (g.V.View.seen c.args.view.now) c.args.stamp.now.node c.args.call.now is) c.attempt.ensures.full

pub returns-in-Rename-clause-spaceless : goal.returns-in-Rename-clause-spaceless
returns-in-Rename-clause-spaceless g c = done_so c.attempt.result _ _ (λ x change has. space_so x has) c.attempt.ensures.spaceless

pub returns-in-Rename-clause-made : goal.returns-in-Rename-clause-made
returns-in-Rename-clause-made g c im o l t of =
    let is : IsRenaming c.args.call.now = search rules in
    done_so c.attempt.result _ (IsMadeIn im o l c.args.call.now c.args.stamp.now.node c.args.stamp.now.time)
    (λ x change moved ok. moving_made im o l c.args.stamp.now.node c.args.stamp.now.time change c.args.call.now is (moved ok)) (c.attempt.ensures.moved im o l t of)

pub returns-in-Rename-clause-on_device : goal.returns-in-Rename-clause-on_device
returns-in-Rename-clause-on_device g c im o l t of = mapped c.attempt.result _ _ (λ m covered. covered_low im o l of.stands.laid m.block m.lock covered) (c.attempt.ensures.covered im o l t of)

pub returns-in-Read-clause-first : goal.returns-in-Read-clause-first
returns-in-Read-clause-first g c im o l t of =
    let is : IsReading c.args.call.now = search rules in
    let v = g.V.View.seen c.args.view.now in
    let node = c.args.stamp.now.node in
    lock_so c.attempt-in-Read.result _ (λ lock state. IsSoOfList im o l t c.args.call.now node (λ list. IsFirstLack v list lock state))
    (λ lock state so. so_of_list im o l t node c.args.call.now (reads_move_none c.args.call.now is) (λ list. IsFirstLack v list lock state) _ (reading_list im o l t node c.args.call.now is).0 so) (c.attempt-in-Read.ensures.lock im o l t of)

pub returns-in-Read-clause-asked : goal.returns-in-Read-clause-asked
returns-in-Read-clause-asked g c im o l t of =
    let is : IsReading c.args.call.now = search rules in
    let v = g.V.View.seen c.args.view.now in
    let node = c.args.stamp.now.node in
    mapped c.attempt-in-Read.result _ (λ m. IsSoOfList im o l t c.args.call.now node (λ list. IsAskedFor v im o l list m))
    (λ m so. so_of_list im o l t node c.args.call.now (reads_move_none c.args.call.now is) (λ list. IsAskedFor v im o l list m) _ (reading_list im o l t node c.args.call.now is).0 so) (c.attempt-in-Read.ensures.block im o l t of)

pub returns-in-Create-clause-first : goal.returns-in-Create-clause-first
returns-in-Create-clause-first g c im o l t of =
    let is : IsMaking c.args.call.now = search rules in
    let v = g.V.View.seen c.args.view.now in
    let node = c.args.stamp.now.node in
    lock_so c.attempt-in-Create.result _ (λ lock state. IsSoOfList im o l t c.args.call.now node (λ list. IsFirstLack v list lock state))
    (λ lock state so. so_of_list im o l t node c.args.call.now (makings_move_none c.args.call.now is) (λ list. IsFirstLack v list lock state) _ (making_list im o l t node c.args.call.now is).0 so) (c.attempt-in-Create.ensures.lock im o l t of)

pub returns-in-Create-clause-asked : goal.returns-in-Create-clause-asked
returns-in-Create-clause-asked g c im o l t of =
    let is : IsMaking c.args.call.now = search rules in
    let v = g.V.View.seen c.args.view.now in
    let node = c.args.stamp.now.node in
    mapped c.attempt-in-Create.result _ (λ m. IsSoOfList im o l t c.args.call.now node (λ list. IsAskedFor v im o l list m))
    (λ m so. so_of_list im o l t node c.args.call.now (makings_move_none c.args.call.now is) (λ list. IsAskedFor v im o l list m) _ (making_list im o l t node c.args.call.now is).0 so) (c.attempt-in-Create.ensures.block im o l t of)

pub returns-in-Unlink-clause-first : goal.returns-in-Unlink-clause-first
returns-in-Unlink-clause-first g c im o l t of =
    let is : IsRemoving c.args.call.now = search rules in
    let v = g.V.View.seen c.args.view.now in
    let node = c.args.stamp.now.node in
    lock_so c.attempt-in-Unlink.result _ (λ lock state. IsSoOfList im o l t c.args.call.now node (λ list. IsFirstLack v list lock state))
    (λ lock state so. so_of_list im o l t node c.args.call.now (removals_move_none c.args.call.now is) (λ list. IsFirstLack v list lock state) _ (removing_list im o l t node c.args.call.now is).0 so) (c.attempt-in-Unlink.ensures.lock im o l t of)

pub returns-in-Unlink-clause-asked : goal.returns-in-Unlink-clause-asked
returns-in-Unlink-clause-asked g c im o l t of =
    let is : IsRemoving c.args.call.now = search rules in
    let v = g.V.View.seen c.args.view.now in
    let node = c.args.stamp.now.node in
    mapped c.attempt-in-Unlink.result _ (λ m. IsSoOfList im o l t c.args.call.now node (λ list. IsAskedFor v im o l list m))
    (λ m so. so_of_list im o l t node c.args.call.now (removals_move_none c.args.call.now is) (λ list. IsAskedFor v im o l list m) _ (removing_list im o l t node c.args.call.now is).0 so) (c.attempt-in-Unlink.ensures.block im o l t of)

pub returns-in-Write-clause-first : goal.returns-in-Write-clause-first
returns-in-Write-clause-first g c im o l t of =
    let is : IsWriting c.args.call.now = search rules in
    let v = g.V.View.seen c.args.view.now in
    let node = c.args.stamp.now.node in
    lock_so c.attempt-in-Write.result _ (λ lock state. IsSoOfList im o l t c.args.call.now node (λ list. IsFirstLack v list lock state))
    (λ lock state so. so_of_list im o l t node c.args.call.now (writes_move_none c.args.call.now is) (λ list. IsFirstLack v list lock state) _ (writing_list im o l t node c.args.call.now is).0 so) (c.attempt-in-Write.ensures.lock im o l t of)

pub returns-in-Write-clause-asked : goal.returns-in-Write-clause-asked
returns-in-Write-clause-asked g c im o l t of =
    let is : IsWriting c.args.call.now = search rules in
    let v = g.V.View.seen c.args.view.now in
    let node = c.args.stamp.now.node in
    mapped c.attempt-in-Write.result _ (λ m. IsSoOfList im o l t c.args.call.now node (λ list. IsAskedFor v im o l list m))
    (λ m so. so_of_list im o l t node c.args.call.now (writes_move_none c.args.call.now is) (λ list. IsAskedFor v im o l list m) _ (writing_list im o l t node c.args.call.now is).0 so) (c.attempt-in-Write.ensures.block im o l t of)

pub returns-in-Rename-clause-first : goal.returns-in-Rename-clause-first
returns-in-Rename-clause-first g c im o l t of =
    let is : IsRenaming c.args.call.now = search rules in
    let v = g.V.View.seen c.args.view.now in
    lock_so c.attempt.result _ _ (λ lock state so. moving_so im o l t c.args.stamp.now.node c.args.call.now is (λ list. IsFirstLack v list lock state) so) (c.attempt.ensures.first im o l t of)

pub returns-in-Rename-clause-asked : goal.returns-in-Rename-clause-asked
returns-in-Rename-clause-asked g c im o l t of =
    let is : IsRenaming c.args.call.now = search rules in
    let v = g.V.View.seen c.args.view.now in
    mapped c.attempt.result _ _ (λ m so. moving_so im o l t c.args.stamp.now.node c.args.call.now is (λ list. IsAskedFor v im o l list m) so) (c.attempt.ensures.asked im o l t of)
