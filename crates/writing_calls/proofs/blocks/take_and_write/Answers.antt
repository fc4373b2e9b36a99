use Rattle.std.proofs.Common.{◌+◌, ℕ, false, true≢false, length, List, None, Some, sym, ap, ◌∙◌, subst}
use Rattle.std.specs.Prelude.{Contains, IfSome, IsSome}
use Rattle.glock_names.specs.Steps.{TellsOf}
use Rattle.glock_names.specs.declared.steps.Step.TheVariants.{Is}
use Rattle.glock_names.proofs.StepLaws.{answer_at, needed_at}
use Rattle.call_locks.specs.WantLaws.{path_of}
use Rattle.growth_drafts.specs.Taken.{IsLookedAt}
use Rattle.file_changes.specs.Drafting.{IsNeededAt, IsWriteDraft, IsWrongAt}
use Rattle.file_changes.specs.Making as making
use Rattle.path_walks.proofs.Faults.{told_on, tells_so}
use Rattle.room_search.specs.Searches.{IsFoundIn, IsGroupBroken, IsTold}
use Rattle.room_search.specs.declared.search.Locked.TheVariants as locked
use Rattle.writing_calls.specs.Writing.{IsChangeOf, IsDamage, IsLackedFor, IsNeededFor}
use Rattle.writing_calls.proofs.Doing.{puts_edit}
use Rattle.writing_calls.proofs.Images as images
use Rattle.writing_calls.proofs.Rooms.{all_held, first_lack, first_lacks, is_room, puts_short, puts_there, room_of, search_asked, short_of, too_few, write_asked, written_does, written_under}
use Rattle.writing_calls.proofs.blocks.take_and_write.Goals as goal

pub returns-in_err-room-clause-damaged : goal.returns-in_err-room-clause-damaged
returns-in_err-room-clause-damaged g c =
    let v = g.V.View.seen c.args.view.now in
    told_on (IsDamage v c.args.call.now) _ _ c.from_residual.ensures.1
    (tells_so (IsGroupBroken v) (IsDamage v c.args.call.now) (λ rule b broken. IsDamage.in_group c.args.place.now.inode c.args.at c.args.new.now c.args.need rule b (images.to_change v c.args.call.now c.args.place.now (puts_edit c.args.call.now c.args.place.now.dinode.size c.args.at c.args.new.now c.requires.puts) c.requires.seen c.requires.file (puts_short c.args.call.now c.args.place.now.dinode.size c.args.at c.args.new.now c.requires.puts c.requires.short) c.requires.inside) (puts_there v c.args.call.now c.args.place.now c.requires.seen c.args.at c.args.new.now c.requires.puts) c.requires.need broken) c.in_err-room.field-0.0 c.in_err-room.ensures.damaged)

pub returns-in-Is-TooFew-clause-found : goal.returns-in-Is-TooFew-clause-found
returns-in-Is-TooFew-clause-found g c im o l t of =
    let v = g.V.View.seen c.args.view.now in
    too_few c.writes_make_files.ensures c.files_are_inodes.ensures.files v c.args.call.now c.args.place.now (puts_edit c.args.call.now c.args.place.now.dinode.size c.args.at c.args.new.now c.requires.puts) c.requires.seen c.requires.file (puts_short c.args.call.now c.args.place.now.dinode.size c.args.at c.args.new.now c.requires.puts c.requires.short) c.args.at c.args.new.now c.requires.puts c.requires.short c.args.need c.requires.need c.args.stamp.now.node im o l t of (c.requires.walked im o l t of) c.in-Is-TooFew.free
    (subst (IsFoundIn v im o l c.args.stamp.now.node c.args.need) (c.in-Is-TooFew.is ∙ ap locked.Is c.in-Is-TooFew.field-0-is) (c.in_ok-room.ensures.image im o l t of)).1

pub returns-in-Is-TooFew-clause-told : goal.returns-in-Is-TooFew-clause-told
returns-in-Is-TooFew-clause-told g c =
    let v = g.V.View.seen c.args.view.now in
    let few = short_of v c.args.stamp.now.node c.args.need c.is_a_view.ensures c.in_ok-room.ensures.own c.in_ok-room.field-0 c.in_ok-room.ensures.found c.in-Is-TooFew.free (c.in-Is-TooFew.is ∙ ap locked.Is c.in-Is-TooFew.field-0-is) in
    record {
      edits = (puts_edit c.args.call.now c.args.place.now.dinode.size c.args.at c.args.new.now c.requires.puts);
      inode = c.args.place.now.inode;
      changes = (images.to_change v c.args.call.now c.args.place.now (puts_edit c.args.call.now c.args.place.now.dinode.size c.args.at c.args.new.now c.requires.puts) c.requires.seen c.requires.file (puts_short c.args.call.now c.args.place.now.dinode.size c.args.at c.args.new.now c.requires.puts c.requires.short) c.requires.inside);
      place = c.args.at;
      new = c.args.new.now;
      puts = (puts_there v c.args.call.now c.args.place.now c.requires.seen c.args.at c.args.new.now c.requires.puts);
      needs = c.requires.need;
      held = few.held;
      free_are = few.free_are;
      fewer = few.fewer;
    }

pub returns-in-NeedLock-clause-found : goal.returns-in-NeedLock-clause-found
returns-in-NeedLock-clause-found g c im o l t of =
    let v = g.V.View.seen c.args.view.now in
    first_lack c.writes_make_files.ensures c.files_are_inodes.ensures.files v c.args.call.now c.args.place.now (puts_edit c.args.call.now c.args.place.now.dinode.size c.args.at c.args.new.now c.requires.puts) c.requires.seen c.requires.file (puts_short c.args.call.now c.args.place.now.dinode.size c.args.at c.args.new.now c.requires.puts c.requires.short) c.args.at c.args.new.now c.requires.puts c.requires.short c.args.need c.requires.need c.args.stamp.now.node im o l t of (c.requires.walked im o l t of) c.in-NeedLock.lock c.in-NeedLock.state
    (subst (IsFoundIn v im o l c.args.stamp.now.node c.args.need) c.in-NeedLock.is (c.in_ok-room.ensures.image im o l t of))

pub returns-in-NeedLock-clause-told : goal.returns-in-NeedLock-clause-told
returns-in-NeedLock-clause-told g c =
    let v = g.V.View.seen c.args.view.now in
    let own = c.in_ok-room.ensures.own in
    IsLackedFor.of_room c.args.place.now.inode c.args.at c.args.new.now c.args.need own.0 (images.to_change v c.args.call.now c.args.place.now (puts_edit c.args.call.now c.args.place.now.dinode.size c.args.at c.args.new.now c.requires.puts) c.requires.seen c.requires.file (puts_short c.args.call.now c.args.place.now.dinode.size c.args.at c.args.new.now c.requires.puts c.requires.short) c.requires.inside) (puts_there v c.args.call.now c.args.place.now c.requires.seen c.args.at c.args.new.now c.requires.puts) c.requires.need own.1 (subst (IsTold v c.args.need) c.in-NeedLock.is c.in_ok-room.ensures.told)
    (first_lacks v c.args.stamp.now.node c.args.need c.is_a_view.ensures c.in_ok-room.ensures.own c.in_ok-room.field-0 c.in_ok-room.ensures.found c.in-NeedLock.lock c.in-NeedLock.state c.in-NeedLock.is)

pub returns-in-NeedBlock-clause-found : goal.returns-in-NeedBlock-clause-found
returns-in-NeedBlock-clause-found g c im o l t of =
    let v = g.V.View.seen c.args.view.now in
    search_asked c.writes_make_files.ensures c.files_are_inodes.ensures.files v c.args.call.now c.args.place.now (puts_edit c.args.call.now c.args.place.now.dinode.size c.args.at c.args.new.now c.requires.puts) c.requires.seen c.requires.file (puts_short c.args.call.now c.args.place.now.dinode.size c.args.at c.args.new.now c.requires.puts c.requires.short) c.args.at c.args.new.now c.requires.puts c.requires.short c.args.need c.requires.need c.args.stamp.now.node im o l t of (c.requires.walked im o l t of) c.in-NeedBlock.missing
    (subst (IsFoundIn v im o l c.args.stamp.now.node c.args.need) c.in-NeedBlock.is (c.in_ok-room.ensures.image im o l t of))

pub returns-in-NeedBlock-clause-told : goal.returns-in-NeedBlock-clause-told
returns-in-NeedBlock-clause-told g c =
    let v = g.V.View.seen c.args.view.now in
    IsNeededFor.of_room c.args.place.now.inode c.args.at c.args.new.now c.args.need (images.to_change v c.args.call.now c.args.place.now (puts_edit c.args.call.now c.args.place.now.dinode.size c.args.at c.args.new.now c.requires.puts) c.requires.seen c.requires.file (puts_short c.args.call.now c.args.place.now.dinode.size c.args.at c.args.new.now c.requires.puts c.requires.short) c.requires.inside) (puts_there v c.args.call.now c.args.place.now c.requires.seen c.args.at c.args.new.now c.requires.puts) c.requires.need (subst (IsTold v c.args.need) c.in-NeedBlock.is c.in_ok-room.ensures.told)

pub write_file-requires-clause-room : goal.write_file-requires-clause-room
write_file-requires-clause-room g c b has =
    let v = g.V.View.seen c.args.view.now in
    let told = subst (IsTold v c.args.need) (c.in-Is-Is.is ∙ ap locked.Is c.in-Is-Is.field-0-is) c.in_ok-room.ensures.told in
    let h = told.each b (subst (λ (xs : List ℕ). Contains xs b) c.deref.ensures.value has) in
    (h.group, h.has, h.data_block)

pub returns-in_err-change-clause-sound : goal.returns-in_err-change-clause-sound
returns-in_err-change-clause-sound g c im o l t of =
    let v = g.V.View.seen c.args.view.now in
    told_on (λ rule b. ⊥) _ _ c.from_residual-in_err-change.ensures.1
    (tells_so (IsWrongAt v c.args.place.now.inode c.in-Is-Is.room.items) (λ rule b. ⊥) (images.none_wrong v c.args.call.now c.args.place.now (puts_edit c.args.call.now c.args.place.now.dinode.size c.args.at c.args.new.now c.requires.puts) c.requires.seen c.requires.file (puts_short c.args.call.now c.args.place.now.dinode.size c.args.at c.args.new.now c.requires.puts c.requires.short) im o l t of (c.requires.walked im o l t of) c.in-Is-Is.room.items) c.in_err-change.field-0.0
    (subst (λ (xs : List ℕ). TellsOf (IsWrongAt v c.args.place.now.inode xs) c.in_err-change.field-0.0) c.deref.ensures.value c.in_err-change.ensures.damaged))

pub returns-in_err-change-clause-damaged : goal.returns-in_err-change-clause-damaged
returns-in_err-change-clause-damaged g c =
    let v = g.V.View.seen c.args.view.now in
    told_on (IsDamage v c.args.call.now) _ _ c.from_residual-in_err-change.ensures.1
    (tells_so (IsWrongAt v c.args.place.now.inode c.in-Is-Is.room.items) (IsDamage v c.args.call.now)
    (λ rule b wrong. IsDamage.of_taken c.args.stamp.now.node c.args.place.now.inode c.args.at c.args.new.now c.args.need c.in-Is-Is.room.items rule b (images.to_change v c.args.call.now c.args.place.now (puts_edit c.args.call.now c.args.place.now.dinode.size c.args.at c.args.new.now c.requires.puts) c.requires.seen c.requires.file (puts_short c.args.call.now c.args.place.now.dinode.size c.args.at c.args.new.now c.requires.puts c.requires.short) c.requires.inside) (puts_there v c.args.call.now c.args.place.now c.requires.seen c.args.at c.args.new.now c.requires.puts) c.requires.need (room_of v c.args.stamp.now.node c.args.need c.is_a_view.ensures c.in_ok-room.ensures.own c.in_ok-room.field-0 c.in_ok-room.ensures.found c.in-Is-Is.room (c.in-Is-Is.is ∙ ap locked.Is c.in-Is-Is.field-0-is)) wrong) c.in_err-change.field-0.0
    (subst (λ (xs : List ℕ). TellsOf (IsWrongAt v c.args.place.now.inode xs) c.in_err-change.field-0.0) c.deref.ensures.value c.in_err-change.ensures.damaged))

pub returns-in-Is-Some-clause-found : goal.returns-in-Is-Some-clause-found
returns-in-Is-Some-clause-found g c im o l t of =
    let v = g.V.View.seen c.args.view.now in
    let f = (subst (IsFoundIn v im o l c.args.stamp.now.node c.args.need) (c.in-Is-Is.is ∙ ap locked.Is c.in-Is-Is.field-0-is) (c.in_ok-room.ensures.image im o l t of)) in
    let w = (subst (λ (xs : List ℕ). IsWriteDraft v c.args.place.now.inode c.args.at c.args.new.now c.args.stamp.now.time xs c.in-Is-Some.change) c.deref.ensures.value
    (answer_at _ (Some c.in-Is-Some.change) (λ done. IfSome done (IsWriteDraft v c.args.place.now.inode c.args.at c.args.new.now c.args.stamp.now.time c.deref.result.now)) (c.in-Is-Some.is ∙ ap Is c.in-Is-Some.field-0-is) c.in_ok-change.ensures.written)) in
    (images.ok v c.args.call.now c.args.place.now (puts_edit c.args.call.now c.args.place.now.dinode.size c.args.at c.args.new.now c.requires.puts) c.requires.seen c.requires.file (puts_short c.args.call.now c.args.place.now.dinode.size c.args.at c.args.new.now c.requires.puts c.requires.short) im o l t of (c.requires.walked im o l t of), all_held c.writes_make_files.ensures c.files_are_inodes.ensures.files v c.args.call.now c.args.place.now (puts_edit c.args.call.now c.args.place.now.dinode.size c.args.at c.args.new.now c.requires.puts) c.requires.seen c.requires.file (puts_short c.args.call.now c.args.place.now.dinode.size c.args.at c.args.new.now c.requires.puts c.requires.short) c.args.at c.args.new.now c.requires.puts c.requires.short c.args.need c.requires.need c.args.stamp.now.node im o l t of (c.requires.walked im o l t of) c.in-Is-Is.room.items f.0 f.1, written_under c.writes_make_files.ensures c.files_are_inodes.ensures.files v c.args.call.now c.args.place.now (puts_edit c.args.call.now c.args.place.now.dinode.size c.args.at c.args.new.now c.requires.puts) c.requires.seen c.requires.file (puts_short c.args.call.now c.args.place.now.dinode.size c.args.at c.args.new.now c.requires.puts c.requires.short) c.args.at c.args.new.now c.requires.puts c.requires.short c.args.need c.requires.need c.args.stamp.now.node im o l t of (c.requires.walked im o l t of) c.in-Is-Is.room.items f.0 f.1 c.is_a_view.ensures c.args.stamp.now.time c.in-Is-Some.change w)

pub returns-in-Is-Some-clause-done : goal.returns-in-Is-Some-clause-done
returns-in-Is-Some-clause-done g c =
    let v = g.V.View.seen c.args.view.now in
    let w = (subst (λ (xs : List ℕ). IsWriteDraft v c.args.place.now.inode c.args.at c.args.new.now c.args.stamp.now.time xs c.in-Is-Some.change) c.deref.ensures.value
    (answer_at _ (Some c.in-Is-Some.change) (λ done. IfSome done (IsWriteDraft v c.args.place.now.inode c.args.at c.args.new.now c.args.stamp.now.time c.deref.result.now)) (c.in-Is-Some.is ∙ ap Is c.in-Is-Some.field-0-is) c.in_ok-change.ensures.written)) in
    written_does c.writes_make_files.ensures c.files_are_inodes.ensures.files v c.args.call.now c.args.place.now (puts_edit c.args.call.now c.args.place.now.dinode.size c.args.at c.args.new.now c.requires.puts) c.requires.seen c.requires.file (puts_short c.args.call.now c.args.place.now.dinode.size c.args.at c.args.new.now c.requires.puts c.requires.short) c.args.at c.args.new.now c.requires.puts c.requires.short c.args.need c.requires.need c.args.stamp.now.node c.in-Is-Is.room.items (subst (IsTold v c.args.need) (c.in-Is-Is.is ∙ ap locked.Is c.in-Is-Is.field-0-is) c.in_ok-room.ensures.told) c.args.stamp.now.time c.in-Is-Some.change w c.is_a_view.ensures
    (λ im o l t of. let f = (subst (IsFoundIn v im o l c.args.stamp.now.node c.args.need) (c.in-Is-Is.is ∙ ap locked.Is c.in-Is-Is.field-0-is) (c.in_ok-room.ensures.image im o l t of)) in record { walked = c.requires.walked im o l t of; held = f.0; room_is = f.1 })

pub returns-in-Is-Some-clause-told : goal.returns-in-Is-Some-clause-told
returns-in-Is-Some-clause-told g c =
    let v = g.V.View.seen c.args.view.now in (
      c.args.place.now.inode,
      (images.to_change v c.args.call.now c.args.place.now (puts_edit c.args.call.now c.args.place.now.dinode.size c.args.at c.args.new.now c.requires.puts) c.requires.seen c.requires.file (puts_short c.args.call.now c.args.place.now.dinode.size c.args.at c.args.new.now c.requires.puts c.requires.short) c.requires.inside),
      IsChangeOf.in_blocks c.args.at c.args.new.now c.args.need c.in-Is-Is.room.items c.requires.blocks (puts_there v c.args.call.now c.args.place.now c.requires.seen c.args.at c.args.new.now c.requires.puts) c.requires.need (room_of v c.args.stamp.now.node c.args.need c.is_a_view.ensures c.in_ok-room.ensures.own c.in_ok-room.field-0 c.in_ok-room.ensures.found c.in-Is-Is.room (c.in-Is-Is.is ∙ ap locked.Is c.in-Is-Is.field-0-is)) (subst (λ (xs : List ℕ). IsWriteDraft v c.args.place.now.inode c.args.at c.args.new.now c.args.stamp.now.time xs c.in-Is-Some.change) c.deref.ensures.value
          (answer_at _ (Some c.in-Is-Some.change) (λ done. IfSome done (IsWriteDraft v c.args.place.now.inode c.args.at c.args.new.now c.args.stamp.now.time c.deref.result.now)) (c.in-Is-Some.is ∙ ap Is c.in-Is-Some.field-0-is) c.in_ok-change.ensures.written)),
    )

pub returns-in-Is-None-clause-found : goal.returns-in-Is-None-clause-found
returns-in-Is-None-clause-found g c im o l t of =
    let v = g.V.View.seen c.args.view.now in
    let f = (subst (IsFoundIn v im o l c.args.stamp.now.node c.args.need) (c.in-Is-Is.is ∙ ap locked.Is c.in-Is-Is.field-0-is) (c.in_ok-room.ensures.image im o l t of)) in
    let room = is_room c.writes_make_files.ensures c.files_are_inodes.ensures.files v c.args.call.now c.args.place.now (puts_edit c.args.call.now c.args.place.now.dinode.size c.args.at c.args.new.now c.requires.puts) c.requires.seen c.requires.file (puts_short c.args.call.now c.args.place.now.dinode.size c.args.at c.args.new.now c.requires.puts c.requires.short) c.args.at c.args.new.now c.requires.puts c.requires.short c.args.need c.requires.need c.args.stamp.now.node im o l t of (c.requires.walked im o l t of) c.in-Is-Is.room.items f.0 f.1 in
    let some = c.in_ok-change.ensures.done im o l t (path_of c.args.call.now false) of (c.requires.walked im o l t of).0.at (subst (λ (xs : List ℕ). making.IsRoomIn im o l c.args.place.now.inode c.args.at (length c.args.new.now) xs) (sym c.deref.ensures.value) room) in
    true≢false (sym (answer_at _ None IsSome (c.in-Is-None.is ∙ ap Is c.in-Is-None.field-0-is) some))

pub returns-in-Is-None-clause-told : goal.returns-in-Is-None-clause-told
returns-in-Is-None-clause-told g c =
    let v = g.V.View.seen c.args.view.now in
    (c.args.place.now.inode, (images.to_change v c.args.call.now c.args.place.now (puts_edit c.args.call.now c.args.place.now.dinode.size c.args.at c.args.new.now c.requires.puts) c.requires.seen c.requires.file (puts_short c.args.call.now c.args.place.now.dinode.size c.args.at c.args.new.now c.requires.puts c.requires.short) c.requires.inside))

pub returns-clause-found : goal.returns-clause-found
returns-clause-found g c im o l t of =
    let v = g.V.View.seen c.args.view.now in
    let f = (subst (IsFoundIn v im o l c.args.stamp.now.node c.args.need) (c.in-Is-Is.is ∙ ap locked.Is c.in-Is-Is.field-0-is) (c.in_ok-room.ensures.image im o l t of)) in
    write_asked c.writes_make_files.ensures c.files_are_inodes.ensures.files v c.args.call.now c.args.place.now (puts_edit c.args.call.now c.args.place.now.dinode.size c.args.at c.args.new.now c.requires.puts) c.requires.seen c.requires.file (puts_short c.args.call.now c.args.place.now.dinode.size c.args.at c.args.new.now c.requires.puts c.requires.short) c.args.at c.args.new.now c.requires.puts c.requires.short c.args.need c.requires.need c.args.stamp.now.node im o l t of (c.requires.walked im o l t of) c.in-Is-Is.room.items f.0 f.1 c.in-NeedBlock-2.missing
    (subst (λ (xs : List ℕ). IsNeededAt v c.args.place.now.inode (λ h. IsLookedAt h c.args.at (c.args.at + length c.args.new.now)) xs c.in-NeedBlock-2.missing) c.deref.ensures.value
    (needed_at _ _ (IsNeededAt v c.args.place.now.inode (λ h. IsLookedAt h c.args.at (c.args.at + length c.args.new.now)) c.deref.result.now) c.in-NeedBlock-2.is c.in_ok-change.ensures.needed))

pub returns-clause-told : goal.returns-clause-told
returns-clause-told g c =
    let v = g.V.View.seen c.args.view.now in
    IsNeededFor.of_taken c.args.stamp.now.node c.args.place.now.inode c.args.at c.args.new.now c.args.need c.in-Is-Is.room.items (images.to_change v c.args.call.now c.args.place.now (puts_edit c.args.call.now c.args.place.now.dinode.size c.args.at c.args.new.now c.requires.puts) c.requires.seen c.requires.file (puts_short c.args.call.now c.args.place.now.dinode.size c.args.at c.args.new.now c.requires.puts c.requires.short) c.requires.inside) (puts_there v c.args.call.now c.args.place.now c.requires.seen c.args.at c.args.new.now c.requires.puts) c.requires.need (room_of v c.args.stamp.now.node c.args.need c.is_a_view.ensures c.in_ok-room.ensures.own c.in_ok-room.field-0 c.in_ok-room.ensures.found c.in-Is-Is.room (c.in-Is-Is.is ∙ ap locked.Is c.in-Is-Is.field-0-is))
    (subst (λ (xs : List ℕ). IsNeededAt v c.args.place.now.inode (λ h. IsLookedAt h c.args.at (c.args.at + length c.args.new.now)) xs c.in-NeedBlock-2.missing) c.deref.ensures.value
    (needed_at _ _ (IsNeededAt v c.args.place.now.inode (λ h. IsLookedAt h c.args.at (c.args.at + length c.args.new.now)) c.deref.result.now) c.in-NeedBlock-2.is c.in_ok-change.ensures.needed))
