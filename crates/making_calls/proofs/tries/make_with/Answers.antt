use Rattle.std.proofs.Common.{◌+◌, ℕ, true≢false, List, ◌∷◌, None, Some, refl, sym, ap, ◌∙◌, subst, subst₂}
use Rattle.std.specs.Prelude.{Contains, IfSome, IsSome}
use Rattle.glock_names.specs.Steps.{TellsOf}
use Rattle.glock_names.specs.declared.steps.Step.TheVariants.{Is}
use Rattle.glock_names.proofs.StepLaws.{answer_at, needed_at}
use Rattle.gfs2_layout.specs.Holding.{Holding}
use Rattle.glock_names.specs.Views.{HasBlock}
use Rattle.name_drafts.specs.DirectoryShown.{IsShown}
use Rattle.name_drafts.proofs.Forms.{some_directory}
use Rattle.hash_dirs.proofs.Leaves.{found_at}
use Rattle.image_model.specs.Owners.{holding}
use Rattle.name_drafts.proofs.Images.{shown_inode}
use Rattle.growth_drafts.specs.Taken.{IsDistinct}
use Rattle.resource_groups.specs.Shown.{said}
use Rattle.name_drafts.proofs.WalkFaults.{told_on, tells_each, tells_so}
use Rattle.room_search.specs.Searches.{IsGroupBroken, IsUnder}
use Rattle.room_search.specs.declared.search.Locked.TheVariants as locked
use Rattle.room_search.proofs.InImage.{group_sound}
use Rattle.room_search.proofs.Shown.{bytes_shown}
use Rattle.name_drafts.specs.Inserting.{CanGetName, IsNeededForName, IsWrongForName}
use Rattle.name_drafts.specs.Way.{IsOnWay, IsRightWay, its_dinode}
use Rattle.name_drafts.specs.Drafting.{IsAddition, IsNeededIn, IsPlaceFor, IsWrongIn}
use Rattle.making_calls.specs.Blocks.{block_holds}
use Rattle.making_calls.specs.Making.{IsDamage, IsLackedFor, IsNeededFor, directory_path, makes_directory}
use Rattle.making_calls.specs.Making as damage
use Rattle.making_calls.specs.Searches.{IsTaken, blocks_of}
use Rattle.making_calls.specs.declared.blocks.NewRoom.TheVariants as taken
use Rattle.making_calls.proofs.At.{addition_damage, addition_needs, free_damage, insert_needs, name_damage, needs_blocks, none_at, own_name, to_get}
use Rattle.making_calls.proofs.Rooms.{IsSearched, all_locks, block_way, few_way, later_one, own_of, room_held}
use Rattle.making_calls.proofs.Taking.{addition_does, addition_lacks, addition_sound, all_held, block_lacks, insert_lacks, lock_lacks, made, name_sound, placed, stamped, too_few, under, way_apart}
use Rattle.making_calls.proofs.tries.make_with.Goals as goal

pub returns-in_err-room-clause-sound : goal.returns-in_err-room-clause-sound
returns-in_err-room-clause-sound g c im o l t of =
    let v = g.V.View.seen c.args.view.now in
    told_on (λ rule b. ⊥) _ _ c.from_residual.ensures.1 (tells_so (IsGroupBroken v) (λ rule b. ⊥) (group_sound v im o l t of) c.in_err-room.field-0.0 c.in_err-room.ensures.damaged)

pub returns-in_err-room-clause-damaged : goal.returns-in_err-room-clause-damaged
returns-in_err-room-clause-damaged g c =
    let v = g.V.View.seen c.args.view.now in
    told_on (IsDamage v c.args.call.now) _ _ c.from_residual.ensures.1
    (tells_so (IsGroupBroken v) (IsDamage v c.args.call.now) (λ rule b broken. damage.in_group rule b (to_get c.args.call.now c.args.name.now c.requires.last v c.args.place.now c.requires.seen c.requires.lacks) broken) c.in_err-room.field-0.0 c.in_err-room.ensures.damaged)

pub returns-in-Is-TooFew-clause-found : goal.returns-in-Is-TooFew-clause-found
returns-in-Is-TooFew-clause-found g c im o l t of =
    let v = g.V.View.seen c.args.view.now in
    (too_few v c.args.call.now c.requires.making c.args.place.now c.args.name.now c.requires.last c.requires.named c.requires.lacks im o l t of (c.requires.reached im o l t of) c.args.more c.requires.takes c.args.stamp.now.node c.requires.groups c.requires.node c.requires.seen.leads c.in-Is-TooFew.free (λ at own shown is. subst (IsUnder v (block_holds (said at) v.groups own (c.args.more + 1)) (IsTaken v (said at) own (c.args.more + 1))) (c.in-Is-TooFew.is ∙ ap locked.Is c.in-Is-TooFew.field-0-is) (c.in_ok-room.ensures.found at own shown is)))

pub returns-in-Is-TooFew-clause-told : goal.returns-in-Is-TooFew-clause-told
returns-in-Is-TooFew-clause-told g c =
    let v = g.V.View.seen c.args.view.now in
    let own = own_of v c.args.stamp.now.node c.requires.groups c.requires.node in
    let searched : IsSearched v c.args.stamp.now.node (c.args.more + 1) (locked.Is (taken.TooFew c.in-Is-TooFew.free)) = (λ at own shown is. subst (IsUnder v (block_holds (said at) v.groups own (c.args.more + 1)) (IsTaken v (said at) own (c.args.more + 1))) (c.in-Is-TooFew.is ∙ ap locked.Is c.in-Is-TooFew.field-0-is) (c.in_ok-room.ensures.found at own shown is)) in
    record {
      needs = needs_blocks c.args.call.now c.args.name.now c.requires.last v c.args.place.now c.requires.seen c.requires.lacks c.args.more c.requires.takes;
      held = all_locks v c.args.stamp.now.node (c.args.more + 1) c.is_a_view.ensures c.requires.groups c.requires.node c.in-Is-TooFew.free searched;
      free_are = λ at shown. (searched at own.0 shown own.1).1.free_are;
      fewer = few_way v c.args.stamp.now.node (c.args.more + 1) c.is_a_view.ensures c.requires.groups c.requires.node c.in-Is-TooFew.free searched;
    }

pub returns-in-NeedLock-clause-found : goal.returns-in-NeedLock-clause-found
returns-in-NeedLock-clause-found g c im o l t of =
    let v = g.V.View.seen c.args.view.now in
    lock_lacks v c.args.call.now c.requires.making c.args.place.now c.args.name.now c.requires.last c.requires.named c.requires.lacks im o l t of (c.requires.reached im o l t of) c.args.more c.requires.takes c.args.stamp.now.node c.requires.groups c.requires.node c.in-NeedLock.lock c.in-NeedLock.state (λ at own shown is. subst (IsUnder v (block_holds (said at) v.groups own (c.args.more + 1)) (IsTaken v (said at) own (c.args.more + 1))) (c.in-NeedLock.is) (c.in_ok-room.ensures.found at own shown is))

pub returns-in-NeedLock-clause-told : goal.returns-in-NeedLock-clause-told
returns-in-NeedLock-clause-told g c =
    let v = g.V.View.seen c.args.view.now in
    let own = own_of v c.args.stamp.now.node c.requires.groups c.requires.node in
    let seen = bytes_shown v c.is_a_view.ensures in
    let searched : IsSearched v c.args.stamp.now.node (c.args.more + 1) (locked.NeedLock c.in-NeedLock.lock c.in-NeedLock.state) = (λ at own shown is. subst (IsUnder v (block_holds (said at) v.groups own (c.args.more + 1)) (IsTaken v (said at) own (c.args.more + 1))) (c.in-NeedLock.is) (c.in_ok-room.ensures.found at own shown is)) in
    IsLackedFor.of_block own.0 (c.args.more + 1) (needs_blocks c.args.call.now c.args.name.now c.requires.last v c.args.place.now c.requires.seen c.requires.lacks c.args.more c.requires.takes) own.1 (searched seen.0 own.0 (λ k has. seen.1 k) own.1).lacks (λ at shown. searched at own.0 shown own.1)

pub returns-in-NeedBlock-clause-found : goal.returns-in-NeedBlock-clause-found
returns-in-NeedBlock-clause-found g c im o l t of =
    let v = g.V.View.seen c.args.view.now in
    block_lacks v c.args.call.now c.requires.making c.args.place.now c.args.name.now c.requires.last c.requires.named c.requires.lacks im o l t of (c.requires.reached im o l t of) c.args.more c.requires.takes c.args.stamp.now.node c.requires.groups c.requires.node c.in-NeedBlock.missing (λ at own shown is. subst (IsUnder v (block_holds (said at) v.groups own (c.args.more + 1)) (IsTaken v (said at) own (c.args.more + 1))) (c.in-NeedBlock.is) (c.in_ok-room.ensures.found at own shown is))

pub returns-in-NeedBlock-clause-told : goal.returns-in-NeedBlock-clause-told
returns-in-NeedBlock-clause-told g c =
    let v = g.V.View.seen c.args.view.now in
    IsNeededFor.of_group (to_get c.args.call.now c.args.name.now c.requires.last v c.args.place.now c.requires.seen c.requires.lacks)
    (block_way v c.args.stamp.now.node (c.args.more + 1) c.is_a_view.ensures c.requires.groups c.requires.node c.in-NeedBlock.missing (λ at own shown is. subst (IsUnder v (block_holds (said at) v.groups own (c.args.more + 1)) (IsTaken v (said at) own (c.args.more + 1))) (c.in-NeedBlock.is) (c.in_ok-room.ensures.found at own shown is)))

pub returns-in_err-on_way-clause-sound : goal.returns-in_err-on_way-clause-sound
returns-in_err-on_way-clause-sound g c im o l t of =
    let v = g.V.View.seen c.args.view.now in
    told_on (λ rule b. ⊥) _ _ c.from_residual-in_err-on_way.ensures.1
    (tells_so (λ rule b. (h : Holding) → IsShown v c.args.place.now.inode h → IsWrongForName v h rule b) (λ rule b. ⊥)
    (name_sound v c.args.call.now c.requires.making c.args.place.now c.args.name.now c.requires.last c.requires.named c.requires.lacks im o l t of (c.requires.reached im o l t of)) c.in_err-on_way.field-0.0 (tells_each (IsShown v c.args.place.now.inode) (IsWrongForName v) c.in_err-on_way.field-0.0 c.in_err-on_way.ensures.damaged))

pub returns-in_err-on_way-clause-damaged : goal.returns-in_err-on_way-clause-damaged
returns-in_err-on_way-clause-damaged g c =
    let v = g.V.View.seen c.args.view.now in
    told_on (IsDamage v c.args.call.now) _ _ c.from_residual-in_err-on_way.ensures.1
    (tells_so (λ rule b. (h : Holding) → IsShown v c.args.place.now.inode h → IsWrongForName v h rule b) (IsDamage v c.args.call.now)
    (name_damage c.args.call.now c.args.name.now c.requires.last v c.args.place.now c.requires.seen c.requires.lacks) c.in_err-on_way.field-0.0 (tells_each (IsShown v c.args.place.now.inode) (IsWrongForName v) c.in_err-on_way.field-0.0 c.in_err-on_way.ensures.damaged))

pub returns-in-NeedBlock-2-clause-found : goal.returns-in-NeedBlock-2-clause-found
returns-in-NeedBlock-2-clause-found g c im o l t of =
    let v = g.V.View.seen c.args.view.now in
    insert_lacks v c.args.call.now c.requires.making c.args.place.now c.args.name.now c.requires.last c.requires.named c.requires.lacks im o l t of (c.requires.reached im o l t of) c.args.stamp.now.node c.in-NeedBlock-2.missing
    (λ h shown. needed_at _ _ (IsNeededForName v h c.args.name.now) c.in-NeedBlock-2.is (c.in_ok-on_way.ensures.needed h shown))

pub returns-in-NeedBlock-2-clause-told : goal.returns-in-NeedBlock-2-clause-told
returns-in-NeedBlock-2-clause-told g c =
    let v = g.V.View.seen c.args.view.now in
    insert_needs c.args.call.now c.args.name.now c.requires.last v c.args.place.now c.requires.seen c.requires.lacks c.in-NeedBlock-2.missing (needed_at _ _ _ c.in-NeedBlock-2.is c.in_ok-on_way.ensures.absent)
    (λ h shown. needed_at _ _ (IsNeededForName v h c.args.name.now) c.in-NeedBlock-2.is (c.in_ok-on_way.ensures.needed h shown))

pub returns-in-Some-clause-sound : goal.returns-in-Some-clause-sound
returns-in-Some-clause-sound g c im o l t of =
    let v = g.V.View.seen c.args.view.now in
    let name = c.args.name.now in
    let reached = c.requires.reached im o l t of in
    let h = holding im o c.args.place.now.inode in
    let found = found_at c.in_ok-on_way.field-0 c.in-Is.on_way c.in-Some.block (λ b. Contains (blocks_of c.in-Is-Is.room) b × IsOnWay h name b) c.in-Is.is c.in-Some.is (c.in_ok-on_way.ensures.some h (shown_inode v im o l t of (directory_path c.args.call.now) c.args.place.now.inode reached.place.at)) in
    way_apart v c.args.call.now c.requires.making c.args.place.now c.args.name.now c.requires.last c.requires.named c.requires.lacks im o l t of reached c.args.more c.requires.takes c.args.stamp.now.node c.requires.groups c.requires.node c.is_a_view.ensures c.in-Is-Is.room (λ at own shown is. subst (IsUnder v (block_holds (said at) v.groups own (c.args.more + 1)) (IsTaken v (said at) own (c.args.more + 1))) (c.in-Is-Is.is ∙ ap locked.Is c.in-Is-Is.field-0-is) (c.in_ok-room.ensures.found at own shown is))
    c.in-Some.block found.0 found.1

pub returns-in-Some-clause-damaged : goal.returns-in-Some-clause-damaged
returns-in-Some-clause-damaged g c =
    let v = g.V.View.seen c.args.view.now in
    let name = c.args.name.now in
    let room = room_held v c.args.stamp.now.node (c.args.more + 1) c.is_a_view.ensures c.requires.groups c.requires.node c.in-Is-Is.room (λ at own shown is. subst (IsUnder v (block_holds (said at) v.groups own (c.args.more + 1)) (IsTaken v (said at) own (c.args.more + 1))) (c.in-Is-Is.is ∙ ap locked.Is c.in-Is-Is.field-0-is) (c.in_ok-room.ensures.found at own shown is)) in
    let found = λ (h : Holding) (shown : IsShown v c.args.place.now.inode h). found_at c.in_ok-on_way.field-0 c.in-Is.on_way c.in-Some.block (λ b. Contains (blocks_of c.in-Is-Is.room) b × IsOnWay h name b) c.in-Is.is c.in-Some.is (c.in_ok-on_way.ensures.some h shown) in
    let some = some_directory v c.args.place.now.inode c.is_a_view.ensures in
    free_damage c.args.call.now c.args.name.now c.requires.last v c.args.place.now c.requires.seen c.requires.lacks c.args.stamp.now.node c.args.more c.is_a_view.ensures c.requires.groups c.requires.node c.in-Is-Is.room room
    c.in-Some.block (found some.0 some.1).0 (λ h shown. (found h shown).1)

pub returns-in-Some-clause-kept : goal.returns-in-Some-clause-kept
returns-in-Some-clause-kept g c =
    let v = g.V.View.seen c.args.view.now in
    found_at c.in_ok-on_way.field-0 c.in-Is.on_way c.in-Some.block (HasBlock v) c.in-Is.is c.in-Some.is c.in_ok-on_way.ensures.there

pub addition-requires-clause-group : goal.addition-requires-clause-group
addition-requires-clause-group g c =
    let v = g.V.View.seen c.args.view.now in
    let room = room_held v c.args.stamp.now.node (c.args.more + 1) c.is_a_view.ensures c.requires.groups c.requires.node c.in-Is-Is.room (λ at own shown is. subst (IsUnder v (block_holds (said at) v.groups own (c.args.more + 1)) (IsTaken v (said at) own (c.args.more + 1))) (c.in-Is-Is.is ∙ ap locked.Is c.in-Is-Is.field-0-is) (c.in_ok-room.ensures.found at own shown is)) in
    room.has

pub addition-requires-clause-block : goal.addition-requires-clause-block
addition-requires-clause-block g c =
    let v = g.V.View.seen c.args.view.now in
    let room = room_held v c.args.stamp.now.node (c.args.more + 1) c.is_a_view.ensures c.requires.groups c.requires.node c.in-Is-Is.room (λ at own shown is. subst (IsUnder v (block_holds (said at) v.groups own (c.args.more + 1)) (IsTaken v (said at) own (c.args.more + 1))) (c.in-Is-Is.is ∙ ap locked.Is c.in-Is-Is.field-0-is) (c.in_ok-room.ensures.found at own shown is)) in
    room.data_block

pub addition-requires-clause-room : goal.addition-requires-clause-room
addition-requires-clause-room g c b has =
    let v = g.V.View.seen c.args.view.now in
    let room = room_held v c.args.stamp.now.node (c.args.more + 1) c.is_a_view.ensures c.requires.groups c.requires.node c.in-Is-Is.room (λ at own shown is. subst (IsUnder v (block_holds (said at) v.groups own (c.args.more + 1)) (IsTaken v (said at) own (c.args.more + 1))) (c.in-Is-Is.is ∙ ap locked.Is c.in-Is-Is.field-0-is) (c.in_ok-room.ensures.found at own shown is)) in
    let h = room.each b (later_one c.in-Is-Is.room b (subst (λ (xs : List ℕ). Contains xs b) c.deref.ensures.value has)) in
    (h.group, h.has, h.data_block)

pub addition-requires-clause-apart : goal.addition-requires-clause-apart
addition-requires-clause-apart g c has =
    let v = g.V.View.seen c.args.view.now in
    let some = some_directory v c.args.place.now.inode c.is_a_view.ensures in
    let way = none_at c.in_ok-on_way.field-0 c.in-Is.on_way (IsRightWay v some.0 c.args.name.now (blocks_of c.in-Is-Is.room)) c.in-Is.is c.in_default.is (c.in_ok-on_way.ensures.none some.0 some.1) in
    way.apart c.args.place.now.inode (subst (λ (xs : List ℕ). Contains (c.in-Is-Is.room.new.block ∷ xs) c.args.place.now.inode) c.deref.ensures.value has) (its_dinode (sym some.1.inode.own))

pub addition-requires-clause-once : goal.addition-requires-clause-once
addition-requires-clause-once g c =
    let v = g.V.View.seen c.args.view.now in
    let room = room_held v c.args.stamp.now.node (c.args.more + 1) c.is_a_view.ensures c.requires.groups c.requires.node c.in-Is-Is.room (λ at own shown is. subst (IsUnder v (block_holds (said at) v.groups own (c.args.more + 1)) (IsTaken v (said at) own (c.args.more + 1))) (c.in-Is-Is.is ∙ ap locked.Is c.in-Is-Is.field-0-is) (c.in_ok-room.ensures.found at own shown is)) in
    subst (λ (xs : List ℕ). IsDistinct (c.in-Is-Is.room.new.block ∷ xs)) (sym c.deref.ensures.value) room.once

pub addition-requires-clause-dinode : goal.addition-requires-clause-dinode
addition-requires-clause-dinode g c h shown =
    let v = g.V.View.seen c.args.view.now in
    c.requires.seen.dinode h shown.inode

pub returns-in_err-change-clause-sound : goal.returns-in_err-change-clause-sound
returns-in_err-change-clause-sound g c im o l t of =
    let v = g.V.View.seen c.args.view.now in
    told_on (λ rule b. ⊥) _ _ c.from_residual-in_err-change.ensures.1
    (tells_so (IsWrongIn v c.args.place.now.inode (blocks_of c.in-Is-Is.room)) (λ rule b. ⊥) (addition_sound v c.args.call.now c.requires.making c.args.place.now c.args.name.now c.requires.last c.requires.named c.requires.lacks im o l t of (c.requires.reached im o l t of) (blocks_of c.in-Is-Is.room)) c.in_err-change.field-0.0
    (subst (λ (xs : List ℕ). TellsOf (IsWrongIn v c.args.place.now.inode (c.in-Is-Is.room.new.block ∷ xs)) c.in_err-change.field-0.0) c.deref.ensures.value c.in_err-change.ensures.damaged))

pub returns-in_err-change-clause-damaged : goal.returns-in_err-change-clause-damaged
returns-in_err-change-clause-damaged g c =
    let v = g.V.View.seen c.args.view.now in
    let room = room_held v c.args.stamp.now.node (c.args.more + 1) c.is_a_view.ensures c.requires.groups c.requires.node c.in-Is-Is.room (λ at own shown is. subst (IsUnder v (block_holds (said at) v.groups own (c.args.more + 1)) (IsTaken v (said at) own (c.args.more + 1))) (c.in-Is-Is.is ∙ ap locked.Is c.in-Is-Is.field-0-is) (c.in_ok-room.ensures.found at own shown is)) in
    told_on (IsDamage v c.args.call.now) _ _ c.from_residual-in_err-change.ensures.1
    (tells_so (IsWrongIn v c.args.place.now.inode (blocks_of c.in-Is-Is.room)) (IsDamage v c.args.call.now)
    (addition_damage c.args.call.now c.args.name.now c.requires.last v c.args.place.now c.requires.seen c.requires.lacks c.args.stamp.now.node c.args.more c.is_a_view.ensures c.requires.groups c.requires.node c.in-Is-Is.room room) c.in_err-change.field-0.0
    (subst (λ (xs : List ℕ). TellsOf (IsWrongIn v c.args.place.now.inode (c.in-Is-Is.room.new.block ∷ xs)) c.in_err-change.field-0.0) c.deref.ensures.value c.in_err-change.ensures.damaged))

pub returns-in-Is-Some-clause-found : goal.returns-in-Is-Some-clause-found
returns-in-Is-Some-clause-found g c im o l t of =
    let v = g.V.View.seen c.args.view.now in
    all_held v c.args.call.now c.requires.making c.args.place.now c.args.name.now c.requires.last c.requires.named c.requires.lacks im o l t of (c.requires.reached im o l t of) c.args.more c.requires.takes c.args.stamp.now.node c.requires.groups c.requires.node c.is_a_view.ensures c.in-Is-Is.room (λ at own shown is. subst (IsUnder v (block_holds (said at) v.groups own (c.args.more + 1)) (IsTaken v (said at) own (c.args.more + 1))) (c.in-Is-Is.is ∙ ap locked.Is c.in-Is-Is.field-0-is) (c.in_ok-room.ensures.found at own shown is))

pub returns-in-Is-Some-clause-done : goal.returns-in-Is-Some-clause-done
returns-in-Is-Some-clause-done g c =
    let v = g.V.View.seen c.args.view.now in
    let room = room_held v c.args.stamp.now.node (c.args.more + 1) c.is_a_view.ensures c.requires.groups c.requires.node c.in-Is-Is.room (λ at own shown is. subst (IsUnder v (block_holds (said at) v.groups own (c.args.more + 1)) (IsTaken v (said at) own (c.args.more + 1))) (c.in-Is-Is.is ∙ ap locked.Is c.in-Is-Is.field-0-is) (c.in_ok-room.ensures.found at own shown is)) in
    let some = answer_at _ (Some c.in-Is-Some.change) (λ done. IfSome done (IsAddition v c.is_of_directory-is_directory.result c.args.place.now c.args.name.now c.in-Is-Is.room.new c.deref.result.now c.args.stamp.now.time)) (c.in-Is-Some.is ∙ ap Is c.in-Is-Some.field-0-is) c.in_ok-change.ensures.added in
    let added = subst₂ (λ b (xs : List ℕ). IsAddition v b c.args.place.now c.args.name.now c.in-Is-Is.room.new xs c.args.stamp.now.time c.in-Is-Some.change) c.is_of_directory-is_directory.ensures c.deref.ensures.value some in
    addition_does v c.args.call.now c.requires.making c.args.place.now c.args.name.now c.requires.last c.requires.named c.requires.lacks c.requires.seen.leads c.args.stamp.now.node c.args.more c.is_a_view.ensures c.requires.groups c.requires.node c.in-Is-Is.room room c.in-Is-Some.change added c.requires.reached
    (λ im o l t of. placed v c.args.call.now c.requires.making c.args.place.now c.args.name.now c.requires.last c.requires.named c.requires.lacks im o l t of (c.requires.reached im o l t of) c.args.more c.requires.takes c.args.stamp.now.node c.requires.groups c.requires.node c.is_a_view.ensures c.in-Is-Is.room (λ at own shown is. subst (IsUnder v (block_holds (said at) v.groups own (c.args.more + 1)) (IsTaken v (said at) own (c.args.more + 1))) (c.in-Is-Is.is ∙ ap locked.Is c.in-Is-Is.field-0-is) (c.in_ok-room.ensures.found at own shown is)))

pub returns-in-Is-Some-clause-inside : goal.returns-in-Is-Some-clause-inside
returns-in-Is-Some-clause-inside g c =
    let v = g.V.View.seen c.args.view.now in
    let some = answer_at _ (Some c.in-Is-Some.change) (λ done. IfSome done (IsAddition v c.is_of_directory-is_directory.result c.args.place.now c.args.name.now c.in-Is-Is.room.new c.deref.result.now c.args.stamp.now.time)) (c.in-Is-Some.is ∙ ap Is c.in-Is-Some.field-0-is) c.in_ok-change.ensures.added in
    let added = subst₂ (λ b (xs : List ℕ). IsAddition v b c.args.place.now c.args.name.now c.in-Is-Is.room.new xs c.args.stamp.now.time c.in-Is-Some.change) c.is_of_directory-is_directory.ensures c.deref.ensures.value some in
    added.inside

pub returns-in-Is-Some-clause-under : goal.returns-in-Is-Some-clause-under
returns-in-Is-Some-clause-under g c im o l t of =
    let v = g.V.View.seen c.args.view.now in
    let some = answer_at _ (Some c.in-Is-Some.change) (λ done. IfSome done (IsAddition v c.is_of_directory-is_directory.result c.args.place.now c.args.name.now c.in-Is-Is.room.new c.deref.result.now c.args.stamp.now.time)) (c.in-Is-Some.is ∙ ap Is c.in-Is-Some.field-0-is) c.in_ok-change.ensures.added in
    let added = subst₂ (λ b (xs : List ℕ). IsAddition v b c.args.place.now c.args.name.now c.in-Is-Is.room.new xs c.args.stamp.now.time c.in-Is-Some.change) c.is_of_directory-is_directory.ensures c.deref.ensures.value some in
    under v c.args.call.now c.requires.making c.args.place.now c.args.name.now c.requires.last c.requires.named c.requires.lacks im o l t of (c.requires.reached im o l t of) c.args.more c.requires.takes c.args.stamp.now.node c.requires.groups c.requires.node c.is_a_view.ensures c.in-Is-Is.room (λ at own shown is. subst (IsUnder v (block_holds (said at) v.groups own (c.args.more + 1)) (IsTaken v (said at) own (c.args.more + 1))) (c.in-Is-Is.is ∙ ap locked.Is c.in-Is-Is.field-0-is) (c.in_ok-room.ensures.found at own shown is)) c.in-Is-Some.change added

pub returns-in-Is-Some-clause-made : goal.returns-in-Is-Some-clause-made
returns-in-Is-Some-clause-made g c im o l t of =
    let v = g.V.View.seen c.args.view.now in
    let some = answer_at _ (Some c.in-Is-Some.change) (λ done. IfSome done (IsAddition v c.is_of_directory-is_directory.result c.args.place.now c.args.name.now c.in-Is-Is.room.new c.deref.result.now c.args.stamp.now.time)) (c.in-Is-Some.is ∙ ap Is c.in-Is-Some.field-0-is) c.in_ok-change.ensures.added in
    let added = subst₂ (λ b (xs : List ℕ). IsAddition v b c.args.place.now c.args.name.now c.in-Is-Is.room.new xs c.args.stamp.now.time c.in-Is-Some.change) c.is_of_directory-is_directory.ensures c.deref.ensures.value some in
    made v c.args.call.now c.requires.making c.args.place.now c.args.name.now c.requires.last c.requires.named c.requires.lacks im o l t of (c.requires.reached im o l t of) c.args.more c.requires.takes c.args.stamp.now.node c.requires.groups c.requires.node c.is_a_view.ensures c.in-Is-Is.room (λ at own shown is. subst (IsUnder v (block_holds (said at) v.groups own (c.args.more + 1)) (IsTaken v (said at) own (c.args.more + 1))) (c.in-Is-Is.is ∙ ap locked.Is c.in-Is-Is.field-0-is) (c.in_ok-room.ensures.found at own shown is)) c.in-Is-Some.change added

pub returns-in-Is-Some-clause-stamped : goal.returns-in-Is-Some-clause-stamped
returns-in-Is-Some-clause-stamped g c im o l t of =
    let v = g.V.View.seen c.args.view.now in
    let some = answer_at _ (Some c.in-Is-Some.change) (λ done. IfSome done (IsAddition v c.is_of_directory-is_directory.result c.args.place.now c.args.name.now c.in-Is-Is.room.new c.deref.result.now c.args.stamp.now.time)) (c.in-Is-Some.is ∙ ap Is c.in-Is-Some.field-0-is) c.in_ok-change.ensures.added in
    let added = subst₂ (λ b (xs : List ℕ). IsAddition v b c.args.place.now c.args.name.now c.in-Is-Is.room.new xs c.args.stamp.now.time c.in-Is-Some.change) c.is_of_directory-is_directory.ensures c.deref.ensures.value some in
    stamped v c.args.call.now c.requires.making c.args.place.now c.args.name.now c.requires.last c.requires.named c.requires.lacks im o l t of (c.requires.reached im o l t of) c.args.more c.requires.takes c.args.stamp.now.node c.requires.groups c.requires.node c.is_a_view.ensures c.in-Is-Is.room (λ at own shown is. subst (IsUnder v (block_holds (said at) v.groups own (c.args.more + 1)) (IsTaken v (said at) own (c.args.more + 1))) (c.in-Is-Is.is ∙ ap locked.Is c.in-Is-Is.field-0-is) (c.in_ok-room.ensures.found at own shown is)) c.in-Is-Some.change added

pub returns-in-Is-Some-clause-told : goal.returns-in-Is-Some-clause-told
returns-in-Is-Some-clause-told g c =
    let v = g.V.View.seen c.args.view.now in
    let room = room_held v c.args.stamp.now.node (c.args.more + 1) c.is_a_view.ensures c.requires.groups c.requires.node c.in-Is-Is.room (λ at own shown is. subst (IsUnder v (block_holds (said at) v.groups own (c.args.more + 1)) (IsTaken v (said at) own (c.args.more + 1))) (c.in-Is-Is.is ∙ ap locked.Is c.in-Is-Is.field-0-is) (c.in_ok-room.ensures.found at own shown is)) in
    let some = answer_at _ (Some c.in-Is-Some.change) (λ done. IfSome done (IsAddition v c.is_of_directory-is_directory.result c.args.place.now c.args.name.now c.in-Is-Is.room.new c.deref.result.now c.args.stamp.now.time)) (c.in-Is-Some.is ∙ ap Is c.in-Is-Some.field-0-is) c.in_ok-change.ensures.added in
    let added = subst₂ (λ b (xs : List ℕ). IsAddition v b c.args.place.now c.args.name.now c.in-Is-Is.room.new xs c.args.stamp.now.time c.in-Is-Some.change) c.is_of_directory-is_directory.ensures c.deref.ensures.value some in
    record {
      need = c.args.more + 1;
      needs = needs_blocks c.args.call.now c.args.name.now c.requires.last v c.args.place.now c.requires.seen c.requires.lacks c.args.more c.requires.takes;
      place = c.args.place.now;
      at = c.requires.seen;
      directory = refl;
      inside = c.requires.inside;
      room = c.in-Is-Is.room;
      takes = room.takes;
      way = λ h shown. subst (λ n. IsRightWay v h n (blocks_of c.in-Is-Is.room)) (sym (own_name c.args.call.now c.args.name.now c.requires.last))
          (none_at c.in_ok-on_way.field-0 c.in-Is.on_way (IsRightWay v h c.args.name.now (blocks_of c.in-Is-Is.room)) c.in-Is.is c.in_default.is (c.in_ok-on_way.ensures.none h shown));
      added = subst (λ n. IsAddition v (makes_directory c.args.call.now) c.args.place.now n c.in-Is-Is.room.new c.in-Is-Is.room.rest.items c.args.stamp.now.time c.in-Is-Some.change) (sym (own_name c.args.call.now c.args.name.now c.requires.last)) added;
    }

pub returns-in-Is-None-clause-found : goal.returns-in-Is-None-clause-found
returns-in-Is-None-clause-found g c im o l t of =
    let v = g.V.View.seen c.args.view.now in
    let is_placed = subst (λ (xs : List ℕ). IsPlaceFor im o l (directory_path c.args.call.now) c.args.name.now c.args.place.now c.in-Is-Is.room.new xs) (sym c.deref.ensures.value) (placed v c.args.call.now c.requires.making c.args.place.now c.args.name.now c.requires.last c.requires.named c.requires.lacks im o l t of (c.requires.reached im o l t of) c.args.more c.requires.takes c.args.stamp.now.node c.requires.groups c.requires.node c.is_a_view.ensures c.in-Is-Is.room (λ at own shown is. subst (IsUnder v (block_holds (said at) v.groups own (c.args.more + 1)) (IsTaken v (said at) own (c.args.more + 1))) (c.in-Is-Is.is ∙ ap locked.Is c.in-Is-Is.field-0-is) (c.in_ok-room.ensures.found at own shown is))) in
    true≢false (sym (answer_at _ None IsSome (c.in-Is-None.is ∙ ap Is c.in-Is-None.field-0-is) (c.in_ok-change.ensures.done im o l t (directory_path c.args.call.now) of is_placed)))

pub returns-in-Is-None-clause-told : goal.returns-in-Is-None-clause-told
returns-in-Is-None-clause-told g c =
    let v = g.V.View.seen c.args.view.now in
    let room = room_held v c.args.stamp.now.node (c.args.more + 1) c.is_a_view.ensures c.requires.groups c.requires.node c.in-Is-Is.room (λ at own shown is. subst (IsUnder v (block_holds (said at) v.groups own (c.args.more + 1)) (IsTaken v (said at) own (c.args.more + 1))) (c.in-Is-Is.is ∙ ap locked.Is c.in-Is-Is.field-0-is) (c.in_ok-room.ensures.found at own shown is)) in
    record {
      need = c.args.more + 1;
      needs = needs_blocks c.args.call.now c.args.name.now c.requires.last v c.args.place.now c.requires.seen c.requires.lacks c.args.more c.requires.takes;
      room = c.in-Is-Is.room;
      takes = room.takes;
      way = λ h shown. subst (λ n. IsRightWay v h n (blocks_of c.in-Is-Is.room)) (sym (own_name c.args.call.now c.args.name.now c.requires.last))
          (none_at c.in_ok-on_way.field-0 c.in-Is.on_way (IsRightWay v h c.args.name.now (blocks_of c.in-Is-Is.room)) c.in-Is.is c.in_default.is (c.in_ok-on_way.ensures.none h shown));
      unfit = λ h shown can. true≢false (sym (answer_at _ None IsSome (c.in-Is-None.is ∙ ap Is c.in-Is-None.field-0-is)
          (c.in_ok-change.ensures.able h shown (subst₂ (λ n (xs : List ℕ). CanGetName h n xs) (own_name c.args.call.now c.args.name.now c.requires.last) (sym c.deref.ensures.value) can))));
    }

pub returns-clause-found : goal.returns-clause-found
returns-clause-found g c im o l t of =
    let v = g.V.View.seen c.args.view.now in
    addition_lacks v c.args.call.now c.requires.making c.args.place.now c.args.name.now c.requires.last c.requires.named c.requires.lacks im o l t of (c.requires.reached im o l t of) c.args.more c.requires.takes c.args.stamp.now.node c.requires.groups c.requires.node c.is_a_view.ensures c.in-Is-Is.room (λ at own shown is. subst (IsUnder v (block_holds (said at) v.groups own (c.args.more + 1)) (IsTaken v (said at) own (c.args.more + 1))) (c.in-Is-Is.is ∙ ap locked.Is c.in-Is-Is.field-0-is) (c.in_ok-room.ensures.found at own shown is)) c.in-NeedBlock-3.missing
    (subst (λ (xs : List ℕ). IsNeededIn v c.args.place.now.inode c.args.name.now (c.in-Is-Is.room.new.block ∷ xs) c.in-NeedBlock-3.missing) c.deref.ensures.value
    (needed_at _ _ (IsNeededIn v c.args.place.now.inode c.args.name.now (c.in-Is-Is.room.new.block ∷ c.deref.result.now)) c.in-NeedBlock-3.is c.in_ok-change.ensures.needed))

pub returns-clause-told : goal.returns-clause-told
returns-clause-told g c =
    let v = g.V.View.seen c.args.view.now in
    let room = room_held v c.args.stamp.now.node (c.args.more + 1) c.is_a_view.ensures c.requires.groups c.requires.node c.in-Is-Is.room (λ at own shown is. subst (IsUnder v (block_holds (said at) v.groups own (c.args.more + 1)) (IsTaken v (said at) own (c.args.more + 1))) (c.in-Is-Is.is ∙ ap locked.Is c.in-Is-Is.field-0-is) (c.in_ok-room.ensures.found at own shown is)) in
    addition_needs c.args.call.now c.args.name.now c.requires.last v c.args.place.now c.requires.seen c.requires.lacks c.args.stamp.now.node c.args.more c.is_a_view.ensures c.requires.groups c.requires.node c.in-Is-Is.room room c.in-NeedBlock-3.missing
    (subst (λ (xs : List ℕ). IsNeededIn v c.args.place.now.inode c.args.name.now (c.in-Is-Is.room.new.block ∷ xs) c.in-NeedBlock-3.missing) c.deref.ensures.value
    (needed_at _ _ (IsNeededIn v c.args.place.now.inode c.args.name.now (c.in-Is-Is.room.new.block ∷ c.deref.result.now)) c.in-NeedBlock-3.is c.in_ok-change.ensures.needed))
