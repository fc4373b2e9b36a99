use Rattle.std.proofs.Common.{◌≡◌, ◌<◌, true, false, length, sym, ap, subst, ◌∙◌, arith}
use Rattle.glock_names.specs.StateOrder.{leq}
use Rattle.glock_names.specs.declared.State.TheVariants.{Ex}
use Rattle.resource_groups.specs.Shown.{said}
use Rattle.name_drafts.specs.Holds.{holds, hold_of, hold_for}
use Rattle.name_drafts.proofs.Longer.{lack_before}
use Rattle.room_search.specs.Blocks.{free_for, group_holds}
use Rattle.room_search.specs.Searches.{IsUnder}
use Rattle.room_search.specs.Searches as room
use Rattle.room_search.specs.declared.search.Locked.TheVariants as locked
use Rattle.room_search.proofs.Holds.{block_before}
use Rattle.making_calls.specs.Blocks.{first_of}
use Rattle.making_calls.specs.declared.blocks.Room.{Room}
use Rattle.making_calls.proofs.Holds.{blocks_taken, first_and_rest, none_held, taken_held, taken_lack}
use Rattle.making_calls.proofs.blocks.find_blocks.Goals as goal

pub returns-in-Is-TooFew-clause-found : goal.returns-in-Is-TooFew-clause-found
returns-in-Is-TooFew-clause-found g c = λ at own shown is.
    let v = g.V.View.seen c.args.view.now in
    let found = subst (IsUnder v (group_holds (said at) v.groups own c.args.need) (room.IsTaken v (said at) v.groups own c.args.need)) (c.in-Is-TooFew.is ∙ ap locked.Is c.in-Is-TooFew.field-0-is) (c.in_ok-blocks.ensures.found at own shown is) in
    (none_held v (said at) own c.args.need c.in-Is-TooFew.free found.0 found.1, found.1)

pub returns-in-NeedLock-clause-found : goal.returns-in-NeedLock-clause-found
returns-in-NeedLock-clause-found g c = λ at own shown is.
    let v = g.V.View.seen c.args.view.now in
    let found = subst (IsUnder v (group_holds (said at) v.groups own c.args.need) (room.IsTaken v (said at) v.groups own c.args.need)) c.in-NeedLock.is (c.in_ok-blocks.ensures.found at own shown is) in
    lack_before v (group_holds (said at) v.groups own c.args.need) (hold_for (first_of c.args.need (free_for (said at) v.groups own c.args.need)) Ex) c.in-NeedLock.lock c.in-NeedLock.state found

pub returns-in-NeedBlock-clause-found : goal.returns-in-NeedBlock-clause-found
returns-in-NeedBlock-clause-found g c = λ at own shown is.
    let v = g.V.View.seen c.args.view.now in
    let found = subst (IsUnder v (group_holds (said at) v.groups own c.args.need) (room.IsTaken v (said at) v.groups own c.args.need)) c.in-NeedBlock.is (c.in_ok-blocks.ensures.found at own shown is) in
    block_before v (group_holds (said at) v.groups own c.args.need) (hold_for (first_of c.args.need (free_for (said at) v.groups own c.args.need)) Ex) c.in-NeedBlock.missing found

pub unreachable-requires : goal.unreachable-requires
unreachable-requires g c =
    let v = g.V.View.seen c.args.view.now in
    let blocks = c.in-Is-Is.blocks.items in
    let block = c.remove-block.result in
    let told = subst (room.IsTold v c.args.need) (c.in-Is-Is.is ∙ ap locked.Is c.in-Is-Is.field-0-is) c.in_ok-blocks.ensures.told in
    let low : 0 < length blocks = omega (arith, told.many, c.requires.need) in
    let is = told.each block (0, low, sym c.remove-block.ensures.value) in
    c.in_default.ensures.none (is.group, is.has, is.data_block)

pub returns-then-not-is_at_most-clause-found : goal.returns-then-not-is_at_most-clause-found
returns-then-not-is_at_most-clause-found g c = λ at own shown is.
    let v = g.V.View.seen c.args.view.now in
    let block = c.remove-block.result in
    let r : Room = record { new = record { group = c.in-Some.group; block = block }; rest = c.remove-block.new.self } in
    let found = subst (IsUnder v (group_holds (said at) v.groups own c.args.need) (room.IsTaken v (said at) v.groups own c.args.need)) (c.in-Is-Is.is ∙ ap locked.Is c.in-Is-Is.field-0-is) (c.in_ok-blocks.ensures.found at own shown is) in
    let whole = first_and_rest c.in-Is-Is.blocks.items r.rest.items block (omega (arith, found.1.many, c.requires.need)) c.remove-block.ensures.value c.remove-block.ensures.items in
    let all = blocks_taken v (said at) own c.args.need r c.in-Is-Is.blocks.items found.1 whole c.in-Some.ensures.group c.in-Some.ensures.own in
    let lacks : holds v (hold_of block Ex) ≡ false = sym (ap (leq Ex) c.state.ensures) ∙ sym c.is_at_most.ensures ∙ c.if-not-is_at_most.true in
    taken_lack v (said at) own c.args.need r found.0 all lacks

pub returns-clause-found : goal.returns-clause-found
returns-clause-found g c = λ at own shown is.
    let v = g.V.View.seen c.args.view.now in
    let block = c.remove-block.result in
    let r : Room = record { new = record { group = c.in-Some.group; block = block }; rest = c.remove-block.new.self } in
    let found = subst (IsUnder v (group_holds (said at) v.groups own c.args.need) (room.IsTaken v (said at) v.groups own c.args.need)) (c.in-Is-Is.is ∙ ap locked.Is c.in-Is-Is.field-0-is) (c.in_ok-blocks.ensures.found at own shown is) in
    let whole = first_and_rest c.in-Is-Is.blocks.items r.rest.items block (omega (arith, found.1.many, c.requires.need)) c.remove-block.ensures.value c.remove-block.ensures.items in
    let all = blocks_taken v (said at) own c.args.need r c.in-Is-Is.blocks.items found.1 whole c.in-Some.ensures.group c.in-Some.ensures.own in
    let now : holds v (hold_of block Ex) ≡ true = sym (ap (leq Ex) c.state.ensures) ∙ sym c.is_at_most.ensures ∙ c.if-not-is_at_most.false in
    (taken_held v (said at) own c.args.need r found.0 all now, all)
