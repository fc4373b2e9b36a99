use Rattle.std.proofs.Common.{ℕ, not, List, sym, ap, ◌∙◌, subst}
use Rattle.std.specs.Prelude.{Contains, ◌==◌}
use Rattle.gfs2_layout.proofs.StatePuts.{has_any}
use Rattle.hash_dirs.proofs.Gathered.{lacks_it}
use Rattle.std.specs.List.{list_any}
use Rattle.glock_names.specs.Steps.{TellsOf}
use Rattle.glock_names.proofs.StepLaws.{answer_at, needed_at}
use Rattle.path_walks.proofs.Steps.{inside_so, none_so}
use Rattle.removing_calls.specs.Drafting.{IsNeededIn, IsWrongIn, IsRemoval}
use Rattle.group_locks.specs.Groups.{GroupsAreHeld, IsFirstGroupLack}
use Rattle.removing_calls.specs.Removing.{AreAllOf, IsDamage, IsLackedFor, IsNeededOf, IsWrongBelow, above}
use Rattle.removing_calls.proofs.Placed.{above_there, above_block, above_named, above_inside, below_damage, below_root, inode_inside, nothing_below, inode_needed, inode_needs, own_among, removal_damage, removal_needed, removal_needs, taken_ok, list_held, group_lacks, nothing_wrong, above_apart, shared_damage}
use Rattle.removing_calls.proofs.Under.{writes_inside}
use Rattle.removing_calls.proofs.Taking.{does, stamped, under}
use Rattle.removing_calls.proofs.tries.remove_at.Goals as goal
use Rattle.path_walks.proofs.Faults.{told_on, tells_so}

pub returns-then-is_none-clause-sound : goal.returns-then-is_none-clause-sound
returns-then-is_none-clause-sound g c im o l t of reached =
    none_so _ c.group_of.result (c.is_none.ensures ∙ ap not c.if-is_none.true) c.group_of.ensures.none
    (above_inside (g.V.View.seen c.args.view.now) c.args.call.now c.args.place.now c.args.name.now c.requires.last c.requires.seen im o l t of reached)

pub returns-then-is_none-clause-damaged : goal.returns-then-is_none-clause-damaged
returns-then-is_none-clause-damaged g c =
    above c.args.place.now.above c.requires.seen.above (none_so _ c.group_of.result (c.is_none.ensures ∙ ap not c.if-is_none.true) c.group_of.ensures.none)

pub returns-then-is_none-clause-kept : goal.returns-then-is_none-clause-kept
returns-then-is_none-clause-kept g c = above_there (g.V.View.seen c.args.view.now) c.args.call.now c.args.place.now c.args.name.now c.requires.last c.requires.seen c.is_a_view.ensures

pub blocks_of-requires : goal.blocks_of-requires
blocks_of-requires g c = record {
  inside = inode_inside (g.V.View.seen c.args.view.now) c.args.call.now c.args.place.now c.args.name.now c.requires.last c.requires.seen;
  there = c.requires.seen.there;
  dinode = c.requires.seen.dinode;
}

pub returns-in_err-blocks-clause-sound : goal.returns-in_err-blocks-clause-sound
returns-in_err-blocks-clause-sound g c im o l t of reached =
    let v = g.V.View.seen c.args.view.now in
    told_on (λ rule b. ⊥) c.from_residual.result _ c.from_residual.ensures.1 (tells_so (IsWrongBelow v c.args.place.now.inode) (λ rule b. ⊥)
    (nothing_below v c.args.call.now c.args.place.now c.args.name.now c.requires.last c.requires.seen im o l t of reached) c.in_err-blocks.field-0.0 c.in_err-blocks.ensures.damaged)

pub returns-in_err-blocks-clause-damaged : goal.returns-in_err-blocks-clause-damaged
returns-in_err-blocks-clause-damaged g c =
    let v = g.V.View.seen c.args.view.now in
    told_on (IsDamage v c.args.call.now) c.from_residual.result _ c.from_residual.ensures.1 (tells_so (IsWrongBelow v c.args.place.now.inode) (IsDamage v c.args.call.now)
    (below_damage v c.args.call.now c.args.place.now c.args.name.now c.requires.last c.requires.seen c.requires.aim) c.in_err-blocks.field-0.0 c.in_err-blocks.ensures.damaged)

pub returns-in-NeedBlock-clause-found : goal.returns-in-NeedBlock-clause-found
returns-in-NeedBlock-clause-found g c im o l t of reached =
    inode_needed (g.V.View.seen c.args.view.now) c.args.call.now c.args.place.now c.args.name.now c.requires.last c.requires.seen im o l t of reached c.in-NeedBlock.missing
    (needed_at _ _ (IsNeededOf (g.V.View.seen c.args.view.now) c.args.place.now.inode) c.in-NeedBlock.is c.in_ok-blocks.ensures.needed)

pub returns-then-contains-clause-sound : goal.returns-then-contains-clause-sound
returns-then-contains-clause-sound g c im o l t of reached =
    let v = g.V.View.seen c.args.view.now in
    absurd (above_apart v c.args.call.now c.args.place.now c.args.name.now c.requires.last c.requires.seen c.in-Is.blocks.items (answer_at _ _ (λ blocks. AreAllOf (g.V.View.seen c.args.view.now) c.args.place.now.inode blocks.items) c.in-Is.is c.in_ok-blocks.ensures.all) c.requires.aim
    im o l t of reached (subst (λ (xs : List ℕ). Contains xs c.args.place.now.above) c.deref.ensures.value (has_any c.deref.result.now c.args.place.now.above (sym c.contains.ensures.value ∙ c.if-contains.true))))

pub returns-then-contains-clause-damaged : goal.returns-then-contains-clause-damaged
returns-then-contains-clause-damaged g c =
    let v = g.V.View.seen c.args.view.now in
    shared_damage v c.args.call.now c.args.place.now c.args.name.now c.requires.last c.requires.seen c.in-Is.blocks.items (answer_at _ _ (λ blocks. AreAllOf (g.V.View.seen c.args.view.now) c.args.place.now.inode blocks.items) c.in-Is.is c.in_ok-blocks.ensures.all) c.requires.aim
    (subst (λ (xs : List ℕ). Contains xs c.args.place.now.above) c.deref.ensures.value (has_any c.deref.result.now c.args.place.now.above (sym c.contains.ensures.value ∙ c.if-contains.true)))

pub returns-then-contains-clause-kept : goal.returns-then-contains-clause-kept
returns-then-contains-clause-kept g c = above_there (g.V.View.seen c.args.view.now) c.args.call.now c.args.place.now c.args.name.now c.requires.last c.requires.seen c.is_a_view.ensures

pub returns-in-Some-clause-found : goal.returns-in-Some-clause-found
returns-in-Some-clause-found g c im o l t of reached =
    let v = g.V.View.seen c.args.view.now in
    group_lacks v c.args.call.now c.args.place.now c.args.name.now c.requires.last c.requires.seen c.in-Is.blocks.items (answer_at _ _ (λ blocks. AreAllOf (g.V.View.seen c.args.view.now) c.args.place.now.inode blocks.items) c.in-Is.is c.in_ok-blocks.ensures.all)
    c.requires.aim im o l t of reached c.in-Some.lock (subst (λ (xs : List ℕ). IsFirstGroupLack v xs c.in-Some.lock) c.deref-2.ensures.value c.in-Some.ensures.some)

pub removal-requires-clause-directory : goal.removal-requires-clause-directory
removal-requires-clause-directory g c = above_block (g.V.View.seen c.args.view.now) c.args.call.now c.args.place.now c.args.name.now c.requires.last c.requires.seen c.is_a_view.ensures

pub removal-requires-clause-named : goal.removal-requires-clause-named
removal-requires-clause-named g c = above_named (g.V.View.seen c.args.view.now) c.args.call.now c.args.place.now c.args.name.now c.requires.last c.requires.seen c.is_a_view.ensures

pub returns-in_err-change-clause-sound : goal.returns-in_err-change-clause-sound
returns-in_err-change-clause-sound g c im o l t of reached =
    let v = g.V.View.seen c.args.view.now in
    told_on (λ rule b. ⊥) c.from_residual-in_err-change.result _ c.from_residual-in_err-change.ensures.1 (tells_so (IsWrongIn v c.args.place.now.above c.args.name.now c.in-Is.blocks.items) (λ rule b. ⊥)
    (nothing_wrong v c.args.call.now c.args.place.now c.args.name.now c.requires.last c.requires.seen c.in-Is.blocks.items (answer_at _ _ (λ blocks. AreAllOf (g.V.View.seen c.args.view.now) c.args.place.now.inode blocks.items) c.in-Is.is c.in_ok-blocks.ensures.all)
    c.requires.aim im o l t of reached c.is_a_view.ensures) c.in_err-change.field-0.0
    (subst (λ (xs : List ℕ). TellsOf (IsWrongIn v c.args.place.now.above c.args.name.now xs) c.in_err-change.field-0.0) c.deref-3.ensures.value c.in_err-change.ensures.damaged))

pub returns-in_err-change-clause-damaged : goal.returns-in_err-change-clause-damaged
returns-in_err-change-clause-damaged g c =
    let v = g.V.View.seen c.args.view.now in
    told_on (IsDamage v c.args.call.now) c.from_residual-in_err-change.result _ c.from_residual-in_err-change.ensures.1 (tells_so (IsWrongIn v c.args.place.now.above c.args.name.now c.in-Is.blocks.items) (IsDamage v c.args.call.now)
    (removal_damage v c.args.call.now c.args.place.now c.args.name.now c.requires.last c.requires.seen c.in-Is.blocks.items (answer_at _ _ (λ blocks. AreAllOf (g.V.View.seen c.args.view.now) c.args.place.now.inode blocks.items) c.in-Is.is c.in_ok-blocks.ensures.all) c.is_a_view.ensures
    (lacks_it c.in-Is.blocks.items c.args.place.now.above c.contains.result (c.contains.ensures.value ∙ ap (λ xs. list_any (λ y. y == c.args.place.now.above) xs) c.deref.ensures.value) c.if-contains.false) c.requires.aim
    (subst (λ (xs : List ℕ). GroupsAreHeld v xs) c.deref-2.ensures.value c.in_default.ensures.none))
    c.in_err-change.field-0.0
    (subst (λ (xs : List ℕ). TellsOf (IsWrongIn v c.args.place.now.above c.args.name.now xs) c.in_err-change.field-0.0) c.deref-3.ensures.value c.in_err-change.ensures.damaged))

pub returns-in-Is-2-clause-found : goal.returns-in-Is-2-clause-found
returns-in-Is-2-clause-found g c im o l t of reached =
    let v = g.V.View.seen c.args.view.now in
    let groups = subst (λ (xs : List ℕ). GroupsAreHeld v xs) c.deref-2.ensures.value c.in_default.ensures.none in (
      taken_ok v c.args.call.now c.args.place.now c.args.name.now c.requires.last c.requires.seen c.in-Is.blocks.items (answer_at _ _ (λ blocks. AreAllOf (g.V.View.seen c.args.view.now) c.args.place.now.inode blocks.items) c.in-Is.is c.in_ok-blocks.ensures.all) c.requires.aim
          im o l t of reached,
      list_held v c.args.call.now c.args.place.now c.args.name.now c.requires.last c.requires.seen c.in-Is.blocks.items (answer_at _ _ (λ blocks. AreAllOf (g.V.View.seen c.args.view.now) c.args.place.now.inode blocks.items) c.in-Is.is c.in_ok-blocks.ensures.all) c.requires.aim
          im o l t of reached groups,
    )

pub returns-in-Is-2-clause-done : goal.returns-in-Is-2-clause-done
returns-in-Is-2-clause-done g c =
    let v = g.V.View.seen c.args.view.now in
    let groups = subst (λ (xs : List ℕ). GroupsAreHeld v xs) c.deref-2.ensures.value c.in_default.ensures.none in
    let is = subst (λ (xs : List ℕ). IsRemoval g.V.View.seen c.args.view.now c.args.place.now.above c.args.name.now c.args.time xs c.in-Is-2.change) c.deref-3.ensures.value
    (answer_at _ _ (IsRemoval g.V.View.seen c.args.view.now c.args.place.now.above c.args.name.now c.args.time c.deref-3.result.now) c.in-Is-2.is c.in_ok-change.ensures.removal) in
    does g.V.View.seen c.args.view.now c.args.call.now c.requires.removing c.args.place.now c.args.name.now c.requires.last c.requires.seen c.in-Is.blocks.items groups
    (answer_at _ _ (λ blocks. AreAllOf (g.V.View.seen c.args.view.now) c.args.place.now.inode blocks.items) c.in-Is.is c.in_ok-blocks.ensures.all) c.requires.aim c.in-Is-2.change is c.requires.places
    (own_among v c.args.call.now c.args.place.now c.args.name.now c.requires.last c.requires.seen c.in-Is.blocks.items (answer_at _ _ (λ blocks. AreAllOf (g.V.View.seen c.args.view.now) c.args.place.now.inode blocks.items) c.in-Is.is c.in_ok-blocks.ensures.all) c.is_a_view.ensures)

pub returns-clause-found : goal.returns-clause-found
returns-clause-found g c im o l t of reached =
    let v = g.V.View.seen c.args.view.now in
    let groups = subst (λ (xs : List ℕ). GroupsAreHeld v xs) c.deref-2.ensures.value c.in_default.ensures.none in
    let needed = subst (λ (xs : List ℕ). IsNeededIn v c.args.place.now.above c.args.name.now xs c.in-NeedBlock-2.missing) c.deref-3.ensures.value
    (needed_at _ _ (IsNeededIn v c.args.place.now.above c.args.name.now c.deref-3.result.now) c.in-NeedBlock-2.is c.in_ok-change.ensures.needed) in
    removal_needed v c.args.call.now c.args.place.now c.args.name.now c.requires.last c.requires.seen c.in-Is.blocks.items (answer_at _ _ (λ blocks. AreAllOf v c.args.place.now.inode blocks.items) c.in-Is.is c.in_ok-blocks.ensures.all) c.requires.aim
    im o l t of reached c.requires.removing c.is_a_view.ensures groups c.in-NeedBlock-2.missing needed

pub returns-in-NeedBlock-clause-told : goal.returns-in-NeedBlock-clause-told
returns-in-NeedBlock-clause-told g c =
    inode_needs (g.V.View.seen c.args.view.now) c.args.call.now c.args.place.now c.args.name.now c.requires.last c.requires.seen c.requires.aim c.in-NeedBlock.missing
    (needed_at _ _ (IsNeededOf (g.V.View.seen c.args.view.now) c.args.place.now.inode) c.in-NeedBlock.is c.in_ok-blocks.ensures.needed)

pub returns-in-Some-clause-told : goal.returns-in-Some-clause-told
returns-in-Some-clause-told g c =
    let v = g.V.View.seen c.args.view.now in
    IsLackedFor.of_group c.args.place.now.inode c.in-Is.blocks.items (record { below = below_root (g.V.View.seen c.args.view.now) c.args.call.now c.args.place.now c.args.name.now c.requires.last c.requires.seen; leads = c.requires.seen.leads; there = c.requires.seen.there; aim = c.requires.aim })
    (answer_at _ _ (λ blocks. AreAllOf (g.V.View.seen c.args.view.now) c.args.place.now.inode blocks.items) c.in-Is.is c.in_ok-blocks.ensures.all) (subst (λ (xs : List ℕ). IsFirstGroupLack v xs c.in-Some.lock) c.deref-2.ensures.value c.in-Some.ensures.some)

pub returns-in-Is-2-clause-told : goal.returns-in-Is-2-clause-told
returns-in-Is-2-clause-told g c =
    let v = g.V.View.seen c.args.view.now in
    let is = subst (λ (xs : List ℕ). IsRemoval g.V.View.seen c.args.view.now c.args.place.now.above c.args.name.now c.args.time xs c.in-Is-2.change) c.deref-3.ensures.value
    (answer_at _ _ (IsRemoval g.V.View.seen c.args.view.now c.args.place.now.above c.args.name.now c.args.time c.deref-3.result.now) c.in-Is-2.is c.in_ok-change.ensures.removal) in
    record {
      inode = c.args.place.now.inode;
      directory = c.args.place.now.above;
      name = c.args.name.now;
      blocks = c.in-Is.blocks.items;
      taken = record { below = below_root (g.V.View.seen c.args.view.now) c.args.call.now c.args.place.now c.args.name.now c.requires.last c.requires.seen; leads = c.requires.seen.leads; there = c.requires.seen.there; aim = c.requires.aim };
      above = c.requires.seen.above;
      inside = inside_so v c.args.place.now.above c.group_of.result (c.is_none.ensures ∙ ap not c.if-is_none.false) c.group_of.ensures.group c.group_of.ensures.own;
      last = c.requires.last;
      all = answer_at _ _ (λ blocks. AreAllOf v c.args.place.now.inode blocks.items) c.in-Is.is c.in_ok-blocks.ensures.all;
      counted = λ h shown hashed. answer_at _ _ _ c.in-Is.is (c.in_ok-blocks.ensures.counted h shown hashed);
      goes = answer_at _ _ _ c.in-Is.is c.in_ok-blocks.ensures.inside;
      held = subst (λ (xs : List ℕ). GroupsAreHeld v xs) c.deref-2.ensures.value c.in_default.ensures.none;
      is = is;
    }

pub returns-clause-told : goal.returns-clause-told
returns-clause-told g c =
    let v = g.V.View.seen c.args.view.now in
    let groups = subst (λ (xs : List ℕ). GroupsAreHeld v xs) c.deref-2.ensures.value c.in_default.ensures.none in
    let needed = subst (λ (xs : List ℕ). IsNeededIn v c.args.place.now.above c.args.name.now xs c.in-NeedBlock-2.missing) c.deref-3.ensures.value
    (needed_at _ _ (IsNeededIn v c.args.place.now.above c.args.name.now c.deref-3.result.now) c.in-NeedBlock-2.is c.in_ok-change.ensures.needed) in
    removal_needs v c.args.call.now c.args.place.now c.args.name.now c.requires.last c.requires.seen c.requires.aim c.is_a_view.ensures c.in-Is.blocks.items
    (answer_at _ _ (λ blocks. AreAllOf v c.args.place.now.inode blocks.items) c.in-Is.is c.in_ok-blocks.ensures.all) groups c.in-NeedBlock-2.missing needed

pub returns-in-Is-2-clause-stamped : goal.returns-in-Is-2-clause-stamped
returns-in-Is-2-clause-stamped g c =
    let v = g.V.View.seen c.args.view.now in
    let groups = subst (λ (xs : List ℕ). GroupsAreHeld v xs) c.deref-2.ensures.value c.in_default.ensures.none in
    let is = subst (λ (xs : List ℕ). IsRemoval g.V.View.seen c.args.view.now c.args.place.now.above c.args.name.now c.args.time xs c.in-Is-2.change) c.deref-3.ensures.value
    (answer_at _ _ (IsRemoval g.V.View.seen c.args.view.now c.args.place.now.above c.args.name.now c.args.time c.deref-3.result.now) c.in-Is-2.is c.in_ok-change.ensures.removal) in
    stamped g.V.View.seen c.args.view.now c.args.call.now c.requires.removing c.args.place.now c.args.name.now c.requires.last c.requires.seen c.in-Is.blocks.items groups
    (answer_at _ _ (λ blocks. AreAllOf (g.V.View.seen c.args.view.now) c.args.place.now.inode blocks.items) c.in-Is.is c.in_ok-blocks.ensures.all) c.requires.aim c.in-Is-2.change is c.requires.places

pub returns-in-Is-2-clause-under : goal.returns-in-Is-2-clause-under
returns-in-Is-2-clause-under g c =
    let v = g.V.View.seen c.args.view.now in
    let groups = subst (λ (xs : List ℕ). GroupsAreHeld v xs) c.deref-2.ensures.value c.in_default.ensures.none in
    let is = subst (λ (xs : List ℕ). IsRemoval g.V.View.seen c.args.view.now c.args.place.now.above c.args.name.now c.args.time xs c.in-Is-2.change) c.deref-3.ensures.value
    (answer_at _ _ (IsRemoval g.V.View.seen c.args.view.now c.args.place.now.above c.args.name.now c.args.time c.deref-3.result.now) c.in-Is-2.is c.in_ok-change.ensures.removal) in
    under g.V.View.seen c.args.view.now c.args.call.now c.requires.removing c.args.place.now c.args.name.now c.requires.last c.requires.seen c.in-Is.blocks.items groups
    (answer_at _ _ (λ blocks. AreAllOf (g.V.View.seen c.args.view.now) c.args.place.now.inode blocks.items) c.in-Is.is c.in_ok-blocks.ensures.all) c.requires.aim c.in-Is-2.change is c.requires.places

pub returns-in-Is-2-clause-inside : goal.returns-in-Is-2-clause-inside
returns-in-Is-2-clause-inside g c =
    let v = g.V.View.seen c.args.view.now in
    let is = subst (λ (xs : List ℕ). IsRemoval g.V.View.seen c.args.view.now c.args.place.now.above c.args.name.now c.args.time xs c.in-Is-2.change) c.deref-3.ensures.value
    (answer_at _ _ (IsRemoval g.V.View.seen c.args.view.now c.args.place.now.above c.args.name.now c.args.time c.deref-3.result.now) c.in-Is-2.is c.in_ok-change.ensures.removal) in
    writes_inside g.V.View.seen c.args.view.now c.args.place.now.above c.args.name.now c.in-Is.blocks.items c.in-Is-2.change is
    (inside_so v c.args.place.now.above c.group_of.result (c.is_none.ensures ∙ ap not c.if-is_none.false) c.group_of.ensures.group c.group_of.ensures.own)
