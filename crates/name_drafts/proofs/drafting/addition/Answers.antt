use Rattle.std.proofs.Common.{ℕ, List, [], ◌∷◌, take, refl, sym, ap, ◌∙◌, subst, inl, inr, arith}
use Rattle.std.proofs.lemmas.List.Elements.{Contains-append_cases, Contains-append_left, Contains-append_right}
use Rattle.std.specs.Prelude.{Contains, IfSome, IsSome}
use Rattle.gfs2_layout.specs.Holding.{Holding}
use Rattle.glock_names.proofs.StepLaws.{answer_at, needed_at}
use Rattle.glock_names.specs.Steps.{TellsOf}
use Rattle.name_inserts.specs.DirectoryShown.{IsShown}
use Rattle.path_walks.proofs.Faults.{only_so, told_on, tells_each, tells_so}
use Rattle.resource_groups.specs.Freeing.{BreaksSome, IsNeededFor}
use Rattle.resource_groups.specs.Putting.{HasDataBlock}
use Rattle.resource_groups.proofs.Sets.{take_has, tells_some}
use Rattle.image_model.specs.Owners.{holding}
use Rattle.name_inserts.specs.Inserting.{CanGetName, IsNeededForName, IsWrongForName}
use Rattle.name_drafts.specs.Drafting.{IsNeededIn, IsWrongIn}
use Rattle.name_drafts.specs.Drafting as drafting
use Rattle.name_drafts.specs.Steps.{IsNamePut}
use Rattle.name_drafts.proofs.Adding.{addition_is, done_is, leaves_over, view3}
use Rattle.name_drafts.proofs.Faults.{breaks_wide, header_needed, needed_wide, no_number_wrong, positive_block}
use Rattle.name_drafts.proofs.InImage.{can_get, shown}
use Rattle.name_drafts.proofs.drafting.addition.Goals as goal

-- what is taken is of the room
wide : (block : ℕ) (room : List ℕ) (n b : ℕ) → Contains (block ∷ take n room) b → Contains (block ∷ room) b
wide block room n b there = elim (Contains-append_cases (block ∷ []) (take n room) b there) [
  | inl here ↦ Contains-append_left (block ∷ []) room b here
  | inr later ↦ Contains-append_right (block ∷ []) room b (take_has room n b later)
]

pub returns-in_err-check_number-clause-damaged : goal.returns-in_err-check_number-clause-damaged
returns-in_err-check_number-clause-damaged g c =
    let v = g.V.View.seen c.args.view.now in
    let dir = c.args.place.now.inode in
    let Wrong = IsWrongIn v dir (c.args.new.now.block ∷ c.args.room.now) in
    told_on Wrong _ _ c.from_residual.ensures.1
    (only_so _ Wrong (λ rule b is. drafting.IsWrongIn.in_directory rule b (λ h shown. no_number_wrong v dir c.args.place.now.dinode h shown (c.requires.dinode h shown) is.2 rule b is.0 is.1))
    c.in_err-check_number.field-0.0 c.in_err-check_number.ensures.damaged)

pub returns-in_err-number-clause-damaged : goal.returns-in_err-number-clause-damaged
returns-in_err-number-clause-damaged g c =
    let v = g.V.View.seen c.args.view.now in
    let blocks : List ℕ = c.args.new.now.block ∷ c.args.room.now in
    let Wrong = IsWrongIn v c.args.place.now.inode blocks in
    told_on Wrong _ _ c.from_residual-in_err-number.ensures.1
    (tells_so (BreaksSome v blocks) Wrong drafting.IsWrongIn.in_group c.in_err-number.field-0.0
    (tells_some c.in_err-number.field-0.0 v c.args.new.now.group blocks c.requires.group (c.args.new.now.block, (0, omega arith, refl), c.requires.block) (λ at shown. c.in_err-number.ensures.damaged at shown)))

pub returns-in-NeedBlock-clause-needed : goal.returns-in-NeedBlock-clause-needed
returns-in-NeedBlock-clause-needed g c =
    drafting.IsNeededIn.in_group (header_needed (g.V.View.seen c.args.view.now) c.args.new.now.group c.args.new.now.block (c.args.new.now.block ∷ c.args.room.now) c.in-NeedBlock.missing c.requires.group c.requires.block (0, omega arith, refl)
    (needed_at _ _ _ c.in-NeedBlock.is c.in_ok-number.ensures.needed) (needed_at _ _ _ c.in-NeedBlock.is c.in_ok-number.ensures.which))

pub put_in_directory-requires-clause-room : goal.put_in_directory-requires-clause-room
put_in_directory-requires-clause-room g c b there = subst (λ x. HasDataBlock (g.V.View.seen x) b) (sym (ap (λ d. d.view) c.new-draft.ensures)) (c.requires.room b there)

pub put_in_directory-requires-clause-address : goal.put_in_directory-requires-clause-address
put_in_directory-requires-clause-address g c = positive_block (g.V.View.seen c.args.view.now) c.is_a_view.ensures c.args.new.now.block (c.args.new.now.group, c.requires.group, c.requires.block)

pub put_new-requires-clause-block : goal.put_new-requires-clause-block
put_new-requires-clause-block g c = positive_block (g.V.View.seen c.args.view.now) c.is_a_view.ensures c.args.new.now.block (c.args.new.now.group, c.requires.group, c.requires.block)

pub put_new-requires-clause-parent_address : goal.put_new-requires-clause-parent_address
put_new-requires-clause-parent_address g c = positive_block (g.V.View.seen c.args.view.now) c.is_a_view.ensures c.args.place.now.inode c.requires.inside

pub returns-in_err-taken-clause-damaged : goal.returns-in_err-taken-clause-damaged
returns-in_err-taken-clause-damaged g c =
    let v = g.V.View.seen c.args.view.now in
    let dir = c.args.place.now.inode in
    let over = ap (λ d. d.view) c.new-draft.ensures in
    let f = c.in_err-taken.field-0.0 in
    let Wrong = IsWrongIn v dir (c.args.new.now.block ∷ c.args.room.now) in
    told_on Wrong _ _ c.from_residual-in_err-taken.ensures.1
    (tells_so (λ rule b. (h : Holding) → IsShown v dir h → IsWrongForName v h rule b) Wrong drafting.IsWrongIn.in_directory f
    (tells_each (IsShown v dir) (IsWrongForName v) f
    (λ h shown. subst (λ x. TellsOf (IsWrongForName (g.V.View.seen x) h) f) over (c.in_err-taken.ensures.damaged h (subst (λ x. IsShown (g.V.View.seen x) dir h) (sym over) shown)))))

pub returns-in-Is-None-clause-done : goal.returns-in-Is-None-clause-done
returns-in-Is-None-clause-done g c im o l t path of place =
    let v = g.V.View.seen c.args.view.now in
    let dir = c.args.place.now.inode in
    let h = holding im o dir in
    let over = ap (λ d. d.view) c.new-draft.ensures in
    let there = shown v im o l t of c.is_a_view.ensures path c.args.name.now c.args.place.now c.args.new.now c.args.room.now place in
    let can = can_get v im o l t of c.is_a_view.ensures path c.args.name.now c.args.place.now c.args.new.now c.args.room.now place in
    subst IsSome c.in-Is-None.field-0-is (answer_at _ _ _ c.in-Is-None.is
    (c.in_ok-taken.ensures.able h (subst (λ x. IsShown (g.V.View.seen x) dir h) (sym over) there) (subst (λ n. CanGetName h n c.args.room.now) (sym c.bytes.ensures.bytes) can)))

pub returns-in-NeedBlock-2-clause-needed : goal.returns-in-NeedBlock-2-clause-needed
returns-in-NeedBlock-2-clause-needed g c =
    let v = g.V.View.seen c.args.view.now in
    let dir = c.args.place.now.inode in
    let over = ap (λ d. d.view) c.new-draft.ensures in
    let m = c.in-NeedBlock-2.missing in
    drafting.IsNeededIn.in_directory (ap (λ x. (g.V.View.seen x).block_at m.block) (sym over) ∙ needed_at _ _ _ c.in-NeedBlock-2.is c.in_ok-taken.ensures.absent)
    (λ h shown. subst (λ n. IsNeededForName v h n m) c.bytes.ensures.bytes (subst (λ x. IsNeededForName (g.V.View.seen x) h c.bytes.result.now m) over
    (needed_at _ _ _ c.in-NeedBlock-2.is (c.in_ok-taken.ensures.needed h (subst (λ x. IsShown (g.V.View.seen x) dir h) (sym over) shown)))))

pub say_and_finish-requires-clause-taken : goal.say_and_finish-requires-clause-taken
say_and_finish-requires-clause-taken g c b there =
    subst (λ x. HasDataBlock (g.V.View.seen x) b) (sym (view3 g.V.View.seen c.args.view.now c.new-draft.result c.put_in_directory.new.draft c.put_new.new.draft c.new-draft.ensures (answer_at _ _ _ c.in-Is-Some.is c.in_ok-taken.ensures.view)
    c.args.is_directory c.args.place.now c.args.new.now c.in-Is.number c.args.stamp.now.time c.in_ok-put_new.ensures.put)) (c.requires.room b (take_has c.args.room.now c.in-Is-Some.taken b there))

pub say_and_finish-requires-clause-groups : goal.say_and_finish-requires-clause-groups
say_and_finish-requires-clause-groups g c =
    leaves_over g.V.View.seen c.args.view.now c.new-draft.result c.put_in_directory.new.draft c.put_new.new.draft c.new-draft.ensures (answer_at _ _ _ c.in-Is-Some.is c.in_ok-taken.ensures.view)
    c.args.is_directory c.args.place.now c.args.new.now c.in-Is.number c.args.stamp.now.time c.in_ok-put_new.ensures.put
    c.bytes.result.now c.kind_of_new.result c.kind_of_new.ensures c.args.room.now (take c.in-Is-Some.taken c.args.room.now)
    (subst (λ o. IfSome o (λ n. IsNamePut (g.V.View.seen c.new-draft.result.view) c.args.place.now.inode c.bytes.result.now (record { number = c.in-Is.number; addr = c.args.new.now.block; kind = c.kind_of_new.result }) c.args.stamp.now.time c.args.room.now
    (take n c.args.room.now) c.put_in_directory.new.draft.fates)) c.in-Is-Some.field-0-is (answer_at _ _ _ c.in-Is-Some.is c.in_ok-taken.ensures.put))
    c.is_a_view.ensures c.requires.group c.requires.block c.requires.inside c.requires.room

pub returns-in_err-change-clause-damaged : goal.returns-in_err-change-clause-damaged
returns-in_err-change-clause-damaged g c =
    let v = g.V.View.seen c.args.view.now in
    let blocks : List ℕ = c.args.new.now.block ∷ c.args.room.now in
    let some : List ℕ = c.args.new.now.block ∷ take c.in-Is-Some.taken c.args.room.now in
    let Wrong = IsWrongIn v c.args.place.now.inode blocks in
    let over = view3 g.V.View.seen c.args.view.now c.new-draft.result c.put_in_directory.new.draft c.put_new.new.draft c.new-draft.ensures (answer_at _ _ _ c.in-Is-Some.is c.in_ok-taken.ensures.view)
    c.args.is_directory c.args.place.now c.args.new.now c.in-Is.number c.args.stamp.now.time c.in_ok-put_new.ensures.put in
    told_on Wrong _ _ c.from_residual-in_err-change.ensures.1
    (tells_so (BreaksSome (g.V.View.seen c.put_new.new.draft.view) some) Wrong
    (λ rule b breaks. drafting.IsWrongIn.in_group rule b (breaks_wide v some blocks rule b (wide c.args.new.now.block c.args.room.now c.in-Is-Some.taken) (subst (λ x. BreaksSome (g.V.View.seen x) some rule b) over breaks)))
    c.in_err-change.field-0.0 c.in_err-change.ensures.damaged)

pub returns-in-Is-2-clause-added : goal.returns-in-Is-2-clause-added
returns-in-Is-2-clause-added g c =
    let v = g.V.View.seen c.args.view.now in
    let named = subst (λ o. IfSome o (λ n. IsNamePut (g.V.View.seen c.new-draft.result.view) c.args.place.now.inode c.bytes.result.now (record { number = c.in-Is.number; addr = c.args.new.now.block; kind = c.kind_of_new.result })
    c.args.stamp.now.time c.args.room.now (take n c.args.room.now) c.put_in_directory.new.draft.fates)) c.in-Is-Some.field-0-is (answer_at _ _ _ c.in-Is-Some.is c.in_ok-taken.ensures.put) in
    addition_is v c.args.is_directory c.args.place.now c.args.name.now c.args.new.now c.args.room.now c.args.stamp.now.time c.in-Is-2.change
    (done_is g.V.View.seen c.args.view.now c.new-draft.result c.put_in_directory.new.draft c.put_new.new.draft c.new-draft.ensures (answer_at _ _ _ c.in-Is-Some.is c.in_ok-taken.ensures.view)
    c.args.is_directory c.args.place.now c.args.new.now c.in-Is.number c.args.stamp.now.time c.in_ok-put_new.ensures.put
    c.args.name.now c.kind_of_new.result c.kind_of_new.ensures c.args.room.now (take c.in-Is-Some.taken c.args.room.now)
    (subst (λ n. IsNamePut (g.V.View.seen c.new-draft.result.view) c.args.place.now.inode n (record { number = c.in-Is.number; addr = c.args.new.now.block; kind = c.kind_of_new.result }) c.args.stamp.now.time c.args.room.now
    (take c.in-Is-Some.taken c.args.room.now) c.put_in_directory.new.draft.fates) c.bytes.ensures.bytes named)
    c.in-Is-2.change (answer_at _ _ _ c.in-Is-2.is c.in_ok-change.ensures.said) c.is_a_view.ensures (λ at seen. answer_at _ _ _ c.in-Is.is (c.in_ok-number.ensures.next at seen)))
    c.is_a_view.ensures c.requires.group c.requires.block c.requires.inside c.requires.room c.requires.apart c.bytes.ensures.name c.requires.there

pub returns-in-NeedBlock-3-clause-needed : goal.returns-in-NeedBlock-3-clause-needed
returns-in-NeedBlock-3-clause-needed g c =
    let v = g.V.View.seen c.args.view.now in
    let blocks : List ℕ = c.args.new.now.block ∷ c.args.room.now in
    let some : List ℕ = c.args.new.now.block ∷ take c.in-Is-Some.taken c.args.room.now in
    let over = view3 g.V.View.seen c.args.view.now c.new-draft.result c.put_in_directory.new.draft c.put_new.new.draft c.new-draft.ensures (answer_at _ _ _ c.in-Is-Some.is c.in_ok-taken.ensures.view)
    c.args.is_directory c.args.place.now c.args.new.now c.in-Is.number c.args.stamp.now.time c.in_ok-put_new.ensures.put in
    drafting.IsNeededIn.in_group (needed_wide v some blocks c.in-NeedBlock-3.missing (wide c.args.new.now.block c.args.room.now c.in-Is-Some.taken)
    (subst (λ x. IsNeededFor (g.V.View.seen x) some c.in-NeedBlock-3.missing) over (needed_at _ _ _ c.in-NeedBlock-3.is c.in_ok-change.ensures.needed)))
