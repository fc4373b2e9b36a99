use Rattle.std.proofs.Common.{◌≡◌, ℕ, false, true≢false, List, [], None, Some, refl, ap, ◌∙◌, sym, subst}
use Rattle.std.specs.Prelude.{Contains, IfSome, IsSome, Vec}
use Rattle.std.specs.declared.alloc.Global.{Global}
use Rattle.glock_names.specs.Steps.{TellsOf}
use Rattle.glock_names.specs.declared.steps.Step.TheVariants.{Is}
use Rattle.glock_names.proofs.StepLaws.{answer_at, needed_at}
use Rattle.call_locks.specs.WantLaws.{path_of}
use Rattle.growth_drafts.specs.Taken.{IsCutAt}
use Rattle.resource_groups.specs.Putting.{HasDataBlock}
use Rattle.file_changes.specs.Drafting.{IsCutDraft, IsFreedAndDone, IsNeededAt, IsWrongAt}
use Rattle.file_changes.specs.Groups.{GroupsAreHeld, IsFirstGroupLack}
use Rattle.path_walks.proofs.Faults.{told_on, tells_so}
use Rattle.writing_calls.specs.Writing.{IsChangeOf, IsDamage, IsLackedFor, IsNeededFor}
use Rattle.writing_calls.proofs.Images as images
use Rattle.writing_calls.proofs.Cutting.{all_held, can_be, cut_asked, cut_does, cut_under, cuts_edit, cuts_short, cuts_there, first_lack, freeing_asked}
use Rattle.writing_calls.proofs.cuts.cut_at.Goals as goal

pub returns-in_err-freed-clause-sound : goal.returns-in_err-freed-clause-sound
returns-in_err-freed-clause-sound g c im o l t of =
    let v = g.V.View.seen c.args.view.now in
    told_on (λ rule b. ⊥) _ _ c.from_residual.ensures.1
    (tells_so (IsWrongAt v c.args.place.now.inode []) (λ rule b. ⊥) (images.none_wrong v c.args.call.now c.args.place.now (cuts_edit c.args.call.now c.args.place.now.dinode.size c.args.size c.requires.cuts) c.requires.seen c.requires.file (cuts_short c.args.call.now c.args.place.now.dinode.size c.args.size c.requires.cuts c.requires.short) im o l t of (c.requires.walked im o l t of) []) c.in_err-freed.field-0.0 c.in_err-freed.ensures.damaged)

pub returns-in_err-freed-clause-damaged : goal.returns-in_err-freed-clause-damaged
returns-in_err-freed-clause-damaged g c =
    let v = g.V.View.seen c.args.view.now in
    told_on (IsDamage v c.args.call.now) _ _ c.from_residual.ensures.1
    (tells_so (IsWrongAt v c.args.place.now.inode []) (IsDamage v c.args.call.now) (λ rule b wrong. IsDamage.in_file c.args.place.now.inode rule b (images.to_change v c.args.call.now c.args.place.now (cuts_edit c.args.call.now c.args.place.now.dinode.size c.args.size c.requires.cuts) c.requires.seen c.requires.file (cuts_short c.args.call.now c.args.place.now.dinode.size c.args.size c.requires.cuts c.requires.short) c.requires.inside) wrong) c.in_err-freed.field-0.0 c.in_err-freed.ensures.damaged)

pub returns-in-Is-None-clause-found : goal.returns-in-Is-None-clause-found
returns-in-Is-None-clause-found g c im o l t of =
    let v = g.V.View.seen c.args.view.now in
    true≢false (sym (answer_at _ None IsSome (c.in-Is-None.is ∙ ap Is c.in-Is-None.field-0-is) (c.in_ok-freed.ensures.done im o l t (path_of c.args.call.now false) of (c.requires.walked im o l t of).0.at (can_be v c.args.call.now c.args.place.now (cuts_edit c.args.call.now c.args.place.now.dinode.size c.args.size c.requires.cuts) c.requires.seen c.requires.file (cuts_short c.args.call.now c.args.place.now.dinode.size c.args.size c.requires.cuts c.requires.short) c.args.size c.requires.cuts im o l t of (c.requires.walked im o l t of)))))

pub returns-in-Is-None-clause-told : goal.returns-in-Is-None-clause-told
returns-in-Is-None-clause-told g c =
    let v = g.V.View.seen c.args.view.now in
    (c.args.place.now.inode, (images.to_change v c.args.call.now c.args.place.now (cuts_edit c.args.call.now c.args.place.now.dinode.size c.args.size c.requires.cuts) c.requires.seen c.requires.file (cuts_short c.args.call.now c.args.place.now.dinode.size c.args.size c.requires.cuts c.requires.short) c.requires.inside))

pub returns-in-NeedBlock-clause-found : goal.returns-in-NeedBlock-clause-found
returns-in-NeedBlock-clause-found g c im o l t of =
    let v = g.V.View.seen c.args.view.now in
    cut_asked v c.args.call.now c.args.place.now (cuts_edit c.args.call.now c.args.place.now.dinode.size c.args.size c.requires.cuts) c.requires.seen c.requires.file (cuts_short c.args.call.now c.args.place.now.dinode.size c.args.size c.requires.cuts c.requires.short) c.args.size c.requires.cuts im o l t of (c.requires.walked im o l t of) c.args.stamp.now.node c.in-NeedBlock.missing (needed_at _ _ (IsNeededAt v c.args.place.now.inode (λ h. IsCutAt h c.args.size) []) c.in-NeedBlock.is c.in_ok-freed.ensures.needed)

pub returns-in-NeedBlock-clause-told : goal.returns-in-NeedBlock-clause-told
returns-in-NeedBlock-clause-told g c =
    let v = g.V.View.seen c.args.view.now in
    IsNeededFor.of_cut c.args.place.now.inode c.args.size (images.to_change v c.args.call.now c.args.place.now (cuts_edit c.args.call.now c.args.place.now.dinode.size c.args.size c.requires.cuts) c.requires.seen c.requires.file (cuts_short c.args.call.now c.args.place.now.dinode.size c.args.size c.requires.cuts c.requires.short) c.requires.inside) (cuts_there v c.args.call.now c.args.place.now (cuts_edit c.args.call.now c.args.place.now.dinode.size c.args.size c.requires.cuts) c.requires.seen c.requires.file (cuts_short c.args.call.now c.args.place.now.dinode.size c.args.size c.requires.cuts c.requires.short) c.args.size c.requires.cuts) (needed_at _ _ (IsNeededAt v c.args.place.now.inode (λ h. IsCutAt h c.args.size) []) c.in-NeedBlock.is c.in_ok-freed.ensures.needed)

pub returns-in-Some-clause-found : goal.returns-in-Some-clause-found
returns-in-Some-clause-found g c im o l t of =
    let v = g.V.View.seen c.args.view.now in
    first_lack c.cuts_free_exactly.ensures c.cuts_make_files.ensures c.files_are_inodes.ensures.files v c.args.call.now c.args.place.now (cuts_edit c.args.call.now c.args.place.now.dinode.size c.args.size c.requires.cuts) c.requires.seen c.requires.file (cuts_short c.args.call.now c.args.place.now.dinode.size c.args.size c.requires.cuts c.requires.short) c.args.size c.requires.cuts c.args.stamp.now.node c.args.stamp.now.time c.in-Is-Some.freed.items c.cut_file.new.draft.fates (answer_at _ (Some c.in-Is-Some.freed) (λ done. IfSome done (λ (x : Vec ℕ Global). IsCutDraft v c.args.place.now.inode c.args.size c.args.stamp.now.time x.items c.cut_file.new.draft.fates)) (c.in-Is-Some.is ∙ ap Is c.in-Is-Some.field-0-is) c.in_ok-freed.ensures.cut) c.is_a_view.ensures im o l t of (c.requires.walked im o l t of) c.in-Some.lock (subst (λ (xs : List ℕ). IsFirstGroupLack v xs c.in-Some.lock) c.deref.ensures.value c.in-Some.ensures.some)

pub returns-in-Some-clause-told : goal.returns-in-Some-clause-told
returns-in-Some-clause-told g c =
    let v = g.V.View.seen c.args.view.now in
    IsLackedFor.of_freed c.args.place.now.inode c.args.size c.args.stamp.now.time c.in-Is-Some.freed.items c.cut_file.new.draft.fates (images.to_change v c.args.call.now c.args.place.now (cuts_edit c.args.call.now c.args.place.now.dinode.size c.args.size c.requires.cuts) c.requires.seen c.requires.file (cuts_short c.args.call.now c.args.place.now.dinode.size c.args.size c.requires.cuts c.requires.short) c.requires.inside) (cuts_there v c.args.call.now c.args.place.now (cuts_edit c.args.call.now c.args.place.now.dinode.size c.args.size c.requires.cuts) c.requires.seen c.requires.file (cuts_short c.args.call.now c.args.place.now.dinode.size c.args.size c.requires.cuts c.requires.short) c.args.size c.requires.cuts) (answer_at _ (Some c.in-Is-Some.freed) (λ done. IfSome done (λ (x : Vec ℕ Global). IsCutDraft v c.args.place.now.inode c.args.size c.args.stamp.now.time x.items c.cut_file.new.draft.fates)) (c.in-Is-Some.is ∙ ap Is c.in-Is-Some.field-0-is) c.in_ok-freed.ensures.cut) (subst (λ (xs : List ℕ). IsFirstGroupLack v xs c.in-Some.lock) c.deref.ensures.value c.in-Some.ensures.some) refl

pub free_and_finish-requires-clause-over : goal.free_and_finish-requires-clause-over
free_and_finish-requires-clause-over g c =
    let v = g.V.View.seen c.args.view.now in
    answer_at _ (Some c.in-Is-Some.freed) (λ done. IfSome done (λ (x : Vec ℕ Global). c.cut_file.new.draft.view ≡ c.args.view.now)) (c.in-Is-Some.is ∙ ap Is c.in-Is-Some.field-0-is) c.in_ok-freed.ensures.view

pub free_and_finish-requires-clause-inside : goal.free_and_finish-requires-clause-inside
free_and_finish-requires-clause-inside g c b has =
    let v = g.V.View.seen c.args.view.now in
    (answer_at _ (Some c.in-Is-Some.freed) (λ done. IfSome done (λ (x : Vec ℕ Global). (b : ℕ) → Contains x.items b → HasDataBlock v b)) (c.in-Is-Some.is ∙ ap Is c.in-Is-Some.field-0-is) c.in_ok-freed.ensures.inside) b (subst (λ (xs : List ℕ). Contains xs b) c.deref-2.ensures.value has)

pub returns-in_err-change-clause-sound : goal.returns-in_err-change-clause-sound
returns-in_err-change-clause-sound g c im o l t of =
    let v = g.V.View.seen c.args.view.now in
    told_on (λ rule b. ⊥) _ _ c.from_residual-in_err-change.ensures.1
    (tells_so (IsWrongAt v c.args.place.now.inode c.in-Is-Some.freed.items) (λ rule b. ⊥) (images.none_wrong v c.args.call.now c.args.place.now (cuts_edit c.args.call.now c.args.place.now.dinode.size c.args.size c.requires.cuts) c.requires.seen c.requires.file (cuts_short c.args.call.now c.args.place.now.dinode.size c.args.size c.requires.cuts c.requires.short) im o l t of (c.requires.walked im o l t of) c.in-Is-Some.freed.items) c.in_err-change.field-0.0
    (subst (λ (xs : List ℕ). TellsOf (IsWrongAt v c.args.place.now.inode xs) c.in_err-change.field-0.0) c.deref-2.ensures.value c.in_err-change.ensures.damaged))

pub returns-in_err-change-clause-damaged : goal.returns-in_err-change-clause-damaged
returns-in_err-change-clause-damaged g c =
    let v = g.V.View.seen c.args.view.now in
    told_on (IsDamage v c.args.call.now) _ _ c.from_residual-in_err-change.ensures.1
    (tells_so (IsWrongAt v c.args.place.now.inode c.in-Is-Some.freed.items) (IsDamage v c.args.call.now)
    (λ rule b wrong. IsDamage.of_freed c.args.place.now.inode c.args.size c.args.stamp.now.time c.in-Is-Some.freed.items c.cut_file.new.draft.fates rule b (images.to_change v c.args.call.now c.args.place.now (cuts_edit c.args.call.now c.args.place.now.dinode.size c.args.size c.requires.cuts) c.requires.seen c.requires.file (cuts_short c.args.call.now c.args.place.now.dinode.size c.args.size c.requires.cuts c.requires.short) c.requires.inside) (cuts_there v c.args.call.now c.args.place.now (cuts_edit c.args.call.now c.args.place.now.dinode.size c.args.size c.requires.cuts) c.requires.seen c.requires.file (cuts_short c.args.call.now c.args.place.now.dinode.size c.args.size c.requires.cuts c.requires.short) c.args.size c.requires.cuts) (answer_at _ (Some c.in-Is-Some.freed) (λ done. IfSome done (λ (x : Vec ℕ Global). IsCutDraft v c.args.place.now.inode c.args.size c.args.stamp.now.time x.items c.cut_file.new.draft.fates)) (c.in-Is-Some.is ∙ ap Is c.in-Is-Some.field-0-is) c.in_ok-freed.ensures.cut) (subst (λ (xs : List ℕ). GroupsAreHeld v xs) c.deref.ensures.value c.in_default.ensures.none) wrong) c.in_err-change.field-0.0
    (subst (λ (xs : List ℕ). TellsOf (IsWrongAt v c.args.place.now.inode xs) c.in_err-change.field-0.0) c.deref-2.ensures.value c.in_err-change.ensures.damaged))

pub returns-in-Is-Some-2-clause-found : goal.returns-in-Is-Some-2-clause-found
returns-in-Is-Some-2-clause-found g c im o l t of =
    let v = g.V.View.seen c.args.view.now in (
      images.ok v c.args.call.now c.args.place.now (cuts_edit c.args.call.now c.args.place.now.dinode.size c.args.size c.requires.cuts) c.requires.seen c.requires.file (cuts_short c.args.call.now c.args.place.now.dinode.size c.args.size c.requires.cuts c.requires.short) im o l t of (c.requires.walked im o l t of),
      all_held c.cuts_free_exactly.ensures c.cuts_make_files.ensures c.files_are_inodes.ensures.files v c.args.call.now c.args.place.now (cuts_edit c.args.call.now c.args.place.now.dinode.size c.args.size c.requires.cuts) c.requires.seen c.requires.file (cuts_short c.args.call.now c.args.place.now.dinode.size c.args.size c.requires.cuts c.requires.short) c.args.size c.requires.cuts c.args.stamp.now.node c.args.stamp.now.time c.in-Is-Some.freed.items c.cut_file.new.draft.fates (answer_at _ (Some c.in-Is-Some.freed) (λ done. IfSome done (λ (x : Vec ℕ Global). IsCutDraft v c.args.place.now.inode c.args.size c.args.stamp.now.time x.items c.cut_file.new.draft.fates)) (c.in-Is-Some.is ∙ ap Is c.in-Is-Some.field-0-is) c.in_ok-freed.ensures.cut) c.is_a_view.ensures im o l t of (c.requires.walked im o l t of) (subst (λ (xs : List ℕ). GroupsAreHeld v xs) c.deref.ensures.value c.in_default.ensures.none),
      cut_under c.cuts_free_exactly.ensures c.cuts_make_files.ensures c.files_are_inodes.ensures.files v c.args.call.now c.args.place.now (cuts_edit c.args.call.now c.args.place.now.dinode.size c.args.size c.requires.cuts) c.requires.seen c.requires.file (cuts_short c.args.call.now c.args.place.now.dinode.size c.args.size c.requires.cuts c.requires.short) c.args.size c.requires.cuts c.args.stamp.now.node c.args.stamp.now.time c.in-Is-Some.freed.items c.cut_file.new.draft.fates (answer_at _ (Some c.in-Is-Some.freed) (λ done. IfSome done (λ (x : Vec ℕ Global). IsCutDraft v c.args.place.now.inode c.args.size c.args.stamp.now.time x.items c.cut_file.new.draft.fates)) (c.in-Is-Some.is ∙ ap Is c.in-Is-Some.field-0-is) c.in_ok-freed.ensures.cut) c.is_a_view.ensures im o l t of (c.requires.walked im o l t of) (subst (λ (xs : List ℕ). GroupsAreHeld v xs) c.deref.ensures.value c.in_default.ensures.none) c.in-Is-Some-2.change (subst (λ (xs : List ℕ). IsFreedAndDone v c.cut_file.new.draft.fates xs c.in-Is-Some-2.change) c.deref-2.ensures.value
          (answer_at _ (Some c.in-Is-Some-2.change) (λ done. IfSome done (IsFreedAndDone v c.cut_file.new.draft.fates c.deref-2.result.now)) (c.in-Is-Some-2.is ∙ ap Is c.in-Is-Some-2.field-0-is) c.in_ok-change.ensures.done)),
    )

pub returns-in-Is-Some-2-clause-done : goal.returns-in-Is-Some-2-clause-done
returns-in-Is-Some-2-clause-done g c =
    let v = g.V.View.seen c.args.view.now in
    cut_does c.cuts_free_exactly.ensures c.cuts_make_files.ensures c.files_are_inodes.ensures.files v c.args.call.now c.args.place.now (cuts_edit c.args.call.now c.args.place.now.dinode.size c.args.size c.requires.cuts) c.requires.seen c.requires.file (cuts_short c.args.call.now c.args.place.now.dinode.size c.args.size c.requires.cuts c.requires.short) c.args.size c.requires.cuts c.args.stamp.now.node c.args.stamp.now.time c.in-Is-Some.freed.items c.cut_file.new.draft.fates (answer_at _ (Some c.in-Is-Some.freed) (λ done. IfSome done (λ (x : Vec ℕ Global). IsCutDraft v c.args.place.now.inode c.args.size c.args.stamp.now.time x.items c.cut_file.new.draft.fates)) (c.in-Is-Some.is ∙ ap Is c.in-Is-Some.field-0-is) c.in_ok-freed.ensures.cut) c.is_a_view.ensures (answer_at _ (Some c.in-Is-Some.freed) (λ done. IfSome done (λ (x : Vec ℕ Global). (b : ℕ) → Contains x.items b → HasDataBlock v b)) (c.in-Is-Some.is ∙ ap Is c.in-Is-Some.field-0-is) c.in_ok-freed.ensures.inside) (subst (λ (xs : List ℕ). GroupsAreHeld v xs) c.deref.ensures.value c.in_default.ensures.none) c.in-Is-Some-2.change (subst (λ (xs : List ℕ). IsFreedAndDone v c.cut_file.new.draft.fates xs c.in-Is-Some-2.change) c.deref-2.ensures.value
    (answer_at _ (Some c.in-Is-Some-2.change) (λ done. IfSome done (IsFreedAndDone v c.cut_file.new.draft.fates c.deref-2.result.now)) (c.in-Is-Some-2.is ∙ ap Is c.in-Is-Some-2.field-0-is) c.in_ok-change.ensures.done)) c.requires.walked

pub returns-in-Is-Some-2-clause-told : goal.returns-in-Is-Some-2-clause-told
returns-in-Is-Some-2-clause-told g c =
    let v = g.V.View.seen c.args.view.now in (
      c.args.place.now.inode,
      (images.to_change v c.args.call.now c.args.place.now (cuts_edit c.args.call.now c.args.place.now.dinode.size c.args.size c.requires.cuts) c.requires.seen c.requires.file (cuts_short c.args.call.now c.args.place.now.dinode.size c.args.size c.requires.cuts c.requires.short) c.requires.inside),
      IsChangeOf.by_cut c.args.size c.in-Is-Some.freed.items c.cut_file.new.draft.fates (cuts_there v c.args.call.now c.args.place.now (cuts_edit c.args.call.now c.args.place.now.dinode.size c.args.size c.requires.cuts) c.requires.seen c.requires.file (cuts_short c.args.call.now c.args.place.now.dinode.size c.args.size c.requires.cuts c.requires.short) c.args.size c.requires.cuts) (answer_at _ (Some c.in-Is-Some.freed) (λ done. IfSome done (λ (x : Vec ℕ Global). IsCutDraft v c.args.place.now.inode c.args.size c.args.stamp.now.time x.items c.cut_file.new.draft.fates)) (c.in-Is-Some.is ∙ ap Is c.in-Is-Some.field-0-is) c.in_ok-freed.ensures.cut) (subst (λ (xs : List ℕ). GroupsAreHeld v xs) c.deref.ensures.value c.in_default.ensures.none) (subst (λ (xs : List ℕ). IsFreedAndDone v c.cut_file.new.draft.fates xs c.in-Is-Some-2.change) c.deref-2.ensures.value
          (answer_at _ (Some c.in-Is-Some-2.change) (λ done. IfSome done (IsFreedAndDone v c.cut_file.new.draft.fates c.deref-2.result.now)) (c.in-Is-Some-2.is ∙ ap Is c.in-Is-Some-2.field-0-is) c.in_ok-change.ensures.done)),
    )

pub returns-in-Is-None-2-clause-found : goal.returns-in-Is-None-2-clause-found
returns-in-Is-None-2-clause-found g c im o l t of =
    let v = g.V.View.seen c.args.view.now in
    let draft = (answer_at _ (Some c.in-Is-Some.freed) (λ done. IfSome done (λ (x : Vec ℕ Global). IsCutDraft v c.args.place.now.inode c.args.size c.args.stamp.now.time x.items c.cut_file.new.draft.fates)) (c.in-Is-Some.is ∙ ap Is c.in-Is-Some.field-0-is) c.in_ok-freed.ensures.cut) in
    let some = c.in_ok-change.ensures.sound im o l t (path_of c.args.call.now false) c.args.size c.args.stamp.now.time of (c.requires.walked im o l t of).0.at (subst (λ (xs : List ℕ). IsCutDraft v c.args.place.now.inode c.args.size c.args.stamp.now.time xs c.cut_file.new.draft.fates) (sym c.deref-2.ensures.value) draft) (can_be v c.args.call.now c.args.place.now (cuts_edit c.args.call.now c.args.place.now.dinode.size c.args.size c.requires.cuts) c.requires.seen c.requires.file (cuts_short c.args.call.now c.args.place.now.dinode.size c.args.size c.requires.cuts c.requires.short) c.args.size c.requires.cuts im o l t of (c.requires.walked im o l t of)) in
    true≢false (sym (answer_at _ None IsSome (c.in-Is-None-2.is ∙ ap Is c.in-Is-None-2.field-0-is) some))

pub returns-in-Is-None-2-clause-told : goal.returns-in-Is-None-2-clause-told
returns-in-Is-None-2-clause-told g c =
    let v = g.V.View.seen c.args.view.now in
    (c.args.place.now.inode, (images.to_change v c.args.call.now c.args.place.now (cuts_edit c.args.call.now c.args.place.now.dinode.size c.args.size c.requires.cuts) c.requires.seen c.requires.file (cuts_short c.args.call.now c.args.place.now.dinode.size c.args.size c.requires.cuts c.requires.short) c.requires.inside))

pub returns-clause-found : goal.returns-clause-found
returns-clause-found g c im o l t of =
    let v = g.V.View.seen c.args.view.now in
    freeing_asked c.cuts_free_exactly.ensures c.cuts_make_files.ensures c.files_are_inodes.ensures.files v c.args.call.now c.args.place.now (cuts_edit c.args.call.now c.args.place.now.dinode.size c.args.size c.requires.cuts) c.requires.seen c.requires.file (cuts_short c.args.call.now c.args.place.now.dinode.size c.args.size c.requires.cuts c.requires.short) c.args.size c.requires.cuts c.args.stamp.now.node c.args.stamp.now.time c.in-Is-Some.freed.items c.cut_file.new.draft.fates (answer_at _ (Some c.in-Is-Some.freed) (λ done. IfSome done (λ (x : Vec ℕ Global). IsCutDraft v c.args.place.now.inode c.args.size c.args.stamp.now.time x.items c.cut_file.new.draft.fates)) (c.in-Is-Some.is ∙ ap Is c.in-Is-Some.field-0-is) c.in_ok-freed.ensures.cut) c.is_a_view.ensures im o l t of (c.requires.walked im o l t of) (subst (λ (xs : List ℕ). GroupsAreHeld v xs) c.deref.ensures.value c.in_default.ensures.none) c.in-NeedBlock-2.missing
    (subst (λ (xs : List ℕ). IsNeededAt v c.args.place.now.inode (λ h i. ⊥) xs c.in-NeedBlock-2.missing) c.deref-2.ensures.value
    (needed_at _ _ (IsNeededAt v c.args.place.now.inode (λ h i. ⊥) c.deref-2.result.now) c.in-NeedBlock-2.is c.in_ok-change.ensures.needed))

pub returns-clause-told : goal.returns-clause-told
returns-clause-told g c =
    let v = g.V.View.seen c.args.view.now in
    IsNeededFor.of_freed c.args.place.now.inode c.args.size c.args.stamp.now.time c.in-Is-Some.freed.items c.cut_file.new.draft.fates (images.to_change v c.args.call.now c.args.place.now (cuts_edit c.args.call.now c.args.place.now.dinode.size c.args.size c.requires.cuts) c.requires.seen c.requires.file (cuts_short c.args.call.now c.args.place.now.dinode.size c.args.size c.requires.cuts c.requires.short) c.requires.inside) (cuts_there v c.args.call.now c.args.place.now (cuts_edit c.args.call.now c.args.place.now.dinode.size c.args.size c.requires.cuts) c.requires.seen c.requires.file (cuts_short c.args.call.now c.args.place.now.dinode.size c.args.size c.requires.cuts c.requires.short) c.args.size c.requires.cuts) (answer_at _ (Some c.in-Is-Some.freed) (λ done. IfSome done (λ (x : Vec ℕ Global). IsCutDraft v c.args.place.now.inode c.args.size c.args.stamp.now.time x.items c.cut_file.new.draft.fates)) (c.in-Is-Some.is ∙ ap Is c.in-Is-Some.field-0-is) c.in_ok-freed.ensures.cut) (subst (λ (xs : List ℕ). GroupsAreHeld v xs) c.deref.ensures.value c.in_default.ensures.none)
    (subst (λ (xs : List ℕ). IsNeededAt v c.args.place.now.inode (λ h i. ⊥) xs c.in-NeedBlock-2.missing) c.deref-2.ensures.value
    (needed_at _ _ (IsNeededAt v c.args.place.now.inode (λ h i. ⊥) c.deref-2.result.now) c.in-NeedBlock-2.is c.in_ok-change.ensures.needed))
