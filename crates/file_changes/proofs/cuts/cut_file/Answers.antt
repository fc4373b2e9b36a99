use Rattle.std.proofs.Common.{◌≡◌, ℕ, [], Vec, Global, true, true≢false, sym, ◌∙◌, subst}
use Rattle.std.specs.Prelude.{Contains}
use Rattle.drafts.specs.Fates.{seen_in}
use Rattle.gfs2_layout.specs.Holding.{Holding}
use Rattle.glock_names.proofs.StepLaws.{answer_at, needed_at}
use Rattle.glock_names.specs.Steps.{TellsOf}
use Rattle.glock_names.specs.Views.{HasBlock, IsOfView}
use Rattle.dinode_tree.specs.Broken.{IsBroken}
use Rattle.dinode_tree.specs.Reading.{IsNeeded}
use Rattle.dinode_tree.specs.Shown.{IsShown}
use Rattle.growth_drafts.specs.Taken.{IsCutAt}
use Rattle.growth_drafts.specs.Touched.{Follows}
use Rattle.file_cuts.specs.Cut.{HasCut, WasLedTo}
use Rattle.resource_groups.specs.Putting.{HasDataBlock}
use Rattle.image_model.specs.Owners.{holding}
use Rattle.group_locks.proofs.Faults.{told_on, tells_so, tells_all}
use Rattle.file_changes.specs.Drafting.{IsNeededAt, IsWrongAt, in_inode}
use Rattle.file_changes.proofs.CutSteps.{shown_new, there_still, is_cut_draft, shown_there, freed_inside, some_at, if_some_at, none_at, left_inode}
use Rattle.file_changes.proofs.Cutting.{can_cut}
use Rattle.file_changes.proofs.Fresh.{seen_new}
use Rattle.file_changes.proofs.Stepping.{not_both}
use Rattle.file_changes.proofs.cuts.cut_file.Goals as goal

pub returns-in_err-freed-clause-damaged : goal.returns-in_err-freed-clause-damaged
returns-in_err-freed-clause-damaged g c =
    let v = g.V.View.seen c.args.view.now in
    told_on (IsWrongAt v c.args.inode []) c.from_residual.result _ c.from_residual.ensures.1
    (tells_so (λ rule b. (h : Holding) → IsShown v c.args.inode h → IsBroken h rule b) (IsWrongAt v c.args.inode []) in_inode c.in_err-freed.field-0.0
    (tells_all v c.args.inode IsBroken c.in_err-freed.field-0.0 (λ h shown. c.in_err-freed.ensures.damaged h (shown_new g.V.View.seen c.args.view.now c.args.draft.now c.requires.new c.args.inode c.args.size h shown))))

pub returns-in_err-freed-clause-kept : goal.returns-in_err-freed-clause-kept
returns-in_err-freed-clause-kept g c =
    told_on (IsOfView (g.V.View.seen c.args.view.now)) c.from_residual.result _ c.from_residual.ensures.1
    (subst (λ w. TellsOf (IsOfView w) c.in_err-freed.field-0.0) (seen_new g.V.View.seen c.args.view.now c.args.draft.now c.requires.new) c.in_err-freed.ensures.kept)

pub returns-in-Is-None-clause-done : goal.returns-in-Is-None-clause-done
returns-in-Is-None-clause-done g c im o l t path of at can =
    let v = g.V.View.seen c.args.view.now in
    let h = holding im o c.args.inode in
    absurd (none_at c.in_ok-freed.field-0 c.in-Is-None.field-0 (λ (xs : Vec ℕ Global). HasCut (seen_in g.V.View.seen c.cut.new.draft) c.args.draft.now.fates c.cut.new.draft.fates h c.args.size xs.items) c.in-Is-None.is c.in-Is-None.field-0-is
    (c.in_ok-freed.ensures.cut h (shown_new g.V.View.seen c.args.view.now c.args.draft.now c.requires.new c.args.inode c.args.size h (shown_there v im o l t path of c.args.inode at))
    (can_cut v im o l t path of c.args.inode at c.files_are_inodes.ensures.files c.args.size can)))

pub returns-in-NeedBlock-clause-needed : goal.returns-in-NeedBlock-clause-needed
returns-in-NeedBlock-clause-needed g c =
    let v = g.V.View.seen c.args.view.now in
    IsNeededAt.of_inode (λ h shown. subst (λ w. IsNeeded w h (IsCutAt h c.args.size) 0 c.in-NeedBlock.missing) (seen_new g.V.View.seen c.args.view.now c.args.draft.now c.requires.new)
    (needed_at _ _ _ c.in-NeedBlock.is (c.in_ok-freed.ensures.needed h (shown_new g.V.View.seen c.args.view.now c.args.draft.now c.requires.new c.args.inode c.args.size h shown))))

pub returns-in_err-check_data_blocks-clause-damaged : goal.returns-in_err-check_data_blocks-clause-damaged
returns-in_err-check_data_blocks-clause-damaged g c =
    told_on (IsWrongAt (g.V.View.seen c.args.view.now) c.args.inode []) c.from_residual-in_err-check_data_blocks.result _ c.from_residual-in_err-check_data_blocks.ensures.1 (c.in_err-check_data_blocks.ensures.damaged [])

pub returns-in-Is-false-clause-done : goal.returns-in-Is-false-clause-done
returns-in-Is-false-clause-done g c im o l t path of at can =
    let v = g.V.View.seen c.args.view.now in
    let h = holding im o c.args.inode in
    let cut = some_at c.in_ok-freed.field-0 c.in-Is-Some.field-0 c.in-Is-Some.freed (λ (xs : Vec ℕ Global). HasCut (seen_in g.V.View.seen c.cut.new.draft) c.args.draft.now.fates c.cut.new.draft.fates h c.args.size xs.items) c.in-Is-Some.is c.in-Is-Some.field-0-is
    (c.in_ok-freed.ensures.cut h (shown_new g.V.View.seen c.args.view.now c.args.draft.now c.requires.new c.args.inode c.args.size h (shown_there v im o l t path of c.args.inode at))
    (can_cut v im o l t path of c.args.inode at c.files_are_inodes.ensures.files c.args.size can)) in
    absurd (not_both c.in_ok-check_data_blocks.field-0 c.in-Is-false.field-0
    (c.in_ok-check_data_blocks.ensures.all (λ b has. freed_inside v im o l t path of c.args.inode at (seen_in g.V.View.seen c.cut.new.draft) c.args.draft.now.fates c.cut.new.draft.fates c.args.size c.in-Is-Some.freed.items cut b
    (subst (λ xs. Contains xs b) c.deref.ensures.value has)))
    c.in-Is-false.is c.in-Is-false.field-0-test)

pub returns-in-NeedBlock-2-clause-needed : goal.returns-in-NeedBlock-2-clause-needed
returns-in-NeedBlock-2-clause-needed g c = IsNeededAt.of_any (λ h shown. needed_at _ _ _ c.in-NeedBlock-2.is (c.in_ok-check_data_blocks.ensures.needed h shown))

pub put_time-requires : goal.put_time-requires
put_time-requires g c = record {
  there = there_still g.V.View.seen c.args.view.now c.args.draft.now c.requires.new c.args.inode c.args.size c.cut.new.draft c.cut.ensures.view
      (answer_at c.in_ok-freed.field-0 c.in-Is-Some.field-0 (λ done. HasBlock (seen_in g.V.View.seen c.args.draft.now) c.args.inode) c.in-Is-Some.is c.in_ok-freed.ensures.there);
}

pub returns-then-not-branch-clause-done : goal.returns-then-not-branch-clause-done
returns-then-not-branch-clause-done g c im o l t path of at can =
    let v = g.V.View.seen c.args.view.now in
    let h = holding im o c.args.inode in
    let cut = some_at c.in_ok-freed.field-0 c.in-Is-Some.field-0 c.in-Is-Some.freed (λ (xs : Vec ℕ Global). HasCut (seen_in g.V.View.seen c.cut.new.draft) c.args.draft.now.fates c.cut.new.draft.fates h c.args.size xs.items) c.in-Is-Some.is c.in-Is-Some.field-0-is
    (c.in_ok-freed.ensures.cut h (shown_new g.V.View.seen c.args.view.now c.args.draft.now c.requires.new c.args.inode c.args.size h (shown_there v im o l t path of c.args.inode at))
    (can_cut v im o l t path of c.args.inode at c.files_are_inodes.ensures.files c.args.size can)) in
    absurd (true≢false (sym (c.in_ok-put_time.ensures.sound cut.g cut.shown (left_inode c.files_are_inodes.ensures.inodes (seen_in g.V.View.seen c.cut.new.draft) c.args.draft.now.fates c.cut.new.draft.fates h c.args.size c.in-Is-Some.freed.items cut)) ∙ c.if-not-branch.true))

pub returns-clause-cut : goal.returns-clause-cut
returns-clause-cut g c =
    is_cut_draft g.V.View.seen c.args.view.now c.args.draft.now c.requires.new c.args.inode c.args.size c.cut.new.draft c.cut.ensures.view c.args.time c.in-Is-Some.freed.items c.put_time.new.draft.fates
    (answer_at c.in_ok-freed.field-0 c.in-Is-Some.field-0 (λ done. Follows (g.V.View.seen c.args.draft.now.view) c.args.inode [] c.args.draft.now.fates c.cut.new.draft.fates) c.in-Is-Some.is (c.in_ok-freed.ensures.within []))
    (λ h shown can. some_at c.in_ok-freed.field-0 c.in-Is-Some.field-0 c.in-Is-Some.freed (λ (xs : Vec ℕ Global). HasCut (seen_in g.V.View.seen c.cut.new.draft) c.args.draft.now.fates c.cut.new.draft.fates h c.args.size xs.items) c.in-Is-Some.is c.in-Is-Some.field-0-is (c.in_ok-freed.ensures.cut h shown can))
    (if_some_at c.in_ok-freed.field-0 c.in-Is-Some.field-0 c.in-Is-Some.freed (λ (xs : Vec ℕ Global). (b : ℕ) → Contains xs.items b → WasLedTo (g.V.View.seen c.args.draft.now.view) c.args.inode c.args.draft.now.fates c.cut.new.draft.fates b) c.in-Is-Some.is c.in-Is-Some.field-0-is c.in_ok-freed.ensures.led)
    (λ b is. answer_at c.in_ok-check_data_blocks.field-0 c.in-Is-true.field-0 (λ inside. inside ≡ true → (x : ℕ) → Contains c.deref.result.now x → HasDataBlock (g.V.View.seen c.args.view.now) x) c.in-Is-true.is c.in_ok-check_data_blocks.ensures.inside c.in-Is-true.field-0-test b (subst (λ xs. Contains xs b) (sym c.deref.ensures.value) is))
    (c.in_ok-put_time.ensures.timed c.if-not-branch.false)
