use Rattle.std.proofs.Common.{◌≡◌, ◌/◌, length, sym, subst, ◌∙◌}
use Rattle.std.specs.Prelude.{◌↔◌, Contains}
use Rattle.image_model.specs.Image.{image_in}
use Rattle.image_model.specs.SystemFiles.{IsSystemBlock}
use Rattle.image_journals.proofs.Read.{handed, so_found}
use Rattle.replayed_trees.proofs.Marked.{are_marked, fresh_of, with_length}
use Rattle.replayed_trees.proofs.marking.first_marks.Goals as goal

pub returns-in_err-groups-clause-marks : goal.returns-in_err-groups-clause-marks
returns-in_err-groups-clause-marks c r o l same laid found = handed c.from_residual.result _ _ _ c.from_residual.ensures.1 (c.in_err-groups.ensures r o l same laid)

pub returns-in_err-system-clause-marks : goal.returns-in_err-system-clause-marks
returns-in_err-system-clause-marks c r o l same laid found = handed c.from_residual-in_err-system.result _ _ _ c.from_residual-in_err-system.ensures.1 (c.in_err-system.ensures r o l same laid)

pub returns-clause-marks : goal.returns-clause-marks
returns-clause-marks c r o l same laid found =
    let im = image_in c.args.block_size c.args.bytes.now in
    let groups : c.deref.result.now ≡ l.groups = c.deref.ensures.value ∙ c.in_ok-groups.ensures r o l same laid in
    so_found c.marks_of.result _ _
    (λ marks are. are_marked r o l laid im same c.deref.result.now groups c.deref-2.result.now
    (λ b. subst (λ xs. Contains xs b ↔ IsSystemBlock r b) (sym c.deref-2.ensures.value) (c.in_ok-system.ensures r o l same laid b)) c.args.journals.now found marks are.0 are.1)
    (with_length c.marks_of.result _ _ c.marks_of.ensures.length c.marks_of.ensures.marks)

pub returns-clause-fresh : goal.returns-clause-fresh
returns-clause-fresh c =
    fresh_of (length c.args.bytes.now / c.args.block_size) c.deref.result.now c.args.journals.now c.deref-2.result.now c.marks_of.result c.marks_of.ensures.length c.marks_of.ensures.marks
