use Rattle.std.specs.Prelude.{Contains}
use Rattle.image_journals.specs.Adding.{IsLeafOf}
use Rattle.image_journals.proofs.Adding.{added_as, all_of}
use Rattle.image_journals.proofs.Named.{IsNamedInLeaf, areas_are, leaves_so}
use Rattle.image_journals.proofs.Read.{handed, so_found}
use Rattle.image_journals.proofs.naming.add_hashed.Goals as goal

pub returns-in_err-add_leaves : goal.returns-in_err-add_leaves
returns-in_err-add_leaves c h is own hashed depth = handed c.from_residual.result _ _ _ c.from_residual.ensures.1 (c.in_err-add_leaves.ensures h is own hashed depth)

pub returns : goal.returns
returns c h is own hashed depth =
    let row = c.deref.result.now in
    let are = all_of _ _ row (IsLeafOf h) c.new-leaves.ensures.items (c.in_ok-add_leaves.ensures h is own hashed depth) c.deref.ensures.value in
    so_found c.add_areas.result _ _
    (λ done added. areas_are h is.sound hashed _ _
    (added_as _ _ (IsNamedInLeaf h (Contains row)) (IsNamedInLeaf h (IsLeafOf h)) added (leaves_so h (Contains row) (IsLeafOf h) are.0) (leaves_so h (IsLeafOf h) (Contains row) are.1)))
    (c.add_areas.ensures h is hashed are.0)
