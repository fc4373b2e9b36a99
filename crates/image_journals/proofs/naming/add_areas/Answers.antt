use Rattle.std.proofs.Common.{◌≡◌, ◌<◌, Some, get_or, arith}
use Rattle.std.specs.Prelude.{slice_get}
use Rattle.std.proofs.lemmas.Option.{slice_get-get_or}
use Rattle.image_journals.specs.Blocks.{seen_of}
use Rattle.image_journals.proofs.Adding.{IsAmongFirst, added_none, contained_by}
use Rattle.image_journals.proofs.Named.{IsNamedInLeaf, areas_on, areas_over, leaf_there}
use Rattle.image_journals.proofs.Read.{handed}
use Rattle.image_journals.proofs.naming.add_areas.Goals as goal

pub loop-leaf-init : goal.loop-leaf-init
loop-leaf-init c h is hashed all = added_none _ (IsNamedInLeaf h (IsAmongFirst c.args.leaves.now 0)) (λ d named. let low : named.1.0 < 0 = named.1.1 in omega (arith, low))

pub returns-in_err-part : goal.returns-in_err-part
returns-in_err-part c h is hashed all =
    let x = get_or c.args.leaves.now c.loop-leaf.leaf-index 0 in
    let there : slice_get c.args.leaves.now c.loop-leaf.leaf-index ≡ Some x = slice_get-get_or c.args.leaves.now c.loop-leaf.leaf-index 0 c.loop-leaf-test.true in
    let leaf = all x (contained_by c.args.leaves.now c.loop-leaf.leaf-index x there) in
    let known = leaf_there (seen_of c.args.blocks.now) h is hashed x leaf in
    handed c.from_residual.result _ _ _ c.from_residual.ensures.1 (c.in_err-part.ensures.read h leaf.0 known.0 known.1)

pub returns-in_err-add_area : goal.returns-in_err-add_area
returns-in_err-add_area c h is hashed all = handed c.from_residual-in_err-add_area.result _ _ _ c.from_residual-in_err-add_area.ensures.1 c.in_err-add_area.ensures

pub loop-leaf-preserved : goal.loop-leaf-preserved
loop-leaf-preserved c h is hashed all =
    let x = get_or c.args.leaves.now c.loop-leaf.leaf-index 0 in
    let there : slice_get c.args.leaves.now c.loop-leaf.leaf-index ≡ Some x = slice_get-get_or c.args.leaves.now c.loop-leaf.leaf-index 0 c.loop-leaf-test.true in
    let leaf = all x (contained_by c.args.leaves.now c.loop-leaf.leaf-index x there) in
    let known = leaf_there (seen_of c.args.blocks.now) h is hashed x leaf in
    let read = c.in_ok-part.ensures.read h leaf.0 known.0 known.1 in
    areas_on h c.args.leaves.now c.loop-leaf.leaf-index x _ there read.0 _ _ _ (c.loop-leaf.invariant h is hashed all) c.in_ok-add_area.ensures

pub returns : goal.returns
returns c h is hashed all = areas_over h c.args.leaves.now c.loop-leaf.leaf-index (omega (arith, c.loop-leaf-test.false)) _ _ (c.loop-leaf.invariant h is hashed all)
