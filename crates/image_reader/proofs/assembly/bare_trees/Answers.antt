use Rattle.std.proofs.Common.{List, [], ◌∷◌, ◌++◌, ap, subst, ◌∙◌}
use Rattle.std.proofs.lemmas.Result.{err_from_is_err_and}
use Rattle.file_tree.specs.Tree.{Tree}
use Rattle.image_reader.specs.Reading.{image_at, IsTrueOf}
use Rattle.image_reader.specs.declared.blocks.Blocks.{Blocks}
use Rattle.image_reader.proofs.Baring.{entry_dinode, bare_top, bare_more, bare_all}
use Rattle.image_reader.proofs.Listed.{get_at}
use Rattle.image_reader.proofs.assembly.bare_trees.Goals as goal

pub loop-entry-init : goal.loop-entry-init
loop-entry-init c = bare_top c.args.top.now c.args.found.now _ _ c.in_ok-bare_tree.ensures.bare
    (c.in_ok-push.ensures.items ∙ ap (λ (ts : List Tree). ts ++ c.in_ok-bare_tree.field-0 ∷ []) c.new-trees.ensures.items)

pub bare_tree-requires-in-loop-entry : goal.bare_tree-requires-in-loop-entry
bare_tree-requires-in-loop-entry c =
    entry_dinode c.args.top.now.block.image c.args.top.now c.args.found.now c.loop-entry.entry-index c.entry-item.result c.requires
    (get_at c.args.found.now c.loop-entry.entry-index c.entry-item.result c.loop-entry-test.true c.entry-item.is)

pub returns-in_err-bare_tree-2-clause-damaged : goal.returns-in_err-bare_tree-2-clause-damaged
returns-in_err-bare_tree-2-clause-damaged c =
    let at = get_at c.args.found.now c.loop-entry.entry-index c.entry-item.result c.loop-entry-test.true c.entry-item.is in
    let same = (c.requires.named c.loop-entry.entry-index c.entry-item.result at).of_image in
    let p = err_from_is_err_and c.from_residual-in_err-bare_tree-2.result c.from_residual-in_err-bare_tree-2.ensures.1 in
    rw (p.1, p.2) (subst (λ (b : Blocks). IsTrueOf (image_at b) c.in_err-bare_tree-2.field-0.0) same c.in_err-bare_tree-2.ensures.damaged)

pub loop-entry-preserved : goal.loop-entry-preserved
loop-entry-preserved c =
    bare_more c.args.top.now c.args.found.now c.loop-entry.entry-index c.entry-item.result _ _ _ c.loop-entry.invariant c.loop-entry-test.true c.entry-item.is
    c.in_ok-bare_tree-2.ensures.bare c.in_ok-push-2.ensures.items

pub returns-clause-bare : goal.returns-clause-bare
returns-clause-bare c = bare_all c.args.top.now c.args.found.now c.loop-entry.entry-index c.loop-entry.trees.items c.loop-entry.invariant c.loop-entry-test.false c.loop-entry.auto.entry-index-end
