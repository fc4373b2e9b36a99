use Rattle.std.proofs.Common.{[], ◌∷◌, ◌++◌, ap, ◌∙◌, subst}
use Rattle.std.specs.Prelude.{Contains}
use Rattle.glock_names.proofs.StepLaws.{answer_at, needed_at}
use Rattle.dinode_tree.specs.Broken as inode
use Rattle.dinode_tree.specs.declared.below.PointedBlock.{PointedBlock}
use Rattle.resource_groups.specs.Putting.{HasDataBlock}
use Rattle.removing_calls.specs.Removing.{IsWrongBelow, in_inode, stray}
use Rattle.removing_calls.proofs.Going.{tree_all, inside_all, numbers}
use Rattle.removing_calls.proofs.blocks.tree_blocks.Goals as goal
use Rattle.path_walks.proofs.Faults.{told_on, tells_so, tells_all}

pub returns-in_err-below-clause-damaged : goal.returns-in_err-below-clause-damaged
returns-in_err-below-clause-damaged g c =
    let v = g.V.View.seen c.args.view.now in
    told_on (IsWrongBelow v c.args.inode) c.from_residual.result _ c.from_residual.ensures.1
    (tells_so _ (IsWrongBelow v c.args.inode) in_inode c.in_err-below.field-0.0 (tells_all v c.args.inode inode.IsBroken c.in_err-below.field-0.0 c.in_err-below.ensures.damaged))

pub returns-in-NeedBlock-clause-needed : goal.returns-in-NeedBlock-clause-needed
returns-in-NeedBlock-clause-needed g c h shown = needed_at _ _ _ c.in-NeedBlock.is (c.in_ok-below.ensures.needed h shown)

pub returns-in-Some-clause-damaged : goal.returns-in-Some-clause-damaged
returns-in-Some-clause-damaged g c =
    let there : Contains c.in-Is.below.items c.in-Some.stray = subst (λ ps. Contains ps c.in-Some.stray) c.deref.ensures.value c.in-Some.ensures.some.0 in
    stray c.in-Some.stray.from c.in-Some.stray.block (λ h shown. answer_at _ _ _ c.in-Is.is (c.in_ok-below.ensures.led h shown) c.in-Some.stray there) c.in-Some.ensures.some.1

pub returns-in-Some-clause-kept : goal.returns-in-Some-clause-kept
returns-in-Some-clause-kept g c =
    let there : Contains c.in-Is.below.items c.in-Some.stray = subst (λ ps. Contains ps c.in-Some.stray) c.deref.ensures.value c.in-Some.ensures.some.0 in
    answer_at _ _ _ c.in-Is.is c.in_ok-below.ensures.there c.in-Some.stray there

pub returns-clause-all : goal.returns-clause-all
returns-clause-all g c h shown =
    tree_all h c.args.inode c.in-Is.below.items c.push.new.self.items shown.own (answer_at _ _ _ c.in-Is.is (c.in_ok-below.ensures.led h shown)) (answer_at _ _ _ c.in-Is.is (c.in_ok-below.ensures.all h shown))
    (c.in_ok-push.ensures.items ∙ ap (λ ns. ns ++ c.args.inode ∷ []) (c.in_ok-blocks.ensures ∙ ap numbers c.deref-2.ensures.value))

pub returns-clause-inside : goal.returns-clause-inside
returns-clause-inside g c =
    inside_all (g.V.View.seen c.args.view.now) c.args.inode c.in-Is.below.items c.push.new.self.items c.requires.inside
    (subst (λ ps. (p : PointedBlock) → Contains ps p → HasDataBlock (g.V.View.seen c.args.view.now) p.block) c.deref.ensures.value c.in_default.ensures.none)
    (c.in_ok-push.ensures.items ∙ ap (λ ns. ns ++ c.args.inode ∷ []) (c.in_ok-blocks.ensures ∙ ap numbers c.deref-2.ensures.value))
