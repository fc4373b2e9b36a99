use Rattle.std.proofs.Common.{refl, sym, ap, ◌∙◌, subst}
use Rattle.std.specs.Prelude.{not}
use Rattle.glock_names.specs.Steps.{IsDamage}
use Rattle.glock_names.specs.Views.{IsOfView}
use Rattle.dinode_tree.specs.Reading.{inode_lock}
use Rattle.linear_dirs.proofs.Looked.{handed}
use Rattle.hash_dirs.specs.Broken.{IsWrongIn, outside}
use Rattle.hash_dirs.proofs.Groups.{group_inside, group_small, none_so}
use Rattle.hash_dirs.specs.Shown.{a_leaf}
use Rattle.hash_dirs.proofs.Leaves.{told, wrong_of, no_leaf_there, bytes_there, seen_at, leaf_headed, leaf_of_bytes}
use Rattle.hash_dirs.proofs.chains.leaf_at.Goals as goal

pub returns-then-link-eq0-clause-damaged : goal.returns-then-link-eq0-clause-damaged
returns-then-link-eq0-clause-damaged g c h i shown leads depth =
    wrong_of (g.V.View.seen c.args.view.now) h c.damaged.result (told h c.damaged.result c.args.link.now.from 14 c.damaged.ensures (no_leaf_there h i c.args.link.now.from c.args.link.now.leaf leads c.if-link-eq0.true))

pub returns-then-is_none-clause-damaged : goal.returns-then-is_none-clause-damaged
returns-then-is_none-clause-damaged g c h i shown leads depth =
    let v = g.V.View.seen c.args.view.now in
    subst (IsDamage (IsWrongIn v h)) (sym c.damaged-then-is_none.ensures)
    (outside i c.args.link.now.from c.args.link.now.leaf leads c.if-link-eq0.false (none_so _ c.group_of.result (c.is_none.ensures ∙ ap not c.if-is_none.true) c.group_of.ensures.none))

pub returns-clause-small : goal.returns-clause-small
returns-clause-small g c =
    let v = g.V.View.seen c.args.view.now in
    (c.if-link-eq0.false, group_small v c.args.link.now.leaf c.group_of.result c.block_size-size.ensures.view (c.is_none.ensures ∙ ap not c.if-is_none.false) c.group_of.ensures.group c.group_of.ensures.own)

pub returns-clause-inside : goal.returns-clause-inside
returns-clause-inside g c =
    group_inside (g.V.View.seen c.args.view.now) c.args.link.now.leaf c.group_of.result (c.is_none.ensures ∙ ap not c.if-is_none.false) c.group_of.ensures.group c.group_of.ensures.own

pub returns-in_default-clause-needed : goal.returns-in_default-clause-needed
returns-in_default-clause-needed g c h i shown leads =
    a_leaf i refl leads
    (group_inside (g.V.View.seen c.args.view.now) c.args.link.now.leaf c.group_of.result (c.is_none.ensures ∙ ap not c.if-is_none.false) c.group_of.ensures.group c.group_of.ensures.own)
    (c.lock_of.ensures ∙ ap inode_lock (sym shown.inode.own)) refl c.in_default.ensures.none

pub returns-in_err-leaf-clause-damaged : goal.returns-in_err-leaf-clause-damaged
returns-in_err-leaf-clause-damaged g c h i shown leads depth =
    handed c.from_residual.result _ (IsDamage (IsWrongIn (g.V.View.seen c.args.view.now) h)) c.from_residual.ensures.1
    (wrong_of (g.V.View.seen c.args.view.now) h c.in_err-leaf.field-0.0 (c.in_err-leaf.ensures.damaged h i c.args.link.now.from (bytes_there (g.V.View.seen c.args.view.now) c.args.dir h i c.args.link.now.from c.args.link.now.leaf c.in-Some.bytes.now shown leads c.if-link-eq0.false c.in-Some.ensures.some) leads c.if-link-eq0.false depth))

pub returns-in_err-leaf-clause-kept : goal.returns-in_err-leaf-clause-kept
returns-in_err-leaf-clause-kept g c =
    handed c.from_residual.result _ (IsDamage (IsOfView (g.V.View.seen c.args.view.now))) c.from_residual.ensures.1
    (seen_at (g.V.View.seen c.args.view.now) c.in_err-leaf.field-0.0 c.args.link.now.leaf (c.in-Some.bytes.now, c.in-Some.ensures.some) c.in_err-leaf.ensures.own)

pub returns-clause-read : goal.returns-clause-read
returns-clause-read g c h i shown leads =
    leaf_of_bytes h c.args.link.now.leaf c.in-Some.bytes.now c.in_ok-leaf.leaf
    (bytes_there (g.V.View.seen c.args.view.now) c.args.dir h i c.args.link.now.from c.args.link.now.leaf c.in-Some.bytes.now shown leads c.if-link-eq0.false c.in-Some.ensures.some)
    c.in_ok-leaf.ensures.head c.in_ok-leaf.ensures.area

pub returns-clause-area : goal.returns-clause-area
returns-clause-area g c = c.in_ok-leaf.ensures.filled

pub returns-clause-headed : goal.returns-clause-headed
returns-clause-headed g c h i shown leads depth =
    leaf_headed h c.args.link.now.leaf c.in-Some.bytes.now c.in_ok-leaf.leaf c.args.depth
    (bytes_there (g.V.View.seen c.args.view.now) c.args.dir h i c.args.link.now.from c.args.link.now.leaf c.in-Some.bytes.now shown leads c.if-link-eq0.false c.in-Some.ensures.some)
    c.in_ok-leaf.ensures.head c.in_ok-leaf.ensures.header c.in_ok-leaf.ensures.format c.in_ok-leaf.ensures.low depth
