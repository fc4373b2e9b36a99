use Rattle.std.proofs.Common.{refl, sym, subst}
use Rattle.std.specs.Prelude.{Contains}
use Rattle.glock_names.specs.Steps.{TellsOf}
use Rattle.glock_names.specs.Views.{HasBlock, IsOfView}
use Rattle.glock_names.proofs.StepLaws.{answer_at, needed_at}
use Rattle.dinode_tree.specs.Broken as inode
use Rattle.linear_dirs.proofs.Looked.{handed}
use Rattle.resource_groups.specs.Putting.{HasDataBlock}
use Rattle.hash_inserts.specs.Inserting.{IsWrongToInsert, stray_pointer}
use Rattle.hash_inserts.proofs.Looks.{absent_of, lower, only_tells, tells_inode, way_to}
use Rattle.hash_inserts.proofs.looking.see_table.Goals as goal

pub returns-in_err-dinode-clause-damaged : goal.returns-in_err-dinode-clause-damaged
returns-in_err-dinode-clause-damaged g c h shown =
    let v = g.V.View.seen c.args.view.now in
    handed c.from_residual.result _ (TellsOf (IsWrongToInsert v h)) c.from_residual.ensures.1 (tells_inode v h c.in_err-dinode.field-0.0 (only_tells (inode.IsBroken h) c.in_err-dinode.field-0.0 (c.in_err-dinode.ensures.damaged h shown.inode)))

pub returns-in_err-blocks-clause-damaged : goal.returns-in_err-blocks-clause-damaged
returns-in_err-blocks-clause-damaged g c h shown =
    let v = g.V.View.seen c.args.view.now in
    handed c.from_residual-in_err-blocks.result _ (TellsOf (IsWrongToInsert v h)) c.from_residual-in_err-blocks.ensures.1 (tells_inode v h c.in_err-blocks.field-0.0 (c.in_err-blocks.ensures.damaged h shown.inode))

pub returns-in-NeedBlock-2-clause-needed : goal.returns-in-NeedBlock-2-clause-needed
returns-in-NeedBlock-2-clause-needed g c h shown = lower _ h _ c.in-NeedBlock-2.missing (needed_at _ _ _ c.in-NeedBlock-2.is (c.in_ok-blocks.ensures.needed h shown.inode))

pub returns-in-NeedBlock-2-clause-absent : goal.returns-in-NeedBlock-2-clause-absent
returns-in-NeedBlock-2-clause-absent g c =
    let some = c.every_view_shows_an_inode.ensures (g.V.View.seen c.args.view.now) c.args.dir in
    absent_of _ _ _ _ _ (needed_at _ _ _ c.in-NeedBlock-2.is (c.in_ok-blocks.ensures.needed some.0 some.1.0))

pub returns-in-Some-clause-damaged : goal.returns-in-Some-clause-damaged
returns-in-Some-clause-damaged g c h shown =
    let v = g.V.View.seen c.args.view.now in
    let led = answer_at _ _ _ c.in-Is-2.is (c.in_ok-blocks.ensures.led h shown.inode) in
    let stray = c.in-Some.stray in
    subst (TellsOf (IsWrongToInsert v h)) (sym c.damaged.ensures) (stray_pointer stray.from stray.block (led stray (subst (λ xs. Contains xs stray) c.deref.ensures.value c.in-Some.ensures.some.0)) c.in-Some.ensures.some.1)

pub returns-in-Some-clause-kept : goal.returns-in-Some-clause-kept
returns-in-Some-clause-kept g c =
    let v = g.V.View.seen c.args.view.now in
    let from = answer_at _ _ _ c.in-Is-2.is c.in_ok-blocks.ensures.there in
    let stray = c.in-Some.stray in
    subst (TellsOf (IsOfView v)) (sym c.damaged.ensures) (from stray (subst (λ xs. Contains xs stray) c.deref.ensures.value c.in-Some.ensures.some.0))

pub returns-in-None-clause-seen : goal.returns-in-None-clause-seen
returns-in-None-clause-seen g c h shown =
    let v = g.V.View.seen c.args.view.now in
    let all = answer_at _ _ _ c.in-Is-2.is (c.in_ok-blocks.ensures.all h shown.inode) in
    record {
      own = subst (HasBlock v) (sym shown.inode.own) (answer_at _ _ _ c.in-Is.is c.in_ok-dinode.ensures.there);
      below = λ b is_below.
          let told = all b is_below in
          subst (HasBlock v) told.2 (c.in-None.ensures told.0 (subst (λ xs. Contains xs told.0) (sym c.deref-2.ensures.value) told.1));
    }

pub returns-in-None-clause-inside : goal.returns-in-None-clause-inside
returns-in-None-clause-inside g c h shown b is_below =
    let v = g.V.View.seen c.args.view.now in
    let all = answer_at _ _ _ c.in-Is-2.is (c.in_ok-blocks.ensures.all h shown.inode) in
    let told = all b is_below in
    subst (HasDataBlock v) told.2 (c.in_default.ensures.none told.0 (subst (λ xs. Contains xs told.0) (sym c.deref.ensures.value) told.1))

pub returns-clause-needed : goal.returns-clause-needed
returns-clause-needed g c h shown =
    let led = answer_at _ _ _ c.in-Is-2.is (c.in_ok-blocks.ensures.led h shown.inode) in
    way_to (g.V.View.seen c.args.view.now) c.args.dir h _ c.in-Some-first_missing.pointed shown c.block_size-size.ensures.view (c.lock_of.ensures) refl c.in-Some-first_missing.ensures.1
    (led c.in-Some-first_missing.pointed (subst (λ xs. Contains xs c.in-Some-first_missing.pointed) c.deref-2.ensures.value c.in-Some-first_missing.ensures.0))
