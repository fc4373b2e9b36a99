use Rattle.std.proofs.Common.{ℕ, List, sym, ap, ◌∙◌, subst}
use Rattle.std.specs.Prelude.{Contains}
use Rattle.gfs2_layout.specs.declared.dinode.Dinode.{Dinode}
use Rattle.glock_names.proofs.StepLaws.{answer_at, needed_at}
use Rattle.glock_names.specs.Steps.{TellsOf}
use Rattle.linear_dirs.proofs.Looked.{handed}
use Rattle.tree_tables.specs.Broken as table
use Rattle.tree_tables.specs.Leaves.{AreLeaves, IsRead}
use Rattle.directories.specs.Shown as directory
use Rattle.directories.proofs.Forms.{fault_as, leaves_shown, only_tells}
use Rattle.directories.proofs.Counted.{counts_right, counts_wrong, differ, equal}
use Rattle.directories.proofs.gathering.counted_leaves.Goals as goal

pub returns-in_err-table-clause-damaged : goal.returns-in_err-table-clause-damaged
returns-in_err-table-clause-damaged g c h shown =
    let v = g.V.View.seen c.args.view.now in
    let is = c.requires h shown in
    handed c.from_residual-in_err-table.result _ (TellsOf (directory.IsBroken v h)) c.from_residual-in_err-table.ensures.1
    (only_tells (directory.IsBroken v h) c.in_err-table.field-0.0
    (fault_as (table.IsBroken h) (directory.IsBroken v h) c.in_err-table.field-0.0 (λ rule b broken. directory.IsBroken.in_hashed is (table.IsWrongIn.breaks rule b broken)) (c.in_err-table.ensures.damaged h shown.inode is)))

pub returns-in-NeedBlock-3-clause-needed : goal.returns-in-NeedBlock-3-clause-needed
returns-in-NeedBlock-3-clause-needed g c h shown =
    let v = g.V.View.seen c.args.view.now in
    let is = c.requires h shown in
    let table = answer_at _ _ _ c.in-Is-2.is (c.in_ok-table.ensures.table h shown.inode is (shown.whole is)) in
    directory.IsNeededForAll.in_hashed is (needed_at _ _ _ c.in-NeedBlock-3.is (c.in_ok-leaves.ensures.needed h (leaves_shown v c.args.dir h shown is) table))

pub have_records-requires : goal.have_records-requires
have_records-requires g c = record {
  read = λ x has. answer_at _ _ _ c.in-Is-3.is c.in_ok-leaves.ensures.read x (subst (λ (xs : List ℕ). Contains xs x) c.deref.ensures.value has);
}

pub returns-then-not-have_records-clause-damaged : goal.returns-then-not-have_records-clause-damaged
returns-then-not-have_records-clause-damaged g c h shown =
    let v = g.V.View.seen c.args.view.now in
    let is = c.requires h shown in
    let table = answer_at _ _ _ c.in-Is-2.is (c.in_ok-table.ensures.table h shown.inode is (shown.whole is)) in
    let all = subst (AreLeaves h) (sym c.deref.ensures.value) (answer_at _ _ _ c.in-Is-3.is (c.in_ok-leaves.ensures.found h (leaves_shown v c.args.dir h shown is) table)) in
    let found = answer_at _ _ _ c.in-Is.is (c.in_ok-dinode.ensures.found h shown.inode) in
    counts_wrong v h c.args.dir c.deref.result.now c.in-Is.dinode.entries shown.inode.own is all (ap (λ (d : Dinode). d.entries) found)
    (differ c.in-Is.dinode.entries _ (sym (c.have_records.ensures h (leaves_shown v c.args.dir h shown is) (λ x has. (all.each x).0 has)) ∙ c.if-not-have_records.true))

pub returns-clause-counted : goal.returns-clause-counted
returns-clause-counted g c h shown =
    let v = g.V.View.seen c.args.view.now in
    let is = c.requires h shown in
    let table = answer_at _ _ _ c.in-Is-2.is (c.in_ok-table.ensures.table h shown.inode is (shown.whole is)) in
    let all = subst (AreLeaves h) (sym c.deref.ensures.value) (answer_at _ _ _ c.in-Is-3.is (c.in_ok-leaves.ensures.found h (leaves_shown v c.args.dir h shown is) table)) in
    let found = answer_at _ _ _ c.in-Is.is (c.in_ok-dinode.ensures.found h shown.inode) in
    record {
      leaves = c.in-Is-3.leaves.items;
      are = subst (AreLeaves h) c.deref.ensures.value all;
      entries = counts_right h c.deref.result.now c.in-Is-3.leaves.items c.in-Is.dinode.entries c.deref.ensures.value (ap (λ (d : Dinode). d.entries) found)
          (equal c.in-Is.dinode.entries _ (sym (c.have_records.ensures h (leaves_shown v c.args.dir h shown is) (λ x has. (all.each x).0 has)) ∙ c.if-not-have_records.false));
    }

pub returns-clause-inside : goal.returns-clause-inside
returns-clause-inside g c x has = (answer_at _ _ (λ leaves. (x : ℕ) → Contains leaves.items x → IsRead (g.V.View.seen c.args.view.now) x) c.in-Is-3.is c.in_ok-leaves.ensures.read x has).inside
