use Rattle.glock_names.proofs.StepLaws.{answer_at, needed_so}
use Rattle.directories.specs.Shown as directory
use Rattle.glock_names.specs.Steps.{TellsOf}
use Rattle.linear_dirs.proofs.Looked.{handed}
use Rattle.tree_tables.specs.Broken as table
use Rattle.directories.proofs.Forms.{fault_as, leaves_shown, only_tells}
use Rattle.directories.proofs.listing.names_hashed.Goals as goal

pub returns-clause-needed : goal.returns-clause-needed
returns-clause-needed g c h shown is =
    let v = g.V.View.seen c.args.view.now in
    let table = answer_at _ _ _ c.in-Is.is (c.in_ok-table.ensures.table h shown.inode is (shown.whole is)) in
    needed_so c.names.result _ (directory.IsNeededForAll v h) (λ m needs. directory.IsNeededForAll.in_hashed is needs) (c.names.ensures.needed h (leaves_shown v c.args.dir h shown is) table)

pub returns-in_err-table-clause-damaged : goal.returns-in_err-table-clause-damaged
returns-in_err-table-clause-damaged g c h shown is =
    let v = g.V.View.seen c.args.view.now in
    handed c.from_residual.result _ (TellsOf (directory.IsBroken v h)) c.from_residual.ensures.1
    (only_tells (directory.IsBroken v h) c.in_err-table.field-0.0
    (fault_as (table.IsBroken h) (directory.IsBroken v h) c.in_err-table.field-0.0 (λ rule b broken. directory.IsBroken.in_hashed is (table.IsWrongIn.breaks rule b broken)) (c.in_err-table.ensures.damaged h shown.inode is)))
