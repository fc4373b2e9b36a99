use Rattle.glock_names.specs.Steps.{TellsOf}
use Rattle.glock_names.proofs.StepLaws.{answer_at, answer_so, needed_so}
use Rattle.std.proofs.Common.{◌≡◌, true}
use Rattle.drafts.specs.Fates.{seen_in}
use Rattle.gfs2_layout.specs.Holding.{Holding}
use Rattle.hash_inserts.specs.Broken as leaves
use Rattle.linear_dirs.proofs.Looked.{handed}
use Rattle.directories.specs.Shown as directory
use Rattle.directories.specs.Shown.{IsShown}
use Rattle.directories.proofs.Forms.{damaged_as, fault_as, leaves_shown, only_tells}
use Rattle.hash_inserts.specs.Inserting.{Inserts, IsWrongToInsert}
use Rattle.name_inserts.specs.Inserting as name
use Rattle.name_inserts.proofs.Forms.{any_shown}
use Rattle.name_inserts.proofs.putting.put_in_hashed.Goals as goal

pub returns-in_err-table-clause-damaged : goal.returns-in_err-table-clause-damaged
returns-in_err-table-clause-damaged g c h shown is =
    let v = seen_in g.V.View.seen c.args.draft.now in
    handed c.from_residual.result _ (TellsOf (name.IsWrongForName v h)) c.from_residual.ensures.1
    (only_tells (name.IsWrongForName v h) c.in_err-table.field-0.0
    (fault_as (leaves.IsBroken h) (name.IsWrongForName v h) c.in_err-table.field-0.0 (λ rule b broken. name.of_directory (directory.IsBroken.in_hashed is (leaves.IsWrongIn.breaks rule b broken))) (c.in_err-table.ensures.damaged h shown.inode is)))

pub returns-clause-put : goal.returns-clause-put
returns-clause-put g c h shown is sound counts few absent free need takes enough =
    let v = seen_in g.V.View.seen c.args.draft.now in
    let w = seen_in g.V.View.seen c.insert.new.draft in
    let table = answer_at _ _ _ c.in-Is.is (c.in_ok-table.ensures.table h shown.inode is (shown.whole is)) in
    answer_so c.insert.result _ (λ done. (done ≡ true) × ((x : Holding) × IsShown w c.args.dir x × Inserts c.args.draft.now.fates c.insert.new.draft.fates c.args.room.now.items c.insert.new.room.items need c.args.name.now c.args.entry h x))
    (λ done is. (is.0, (is.1.0, any_shown w c.args.dir is.1.0 is.1.1 is.1.3.sound, is.1.3)))
    (c.insert.ensures.put h need (leaves_shown v c.args.dir h shown is) table sound counts absent free takes enough few)

pub returns-clause-needed : goal.returns-clause-needed
returns-clause-needed g c h shown is =
    let v = seen_in g.V.View.seen c.args.draft.now in
    let table = answer_at _ _ _ c.in-Is.is (c.in_ok-table.ensures.table h shown.inode is (shown.whole is)) in
    needed_so c.insert.result _ (name.IsNeededForName v h c.args.name.now) (λ m needs. name.IsNeededForName.in_hashed is needs) (c.insert.ensures.needed h (leaves_shown v c.args.dir h shown is) table)

pub returns-clause-damaged : goal.returns-clause-damaged
returns-clause-damaged g c h shown is =
    let v = seen_in g.V.View.seen c.args.draft.now in
    let table = answer_at _ _ _ c.in-Is.is (c.in_ok-table.ensures.table h shown.inode is (shown.whole is)) in
    damaged_as (IsWrongToInsert v h) (name.IsWrongForName v h) c.insert.result (λ rule b broken. name.IsWrongForName.in_hashed is broken) (c.insert.ensures.damaged h (leaves_shown v c.args.dir h shown is) table)
