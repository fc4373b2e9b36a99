use Rattle.std.proofs.Common.{◌≡◌, ◌<◌}
use Rattle.std.proofs.lemmas.List.Elements.{All-from_get_or}
use Rattle.glock_names.specs.Steps.{TellsOf}
use Rattle.glock_names.proofs.StepLaws.{answer_at, answer_so, needed_so}
use Rattle.hash_inserts.specs.Broken as leaves
use Rattle.linear_dirs.proofs.Looked.{handed}
use Rattle.directories.specs.Shown as directory
use Rattle.directories.proofs.Forms.{damaged_as, fault_as, leaves_shown, only_tells}
use Rattle.hash_inserts.specs.Inserting.{IsWrongToInsert}
use Rattle.name_inserts.specs.Inserting as name
use Rattle.name_inserts.specs.Need.{need_in_hashed}
use Rattle.name_inserts.proofs.Needed.{need_is}
use Rattle.name_inserts.proofs.needing.need_in_hashed.Goals as goal

pub returns-in_err-table-clause-damaged : goal.returns-in_err-table-clause-damaged
returns-in_err-table-clause-damaged g c h shown is =
    let v = g.V.View.seen c.args.view.now in
    handed c.from_residual.result _ (TellsOf (name.IsWrongForName v h)) c.from_residual.ensures.1
    (only_tells (name.IsWrongForName v h) c.in_err-table.field-0.0
    (fault_as (leaves.IsBroken h) (name.IsWrongForName v h) c.in_err-table.field-0.0 (λ rule b broken. name.of_directory (directory.IsBroken.in_hashed is (leaves.IsWrongIn.breaks rule b broken))) (c.in_err-table.ensures.damaged h shown.inode is)))

pub returns-clause-need : goal.returns-clause-need
returns-clause-need g c h shown is sound =
    let v = g.V.View.seen c.args.view.now in
    let table = answer_at _ _ _ c.in-Is.is (c.in_ok-table.ensures.table h shown.inode is (shown.whole is)) in
    let small = c.checksums_have_32_bits.ensures c.args.name.now (All-from_get_or (λ byte. byte < 256) c.args.name.now 0 (λ i inside. (c.type_inv.name i).fits)) in
    answer_so c.need_insert.result _ (λ need. need ≡ need_in_hashed h c.args.name.now) (λ n takes. need_is h c.args.name.now sound is small n takes) (c.need_insert.ensures.need h (leaves_shown v c.args.dir h shown is) table)

pub returns-clause-takes : goal.returns-clause-takes
returns-clause-takes g c h shown is =
    let v = g.V.View.seen c.args.view.now in
    let table = answer_at _ _ _ c.in-Is.is (c.in_ok-table.ensures.table h shown.inode is (shown.whole is)) in
    c.need_insert.ensures.need h (leaves_shown v c.args.dir h shown is) table

pub returns-clause-seen : goal.returns-clause-seen
returns-clause-seen g c h shown is =
    let v = g.V.View.seen c.args.view.now in
    let table = answer_at _ _ _ c.in-Is.is (c.in_ok-table.ensures.table h shown.inode is (shown.whole is)) in
    c.need_insert.ensures.seen h (leaves_shown v c.args.dir h shown is) table

pub returns-clause-needed : goal.returns-clause-needed
returns-clause-needed g c h shown is =
    let v = g.V.View.seen c.args.view.now in
    let table = answer_at _ _ _ c.in-Is.is (c.in_ok-table.ensures.table h shown.inode is (shown.whole is)) in
    needed_so c.need_insert.result _ (name.IsNeededForName v h c.args.name.now) (λ m needs. name.IsNeededForName.in_hashed is needs) (c.need_insert.ensures.needed h (leaves_shown v c.args.dir h shown is) table)

pub returns-clause-damaged : goal.returns-clause-damaged
returns-clause-damaged g c h shown is =
    let v = g.V.View.seen c.args.view.now in
    let table = answer_at _ _ _ c.in-Is.is (c.in_ok-table.ensures.table h shown.inode is (shown.whole is)) in
    damaged_as (IsWrongToInsert v h) (name.IsWrongForName v h) c.need_insert.result (λ rule b broken. name.IsWrongForName.in_hashed is broken) (c.need_insert.ensures.damaged h (leaves_shown v c.args.dir h shown is) table)
