use Rattle.std.proofs.Common.{◌<◌}
use Rattle.std.proofs.lemmas.List.Elements.{All-from_get_or}
use Rattle.glock_names.proofs.StepLaws.{answer_at, answer_so, needed_so}
use Rattle.tree_tables.specs.Broken as leaves
use Rattle.glock_names.specs.Steps.{IsDamage}
use Rattle.linear_dirs.proofs.Looked.{handed}
use Rattle.directories.specs.Shown.{in_hashed, the_dinode}
use Rattle.directories.specs.Shown as directory
use Rattle.directories.proofs.Forms.{answer_as, fault_as, leaves_shown}
use Rattle.directories.proofs.looking.look_hashed.Goals as goal

pub returns-clause-found : goal.returns-clause-found
returns-clause-found g c h shown is =
    let v = g.V.View.seen c.args.view.now in
    let table = answer_at _ _ _ c.in-Is.is (c.in_ok-table.ensures.table h shown.inode is (shown.whole is)) in
    answer_so c.look.result _ (directory.Says h c.args.name.now) (λ found by. in_hashed found is (c.checksums_have_32_bits.ensures c.args.name.now (All-from_get_or (λ byte. byte < 256) c.args.name.now 0 (λ i inside. (c.type_inv.name i).fits))) by) (c.look.ensures.chain h (leaves_shown v c.args.dir h shown is) table)

pub returns-clause-sound : goal.returns-clause-sound
returns-clause-sound g c h shown is sound =
    let v = g.V.View.seen c.args.view.now in
    let table = answer_at _ _ _ c.in-Is.is (c.in_ok-table.ensures.table h shown.inode is (shown.whole is)) in
    c.look.ensures.found h (leaves_shown v c.args.dir h shown is) table sound

pub returns-clause-needed : goal.returns-clause-needed
returns-clause-needed g c h shown is =
    let v = g.V.View.seen c.args.view.now in
    let table = answer_at _ _ _ c.in-Is.is (c.in_ok-table.ensures.table h shown.inode is (shown.whole is)) in
    needed_so c.look.result _ (directory.IsNeededFor v h c.args.name.now) (λ m needs. directory.IsNeededFor.in_hashed is needs) (c.look.ensures.needed h (leaves_shown v c.args.dir h shown is) table)

pub returns-clause-damaged : goal.returns-clause-damaged
returns-clause-damaged g c h shown is =
    let v = g.V.View.seen c.args.view.now in
    let table = answer_at _ _ _ c.in-Is.is (c.in_ok-table.ensures.table h shown.inode is (shown.whole is)) in
    answer_as (leaves.IsWrongIn (g.V.View.seen c.args.view.now) h) (directory.IsBroken (g.V.View.seen c.args.view.now) h) c.look.result (λ rule b broken. directory.IsBroken.in_hashed is broken) (c.look.ensures.damaged h (leaves_shown v c.args.dir h shown is) table)

pub returns-in_err-table-clause-damaged : goal.returns-in_err-table-clause-damaged
returns-in_err-table-clause-damaged g c h shown is =
    let v = g.V.View.seen c.args.view.now in
    handed c.from_residual.result _ (IsDamage (directory.IsBroken v h)) c.from_residual.ensures.1
    (fault_as (leaves.IsBroken h) (directory.IsBroken v h) c.in_err-table.field-0.0 (λ rule b broken. directory.IsBroken.in_hashed is (leaves.IsWrongIn.breaks rule b broken)) (c.in_err-table.ensures.damaged h shown.inode is))
