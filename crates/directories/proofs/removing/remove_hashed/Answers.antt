use Rattle.std.proofs.Common.{◌≡◌, Some, refl, subst}
use Rattle.gfs2_layout.specs.Holding.{Holding}
use Rattle.tree_tables.specs.Pointers.{IsTableOf}
use Rattle.glock_names.proofs.StepLaws.{answer_at, needed_at}
use Rattle.glock_names.specs.Steps.{TellsOf}
use Rattle.drafts.specs.Fates.{seen_in}
use Rattle.linear_dirs.proofs.Looked.{handed}
use Rattle.linear_dirs.specs.Shown.{holding_over}
use Rattle.tree_tables.specs.Broken as table
use Rattle.tree_tables.specs.Exchanging.{ArePut, IsCutFrom}
use Rattle.tree_tables.specs.Finding.{IsLeafOfName}
use Rattle.tree_tables.proofs.Leaves.{found_at}
use Rattle.directories.specs.Shown as directory
use Rattle.directories.proofs.Forms.{fault_as, leaves_shown, only_tells, some_directory}
use Rattle.directories.proofs.Taken.{hashed_puts, hashed_without, in_some_leaf, is_there}
use Rattle.directories.proofs.removing.remove_hashed.Goals as goal

pub returns-in_err-table-clause-damaged : goal.returns-in_err-table-clause-damaged
returns-in_err-table-clause-damaged g c h shown =
    let v = seen_in g.V.View.seen c.args.draft.now in
    let is = c.requires.hashed h shown in
    handed c.from_residual.result _ (TellsOf (directory.IsBroken v h)) c.from_residual.ensures.1
    (only_tells (directory.IsBroken v h) c.in_err-table.field-0.0
    (fault_as (table.IsBroken h) (directory.IsBroken v h) c.in_err-table.field-0.0 (λ rule b broken. directory.IsBroken.in_hashed is (table.IsWrongIn.breaks rule b broken)) (c.in_err-table.ensures.damaged h shown.inode is)))

pub unreachable-requires : goal.unreachable-requires
unreachable-requires g c =
    let v = seen_in g.V.View.seen c.args.draft.now in
    let s = some_directory v c.args.dir c.block_size-size.ensures.view in
    let is = c.requires.hashed s.0 s.1 in
    let table = answer_at _ _ _ c.in-Is.is (c.in_ok-table.ensures.table s.0 s.1.inode is (s.1.whole is)) in
    let found = subst (IsLeafOfName s.0 c.args.name.now) c.in-Is-None.field-0-is
    (answer_at _ _ (IsLeafOfName s.0 c.args.name.now) c.in-Is-None.is (c.in_ok-leaf.ensures.found s.0 (leaves_shown v c.args.dir s.0 s.1 is) table)) in
    let named = c.requires.named s.0 s.1 in
    in_some_leaf s.0 c.args.name.now (Some named.0) named.0 is named.1 refl found

pub returns-in-Is-Some-clause-taken : goal.returns-in-Is-Some-clause-taken
returns-in-Is-Some-clause-taken g c =
    let v = seen_in g.V.View.seen c.args.draft.now in
    let w = seen_in g.V.View.seen c.remove.new.draft in
    let leaf = c.in-Is-Some.leaf in
    let some : c.in-Is-Some.field-0 ≡ Some leaf = c.in-Is-Some.field-0-is in
    let table : (h : Holding) → directory.IsShown v c.args.dir h → IsTableOf c.in-Is.table v h = λ h shown. answer_at _ _ _ c.in-Is.is (c.in_ok-table.ensures.table h shown.inode (c.requires.hashed h shown) (shown.whole (c.requires.hashed h shown))) in
    hashed_without g.V.View.seen c.args.draft.now c.remove.new.draft c.args.dir c.args.name.now leaf c.requires.hashed
    (λ h shown. subst (IsLeafOfName h c.args.name.now) some (answer_at _ _ (IsLeafOfName h c.args.name.now) c.in-Is-Some.is (c.in_ok-leaf.ensures.found h (leaves_shown v c.args.dir h shown (c.requires.hashed h shown)) (table h shown))))
    (λ h r shown sound named. (answer_at _ _ _ c.in-Is-Some.is (c.in_ok-leaf.ensures.removed h r (leaves_shown v c.args.dir h shown (c.requires.hashed h shown)) (table h shown) sound named)).1)
    (λ h shown sound. found_at c.in_ok-leaf.field-0 c.in-Is-Some.field-0 leaf (λ x. (cut : IsCutFrom h (holding_over w h) c.args.name.now) × (cut.leaf ≡ x)) c.in-Is-Some.is some
    (c.in_ok-leaf.ensures.slots h (leaves_shown v c.args.dir h shown (c.requires.hashed h shown)) (table h shown) sound))
    (λ h shown sound. answer_at _ _ _ c.in-Is-Some.is (c.in_ok-leaf.ensures.laid h (leaves_shown v c.args.dir h shown (c.requires.hashed h shown)) (table h shown) sound)
    (is_there c.in-Is-Some.field-0 leaf some))

pub returns-in-Is-Some-clause-two : goal.returns-in-Is-Some-clause-two
returns-in-Is-Some-clause-two g c =
    hashed_puts g.V.View.seen c.args.draft.now c.remove.new.draft c.args.dir c.args.name.now c.in-Is-Some.leaf c.requires.there
    (found_at c.in_ok-leaf.field-0 c.in-Is-Some.field-0 c.in-Is-Some.leaf (ArePut g.V.View.seen c.args.draft.now c.remove.new.draft c.args.dir) c.in-Is-Some.is c.in-Is-Some.field-0-is c.in_ok-leaf.ensures.two)

pub returns-in-NeedBlock-2-clause-needed : goal.returns-in-NeedBlock-2-clause-needed
returns-in-NeedBlock-2-clause-needed g c h shown =
    let v = seen_in g.V.View.seen c.args.draft.now in
    let is = c.requires.hashed h shown in
    let table = answer_at _ _ _ c.in-Is.is (c.in_ok-table.ensures.table h shown.inode is (shown.whole is)) in
    directory.IsNeededFor.in_hashed is (needed_at _ _ _ c.in-NeedBlock-2.is (c.in_ok-leaf.ensures.needed h (leaves_shown v c.args.dir h shown is) table))
