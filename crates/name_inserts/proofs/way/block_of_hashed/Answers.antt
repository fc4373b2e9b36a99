use Rattle.std.proofs.Common.{◌≡◌, ◌∷◌, ◌∙◌, ℕ, inl, inr, true≢false, refl, sym, subst, arith}
use Rattle.std.specs.Prelude.{Contains, IfNone, IfSome}
use Rattle.gfs2_layout.specs.Inode.{depth_in, dinode_in, has_hash_flag, is_directory_in}
use Rattle.gfs2_layout.specs.Device.{IsBlockSize}
use Rattle.dinode_tree.specs.Below.{IsBelow}
use Rattle.glock_names.specs.Steps.{IsDamage}
use Rattle.glock_names.proofs.StepLaws.{answer_at, answer_so, needed_at, needed_so}
use Rattle.linear_dirs.proofs.Looked.{handed}
use Rattle.image_model.proofs.Rows.{and_left}
use Rattle.hash_inserts.specs.Broken as leaves
use Rattle.hash_inserts.specs.Shown.{IsInChain, index_for, of_table}
use Rattle.hash_inserts.proofs.ChainLeaves.{head_at, index_is}
use Rattle.hash_inserts.specs.Inserting.{of_chain}
use Rattle.directories.specs.Shown as directory
use Rattle.directories.proofs.Forms.{fault_as, leaves_shown}
use Rattle.name_inserts.specs.Inserting as name
use Rattle.name_inserts.specs.Way.{AreRightAlong, IsOnWay, IsRightBehind, its_dinode, its_leaf, its_pointer}
use Rattle.name_inserts.proofs.Led.{entry_below}
use Rattle.name_inserts.proofs.OnWay.{none_so, right_table, some_so}
use Rattle.name_inserts.proofs.way.block_of_hashed.Goals as goal

pub returns-in_err-table-clause-damaged : goal.returns-in_err-table-clause-damaged
returns-in_err-table-clause-damaged g c h shown is =
    let v = g.V.View.seen c.args.view.now in
    handed c.from_residual.result _ (IsDamage (name.IsWrongForName v h)) c.from_residual.ensures.1
    (fault_as (leaves.IsBroken h) (name.IsWrongForName v h) c.in_err-table.field-0.0 (λ rule b broken. name.of_directory (directory.IsBroken.in_hashed is (leaves.IsWrongIn.breaks rule b broken))) (c.in_err-table.ensures.damaged h shown.inode is))

pub returns-in-NeedBlock-2-clause-needed : goal.returns-in-NeedBlock-2-clause-needed
returns-in-NeedBlock-2-clause-needed g c h shown is =
    let table = answer_at _ _ _ c.in-Is.is (c.in_ok-table.ensures.table h shown.inode is (shown.whole is)) in
    let index = index_is h c.args.name.now c.depth-depth.result c.crc32.result c.index_of.result c.index_of.ensures.value (c.depth-depth.ensures.value ∙ table.depth) c.crc32.ensures in
    name.IsNeededForName.in_hashed is (of_chain (of_table c.index_of.result index (needed_at _ _ _ c.in-NeedBlock-2.is (c.in_ok-head.ensures.needed h table))))

pub returns-then-is_one_of-clause-some : goal.returns-then-is_one_of-clause-some
returns-then-is_one_of-clause-some g c h shown is fits =
    let table = answer_at _ _ _ c.in-Is.is (c.in_ok-table.ensures.table h shown.inode is (shown.whole is)) in
    let head = head_at h c.args.name.now c.depth-depth.result c.crc32.result c.index_of.result c.in-Is-2.head c.index_of.ensures.value (c.depth-depth.ensures.value ∙ table.depth) c.crc32.ensures c.index_of.ensures.low
    (answer_at _ _ _ c.in-Is-2.is (c.in_ok-head.ensures.found h table)) in
    let whole : IsBlockSize h.size = subst IsBlockSize (sym shown.inode.size) c.block_size-size.ensures.view.block_size in
    let directory = and_left (is_directory_in h) (has_hash_flag (dinode_in h)) is in (
      c.if-is_one_of.ensures.0 refl,
      elim (entry_below h (omega arith) directory fits (right_table h c.args.name.now c.in-Is.table (g.V.View.seen c.args.view.now) head.low table).size (index_for h c.args.name.now) head.low) [
        | inl own ↦ its_dinode (head.from ∙ own)
        | inr below ↦ its_pointer is (subst (IsBelow h) (sym head.from) below) head.from
      ],
    )

pub returns-clause-some : goal.returns-clause-some
returns-clause-some g c h shown is fits =
    let v = g.V.View.seen c.args.view.now in
    let blocks = c.args.first ∷ c.args.rest.now in
    let i = index_for h c.args.name.now in
    let table = answer_at _ _ _ c.in-Is.is (c.in_ok-table.ensures.table h shown.inode is (shown.whole is)) in
    let head = head_at h c.args.name.now c.depth-depth.result c.crc32.result c.index_of.result c.in-Is-2.head c.index_of.ensures.value (c.depth-depth.ensures.value ∙ table.depth) c.crc32.ensures c.index_of.ensures.low
    (answer_at _ _ _ c.in-Is-2.is (c.in_ok-head.ensures.found h table)) in
    answer_so c.leaf_among.result (λ found. IfSome found (λ x. Contains blocks x × ((place : ℕ) × IsInChain h i place x))) (λ found. IfSome found (λ b. Contains blocks b × IsOnWay h c.args.name.now b))
    (λ found. some_so found (λ x. Contains blocks x × ((place : ℕ) × IsInChain h i place x)) (λ b. Contains blocks b × IsOnWay h c.args.name.now b) (λ x so. (so.0, its_leaf so.1.0 is so.1.1)))
    (c.leaf_among.ensures.some h i (leaves_shown v c.args.dir h shown is) head)

pub returns-clause-none : goal.returns-clause-none
returns-clause-none g c h shown is =
    let v = g.V.View.seen c.args.view.now in
    let blocks = c.args.first ∷ c.args.rest.now in
    let i = index_for h c.args.name.now in
    let table = answer_at _ _ _ c.in-Is.is (c.in_ok-table.ensures.table h shown.inode is (shown.whole is)) in
    let deep : c.depth-depth.result ≡ depth_in h = c.depth-depth.ensures.value ∙ table.depth in
    let head = head_at h c.args.name.now c.depth-depth.result c.crc32.result c.index_of.result c.in-Is-2.head c.index_of.ensures.value deep c.crc32.ensures c.index_of.ensures.low
    (answer_at _ _ _ c.in-Is-2.is (c.in_ok-head.ensures.found h table)) in
    answer_so c.leaf_among.result (λ found. IfNone found (AreRightAlong v h i blocks)) (λ found. IfNone found (IsRightBehind v h c.args.name.now blocks))
    (λ found. none_so found (AreRightAlong v h i blocks) (IsRightBehind v h c.args.name.now blocks) (λ along. record {
      table = right_table h c.args.name.now c.in-Is.table v head.low table;
      pointer = λ has. true≢false (sym (c.is_one_of.ensures.1 (subst (Contains blocks) (sym head.from) has)) ∙ c.if-is_one_of.false);
      leaves = along;
    }))
    (c.leaf_among.ensures.none h i (leaves_shown v c.args.dir h shown is) head deep)

pub returns-clause-needed : goal.returns-clause-needed
returns-clause-needed g c h shown is =
    let v = g.V.View.seen c.args.view.now in
    let table = answer_at _ _ _ c.in-Is.is (c.in_ok-table.ensures.table h shown.inode is (shown.whole is)) in
    let head = head_at h c.args.name.now c.depth-depth.result c.crc32.result c.index_of.result c.in-Is-2.head c.index_of.ensures.value (c.depth-depth.ensures.value ∙ table.depth) c.crc32.ensures c.index_of.ensures.low
    (answer_at _ _ _ c.in-Is-2.is (c.in_ok-head.ensures.found h table)) in
    needed_so c.leaf_among.result _ (name.IsNeededForName v h c.args.name.now) (λ m needs. name.IsNeededForName.in_hashed is (of_chain needs)) (c.leaf_among.ensures.needed h (index_for h c.args.name.now) (leaves_shown v c.args.dir h shown is) head)
