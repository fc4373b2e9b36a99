use Rattle.std.proofs.Common.{◌≡◌, ◌∙◌, ◌+◌, ◌∷◌, [], length, length-drop, sym, ap, subst, subst₂, arith}
use Rattle.glock_names.specs.Steps.{TellsOf}
use Rattle.glock_names.proofs.StepLaws.{answer_at, needed_at}
use Rattle.gfs2_layout.specs.Area.{slots_of}
use Rattle.gfs2_layout.specs.Inode.{entry, leaf_area, leaf_in, leaf_length}
use Rattle.gfs2_layout.specs.declared.dinode.Dinode.{Dinode}
use Rattle.gfs2_layout.specs.declared.leaf.Leaf.{Leaf}
use Rattle.linear_dirs.proofs.Looked.{handed}
use Rattle.hash_steps.specs.Broken.{IsWrongIn}
use Rattle.hash_steps.specs.Shown.{LeadsToLeaf, by_pointer, index_for}
use Rattle.hash_inserts.specs.Inserting as inserting
use Rattle.hash_inserts.specs.Inserting.{IsWrongToInsert, of_chain}
use Rattle.hash_inserts.specs.Needing.{AreLeavesFrom, Needs, the_last}
use Rattle.hash_inserts.proofs.Blockwise.{size_bounds}
use Rattle.hash_inserts.proofs.Looks.{only_tells, tells_wrong}
use Rattle.hash_inserts.proofs.needing.need_of_one.Goals as goal

pub returns-in-NeedBlock-clause-needed : goal.returns-in-NeedBlock-clause-needed
returns-in-NeedBlock-clause-needed g c h shown head full one = inserting.IsNeededToInsert.of_table full one (needed_at _ _ _ c.in-NeedBlock.is (c.in_ok-dinode.ensures.needed h shown))

pub returns-in_err-leaf-clause-damaged : goal.returns-in_err-leaf-clause-damaged
returns-in_err-leaf-clause-damaged g c h shown deep head =
    let v = g.V.View.seen c.args.view.now in
    let leads = subst₂ (LeadsToLeaf h (index_for h c.args.name.now)) (sym head.from) (sym head.leaf) (by_pointer head.low) in
    handed c.from_residual-in_err-leaf.result _ (TellsOf (IsWrongToInsert v h)) c.from_residual-in_err-leaf.ensures.1
    (tells_wrong v h c.in_err-leaf.field-0.0 (only_tells (IsWrongIn v h) c.in_err-leaf.field-0.0 (c.in_err-leaf.ensures.damaged h (index_for h c.args.name.now) shown leads deep)))

pub returns-in-NeedBlock-2-clause-needed : goal.returns-in-NeedBlock-2-clause-needed
returns-in-NeedBlock-2-clause-needed g c h shown head full one =
    let leads = subst₂ (LeadsToLeaf h (index_for h c.args.name.now)) (sym head.from) (sym head.leaf) (by_pointer head.low) in
    of_chain (needed_at _ _ _ c.in-NeedBlock-2.is (c.in_ok-leaf.ensures.needed h (index_for h c.args.name.now) shown leads))

pub count_needs-requires-clause-large : goal.count_needs-requires-clause-large
count_needs-requires-clause-large g c =
    let leaf = answer_at _ _ _ c.in-Is-2.is c.in_ok-leaf.ensures.seen in
    let view = c.block_size-size.ensures.view in
    let whole = view.whole c.args.head.now.leaf leaf.bytes leaf.there in
    omega (arith, ap length leaf.area, length-drop 104 leaf.bytes, whole, (size_bounds _ view.block_size).0)

pub count_needs-requires-clause-small : goal.count_needs-requires-clause-small
count_needs-requires-clause-small g c =
    let leaf = answer_at _ _ _ c.in-Is-2.is c.in_ok-leaf.ensures.seen in
    let view = c.block_size-size.ensures.view in
    let whole = view.whole c.args.head.now.leaf leaf.bytes leaf.there in
    omega (arith, ap length leaf.area, length-drop 104 leaf.bytes, whole, (size_bounds _ view.block_size).1)

pub returns-clause-need : goal.returns-clause-need
returns-clause-need g c h shown deep head one =
    let v = g.V.View.seen c.args.view.now in
    let name = c.args.name.now in
    let i = index_for h c.args.name.now in
    let x = entry h i in
    let leads = subst₂ (LeadsToLeaf h i) (sym head.from) (sym head.leaf) (by_pointer head.low) in
    let leaf = answer_at _ _ _ c.in-Is-2.is (c.in_ok-leaf.ensures.read h i shown leads) in
    let dinode = answer_at _ _ _ c.in-Is.is (c.in_ok-dinode.ensures.dinode h shown) in
    let area : c.in-Is-2.leaf.area.now ≡ leaf_area h x = leaf.area ∙ ap (leaf_area h) head.leaf in
    let at = answer_at _ _ _ c.in-Is-2.is c.in_ok-leaf.ensures.seen in
    let view = c.block_size-size.ensures.view in
    let whole = view.whole c.args.head.now.leaf at.bytes at.there in
    let size : length c.in-Is-2.leaf.area.now + leaf_length ≡ h.size = omega (arith, ap length at.area, length-drop leaf_length at.bytes, whole, shown.inode.size, (size_bounds _ view.block_size).0) in
    record {
      chain = record { size = length c.in-Is-2.leaf.area.now + leaf_length; height = c.in-Is.dinode.height; table = c.args.depth; depth = c.in-Is-2.leaf.head.depth; leaves = slots_of c.in-Is-2.leaf.area.now ∷ [] };
      is = record {
        size = size;
        height = ap (λ (d : Dinode). d.height) dinode;
        table = deep;
        depth = ap (λ (l : Leaf). l.depth) leaf.head ∙ ap (λ y. (leaf_in h y).depth) head.leaf;
        leaves = subst (λ a. AreLeavesFrom h x (slots_of a ∷ [])) (sym area) (the_last x one);
      };
      needs = subst (λ n. Needs (length name) n (record { size = length c.in-Is-2.leaf.area.now + leaf_length; height = c.in-Is.dinode.height; table = c.args.depth; depth = c.in-Is-2.leaf.head.depth; leaves = slots_of c.in-Is-2.leaf.area.now ∷ [] }) c.in_ok-need.need) c.crc32.ensures c.in_ok-need.ensures.needs;
    }
