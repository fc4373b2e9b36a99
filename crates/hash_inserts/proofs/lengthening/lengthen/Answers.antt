use Rattle.std.proofs.Common.{◌≡◌, ◌≢◌, ◌∙◌, [], ◌∷◌, replicate, sym, ap, subst, false}
use Rattle.std.specs.Prelude.{◌-◌}
use Rattle.std.proofs.lemmas.Bool.{true≢false}
use Rattle.std.specs.FinMap.{insert}
use Rattle.drafts.specs.Fates.{Drafted, seen_in}
use Rattle.drafts.specs.declared.fate.Fate.TheVariants.{Put}
use Rattle.gfs2_layout.specs.Holding.{bytes_at, part_at}
use Rattle.gfs2_layout.specs.Inode.{dinode_in, first_hash, leaf_in, leaf_length}
use Rattle.gfs2_layout.specs.Structures.{dinode_of, leaf_of}
use Rattle.dinode_tree.specs.Reading.{inode_lock}
use Rattle.leaf_areas.specs.Moving.{unused}
use Rattle.hash_steps.proofs.Chained.{cell_some, in_chain}
use Rattle.hash_steps.proofs.Leaves.{itself_or_chained}
use Rattle.hash_steps.proofs.Sound.{tree_of}
use Rattle.hash_inserts.specs.Drafting.{Lengthens}
use Rattle.hash_inserts.specs.Writing.{CanCount, IsDinodeWritten, IsLeafBlock, IsLeafWritten, IsLinked, counting}
use Rattle.hash_inserts.proofs.Blocks.{sees_still, three_fates}
use Rattle.hash_inserts.proofs.Blockwise.{can_grow, dinode_own, free_apart, leaf_block, same_some}
use Rattle.hash_inserts.proofs.Lengthened.{after, lengthens}
use Rattle.hash_inserts.proofs.Results.{ok_map}
use Rattle.hash_inserts.proofs.lengthening.lengthen.Goals as goal

pub returns-in_default-clause-put : goal.returns-in_default-clause-put
returns-in_default-clause-put g c h i place shown sound count chain ends has own free =
    let x = c.args.last in
    let part = in_chain h sound shown.hashed i place x chain in
    let at = shown.inode.same x has.0 (cell_some (h.cell x) _ part) has.1 in
    absurd (c.in_default.not-Some _ (c.depth_in.ensures has.0 has.1 (subst IsLeafBlock at (leaf_block h sound shown.hashed x _ place part))))

pub returns-then-not-branch-clause-put : goal.returns-then-not-branch-clause-put
returns-then-not-branch-clause-put g c h i place shown sound count chain ends has own free =
    let x = c.args.last in
    let seen = g.V.View.seen in
    let part = in_chain h sound shown.hashed i place x chain in
    let some = cell_some (h.cell x) _ part in
    let at = shown.inode.same x has.0 some has.1 in
    let begun = c.in_ok-put_empty.ensures.put in
    let there = sees_still seen c.args.draft.now c.put_empty.new.draft c.args.leaf x (inode_lock c.args.dir) begun.0 has.0 begun.2 (free_apart h c.args.leaf x free.new some) has.1 in
    absurd (true≢false (sym (c.in_ok-link_in.ensures.put has.0 there (subst IsLeafBlock at (leaf_block h sound shown.hashed x _ place part))).0 ∙ c.if-not-branch.true))

pub returns-clause-put : goal.returns-clause-put
returns-clause-put g c h i place shown sound count chain ends has own free =
    let x = c.args.last in
    let b = c.args.leaf in
    let dir = c.args.dir in
    let seen = g.V.View.seen in
    let old = c.args.draft.now in
    let part = in_chain h sound shown.hashed i place x chain in
    let some = cell_some (h.cell x) _ part in
    let at : bytes_at h x ≡ has.0 = shown.inode.same x has.0 some has.1 in
    let at_own : bytes_at h h.own ≡ own.0 = shown.inode.same h.own own.0 shown.inode.dinode (ap (seen_in seen old).block_at shown.inode.own ∙ own.1) in
    let block = subst IsLeafBlock at (leaf_block h sound shown.hashed x _ place part) in
    let deep : c.in-Some.depth ≡ (leaf_in h x).depth = same_some c.in-Some.depth (leaf_of has.0).depth (sym c.in-Some.is ∙ c.depth_in.ensures has.0 has.1 block) ∙ ap (λ y. (leaf_of y).depth) (sym at) in
    let begun = c.in_ok-put_empty.ensures.put in
    let there = sees_still seen old c.put_empty.new.draft b x (inode_lock dir) begun.0 has.0 begun.2 (free_apart h b x free.new some) has.1 in
    let linked = c.in_ok-link_in.ensures.put has.0 there block in
    let own_b : dir ≢ b = λ e. free_apart h b h.own free.new shown.inode.dinode (shown.inode.own ∙ e) in
    let own_x : dir ≢ x = λ e. itself_or_chained (first_hash h i) place (sym sound.placed.own ∙ ap (part_at h) (shown.inode.own ∙ e) ∙ part) in
    let there_own = sees_still seen c.put_empty.new.draft c.link_in.new.draft x dir (inode_lock dir) linked.1.0 own.0 linked.1.2 own_x
    (sees_still seen old c.put_empty.new.draft b dir (inode_lock dir) begun.0 own.0 begun.2 own_b own.1) in
    let tree = tree_of h sound.inode in
    let counts = can_grow h sound.block_size tree sound.placed b free.new free.inside count in
    let empty = subst (λ n. IsLeafWritten (replicate n 0) begun.0 (record { depth = (leaf_in h x).depth; entries = 0; next = 0 }) (unused (n - leaf_length) ∷ [])) (sym shown.inode.size)
    (subst (λ d. IsLeafWritten (replicate (seen old.view).size 0) begun.0 (record { depth = d; entries = 0; next = 0 }) (unused ((seen old.view).size - leaf_length) ∷ [])) deep begun.1) in
    let is_linked = subst (λ y. IsLinked y linked.1.0 b) (sym at) linked.1.1 in
    let two = linked.1.2 ∙ ap (λ (d : Drafted _). record d { fates = insert d.fates x (Put (inode_lock dir) false linked.1.0) }) begun.2 in
    ok_map c.count_in.result _ _ (λ answer counted.
    let written = subst (λ y. IsDinodeWritten y counted.1.0 (counting (dinode_in h) 0 0 1)) (sym at_own)
    (subst (λ d. IsDinodeWritten own.0 counted.1.0 (counting d 0 0 1)) (ap dinode_of (sym at_own) ∙ sym (dinode_own h sound.block_size tree sound.placed)) counted.1.1) in (
      counted.0,
      (
        after h i place x b begun.0 linked.1.0 counted.1.0 sound shown.hashed chain ends free empty is_linked written,
        subst (λ f. Lengthens (seen old.view) old.fates f h (after h i place x b begun.0 linked.1.0 counted.1.0 sound shown.hashed chain ends free empty is_linked written) i b)
            (three_fates old c.link_in.new.draft c.count_in.new.draft h.own dir b x begun.0 linked.1.0 counted.1.0 shown.inode.own two counted.1.2)
            (lengthens h i place x b begun.0 linked.1.0 counted.1.0 sound shown.hashed chain ends free empty is_linked written (seen old.view) old.fates),
      ),
    )) (c.count_in.ensures.put own.0 there_own (subst (λ y. CanCount y 0 0 1) at_own counts))
