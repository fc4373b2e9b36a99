use Rattle.std.proofs.Common.{◌≡◌, ◌≢◌, ◌∙◌, ◌+◌, ◌-◌, ◌*◌, ◌/◌, ◌^◌, ◌≤◌, refl, sym, ap, ap₂, subst, false, arith}
use Rattle.std.specs.Prelude.{IsSome, option_map}
use Rattle.std.proofs.lemmas.Bool.{true≢false}
use Rattle.std.specs.FinMap.{insert}
use Rattle.drafts.specs.Fates.{seen_in, seen_with}
use Rattle.drafts.specs.declared.fate.Fate.TheVariants.{Put}
use Rattle.gfs2_layout.specs.Holding.{cell_bytes, bytes_at, part_at}
use Rattle.gfs2_layout.specs.Inode.{entry, first_hash}
use Rattle.gfs2_layout.specs.Structures.{leaf_of}
use Rattle.glock_names.specs.Views.{HasBlock}
use Rattle.dinode_tree.specs.Reading.{inode_lock}
use Rattle.linear_dirs.specs.Shown.{bytes_over, holding_over}
use Rattle.linear_dirs.proofs.Over.{as_seen}
use Rattle.hash_steps.proofs.Chained.{deep, rules}
use Rattle.hash_steps.proofs.Leaves.{itself_or_chained}
use Rattle.hash_steps.proofs.Sound.{tree_of}
use Rattle.hash_inserts.specs.Writing.{CanCount, IsLeafBlock}
use Rattle.hash_inserts.proofs.Blocks.{sees_still}
use Rattle.hash_inserts.proofs.Blockwise.{can_grow, free_apart, leaf_block}
use Rattle.hash_inserts.proofs.PartedDrafts.{split_all}
use Rattle.hash_inserts.proofs.Results.{ok_map}
use Rattle.hash_inserts.proofs.Seen.{leaf_there, own_there, puts_set, set_cell}
use Rattle.hash_inserts.proofs.splitting.split_leaf.Goals as goal

pub returns-then-not-branch-2-clause-put : goal.returns-then-not-branch-2-clause-put
returns-then-not-branch-2-clause-put g c h shown shows sound few small leaf_is one depth_is less sees has free =
    let seen = g.V.View.seen in
    let old = c.args.draft.now in
    let d1 = c.set_pointers.new.draft in
    let v = seen old.view in
    let i = c.args.index in
    let x = entry h i in
    let b = c.args.lower in
    let half = c.lower_half_of-half.result in
    let set = c.in_ok-set_pointers.ensures.set h shows sound shown.hashed sees in
    let seen1 : seen_in seen d1 ≡ seen_with v d1.fates = ap (λ y. seen_with (seen y) d1.fates) c.in_ok-set_pointers.ensures.view in
    let first = puts_set v old.fates d1.fates h half.from half.count b set.2 in
    let has1 = subst (λ s. HasBlock s x) (sym seen1) (first.there x (subst (HasBlock (seen_in seen old)) leaf_is has)) in
    let cell = set_cell v old.fates d1.fates h i b half.from half.count sound shown.hashed small set.2 in
    let at : bytes_at h x ≡ has1.0 = sym (ap cell_bytes cell) ∙ as_seen (seen_with v d1.fates) h x has1.0 (subst IsSome (sym cell) (leaf_there h i sound shown.hashed small)) (sym (ap (λ s. s.block_at x) seen1) ∙ has1.1) in
    let block = subst IsLeafBlock at (leaf_block h sound shown.hashed x _ 0 ((rules h sound shown.hashed).leads i small)) in
    let low : (leaf_of has1.0).depth ≤ 31 = omega (arith, ap (λ y. (leaf_of y).depth) at, less, deep h sound shown.hashed) in
    absurd (true≢false (sym (c.in_ok-halve_in.ensures.put has1.0 (ap (seen_in seen d1).block_at leaf_is ∙ has1.1) block low).0 ∙ c.if-not-branch-2.true))

pub returns-clause-put : goal.returns-clause-put
returns-clause-put g c h shown shows sound few small leaf_is one depth_is less sees has free =
    let seen = g.V.View.seen in
    let old = c.args.draft.now in
    let d1 = c.set_pointers.new.draft in
    let two = c.halve_in.new.draft in
    let now = c.count_in.new.draft in
    let dir = c.args.dir in
    let v = seen old.view in
    let i = c.args.index in
    let x = entry h i in
    let b = c.args.lower in
    let half = c.lower_half_of-half.result in
    let deep_is = c.depth-deep.ensures.value ∙ g.met.T.PointerTable.deep_in c.args.table.now (seen_in seen old) h shows in
    let from_is = c.lower_half_of-half.ensures.from ∙ ap₂ (λ n d. i / 2 ^ (n - d) * 2 ^ (n - d)) deep_is depth_is in
    let count_is = c.lower_half_of-half.ensures.count ∙ ap₂ (λ n d. 2 ^ (n - (d + 1))) deep_is depth_is in
    let within = subst (λ n. half.from + half.count ≤ 2 ^ n) deep_is c.lower_half_of-half.ensures.within in
    let set = c.in_ok-set_pointers.ensures.set h shows sound shown.hashed sees in
    let view1 = c.in_ok-set_pointers.ensures.view in
    let seen1 : seen_in seen d1 ≡ seen_with v d1.fates = ap (λ y. seen_with (seen y) d1.fates) view1 in
    let first = puts_set v old.fates d1.fates h half.from half.count b set.2 in
    let has1 = subst (λ s. HasBlock s x) (sym seen1) (first.there x (subst (HasBlock (seen_in seen old)) leaf_is has)) in
    let own1 = subst (λ s. HasBlock s dir) (sym seen1) (first.there dir (subst (HasBlock (seen_in seen old)) shown.inode.own sees.own)) in
    let cell = set_cell v old.fates d1.fates h i b half.from half.count sound shown.hashed small set.2 in
    let some_x = leaf_there h i sound shown.hashed small in
    let part = (rules h sound shown.hashed).leads i small in
    let at : bytes_at h x ≡ has1.0 = sym (ap cell_bytes cell) ∙ as_seen (seen_with v d1.fates) h x has1.0 (subst IsSome (sym cell) some_x) (sym (ap (λ s. s.block_at x) seen1) ∙ has1.1) in
    let block = subst IsLeafBlock at (leaf_block h sound shown.hashed x _ 0 part) in
    let low : (leaf_of has1.0).depth ≤ 31 = omega (arith, ap (λ y. (leaf_of y).depth) at, less, deep h sound shown.hashed) in
    let halved = c.in_ok-halve_in.ensures.put has1.0 (ap (seen_in seen d1).block_at leaf_is ∙ has1.1) block low in
    let lower = halved.1.0 in
    let upper = halved.1.1 in
    let two_is = subst (λ y. two ≡ record d1 { fates = insert (insert d1.fates b (Put (inode_lock dir) false lower)) y (Put (inode_lock dir) false upper) }) leaf_is halved.1.3 in
    let own_b : dir ≢ b = λ e. free_apart h b h.own free.new shown.inode.dinode (shown.inode.own ∙ e) in
    let own_x : dir ≢ x = λ e. itself_or_chained (first_hash h i) 0 (sym sound.placed.own ∙ ap (part_at h) (shown.inode.own ∙ e) ∙ part) in
    let between = record d1 { fates = insert d1.fates b (Put (inode_lock dir) false lower) } in
    let there_own = sees_still seen between two x dir (inode_lock dir) upper own1.0 two_is own_x (sees_still seen d1 between b dir (inode_lock dir) lower own1.0 refl own_b own1.1) in
    let m = holding_over (seen_with v d1.fates) h in
    let at_own : bytes_at m h.own ≡ own1.0 = as_seen (seen_with v d1.fates) h h.own own1.0 (own_there v d1.fates h shown.inode.dinode) (ap (seen_with v d1.fates).block_at shown.inode.own ∙ sym (ap (λ s. s.block_at dir) seen1) ∙ own1.1) in
    let counts = can_grow m sound.block_size (set.2.set.sound (tree_of h sound.inode)) (set.2.set.placed sound.placed) b (ap (option_map (bytes_over ((seen_with v d1.fates).block_at b))) free.new) free.inside few in
    let view = c.count_in.ensures.view ∙ c.in_ok-halve_in.ensures.view ∙ view1 in
    ok_map c.count_in.result _ _ (λ answer counted. (
      counted.0,
      split_all seen old d1 two now dir h i b half.from half.count lower upper counted.1.0 has1.0 own1.0 shown sound small one less free from_is count_is within view1 set.2 has1.1 halved.1.2 two_is own1.1 counted.1.1 counted.1.2
          view c.sound_inodes_are_shown.ensures c.splits_stay.ensures (g.T.PointerTable.shows c.set_pointers.new.table) (g.met.T.PointerTable.follows c.set_pointers.new.table) set.1,
    )) (c.count_in.ensures.put own1.0 there_own (subst (λ y. CanCount y 0 0 1) at_own counts))
