use Rattle.std.proofs.Common.{◌≡◌, ◌∙◌, ◌≤◌, length, refl, sym, ap, subst, arith}
use Rattle.std.proofs.lemmas.Bool.{true≢false}
use Rattle.drafts.specs.Fates.{seen_in}
use Rattle.gfs2_layout.specs.Holding.{bytes_at, part_at}
use Rattle.gfs2_layout.specs.Inode.{dinode_in, first_hash}
use Rattle.gfs2_layout.specs.Structures.{dinode_of}
use Rattle.dinode_tree.specs.Reading.{inode_lock}
use Rattle.linear_dirs.specs.Shown.{head_for, record_for}
use Rattle.hash_steps.specs.Shown.{index_for}
use Rattle.hash_steps.proofs.Chained.{cell_some, in_chain}
use Rattle.hash_steps.proofs.Cuts.{seen_apart}
use Rattle.hash_steps.proofs.Leaves.{itself_or_chained}
use Rattle.hash_steps.proofs.Sound.{tree_of}
use Rattle.hash_inserts.specs.Writing.{CanCount, CanTake, IsDinodeWritten, IsLeafFilled, counting}
use Rattle.hash_inserts.proofs.Blockwise.{can_count, can_take, dinode_own}
use Rattle.hash_inserts.proofs.Put.{in_draft}
use Rattle.hash_inserts.proofs.Results.{ok_map}
use Rattle.hash_inserts.proofs.records.put_in_leaf.Goals as goal

pub returns-then-not-branch-clause-put : goal.returns-then-not-branch-clause-put
returns-then-not-branch-clause-put g c h place shown sound few chain full room has own =
    let x = c.args.leaf in
    let part = in_chain h sound shown.hashed (index_for h c.args.name.now) place x chain in
    let at = shown.inode.same x has.0 (cell_some (h.cell x) _ part) has.1 in
    let can = subst (λ b. CanTake b (length c.args.name.now)) at (can_take h sound shown.hashed x _ place part (length c.args.name.now) room) in
    absurd (true≢false (sym (c.in_ok-fill_in.ensures.put has.0 has.1 can).0 ∙ c.if-not-branch.true))

pub returns-clause-put : goal.returns-clause-put
returns-clause-put g c h place shown sound few chain full room has own =
    let x = c.args.leaf in
    let seen = g.V.View.seen in
    let old = c.args.draft.now in
    let mid = c.fill_in.new.draft in
    let part = in_chain h sound shown.hashed (index_for h c.args.name.now) place x chain in
    let at : bytes_at h x ≡ has.0 = shown.inode.same x has.0 (cell_some (h.cell x) _ part) has.1 in
    let at_own : bytes_at h h.own ≡ own.0 = shown.inode.same h.own own.0 shown.inode.dinode (ap (seen_in seen old).block_at shown.inode.own ∙ own.1) in
    let can = subst (λ b. CanTake b (length c.args.name.now)) at (can_take h sound shown.hashed x _ place part (length c.args.name.now) room) in
    let done = c.in_ok-fill_in.ensures.put has.0 has.1 can in
    let filled = subst (λ b. IsLeafFilled b done.1.0 (head_for c.args.name.now c.args.entry) c.args.name.now) (sym at) (subst (λ d. IsLeafFilled has.0 done.1.0 d c.args.name.now) c.head_for-head.ensures done.1.1) in
    let apart = λ (e : c.args.dir ≡ x). itself_or_chained (first_hash h (index_for h c.args.name.now)) place (sym sound.placed.own ∙ ap (part_at h) (shown.inode.own ∙ e) ∙ part) in
    let there = ap (λ d. (seen_in seen d).block_at c.args.dir) done.1.2 ∙ seen_apart (seen old.view) old.fates x c.args.dir (inode_lock c.args.dir) done.1.0 apart ∙ own.1 in
    let tree = tree_of h sound.inode in
    let links = c.links_of.result in
    let counts = can_count h sound.block_size tree sound.placed 1 links 0 (λ _. few.records) (λ _. let l = few.links in let m = c.links_of.ensures.most in omega (arith, l, m)) (λ some. absurd (let no : 1 ≤ 0 = some in omega (arith, no))) in
    ok_map c.count_in.result _ _ (λ answer counted. (
      counted.0,
      in_draft seen old mid c.count_in.new.draft c.args.dir h c.args.name.now c.args.entry place x links done.1.0 counted.1.0 shown sound chain full filled done.1.2
          (subst (λ b. IsDinodeWritten b counted.1.0 (counting (dinode_in h) 1 links 0)) (sym at_own) (subst (λ d. IsDinodeWritten own.0 counted.1.0 (counting d 1 links 0)) (ap dinode_of (sym at_own) ∙ sym (dinode_own h sound.block_size tree sound.placed)) counted.1.1))
          counted.1.2 (c.links_of.ensures.value (record_for c.args.name.now c.args.entry) refl refl),
    )) (c.count_in.ensures.put own.0 there (subst (λ b. CanCount b 1 links 0) at_own counts))
