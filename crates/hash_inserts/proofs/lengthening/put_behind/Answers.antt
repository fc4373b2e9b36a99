use Rattle.std.proofs.Common.{◌≡◌, ◌∙◌, ◌+◌, ◌^◌, ◌<◌, ℕ, length, sym, ap, subst}
use Rattle.crc_words.specs.Remainder.{crc32_of}
use Rattle.drafts.specs.Fates.{seen_in, seen_with}
use Rattle.gfs2_layout.specs.Inode.{top_bits}
use Rattle.gfs2_layout.specs.declared.dinode.Dinode.{Dinode}
use Rattle.glock_names.specs.Views.{HasBlock}
use Rattle.dinode_tree.specs.Shown.{IsAsSeen}
use Rattle.hash_steps.specs.Shown.{IsInChain, index_for}
use Rattle.hash_steps.specs.Leaves.{IsFullBefore, has_room_for}
use Rattle.hash_steps.proofs.Leaves.{chain_low}
use Rattle.hash_inserts.specs.Drafting.{PutsInLeaf}
use Rattle.hash_inserts.specs.Inserting.{CanCountOne}
use Rattle.hash_inserts.proofs.Blockwise.{size_bounds}
use Rattle.hash_inserts.proofs.Longer.{chain_on, full_still, unused_room}
use Rattle.hash_inserts.proofs.Results.{ok_map}
use Rattle.hash_inserts.proofs.Showing.{shown_of}
use Rattle.hash_inserts.proofs.lengthening.put_behind.Goals as goal

pub returns-clause-put : goal.returns-clause-put
returns-clause-put g c h place shown sound few count chain ends full has own free =
    let seen = g.V.View.seen in
    let old = c.args.draft.now in
    let mid = c.lengthen.new.draft in
    let dir = c.args.dir in
    let name = c.args.name.now in
    let len = length c.args.name.now in
    let i = index_for h c.args.name.now in
    let b = c.args.leaf in
    let made = c.in_ok-lengthen.ensures.put h i place shown sound count chain ends has own free in
    let m = made.1.0 in
    let l = made.1.1 in
    let stays = c.added_leaves_stay.ensures h m i b sound shown.hashed (chain_low h i place c.args.last chain) l.is in
    let view1 = c.in_ok-lengthen.ensures.view in
    let seen1 : seen_in seen mid ≡ seen_with (seen old.view) mid.fates = ap (λ y. seen_with (seen y) mid.fates) view1 in
    let shown_m = shown_of c.sound_inodes_are_shown.ensures (seen_in seen mid) m dir stays.sound stays.hashed (l.is.same.own ∙ shown.inode.own) (l.is.same.size ∙ shown.inode.size ∙ sym (ap (λ y. (seen y).size) view1))
    (subst (λ s. IsAsSeen s m) (sym seen1) (l.puts.seen shown.inode.same)) in
    let index : index_for m name ≡ i = ap (λ (d : Dinode). top_bits d.depth (crc32_of name)) l.is.counts.dinode in
    let at : ℕ = l.is.at_place + 1 in
    let chain_m = subst (λ k. IsInChain m k at b) (sym index) (chain_on h m i b sound shown.hashed free.some l.is l.entries) in
    let full_m = subst (λ k. IsFullBefore m k len at) (sym index) (full_still h m i b sound shown.hashed free.some l.is l.entries len full) in
    let room_m = ap (has_room_for len) l.is.new_leaf.slots_are ∙ unused_room len h.size c.requires.short (size_bounds h.size sound.block_size).0 in
    let few_m : CanCountOne m = record { records = subst (λ (d : Dinode). d.entries + 1 < 2 ^ 32) (sym l.is.counts.dinode) few.records; links = subst (λ (d : Dinode). d.nlink + 1 < 2 ^ 32) (sym l.is.counts.dinode) few.links } in
    let has_m = subst (λ s. HasBlock s b) (sym seen1) l.there in
    let own_m = subst (λ s. HasBlock s dir) (sym seen1) (l.puts.there dir own) in
    ok_map c.put_in_leaf.result _ _ (λ answer put. (
      put.0,
      (
        put.1.0,
        record {
          between = mid.fates;
          longer = m;
          lengthens = l;
          stays = stays;
          puts = subst (λ y. PutsInLeaf (seen y) mid.fates c.put_in_leaf.new.draft.fates m put.1.0 name c.args.entry b) view1 put.1.1;
        },
      ),
    )) (c.put_in_leaf.ensures.put m at shown_m stays.sound few_m chain_m full_m room_m has_m own_m)
