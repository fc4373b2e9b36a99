use Rattle.std.proofs.Common.{◌≡◌, sym, ap, subst}
use Rattle.gfs2_layout.specs.Inode.{depth_in}
use Rattle.gfs2_layout.specs.declared.dinode.Dinode.{Dinode}
use Rattle.hash_steps.specs.Shown.{index_for}
use Rattle.hash_steps.proofs.Leaves.{chain_low}
use Rattle.hash_inserts.specs.Inserting.{Inserts}
use Rattle.hash_inserts.proofs.After.{shown_after, shows_after}
use Rattle.hash_inserts.proofs.Inserted.{put_inserts}
use Rattle.hash_inserts.proofs.Needed.{needs_none}
use Rattle.hash_inserts.proofs.Results.{ok_map}
use Rattle.hash_inserts.proofs.inserting.put_with_room.Goals as goal

pub returns-clause-put : goal.returns-clause-put
returns-clause-put g c h room need place can shows chain full_before has_room has own =
    let seen = g.V.View.seen in
    let old = c.args.draft.now in
    let now = c.put_in_leaf.new.draft in
    let dir = c.args.dir in
    let name = c.args.name.now in
    let none : need ≡ 0 = needs_none h name need place c.args.leaf can.takes chain has_room (chain_low h (index_for h c.args.name.now) place c.args.leaf chain) in
    let view = c.put_in_leaf.ensures.view in
    ok_map c.put_in_leaf.result _ _ (λ answer put.
    let k = put.1.0 in
    let puts = put.1.1 in
    let gets = c.puts_get_a_record.ensures h k name c.args.entry can.sound can.shown.hashed c.requires.some c.requires.short c.requires.number c.requires.address can.fresh puts.put in
    let as_seen = puts.puts.seen can.shown.inode.same in
    let depth : depth_in k ≡ depth_in h = ap (λ (d : Dinode). d.depth) puts.put.dinode in (
      put.0,
      (
        k,
        shown_after seen old now dir h k can.shown puts.puts.own puts.put.same.size as_seen view c.sound_inodes_are_shown.ensures gets.sound gets.hashed,
        shows_after seen old now dir h k can.shown puts.puts.own puts.put.same.size as_seen view c.sound_inodes_are_shown.ensures gets.sound gets.hashed (g.T.PointerTable.shows c.args.table.now) (g.met.T.PointerTable.follows c.args.table.now) shows depth,
        subst (λ n. Inserts old.fates now.fates room room n name c.args.entry h k) (sym none) (put_inserts (seen old.view) old.fates now.fates room name c.args.entry h k c.args.leaf place puts chain full_before has_room gets),
      ),
    )) (c.put_in_leaf.ensures.put h place can.shown can.sound can.counts chain full_before has_room has own)
