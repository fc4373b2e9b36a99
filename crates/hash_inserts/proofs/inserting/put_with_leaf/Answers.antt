use Rattle.std.proofs.Common.{◌≡◌, ◌∙◌, ◌∷◌, sym, ap, subst, arith}
use Rattle.gfs2_layout.specs.Inode.{depth_in}
use Rattle.gfs2_layout.specs.declared.dinode.Dinode.{Dinode}
use Rattle.hash_steps.specs.Shown.{index_for}
use Rattle.hash_steps.proofs.Along.{head_there}
use Rattle.hash_steps.proofs.Leaves.{chain_low}
use Rattle.hash_inserts.specs.Inserting.{Inserts}
use Rattle.hash_inserts.proofs.After.{shown_after, shows_after}
use Rattle.hash_inserts.proofs.Inserted.{behind_inserts}
use Rattle.hash_inserts.proofs.Looks.{free_front}
use Rattle.hash_inserts.proofs.Needed.{needs_one}
use Rattle.hash_inserts.proofs.Onward.{fresh_still}
use Rattle.hash_inserts.proofs.Results.{ok_map}
use Rattle.hash_inserts.proofs.inserting.put_with_leaf.Goals as goal

pub returns-in_default-clause-put : goal.returns-in_default-clause-put
returns-in_default-clause-put g c h need place can shows chain ends full deepest has own =
    let one = needs_one h c.args.name.now need can.takes full deepest (chain_low h (index_for h c.args.name.now) place c.args.last chain) (head_there h (index_for h c.args.name.now) place c.args.last chain) in
    absurd (omega (arith, one, can.enough, c.in_default.ensures))

pub returns-clause-put : goal.returns-clause-put
returns-clause-put g c h need place can shows chain ends full deepest has own =
    let seen = g.V.View.seen in
    let old = c.args.draft.now in
    let now = c.put_behind.new.draft in
    let dir = c.args.dir in
    let name = c.args.name.now in
    let front : c.args.room.now.items ≡ c.in-Some.leaf ∷ c.pop_front.new.self.items = c.in-Some.ensures.items in
    let free = free_front h c.in-Some.leaf c.args.room.now.items c.pop_front.new.self.items front can.free in
    let one : need ≡ 1 = needs_one h name need can.takes full deepest (chain_low h (index_for h c.args.name.now) place c.args.last chain) (head_there h (index_for h c.args.name.now) place c.args.last chain) in
    let view = c.put_behind.ensures.view in
    ok_map c.put_behind.result _ _ (λ answer put.
    let k = put.1.0 in
    let behind = put.1.1 in
    let m = behind.longer in
    let fresh = fresh_still h m name behind.stays.records can.fresh in
    let gets = c.puts_get_a_record.ensures m k name c.args.entry behind.stays.sound behind.stays.hashed c.requires.some c.requires.short c.requires.number c.requires.address fresh behind.puts.put in
    let as_seen = behind.puts.puts.seen (behind.lengthens.puts.seen can.shown.inode.same) in
    let own_is = behind.puts.puts.own ∙ behind.lengthens.puts.own in
    let size_is = behind.puts.put.same.size ∙ behind.lengthens.is.same.size in
    let depth : depth_in k ≡ depth_in h = ap (λ (d : Dinode). d.depth) behind.puts.put.dinode ∙ ap (λ (d : Dinode). d.depth) behind.lengthens.is.counts.dinode in (
      put.0,
      (
        k,
        shown_after seen old now dir h k can.shown own_is size_is as_seen view c.sound_inodes_are_shown.ensures gets.sound gets.hashed,
        shows_after seen old now dir h k can.shown own_is size_is as_seen view c.sound_inodes_are_shown.ensures gets.sound gets.hashed (g.T.PointerTable.shows c.args.table.now) (g.met.T.PointerTable.follows c.args.table.now) shows depth,
        subst (λ n. Inserts old.fates now.fates c.args.room.now.items c.pop_front.new.self.items n name c.args.entry h k) (sym one)
            (behind_inserts c.exchanges_join.ensures (seen old.view) old.fates now.fates c.args.room.now.items c.pop_front.new.self.items name c.args.entry h k c.in-Some.leaf behind front full deepest gets),
      ),
    )) (c.put_behind.ensures.put h place can.shown can.sound can.counts can.few chain ends full has own free)
