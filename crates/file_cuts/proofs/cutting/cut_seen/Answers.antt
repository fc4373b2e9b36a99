use Rattle.std.proofs.Common.{◌≡◌, ◌+◌, inl, min, refl, sym, ap, subst, ◌∙◌, arith}
use Rattle.std.specs.Prelude.{Contains}
use Rattle.drafts.specs.Fates.{seen_in}
use Rattle.gfs2_layout.specs.Inode.{height_in}
use Rattle.gfs2_layout.specs.Structures.{dinode_length}
use Rattle.gfs2_layout.specs.declared.dinode.Dinode.{Dinode}
use Rattle.growth_drafts.proofs.Following.{follows_draft, follows_one}
use Rattle.growth_drafts.proofs.Rooms.{none_in}
use Rattle.file_heights.proofs.Changing.{changes_of, changes_one}
use Rattle.file_cuts.specs.Cut.{HasCut}
use Rattle.file_cuts.proofs.Heads.{put_zeros_here}
use Rattle.file_cuts.proofs.Finishing.{stuffed_cut}
use Rattle.file_cuts.proofs.cutting.cut_seen.Goals as goal

pub returns-then-dinode-eq0-clause-cut : goal.returns-then-dinode-eq0-clause-cut
returns-then-dinode-eq0-clause-cut g c h shown d_is can ways last =
    let stuffed : height_in h ≡ 0 = sym (ap (λ (d : Dinode). d.height) d_is) ∙ c.if-dinode-eq0.true in
    let is = c.in_ok-resize_stuffed.ensures.resized h c.requires.there.0 can.counted.file shown d_is stuffed c.requires.there.1 in
    subst (HasCut (seen_in g.V.View.seen c.resize_stuffed.new.draft) c.args.draft.now.fates c.resize_stuffed.new.draft.fates h c.args.size) (sym c.new.ensures.items)
    (stuffed_cut (seen_in g.V.View.seen c.resize_stuffed.new.draft) c.args.draft.now.fates c.resize_stuffed.new.draft.fates c.args.inode h _ c.args.size can shown.own is.0 is.1
    (put_zeros_here (seen_in g.V.View.seen c.args.draft.now) c.args.inode h _ _ (dinode_length + min c.args.dinode.now.size c.args.size) (dinode_length + c.args.size) c.requires.there.0 can.counted.file shown c.requires.there.1
    (ap (λ (d : Dinode). record d { size = c.args.size }) d_is) (let least : dinode_length + min c.args.dinode.now.size c.args.size ≡ dinode_length + c.args.size = omega (arith, c.requires.larger) in least))
    (changes_of c.args.draft.now c.resize_stuffed.new.draft _ (λ b. b ≡ c.args.inode) (c.in_ok-resize_stuffed.ensures.put c.requires.there.0 c.requires.there.1) (changes_one c.args.draft.now.fates c.args.inode _)))

pub returns-then-dinode-eq0-clause-within : goal.returns-then-dinode-eq0-clause-within
returns-then-dinode-eq0-clause-within g c room =
    follows_draft (g.V.View.seen c.args.draft.now.view) c.args.inode room c.args.draft.now c.resize_stuffed.new.draft _ (c.in_ok-resize_stuffed.ensures.put c.requires.there.0 c.requires.there.1)
    (follows_one (g.V.View.seen c.args.draft.now.view) c.args.inode room c.args.draft.now.fates c.args.inode _ (inl refl))

pub returns-then-dinode-eq0-clause-led : goal.returns-then-dinode-eq0-clause-led
returns-then-dinode-eq0-clause-led g c b is = absurd (none_in b (subst (λ xs. Contains xs b) c.new.ensures.items is))
