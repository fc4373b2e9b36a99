use Rattle.std.proofs.Common.{◌≡◌, inl, refl, sym, ap, ◌∙◌}
use Rattle.drafts.specs.Fates.{seen_in}
use Rattle.gfs2_layout.specs.declared.dinode.Dinode.{Dinode}
use Rattle.growth_laws.specs.Files.{with_cells}
use Rattle.growth_laws.proofs.Sizes.{sizes_resize}
use Rattle.growth_drafts.proofs.Following.{follows_draft, follows_one, follows_then}
use Rattle.growth_steps.proofs.Keeping.{kept_by_one}
use Rattle.growth_steps.proofs.Stepping.{on_ok}
use Rattle.file_heights.proofs.Keeping.{put_here}
use Rattle.file_heights.proofs.Changing.{changes_of, changes_one, changes_then, on_both}
use Rattle.file_heights.proofs.Sized.{has_size}
use Rattle.file_heights.proofs.sizes.set_size_and_count.Goals as goal

pub count_blocks-requires-clause-there : goal.count_blocks-requires-clause-there
count_blocks-requires-clause-there g c =
    kept_by_one g.V.View.seen c.args.draft.now c.set_size.new.draft c.args.inode c.requires.there c.args.inode _ _ _ (c.in_ok-set_size.ensures.put c.requires.there.0 c.requires.there.1)

pub returns-clause-sized : goal.returns-clause-sized
returns-clause-sized g c h file shown d_is can =
    let one = c.in_ok-set_size.ensures.becomes h c.requires.there.0 file shown d_is can c.requires.there.1 in
    let there = kept_by_one g.V.View.seen c.args.draft.now c.set_size.new.draft c.args.inode c.requires.there c.args.inode _ _ _ (c.in_ok-set_size.ensures.put c.requires.there.0 c.requires.there.1) in
    on_both c.count_blocks.result _ _ _ (λ two put. has_size _ _ _ _ _ c.args.inode h _ _ c.args.size c.args.blocks file one.0 one.1 two.0 two.1
    (put_here (seen_in g.V.View.seen c.args.draft.now) c.args.inode h _ _ c.requires.there.0 file shown c.requires.there.1 (ap (λ (d : Dinode). record d { size = c.args.size }) d_is))
    (put_here (seen_in g.V.View.seen c.set_size.new.draft) c.args.inode (with_cells h _) _ _ there.0 (sizes_resize h _ c.args.size file one.0).0 one.1.shown there.1
    (ap (λ (d : Dinode). record d { size = c.args.size; blocks = c.args.blocks }) d_is ∙ sym (ap (λ (d : Dinode). record d { blocks = c.args.blocks }) one.0.dinode)))
    shown.own
    (changes_then c.args.draft.now.fates c.set_size.new.draft.fates c.count_blocks.new.draft.fates (λ b. b ≡ c.args.inode) (λ b. b ≡ c.args.inode) (λ b. b ≡ c.args.inode) (λ b e. e) (λ b e. e)
    (changes_of c.args.draft.now c.set_size.new.draft _ (λ b. b ≡ c.args.inode) (c.in_ok-set_size.ensures.put c.requires.there.0 c.requires.there.1) (changes_one c.args.draft.now.fates c.args.inode _))
    (changes_of c.set_size.new.draft c.count_blocks.new.draft _ (λ b. b ≡ c.args.inode) put (changes_one c.set_size.new.draft.fates c.args.inode _))))
    (c.count_blocks.ensures.told _ there.0 (sizes_resize h _ c.args.size file one.0).0 one.1.shown (ap (λ (d : Dinode). record d { size = c.args.size }) d_is ∙ sym one.0.dinode) there.1)
    (c.count_blocks.ensures.put there.0 there.1)

pub returns-clause-within : goal.returns-clause-within
returns-clause-within g c room =
    let there = kept_by_one g.V.View.seen c.args.draft.now c.set_size.new.draft c.args.inode c.requires.there c.args.inode _ _ _ (c.in_ok-set_size.ensures.put c.requires.there.0 c.requires.there.1) in
    on_ok c.count_blocks.result _ _ (λ is. follows_then (g.V.View.seen c.args.draft.now.view) c.args.inode room _ _ _
    (follows_draft (g.V.View.seen c.args.draft.now.view) c.args.inode room c.args.draft.now c.set_size.new.draft _ (c.in_ok-set_size.ensures.put c.requires.there.0 c.requires.there.1)
    (follows_one (g.V.View.seen c.args.draft.now.view) c.args.inode room c.args.draft.now.fates c.args.inode _ (inl refl)))
    (follows_draft (g.V.View.seen c.args.draft.now.view) c.args.inode room c.set_size.new.draft c.count_blocks.new.draft _ is
    (follows_one (g.V.View.seen c.args.draft.now.view) c.args.inode room c.set_size.new.draft.fates c.args.inode _ (inl refl)))) (c.count_blocks.ensures.put there.0 there.1)

pub returns-clause-still : goal.returns-clause-still
returns-clause-still g c =
    let there = kept_by_one g.V.View.seen c.args.draft.now c.set_size.new.draft c.args.inode c.requires.there c.args.inode _ _ _ (c.in_ok-set_size.ensures.put c.requires.there.0 c.requires.there.1) in
    on_ok c.count_blocks.result _ _ (kept_by_one g.V.View.seen c.set_size.new.draft c.count_blocks.new.draft c.args.inode there c.args.inode _ _ _) (c.count_blocks.ensures.put there.0 there.1)
