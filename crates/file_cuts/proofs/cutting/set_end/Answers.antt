use Rattle.std.proofs.Common.{◌≡◌, ◌%◌, inl, refl, sym, ap, subst, ◌∙◌}
use Rattle.drafts.specs.Fates.{seen_in, seen_with}
use Rattle.gfs2_layout.specs.Structures.{dinode_length}
use Rattle.gfs2_layout.specs.declared.dinode.Dinode.{Dinode}
use Rattle.dinode_tree.specs.Shown.{IsShown}
use Rattle.growth_laws.specs.Files.{with_cells}
use Rattle.growth_drafts.specs.Touched.{Follows}
use Rattle.growth_drafts.proofs.Following.{follows_draft, follows_one, follows_then}
use Rattle.file_fills.specs.Filling.{IsSeenWay}
use Rattle.file_growth.proofs.Lengths.{if_ok_so, on_done}
use Rattle.file_cuts.proofs.Heads.{put_zeros_here}
use Rattle.file_heights.proofs.Changing.{changes_of, changes_one}
use Rattle.file_cuts.proofs.Finishing.{can_be_bare, end_as_it_is, end_bare, end_cleared, high_again, if_ok_of, last_seen}
use Rattle.file_cuts.proofs.cutting.set_end.Goals as goal

pub set_height-requires-clause-there : goal.set_height-requires-clause-there
set_height-requires-clause-there g c = c.in_ok-set_size_and_count.ensures.still

pub returns-then-size-eq0-clause-ended : goal.returns-then-size-eq0-clause-ended
returns-then-size-eq0-clause-ended g c h file shown d_is can ways =
    let s = c.in_ok-set_size_and_count.ensures.sized h file shown d_is can in
    let there = c.in_ok-set_size_and_count.ensures.still in
    let shown_k = subst (λ a. IsShown (seen_in g.V.View.seen c.set_size_and_count.new.draft) a (with_cells h s.cell)) shown.own s.shown in
    let is = c.in_ok-set_height.ensures.bare (with_cells h s.cell) there.0 s.grown.file shown_k (ap (λ (d : Dinode). record d { size = c.args.size; blocks = c.args.blocks }) d_is ∙ sym s.grown.dinode)
    (can_be_bare c.args.draft.now.fates c.set_size_and_count.new.draft.fates _ c.args.inode h c.args.size c.args.blocks file shown.own can s c.if-size-eq0.true) there.1 in (
      refl,
      end_bare c.args.draft.now.fates c.set_size_and_count.new.draft.fates _ c.args.inode h c.args.size c.args.blocks file shown.own can s (seen_in g.V.View.seen c.set_height.new.draft) c.set_height.new.draft.fates _ c.if-size-eq0.true is.0 is.1
          (put_zeros_here (seen_in g.V.View.seen c.set_size_and_count.new.draft) c.args.inode (with_cells h s.cell) _ _ dinode_length dinode_length there.0 s.grown.file shown_k there.1
          (ap (λ (d : Dinode). record d { height = 0 }) (ap (λ (d : Dinode). record d { size = c.args.size; blocks = c.args.blocks }) d_is ∙ sym s.grown.dinode)) refl)
          (changes_of c.set_size_and_count.new.draft c.set_height.new.draft _ (λ b. b ≡ c.args.inode) (c.in_ok-set_height.ensures.put there.0 there.1) (changes_one c.set_size_and_count.new.draft.fates c.args.inode _)),
    )

pub returns-then-size-eq0-clause-within : goal.returns-then-size-eq0-clause-within
returns-then-size-eq0-clause-within g c room =
    let there = c.in_ok-set_size_and_count.ensures.still in
    follows_then (g.V.View.seen c.args.draft.now.view) c.args.inode room _ _ _ (c.in_ok-set_size_and_count.ensures.within room)
    (follows_draft (g.V.View.seen c.args.draft.now.view) c.args.inode room c.set_size_and_count.new.draft c.set_height.new.draft _ (c.in_ok-set_height.ensures.put there.0 there.1)
    (follows_one (g.V.View.seen c.args.draft.now.view) c.args.inode room c.set_size_and_count.new.draft.fates c.args.inode _ (inl refl)))

pub returns-then-size-block_size-eq0-clause-ended : goal.returns-then-size-block_size-eq0-clause-ended
returns-then-size-block_size-eq0-clause-ended g c h file shown d_is can ways =
    let s = c.in_ok-set_size_and_count.ensures.sized h file shown d_is can in
    let block : c.from-block_size.result ≡ h.size = c.from-block_size.ensures ∙ c.block_size.ensures.value ∙ sym shown.size in
    (refl, end_as_it_is c.args.draft.now.fates c.set_size_and_count.new.draft.fates _ c.args.inode h c.args.size c.args.blocks file shown.own can s c.if-size-eq0.false (subst (λ n. c.args.size % n ≡ 0) block c.if-size-block_size-eq0.true))

pub returns-clause-ended : goal.returns-clause-ended
returns-clause-ended g c h file shown d_is can ways =
    let s = c.in_ok-set_size_and_count.ensures.sized h file shown d_is can in
    let block : c.from-block_size.result ≡ h.size = c.from-block_size.ensures ∙ c.block_size.ensures.value ∙ sym shown.size in
    let shown_k = subst (λ a. IsShown (seen_in g.V.View.seen c.set_size_and_count.new.draft) a (with_cells h s.cell)) shown.own s.shown in
    on_done c.clear_last.result _ _
    (end_cleared c.args.draft.now.fates c.set_size_and_count.new.draft.fates _ c.args.inode h c.args.size c.args.blocks file shown.own can s (seen_in g.V.View.seen c.clear_last.new.draft) c.clear_last.new.draft.fates c.if-size-eq0.false)
    (c.clear_last.ensures.cleared (with_cells h s.cell) s.grown.file shown_k (ap (λ (d : Dinode). record d { size = c.args.size; blocks = c.args.blocks }) d_is ∙ sym s.grown.dinode)
    (high_again c.args.draft.now.fates c.set_size_and_count.new.draft.fates _ c.args.inode h c.args.size c.args.blocks file shown.own can s)
    (λ i last. subst (λ v. IsSeenWay (seen_with (g.V.View.seen v) c.set_size_and_count.new.draft.fates) (with_cells h s.cell) i) (sym c.in_ok-set_size_and_count.ensures.view)
    (last_seen c.args.draft.now.fates c.set_size_and_count.new.draft.fates _ c.args.inode h c.args.size c.args.blocks file shown.own can s (g.V.View.seen c.args.draft.now.view) i (λ none. c.if-size-block_size-eq0.false (subst (λ n. c.args.size % n ≡ 0) (sym block) none)) ways last)))

pub returns-clause-within : goal.returns-clause-within
returns-clause-within g c room =
    if_ok_so c.clear_last.result (λ done. Follows (g.V.View.seen c.set_size_and_count.new.draft.view) c.args.inode room c.set_size_and_count.new.draft.fates c.clear_last.new.draft.fates) _
    (λ done second. follows_then (g.V.View.seen c.args.draft.now.view) c.args.inode room _ _ _ (c.in_ok-set_size_and_count.ensures.within room)
    (subst (λ v. Follows (g.V.View.seen v) c.args.inode room c.set_size_and_count.new.draft.fates c.clear_last.new.draft.fates) c.in_ok-set_size_and_count.ensures.view second)) (if_ok_of c.clear_last.result _ (c.clear_last.ensures.within room))
