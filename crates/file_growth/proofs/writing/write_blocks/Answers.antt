use Rattle.std.proofs.Common.{◌≡◌, inl, inr, true, false, sym, subst, ◌∙◌}
use Rattle.drafts.specs.Fates.{seen_in, seen_with}
use Rattle.dinode_tree.specs.Shown.{IsShown}
use Rattle.growth_laws.specs.Files.{with_cells}
use Rattle.growth_drafts.specs.Touched.{Follows}
use Rattle.growth_drafts.proofs.Following.{follows_then, follows_wider}
use Rattle.file_heights.specs.Filling.{IsSeenWay}
use Rattle.file_growth.proofs.Lengths.{if_ok_so, on_done}
use Rattle.file_growth.proofs.Writes.{can_stretch, room_for, way_there, written_in_blocks}
use Rattle.file_growth.proofs.writing.write_blocks.Goals as goal

pub returns-then-not-branch-clause-written : goal.returns-then-not-branch-clause-written
returns-then-not-branch-clause-written g c h shown d_is can needs high ways =
    let stretched = c.in_ok-stretch.ensures.stretched h c.args.at shown d_is (can_stretch h c.args.at c.args.bytes.now c.args.room.now.items can high c.requires.short) (λ i less last. ways i (inr (less, last))) in
    let both : true ≡ false = sym stretched.0 ∙ c.if-not-branch.true in
    absurd (cc)

pub returns-clause-written : goal.returns-clause-written
returns-clause-written g c h shown d_is can needs high ways =
    let stretched = c.in_ok-stretch.ensures.stretched h c.args.at shown d_is (can_stretch h c.args.at c.args.bytes.now c.args.room.now.items can high c.requires.short) (λ i less last. ways i (inr (less, last))) in
    let s = stretched.1 in
    on_done c.write_pieces.result _ _ (written_in_blocks h c.args.at c.args.need c.args.bytes.now c.args.room.now.items c.stretch.new.room.items can high _ c.args.draft.now.fates c.stretch.new.draft.fates s _ c.write_pieces.new.draft.fates c.write_pieces.new.room.items needs)
    (c.write_pieces.ensures.written (with_cells h s.cell) (subst (λ a. IsShown (seen_in g.V.View.seen c.stretch.new.draft) a (with_cells h s.cell)) shown.own s.shown)
    (room_for h c.args.at c.args.need c.args.bytes.now c.args.room.now.items c.stretch.new.room.items can high _ c.args.draft.now.fates c.stretch.new.draft.fates s)
    (λ i has. subst (λ v. IsSeenWay (seen_with (g.V.View.seen v) c.stretch.new.draft.fates) (with_cells h s.cell) i) (sym c.in_ok-stretch.ensures.view)
    (way_there h c.args.at c.args.need c.args.bytes.now c.args.room.now.items c.stretch.new.room.items can high _ c.args.draft.now.fates c.stretch.new.draft.fates s (g.V.View.seen c.args.draft.now.view) i (ways i (inl has)))))

pub returns-clause-within : goal.returns-clause-within
returns-clause-within g c =
    if_ok_so c.write_pieces.result _ _ (λ done second. follows_then (g.V.View.seen c.args.draft.now.view) c.args.inode c.args.room.now.items _ _ _ c.in_ok-stretch.ensures.within
    (follows_wider (g.V.View.seen c.args.draft.now.view) c.args.inode c.stretch.new.room.items c.args.room.now.items _ _ c.in_ok-stretch.ensures.room
    (subst (λ v. Follows (g.V.View.seen v) c.args.inode c.stretch.new.room.items c.stretch.new.draft.fates c.write_pieces.new.draft.fates) c.in_ok-stretch.ensures.view second))) c.write_pieces.ensures.within
