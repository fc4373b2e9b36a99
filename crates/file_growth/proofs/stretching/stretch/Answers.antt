use Rattle.std.proofs.Common.{◌≡◌, ◌+◌, ◌%◌, ◌^◌, ◌≤◌, true, false, refl, sym, subst, ◌∙◌}
use Rattle.std.specs.Prelude.{IsSomeAnd}
use Rattle.drafts.specs.Fates.{seen_in}
use Rattle.growth_laws.specs.Files.{with_cells}
use Rattle.growth_laws.specs.Need.{height_for}
use Rattle.growth_drafts.specs.Touched.{Follows}
use Rattle.growth_drafts.proofs.Following.{follows_then}
use Rattle.file_heights.specs.Grown.{HasRisen}
use Rattle.file_growth.proofs.Lengths.{ready_to_grow, stretch_by}
use Rattle.file_growth.proofs.stretching.stretch.Goals as goal

pub grow-requires-clause-stuffed : goal.grow-requires-clause-stuffed
grow-requires-clause-stuffed g c none = subst (λ v. 232 + c.args.dinode.now.size ≤ (g.V.View.seen v).size) (sym c.in_ok-clear_moved.ensures.view) (c.requires.stuffed none)

pub set_size_and_count-requires-clause-room : goal.set_size_and_count-requires-clause-room
set_size_and_count-requires-clause-room g c = subst (λ v. 232 ≤ (g.V.View.seen v).size) (sym (c.in_ok-high.ensures.view ∙ c.in_ok-clear_moved.ensures.view)) c.requires.room

pub returns-then-not-branch-clause-stretched : goal.returns-then-not-branch-clause-stretched
returns-then-not-branch-clause-stretched g c h at shown d_is can ways =
    let both : true ≡ false = sym (c.in_ok-clear_moved.ensures.cleared h can.file shown d_is ways).0 ∙ c.if-not-branch.true in
    absurd (cc)

pub returns-in_default-clause-stretched : goal.returns-in_default-clause-stretched
returns-in_default-clause-stretched g c h at shown d_is can ways =
    let end = c.in_ok-clear_moved.ensures.cleared h can.file shown d_is ways in
    let ready = ready_to_grow g.V.View.seen c.args.draft.now c.clear_moved.new.draft c.args.inode h at c.args.end c.args.need c.max-size.result c.args.room.now.items c.args.dinode.now shown d_is can c.max-size.ensures end.1 in
    absurd (subst (λ made. IsSomeAnd made (HasRisen (seen_in g.V.View.seen c.grow.new.draft) c.clear_moved.new.draft.fates c.grow.new.draft.fates c.args.room.now.items c.grow.new.room.items (with_cells h end.1.cell) (height_for (with_cells h end.1.cell) c.max-size.result))) c.in_default.is
    (c.in_ok-high.ensures.grown (with_cells h end.1.cell) ready.0 ready.1 ready.2))

pub returns-clause-stretched : goal.returns-clause-stretched
returns-clause-stretched g c h at shown d_is can ways =
    let end = c.in_ok-clear_moved.ensures.cleared h can.file shown d_is ways in
    let ready = ready_to_grow g.V.View.seen c.args.draft.now c.clear_moved.new.draft c.args.inode h at c.args.end c.args.need c.max-size.result c.args.room.now.items c.args.dinode.now shown d_is can c.max-size.ensures end.1 in
    let risen = subst (λ made. IsSomeAnd made (HasRisen (seen_in g.V.View.seen c.grow.new.draft) c.clear_moved.new.draft.fates c.grow.new.draft.fates c.args.room.now.items c.grow.new.room.items (with_cells h end.1.cell) (height_for (with_cells h end.1.cell) c.max-size.result))) c.in-Some.is
    (c.in_ok-high.ensures.grown (with_cells h end.1.cell) ready.0 ready.1 ready.2) in (
      refl,
      stretch_by g.V.View.seen c.args.draft.now c.clear_moved.new.draft c.args.inode h at c.args.end c.args.need c.max-size.result c.args.room.now.items c.args.dinode.now shown d_is can c.max-size.ensures end.1
          c.grow.new.draft c.set_size_and_count.new.draft c.grow.new.room.items c.in-Some.high ((c.in-Some.high.blocks + c.args.need) % 2 ^ 64) refl risen c.in_ok-set_size_and_count.ensures.sized,
    )

pub returns-in_default-clause-within : goal.returns-in_default-clause-within
returns-in_default-clause-within g c =
    follows_then (g.V.View.seen c.args.draft.now.view) c.args.inode c.args.room.now.items _ _ _ (c.in_ok-clear_moved.ensures.within c.args.room.now.items)
    (subst (λ v. Follows (g.V.View.seen v) c.args.inode c.args.room.now.items c.clear_moved.new.draft.fates c.grow.new.draft.fates) c.in_ok-clear_moved.ensures.view c.in_ok-high.ensures.within)

pub returns-clause-within : goal.returns-clause-within
returns-clause-within g c =
    follows_then (g.V.View.seen c.args.draft.now.view) c.args.inode c.args.room.now.items _ _ _
    (follows_then (g.V.View.seen c.args.draft.now.view) c.args.inode c.args.room.now.items _ _ _ (c.in_ok-clear_moved.ensures.within c.args.room.now.items)
    (subst (λ v. Follows (g.V.View.seen v) c.args.inode c.args.room.now.items c.clear_moved.new.draft.fates c.grow.new.draft.fates) c.in_ok-clear_moved.ensures.view c.in_ok-high.ensures.within))
    (subst (λ v. Follows (g.V.View.seen v) c.args.inode c.args.room.now.items c.grow.new.draft.fates c.set_size_and_count.new.draft.fates) (c.in_ok-high.ensures.view ∙ c.in_ok-clear_moved.ensures.view) (c.in_ok-set_size_and_count.ensures.within c.args.room.now.items))
