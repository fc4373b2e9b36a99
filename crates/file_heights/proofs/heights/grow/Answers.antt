use Rattle.std.proofs.Common.{◌≡◌, ◌-◌, length, false, inl, refl, sym, subst, ◌∙◌}
use Rattle.std.specs.Prelude.{replicate}
use Rattle.drafts.specs.Fates.{seen_in}
use Rattle.gfs2_layout.specs.Structures.{dinode_length}
use Rattle.growth_laws.specs.Need.{has_content}
use Rattle.growth_drafts.specs.Touched.{as_it_was}
use Rattle.growth_drafts.proofs.Following.{follows_draft, follows_one}
use Rattle.growth_steps.proofs.Keeping.{kept_by_one}
use Rattle.growth_steps.proofs.Putting.{own_seen}
use Rattle.file_heights.specs.Grown.{HasRisen}
use Rattle.file_heights.proofs.Changing.{changes_of, changes_one}
use Rattle.file_heights.proofs.Joining.{has_risen_none}
use Rattle.file_heights.proofs.Rising.{bare_has, can_be_bare, height_is}
use Rattle.file_heights.proofs.Pads.{pads_before}
use Rattle.file_heights.proofs.heights.grow.Goals as goal

pub returns-then-height-dinode-clause-grown : goal.returns-then-height-dinode-clause-grown
returns-then-height-dinode-clause-grown g c h shown d_is can =
    let height = height_is h c.args.dinode.now c.args.size c.block_size.result c.height_for-height.result (c.block_size.ensures.value ∙ sym shown.size) d_is c.height_for-height.ensures.value in
    subst (λ n. HasRisen (seen_in g.V.View.seen c.args.draft.now) c.args.draft.now.fates c.args.draft.now.fates c.args.room.now.items c.args.room.now.items h n c.args.dinode.now) (sym c.if-height-dinode.true ∙ height)
    (has_risen_none (seen_in g.V.View.seen c.args.draft.now) c.args.draft.now.fates c.args.inode c.args.room.now.items h c.args.dinode.now can.file shown d_is)

pub returns-then-height-dinode-clause-within : goal.returns-then-height-dinode-clause-within
returns-then-height-dinode-clause-within g c = as_it_was c.args.draft.now.fates

pub returns-clause-grown : goal.returns-clause-grown
returns-clause-grown g c h shown d_is can =
    let height = height_is h c.args.dinode.now c.args.size c.block_size.result c.height_for-height.result (c.block_size.ensures.value ∙ sym shown.size) d_is c.height_for-height.ensures.value in
    let none : has_content h ≡ false = sym (c.carries.ensures h shown d_is) ∙ c.if-carries.false in
    let is = c.in_ok-set_height.ensures.bare h c.requires.there.0 can.file shown d_is (can_be_bare h c.args.size c.height_for-height.result c.args.room.now.items can height none) c.requires.there.1 in
    subst (λ n. HasRisen (seen_in g.V.View.seen c.set_height.new.draft) c.args.draft.now.fates c.set_height.new.draft.fates c.args.room.now.items c.args.room.now.items h n (record c.args.dinode.now { height = c.height_for-height.result })) height
    (bare_has (seen_in g.V.View.seen c.set_height.new.draft) c.args.draft.now.fates c.set_height.new.draft.fates c.args.inode c.height_for-height.result c.args.room.now.items h _ c.args.dinode.now can.file shown.own d_is none is.0 is.1
    (pads_before h (record c.args.dinode.now { height = c.height_for-height.result }) c.requires.there.0 can.file (own_seen (seen_in g.V.View.seen c.args.draft.now) c.args.inode c.requires.there.0 h shown c.requires.there.1) (replicate (length c.requires.there.0 - dinode_length) 0))
    (changes_of c.args.draft.now c.set_height.new.draft _ (λ x. x ≡ c.args.inode) (c.in_ok-set_height.ensures.put c.requires.there.0 c.requires.there.1) (changes_one c.args.draft.now.fates c.args.inode _)))

pub returns-clause-still : goal.returns-clause-still
returns-clause-still g c =
    kept_by_one g.V.View.seen c.args.draft.now c.set_height.new.draft c.args.inode c.requires.there c.args.inode _ _ _ (c.in_ok-set_height.ensures.put c.requires.there.0 c.requires.there.1)

pub returns-clause-within : goal.returns-clause-within
returns-clause-within g c =
    follows_draft (g.V.View.seen c.args.draft.now.view) c.args.inode c.args.room.now.items c.args.draft.now c.set_height.new.draft _ (c.in_ok-set_height.ensures.put c.requires.there.0 c.requires.there.1)
    (follows_one (g.V.View.seen c.args.draft.now.view) c.args.inode c.args.room.now.items c.args.draft.now.fates c.args.inode _ (inl refl))
