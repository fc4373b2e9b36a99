use Rattle.std.proofs.Common.{◌≡◌, ◌⊎◌, ◌+◌, ◌-◌, suc, length, ◌∷◌, inl, inr, refl, sym, ap, ◌∙◌, arith}
use Rattle.std.specs.Prelude.{Contains}
use Rattle.drafts.specs.Fates.{seen_in}
use Rattle.gfs2_layout.specs.Inode.{height_in}
use Rattle.gfs2_layout.specs.declared.dinode.Dinode.{Dinode}
use Rattle.growth_laws.proofs.Places.{size_large}
use Rattle.growth_drafts.proofs.Following.{follows_draft, follows_two}
use Rattle.growth_steps.specs.Heights.{moved_bytes, raised_bytes}
use Rattle.growth_steps.proofs.Keeping.{kept_by_two}
use Rattle.growth_steps.proofs.Putting.{own_seen}
use Rattle.growth_steps.proofs.Stepping.{on_ok}
use Rattle.file_heights.proofs.Rising.{can_rise, moved_has, raised_has, raised_head, stuffed_along}
use Rattle.file_heights.proofs.Changing.{changes_of, changes_two, on_both}
use Rattle.file_heights.proofs.Pads.{moved_pads, raised_pads}
use Rattle.file_heights.proofs.heights.raise_once.Goals as goal

pub move_content-requires-clause-room : goal.move_content-requires-clause-room
move_content-requires-clause-room g c = c.requires.room

pub raise_height-requires-clause-room : goal.raise_height-requires-clause-room
raise_height-requires-clause-room g c = c.requires.room

pub returns-then-dinode-eq0-clause-risen : goal.returns-then-dinode-eq0-clause-risen
returns-then-dinode-eq0-clause-risen g c h left file shown d_is has fresh =
    let stuffed : height_in h ≡ 0 = sym (ap (λ (d : Dinode). d.height) d_is) ∙ c.if-dinode-eq0.true in
    on_both c.move_content.result _ _ _ (λ is put. moved_has _ _ _ c.args.inode c.args.block h _ c.args.dinode.now left file shown.own d_is c.if-dinode-eq0.true is.0 is.1
    (moved_pads h (record c.args.dinode.now { height = 1 }) c.requires.there.0 file (own_seen (seen_in g.V.View.seen c.args.draft.now) c.args.inode c.requires.there.0 h shown c.requires.there.1) c.args.block (moved_bytes c.args.dinode.now.size c.requires.there.0) fresh.new)
    (changes_of c.args.draft.now c.move_content.new.draft _ (λ x. (x ≡ c.args.inode) ⊎ (x ≡ c.args.block)) put (changes_two c.args.draft.now.fates c.args.inode c.args.block _ _)))
    (c.move_content.ensures.moved h c.requires.there.0 file shown d_is (record { stuffed = stuffed; content = stuffed_along h stuffed has }) fresh c.requires.there.1)
    (c.move_content.ensures.put c.requires.there.0 c.requires.there.1)

pub returns-then-dinode-eq0-clause-still : goal.returns-then-dinode-eq0-clause-still
returns-then-dinode-eq0-clause-still g c =
    on_ok c.move_content.result _ _ (kept_by_two g.V.View.seen c.args.draft.now c.move_content.new.draft c.args.inode c.requires.there c.args.inode c.args.block _ _ _ _ _ _) (c.move_content.ensures.put c.requires.there.0 c.requires.there.1)

pub returns-then-dinode-eq0-clause-within : goal.returns-then-dinode-eq0-clause-within
returns-then-dinode-eq0-clause-within g c left =
    let here : Contains (c.args.block ∷ left) c.args.block = (0, omega arith, refl) in
    on_ok c.move_content.result _ _ (λ is. follows_draft (g.V.View.seen c.args.draft.now.view) c.args.inode (c.args.block ∷ left) c.args.draft.now c.move_content.new.draft _ is
    (follows_two (g.V.View.seen c.args.draft.now.view) c.args.inode (c.args.block ∷ left) c.args.draft.now.fates c.args.inode c.args.block _ _ (inl refl) (inr (inl here)))) (c.move_content.ensures.put c.requires.there.0 c.requires.there.1)

pub returns-clause-risen : goal.returns-clause-risen
returns-clause-risen g c h left file shown d_is has fresh =
    let high : height_in h ≡ suc (c.args.dinode.now.height - 1) = sym (ap (λ (d : Dinode). d.height) d_is) ∙ (let up : c.args.dinode.now.height ≡ suc (c.args.dinode.now.height - 1) = omega (arith, c.if-dinode-eq0.false) in up) in
    on_both c.raise_height.result _ _ _ (λ is put. raised_has _ _ _ c.args.inode (c.args.dinode.now.height - 1) c.args.block h _ c.args.dinode.now left file shown.own d_is is.0
    (raised_head h (c.args.dinode.now.height - 1) c.args.block _ c.requires.there.0 (ap length (sym (own_seen (seen_in g.V.View.seen c.args.draft.now) c.args.inode c.requires.there.0 h shown c.requires.there.1)) ∙ file.whole h.own _ file.own) (size_large h.size file.block_size)) is.1
    (raised_pads h (record c.args.dinode.now { height = c.args.dinode.now.height + 1 }) c.requires.there.0 file (own_seen (seen_in g.V.View.seen c.args.draft.now) c.args.inode c.requires.there.0 h shown c.requires.there.1) c.args.block (raised_bytes c.requires.there.0) fresh.new (c.args.dinode.now.height - 1))
    (changes_of c.args.draft.now c.raise_height.new.draft _ (λ x. (x ≡ c.args.inode) ⊎ (x ≡ c.args.block)) put (changes_two c.args.draft.now.fates c.args.inode c.args.block _ _)))
    (c.raise_height.ensures.raised h (c.args.dinode.now.height - 1) c.requires.there.0 file shown d_is (can_rise h (c.args.dinode.now.height - 1) high (omega (arith, c.requires.low, c.if-dinode-eq0.false)) has) fresh c.requires.there.1)
    (c.raise_height.ensures.put c.requires.there.0 c.requires.there.1)

pub returns-clause-still : goal.returns-clause-still
returns-clause-still g c =
    on_ok c.raise_height.result _ _ (kept_by_two g.V.View.seen c.args.draft.now c.raise_height.new.draft c.args.inode c.requires.there c.args.inode c.args.block _ _ _ _ _ _) (c.raise_height.ensures.put c.requires.there.0 c.requires.there.1)

pub returns-clause-within : goal.returns-clause-within
returns-clause-within g c left =
    let here : Contains (c.args.block ∷ left) c.args.block = (0, omega arith, refl) in
    on_ok c.raise_height.result _ _ (λ is. follows_draft (g.V.View.seen c.args.draft.now.view) c.args.inode (c.args.block ∷ left) c.args.draft.now c.raise_height.new.draft _ is
    (follows_two (g.V.View.seen c.args.draft.now.view) c.args.inode (c.args.block ∷ left) c.args.draft.now.fates c.args.inode c.args.block _ _ (inl refl) (inr (inl here)))) (c.raise_height.ensures.put c.requires.there.0 c.requires.there.1)
