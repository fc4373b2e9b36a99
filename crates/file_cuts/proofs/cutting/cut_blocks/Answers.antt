use Rattle.std.proofs.Common.{◌≡◌, ◌⊎◌, ◌-◌, ◌/◌, ◌<◌, ◌≤◌, ℕ, inl, true, false, [], length, refl, sym, ap, subst, ◌∙◌, arith, rules}
use Rattle.std.specs.Prelude.{Contains, IsSomeAnd}
use Rattle.std.specs.declared.vec.Vec.{Vec}
use Rattle.drafts.specs.Fates.{seen_in, seen_with}
use Rattle.gfs2_layout.specs.Inode.{content_count, height_in, pieces, span}
use Rattle.gfs2_layout.specs.declared.dinode.Dinode.{Dinode}
use Rattle.dinode_tree.specs.Shown.{IsShown}
use Rattle.dinode_tree.proofs.Spans.{pieces_of}
use Rattle.growth_laws.specs.Files.{with_cells}
use Rattle.growth_drafts.specs.Touched.{Follows}
use Rattle.growth_drafts.proofs.Following.{follows_then}
use Rattle.file_fills.specs.Filling.{IsSeenWay}
use Rattle.file_fills.proofs.Seeing.{count_is}
use Rattle.file_cuts.specs.Cut.{WasLedTo, end_of}
use Rattle.file_cuts.specs.Progress.{CanFree, HasCutTo, IsSeenOver}
use Rattle.file_cuts.proofs.Ending.{can_have}
use Rattle.file_cuts.proofs.Finishing.{cut_is_done}
use Rattle.file_cuts.proofs.Going.{as_before}
use Rattle.file_cuts.proofs.Leading.{led_all, led_then}
use Rattle.file_cuts.proofs.Ways.{none_of, way_on}
use Rattle.file_cuts.proofs.cutting.cut_blocks.Goals as goal

never : true ≡ false → ⊥
never e = let f : true ≡ false = e in cc

pub returns-in_default-clause-cut : goal.returns-in_default-clause-cut
returns-in_default-clause-cut g c h shown d_is can high ways last =
    let block : c.from-block_size.result ≡ h.size = c.from-block_size.ensures ∙ c.block_size.ensures.value ∙ sym shown.size in
    let some : 0 < c.from-block_size.result = omega (arith, c.block_size.ensures.view.block_size, c.block_size.ensures.value, c.from-block_size.ensures) in
    let end : c.div_ceil-end.result ≡ end_of h c.args.size = c.div_ceil-end.ensures ∙ pieces_of _ _ some ∙ ap (pieces c.args.size) block in
    let count : c.count_blocks-count.result ≡ content_count h = c.count_blocks-count.ensures ∙ count_is (seen_in g.V.View.seen c.args.draft.now) h c.args.inode c.from-block_size.result c.args.dinode.now shown d_is (c.from-block_size.ensures ∙ c.block_size.ensures.value) in
    let tall : c.args.dinode.now.height ≡ height_in h = ap (λ (d : Dinode). d.height) d_is in
    let free : CanFree h c.args.inode = record { file = can.counted.file; own = shown.own; inside = can.inside } in
    let gone = c.in_ok-freed.ensures.gone h free tall count shown (subst (λ n. (i : ℕ) → n ≤ i → (i ≡ n) ⊎ (i < content_count h) → IsSeenOver (seen_in g.V.View.seen c.args.draft.now) h i) (sym end) ways) in
    absurd (subst (λ o. IsSomeAnd o (λ (xs : Vec ℕ _). HasCutTo (g.V.View.seen c.free_past.new.draft.view) c.args.draft.now.fates c.free_past.new.draft.fates h c.div_ceil-end.result c.args.dinode.now.height (c.div_ceil-end.result / span h.size c.args.dinode.now.height) xs.items)) c.in_default.is gone)

pub returns-then-not-sees-clause-cut : goal.returns-then-not-sees-clause-cut
returns-then-not-sees-clause-cut g c h shown d_is can high ways last =
    let block : c.from-block_size.result ≡ h.size = c.from-block_size.ensures ∙ c.block_size.ensures.value ∙ sym shown.size in
    let some : 0 < c.from-block_size.result = omega (arith, c.block_size.ensures.view.block_size, c.block_size.ensures.value, c.from-block_size.ensures) in
    let end : c.div_ceil-end.result ≡ end_of h c.args.size = c.div_ceil-end.ensures ∙ pieces_of _ _ some ∙ ap (pieces c.args.size) block in
    let count : c.count_blocks-count.result ≡ content_count h = c.count_blocks-count.ensures ∙ count_is (seen_in g.V.View.seen c.args.draft.now) h c.args.inode c.from-block_size.result c.args.dinode.now shown d_is (c.from-block_size.ensures ∙ c.block_size.ensures.value) in
    let tall : c.args.dinode.now.height ≡ height_in h = ap (λ (d : Dinode). d.height) d_is in
    let free : CanFree h c.args.inode = record { file = can.counted.file; own = shown.own; inside = can.inside } in
    let gone = c.in_ok-freed.ensures.gone h free tall count shown (subst (λ n. (i : ℕ) → n ≤ i → (i ≡ n) ⊎ (i < content_count h) → IsSeenOver (seen_in g.V.View.seen c.args.draft.now) h i) (sym end) ways) in
    let at_end = subst (λ o. IsSomeAnd o (λ (xs : Vec ℕ _). HasCutTo (g.V.View.seen c.free_past.new.draft.view) c.args.draft.now.fates c.free_past.new.draft.fates h c.div_ceil-end.result c.args.dinode.now.height (c.div_ceil-end.result / span h.size c.args.dinode.now.height) xs.items)) c.in-Some.is gone in
    let a : HasCutTo (g.V.View.seen c.free_past.new.draft.view) c.args.draft.now.fates c.free_past.new.draft.fates h (end_of h c.args.size) (height_in h) (end_of h c.args.size / span h.size (height_in h)) c.in-Some.freed.items
    = subst (λ m. HasCutTo (g.V.View.seen c.free_past.new.draft.view) c.args.draft.now.fates c.free_past.new.draft.fates h (end_of h c.args.size) m (end_of h c.args.size / span h.size m) c.in-Some.freed.items) tall
    (subst (λ n. HasCutTo (g.V.View.seen c.free_past.new.draft.view) c.args.draft.now.fates c.free_past.new.draft.fates h n c.args.dinode.now.height (n / span h.size c.args.dinode.now.height) c.in-Some.freed.items) end at_end) in
    let first : end_of h c.args.size ≤ end_of h c.args.size = omega arith in
    let way = a.ways (end_of h c.args.size) first (inl refl) in
    absurd (none_of (seen_in g.V.View.seen c.free_past.new.draft) h.own way.dinode (ap (seen_in g.V.View.seen c.free_past.new.draft).block_at shown.own ∙ c.sees.ensures.no c.if-not-sees.true))

pub returns-then-not-branch-clause-cut : goal.returns-then-not-branch-clause-cut
returns-then-not-branch-clause-cut g c h shown d_is can high ways last =
    let block : c.from-block_size.result ≡ h.size = c.from-block_size.ensures ∙ c.block_size.ensures.value ∙ sym shown.size in
    let some : 0 < c.from-block_size.result = omega (arith, c.block_size.ensures.view.block_size, c.block_size.ensures.value, c.from-block_size.ensures) in
    let end : c.div_ceil-end.result ≡ end_of h c.args.size = c.div_ceil-end.ensures ∙ pieces_of _ _ some ∙ ap (pieces c.args.size) block in
    let count : c.count_blocks-count.result ≡ content_count h = c.count_blocks-count.ensures ∙ count_is (seen_in g.V.View.seen c.args.draft.now) h c.args.inode c.from-block_size.result c.args.dinode.now shown d_is (c.from-block_size.ensures ∙ c.block_size.ensures.value) in
    let tall : c.args.dinode.now.height ≡ height_in h = ap (λ (d : Dinode). d.height) d_is in
    let free : CanFree h c.args.inode = record { file = can.counted.file; own = shown.own; inside = can.inside } in
    let gone = c.in_ok-freed.ensures.gone h free tall count shown (subst (λ n. (i : ℕ) → n ≤ i → (i ≡ n) ⊎ (i < content_count h) → IsSeenOver (seen_in g.V.View.seen c.args.draft.now) h i) (sym end) ways) in
    let at_end = subst (λ o. IsSomeAnd o (λ (xs : Vec ℕ _). HasCutTo (g.V.View.seen c.free_past.new.draft.view) c.args.draft.now.fates c.free_past.new.draft.fates h c.div_ceil-end.result c.args.dinode.now.height (c.div_ceil-end.result / span h.size c.args.dinode.now.height) xs.items)) c.in-Some.is gone in
    let a : HasCutTo (g.V.View.seen c.free_past.new.draft.view) c.args.draft.now.fates c.free_past.new.draft.fates h (end_of h c.args.size) (height_in h) (end_of h c.args.size / span h.size (height_in h)) c.in-Some.freed.items
    = subst (λ m. HasCutTo (g.V.View.seen c.free_past.new.draft.view) c.args.draft.now.fates c.free_past.new.draft.fates h (end_of h c.args.size) m (end_of h c.args.size / span h.size m) c.in-Some.freed.items) tall
    (subst (λ n. HasCutTo (g.V.View.seen c.free_past.new.draft.view) c.args.draft.now.fates c.free_past.new.draft.fates h n c.args.dinode.now.height (n / span h.size c.args.dinode.now.height) c.in-Some.freed.items) end at_end) in
    let shown_g = subst (λ x. IsShown (seen_in g.V.View.seen c.free_past.new.draft) x (with_cells h a.cell)) shown.own a.shown in
    let ended = c.in_ok-set_end.ensures.ended (with_cells h a.cell) a.cut.file shown_g (d_is ∙ sym a.cut.dinode) (can_have c.args.draft.now.fates c.free_past.new.draft.fates h a.cell c.args.size _ c.in-Some.freed.items can.counted.file can.larger high a.cut)
    (λ i at_last is_cut. subst (λ v. IsSeenWay (seen_with (g.V.View.seen v) c.free_past.new.draft.fates) (with_cells h a.cell) i) (sym c.in_ok-freed.ensures.view)
    (way_on c.args.draft.now.fates c.free_past.new.draft.fates (g.V.View.seen c.args.draft.now.view) h a.cell c.in-Some.freed.items can.counted.file a.cut.file a.cut.drafted i
    (as_before c.args.draft.now.fates c.free_past.new.draft.fates h a.cell (end_of h c.args.size) (height_in h) _ c.in-Some.freed.items can.counted.file a.cut) (last i at_last is_cut))) in
    absurd (never (sym ended.0 ∙ c.if-not-branch.true))

pub returns-clause-cut : goal.returns-clause-cut
returns-clause-cut g c h shown d_is can high ways last =
    let block : c.from-block_size.result ≡ h.size = c.from-block_size.ensures ∙ c.block_size.ensures.value ∙ sym shown.size in
    let some : 0 < c.from-block_size.result = omega (arith, c.block_size.ensures.view.block_size, c.block_size.ensures.value, c.from-block_size.ensures) in
    let end : c.div_ceil-end.result ≡ end_of h c.args.size = c.div_ceil-end.ensures ∙ pieces_of _ _ some ∙ ap (pieces c.args.size) block in
    let count : c.count_blocks-count.result ≡ content_count h = c.count_blocks-count.ensures ∙ count_is (seen_in g.V.View.seen c.args.draft.now) h c.args.inode c.from-block_size.result c.args.dinode.now shown d_is (c.from-block_size.ensures ∙ c.block_size.ensures.value) in
    let tall : c.args.dinode.now.height ≡ height_in h = ap (λ (d : Dinode). d.height) d_is in
    let free : CanFree h c.args.inode = record { file = can.counted.file; own = shown.own; inside = can.inside } in
    let gone = c.in_ok-freed.ensures.gone h free tall count shown (subst (λ n. (i : ℕ) → n ≤ i → (i ≡ n) ⊎ (i < content_count h) → IsSeenOver (seen_in g.V.View.seen c.args.draft.now) h i) (sym end) ways) in
    let at_end = subst (λ o. IsSomeAnd o (λ (xs : Vec ℕ _). HasCutTo (g.V.View.seen c.free_past.new.draft.view) c.args.draft.now.fates c.free_past.new.draft.fates h c.div_ceil-end.result c.args.dinode.now.height (c.div_ceil-end.result / span h.size c.args.dinode.now.height) xs.items)) c.in-Some.is gone in
    let a : HasCutTo (g.V.View.seen c.free_past.new.draft.view) c.args.draft.now.fates c.free_past.new.draft.fates h (end_of h c.args.size) (height_in h) (end_of h c.args.size / span h.size (height_in h)) c.in-Some.freed.items
    = subst (λ m. HasCutTo (g.V.View.seen c.free_past.new.draft.view) c.args.draft.now.fates c.free_past.new.draft.fates h (end_of h c.args.size) m (end_of h c.args.size / span h.size m) c.in-Some.freed.items) tall
    (subst (λ n. HasCutTo (g.V.View.seen c.free_past.new.draft.view) c.args.draft.now.fates c.free_past.new.draft.fates h n c.args.dinode.now.height (n / span h.size c.args.dinode.now.height) c.in-Some.freed.items) end at_end) in
    let shown_g = subst (λ x. IsShown (seen_in g.V.View.seen c.free_past.new.draft) x (with_cells h a.cell)) shown.own a.shown in
    let ended = c.in_ok-set_end.ensures.ended (with_cells h a.cell) a.cut.file shown_g (d_is ∙ sym a.cut.dinode) (can_have c.args.draft.now.fates c.free_past.new.draft.fates h a.cell c.args.size _ c.in-Some.freed.items can.counted.file can.larger high a.cut)
    (λ i at_last is_cut. subst (λ v. IsSeenWay (seen_with (g.V.View.seen v) c.free_past.new.draft.fates) (with_cells h a.cell) i) (sym c.in_ok-freed.ensures.view)
    (way_on c.args.draft.now.fates c.free_past.new.draft.fates (g.V.View.seen c.args.draft.now.view) h a.cell c.in-Some.freed.items can.counted.file a.cut.file a.cut.drafted i
    (as_before c.args.draft.now.fates c.free_past.new.draft.fates h a.cell (end_of h c.args.size) (height_in h) _ c.in-Some.freed.items can.counted.file a.cut) (last i at_last is_cut))) in
    let told : c.saturating_sub-blocks.result ≡ c.args.dinode.now.blocks - length c.in-Some.freed.items = search rules in
    cut_is_done (g.V.View.seen c.free_past.new.draft.view) c.args.draft.now.fates c.free_past.new.draft.fates c.set_end.new.draft.fates h c.args.size _ c.saturating_sub-blocks.result c.in-Some.freed.items can high a (seen_in g.V.View.seen c.set_end.new.draft)
    (told ∙ ap (λ (d : Dinode). d.blocks - length c.in-Some.freed.items) d_is) ended.1

pub returns-then-not-branch-clause-within : goal.returns-then-not-branch-clause-within
returns-then-not-branch-clause-within g c room =
    follows_then (g.V.View.seen c.args.draft.now.view) c.args.inode room _ _ _ (c.in_ok-freed.ensures.within room)
    (subst (λ v. Follows (g.V.View.seen v) c.args.inode room c.free_past.new.draft.fates c.set_end.new.draft.fates) c.in_ok-freed.ensures.view (c.in_ok-set_end.ensures.within room))

pub returns-clause-within : goal.returns-clause-within
returns-clause-within g c room =
    follows_then (g.V.View.seen c.args.draft.now.view) c.args.inode room _ _ _ (c.in_ok-freed.ensures.within room)
    (subst (λ v. Follows (g.V.View.seen v) c.args.inode room c.free_past.new.draft.fates c.set_end.new.draft.fates) c.in_ok-freed.ensures.view (c.in_ok-set_end.ensures.within room))

pub returns-clause-led : goal.returns-clause-led
returns-clause-led g c b is =
    led_then (g.V.View.seen c.args.draft.now.view) c.args.inode c.args.draft.now.fates c.free_past.new.draft.fates c.set_end.new.draft.fates b
    (led_all _ c.in-Some.freed (λ (xs : Vec ℕ _). (x : ℕ) → Contains xs.items x → WasLedTo (g.V.View.seen c.args.draft.now.view) c.args.inode c.args.draft.now.fates c.free_past.new.draft.fates x) c.in-Some.is c.in_ok-freed.ensures.led b is)
    (subst (λ v. Follows (g.V.View.seen v) c.args.inode [] c.free_past.new.draft.fates c.set_end.new.draft.fates) c.in_ok-freed.ensures.view (c.in_ok-set_end.ensures.within []))
