use Rattle.std.proofs.Common.{◌≡◌, ◌+◌, ◌-◌, ◌/◌, ◌%◌, ◌<◌, ◌≤◌, refl, sym, ap, ◌∙◌, arith}
use Rattle.std.proofs.Math.Nat.{mod-lt}
use Rattle.drafts.specs.Fates.{seen_in}
use Rattle.gfs2_layout.specs.Inode.{dinode_in}
use Rattle.gfs2_layout.specs.declared.dinode.Dinode.{Dinode}
use Rattle.growth_laws.proofs.Places.{size_large}
use Rattle.growth_drafts.specs.Touched.{as_it_was}
use Rattle.file_fills.specs.Walks.{IsStop}
use Rattle.file_fills.proofs.Stepped.{content_at_stop}
use Rattle.file_heights.proofs.Clearing.{cleared_changes, cleared_follows, empty_is_clear, end_is_clear, hole_is_clear, last_place}
use Rattle.file_heights.proofs.ends.clear_last.Goals as goal

pub returns-then-dinode-eq0-clause-cleared : goal.returns-then-dinode-eq0-clause-cleared
returns-then-dinode-eq0-clause-cleared g c h file shown d_is high ways =
    (refl, empty_is_clear (seen_in g.V.View.seen c.args.draft.now) c.args.draft.now.fates c.args.inode h file shown (sym (ap (λ (d : Dinode). d.size) d_is) ∙ c.if-dinode-eq0.true))

pub returns-then-dinode-eq0-clause-within : goal.returns-then-dinode-eq0-clause-within
returns-then-dinode-eq0-clause-within g c room = as_it_was c.args.draft.now.fates

pub returns-in_default-clause-within : goal.returns-in_default-clause-within
returns-in_default-clause-within g c room = as_it_was c.args.draft.now.fates

pub returns-else-stop-ne0-clause-within : goal.returns-else-stop-ne0-clause-within
returns-else-stop-ne0-clause-within g c room = as_it_was c.args.draft.now.fates

pub returns-in_default-clause-cleared : goal.returns-in_default-clause-cleared
returns-in_default-clause-cleared g c h file shown d_is high ways =
    let size : c.from-size.result ≡ h.size = c.from-size.ensures ∙ c.block_size.ensures.value ∙ sym shown.size in
    let bytes : (dinode_in h).size ≡ c.args.dinode.now.size = ap (λ (d : Dinode). d.size) (sym d_is) in
    let last : (dinode_in h).size ≡ c.args.dinode.now.size - 1 + 1 = omega (arith, bytes, c.if-dinode-eq0.false) in
    let place = last_place h (c.args.dinode.now.size - 1) c.from-size.result file high last size in
    absurd (c.in_default.ensures.found h file shown place.1 (ways ((c.args.dinode.now.size - 1) / c.from-size.result) place.0))

pub returns-in_ok-clear_end-clause-cleared : goal.returns-in_ok-clear_end-clause-cleared
returns-in_ok-clear_end-clause-cleared g c h file shown d_is high ways =
    let size : c.from-size.result ≡ h.size = c.from-size.ensures ∙ c.block_size.ensures.value ∙ sym shown.size in
    let bytes : (dinode_in h).size ≡ c.args.dinode.now.size = ap (λ (d : Dinode). d.size) (sym d_is) in
    let last : (dinode_in h).size ≡ c.args.dinode.now.size - 1 + 1 = omega (arith, bytes, c.if-dinode-eq0.false) in
    let place = last_place h (c.args.dinode.now.size - 1) c.from-size.result file high last size in
    let stopped : IsStop h 0 ((c.args.dinode.now.size - 1) / c.from-size.result) c.in-Some.stop = c.in-Some.ensures.found h file shown place.1 (ways ((c.args.dinode.now.size - 1) / c.from-size.result) place.0) in
    let is = c.in_ok-clear_end.ensures.cleared h ((c.args.dinode.now.size - 1) / c.from-size.result) file shown high place.0 (content_at_stop h _ c.in-Some.stop stopped c.if-stop-ne0.true) c.if-stop-ne0.true place.2 in
    let there = c.in-Some.ensures.block c.if-stop-ne0.true in
    let some : 0 < c.from-size.result = omega (arith, size, size_large h.size file.block_size) in
    let within : (c.args.dinode.now.size - 1) % c.from-size.result + 1 ≤ h.size = omega (arith, size, mod-lt (c.args.dinode.now.size - 1) some) in
    let changes = cleared_changes g.V.View.seen c.args.draft.now c.clear_end.new.draft c.args.inode h ((c.args.dinode.now.size - 1) / c.from-size.result) c.in-Some.stop.block ((c.args.dinode.now.size - 1) % c.from-size.result + 1) there.0 _ _
    file high shown place.0 (content_at_stop h _ c.in-Some.stop stopped c.if-stop-ne0.true) c.if-stop-ne0.true place.2 (let low : 0 < (c.args.dinode.now.size - 1) % c.from-size.result + 1 = omega arith in low) within there.1
    (c.in_ok-clear_end.ensures.put there.0 there.1) (c.in_ok-clear_end.ensures.clear there.0 there.1) in
    (refl, end_is_clear c.args.draft.now.fates c.clear_end.new.draft.fates (seen_in g.V.View.seen c.clear_end.new.draft) c.args.inode h _ _ _ file is.0 is.1 is.2 is.3 shown.own changes)

pub returns-else-stop-ne0-clause-cleared : goal.returns-else-stop-ne0-clause-cleared
returns-else-stop-ne0-clause-cleared g c h file shown d_is high ways =
    let size : c.from-size.result ≡ h.size = c.from-size.ensures ∙ c.block_size.ensures.value ∙ sym shown.size in
    let bytes : (dinode_in h).size ≡ c.args.dinode.now.size = ap (λ (d : Dinode). d.size) (sym d_is) in
    let last : (dinode_in h).size ≡ c.args.dinode.now.size - 1 + 1 = omega (arith, bytes, c.if-dinode-eq0.false) in
    let place = last_place h (c.args.dinode.now.size - 1) c.from-size.result file high last size in
    let stopped : IsStop h 0 ((c.args.dinode.now.size - 1) / c.from-size.result) c.in-Some.stop = c.in-Some.ensures.found h file shown place.1 (ways ((c.args.dinode.now.size - 1) / c.from-size.result) place.0) in
    (refl, hole_is_clear (seen_in g.V.View.seen c.args.draft.now) c.args.draft.now.fates c.args.inode h file shown _ c.in-Some.stop place.0 stopped c.if-stop-ne0.false)

pub returns-in_ok-clear_end-clause-within : goal.returns-in_ok-clear_end-clause-within
returns-in_ok-clear_end-clause-within g c room =
    let there = c.in-Some.ensures.block c.if-stop-ne0.true in
    cleared_follows (g.V.View.seen c.args.draft.now.view) c.args.inode room c.args.draft.now c.clear_end.new.draft c.in-Some.stop.block there.0 _ _ _ (λ h shown. (c.in-Some.stop.pointer.from, c.in-Some.stop.pointer.index, c.in-Some.stop.level, _, c.in-Some.ensures.leads h shown c.if-stop-ne0.true))
    (c.in_ok-clear_end.ensures.put there.0 there.1) (c.in_ok-clear_end.ensures.clear there.0 there.1)
