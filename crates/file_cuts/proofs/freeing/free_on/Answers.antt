use Rattle.std.proofs.Common.{◌≡◌, ◌⊎◌, ◌+◌, ◌*◌, ◌/◌, ◌<◌, ◌≤◌, suc, inl, inr, IfSome, [], refl, sym, ap, subst, ◌∙◌, arith}
use Rattle.std.proofs.lemmas.Bool.{cases_lt}
use Rattle.std.specs.Prelude.{Contains, IsSomeAnd}
use Rattle.gfs2_layout.specs.Device.{IsBlockSize}
use Rattle.gfs2_layout.specs.Inode.{content_count, span}
use Rattle.dinode_tree.proofs.Dinodes.{lacks}
use Rattle.dinode_tree.proofs.Spans.{span_some}
use Rattle.growth_drafts.specs.Touched.{Follows, as_it_was}
use Rattle.growth_drafts.proofs.Following.{follows_then}
use Rattle.growth_laws.proofs.Places.{size_large}
use Rattle.file_cuts.specs.Cut.{WasLedTo}
use Rattle.file_cuts.specs.Progress.{HasCutTo}
use Rattle.file_cuts.proofs.Going.{cut_up}
use Rattle.file_cuts.proofs.Leading.{led_on}
use Rattle.file_cuts.proofs.Past.{at_most}
use Rattle.file_cuts.proofs.Place.{reach_from}
use Rattle.file_cuts.proofs.freeing.free_on.Goals as goal

pub places-init : goal.places-init
places-init g c = record {
  view = refl;
  least = omega (arith, c.place_over-place.ensures);
  within = λ room. as_it_was c.args.draft.now.fates;
  led = λ b is. inl is;
  gone = λ h old can count low a.
      let size : c.block_size-size.result ≡ h.size = c.block_size-size.ensures.value ∙ sym a.shown.size in
      subst (λ n. HasCutTo (g.V.View.seen c.args.draft.now.view) old c.args.draft.now.fates h c.args.end c.args.level n c.args.freed.now.items) (sym (c.place_over-place.ensures ∙ ap (λ m. c.args.end / span m c.args.level) size)) a;
}

pub free_at-requires : goal.free_at-requires
free_at-requires g c =
    let large = size_large c.block_size-size.result (subst IsBlockSize (sym c.block_size-size.ensures.value) c.block_size-size.ensures.view.block_size) in
    let low = at_most c.places.place (span c.block_size-size.result c.args.level) c.args.count (span_some c.block_size-size.result c.args.level large) (c.begins_before.ensures.0 c.places-test.true) in
    record { low = omega (arith, low, c.ranges.count) }

pub places-smaller : goal.places-smaller
places-smaller g c =
    let large = size_large c.block_size-size.result (subst IsBlockSize (sym c.block_size-size.ensures.value) c.block_size-size.ensures.view.block_size) in
    let low = at_most c.places.place (span c.block_size-size.result c.args.level) c.args.count (span_some c.block_size-size.result c.args.level large) (c.begins_before.ensures.0 c.places-test.true) in
    let later : c.places.place < c.in-Some.next = subst (λ o. IfSome o (λ n. c.places.place < n)) c.in-Some.is c.in_ok-next.ensures.later in
    omega (arith, low, later)

pub places-preserved : goal.places-preserved
places-preserved g c =
    let later : c.places.place < c.in-Some.next = subst (λ o. IfSome o (λ n. c.places.place < n)) c.in-Some.is c.in_ok-next.ensures.later in
    record {
      view = c.in_ok-next.ensures.view ∙ c.places.invariant.view;
      least = omega (arith, later, c.places.invariant.least);
      within = λ room. follows_then (g.V.View.seen c.args.draft.now.view) c.args.inode room _ _ _ (c.places.invariant.within room)
          (subst (λ v. Follows (g.V.View.seen v) c.args.inode room c.places.draft.fates c.free_at.new.draft.fates) c.places.invariant.view (c.in_ok-next.ensures.within room));
      led = λ b. led_on (g.V.View.seen c.args.draft.now.view) c.args.inode c.args.draft.now.fates c.places.draft.fates c.free_at.new.draft.fates b c.args.freed.now.items c.places.freed.items c.free_at.new.freed.items (c.places.invariant.led b)
          (subst (λ v. Contains c.free_at.new.freed.items b → Contains c.places.freed.items b ⊎ WasLedTo (g.V.View.seen v) c.args.inode c.places.draft.fates c.free_at.new.draft.fates b) c.places.invariant.view (c.in_ok-next.ensures.led b))
          (c.places.invariant.within []) (subst (λ v. Follows (g.V.View.seen v) c.args.inode [] c.places.draft.fates c.free_at.new.draft.fates) c.places.invariant.view (c.in_ok-next.ensures.within []));
      gone = λ h old can count low a.
          let size : c.block_size-size.result ≡ h.size = c.block_size-size.ensures.value ∙ sym a.shown.size in
          let so = c.places.invariant.gone h old can count low a in
          let begins : c.places.place * span h.size c.args.level < content_count h = subst (λ n. c.places.place * span h.size c.args.level < n) count (subst (λ n. c.places.place * span n c.args.level < c.args.count) size (c.begins_before.ensures.0 c.places-test.true)) in
          let least : c.args.end / span h.size c.args.level ≤ c.places.place = subst (λ n. c.args.end / span n c.args.level ≤ c.places.place) size c.places.invariant.least in
          subst (λ o. IsSomeAnd o (λ n. HasCutTo (g.V.View.seen c.free_at.new.draft.view) old c.free_at.new.draft.fates h c.args.end c.args.level n c.free_at.new.freed.items)) c.in-Some.is
          (c.in_ok-next.ensures.gone h old c.args.end can (reach_from h c.args.end c.args.level c.places.place can.file least) begins low so);
    }

pub returns-in-None-clause-within : goal.returns-in-None-clause-within
returns-in-None-clause-within g c room =
    follows_then (g.V.View.seen c.args.draft.now.view) c.args.inode room _ _ _ (c.places.invariant.within room)
    (subst (λ v. Follows (g.V.View.seen v) c.args.inode room c.places.draft.fates c.free_at.new.draft.fates) c.places.invariant.view (c.in_ok-next.ensures.within room))

pub returns-in-None-clause-gone : goal.returns-in-None-clause-gone
returns-in-None-clause-gone g c h old can count low a =
    let size : c.block_size-size.result ≡ h.size = c.block_size-size.ensures.value ∙ sym a.shown.size in
    let so = c.places.invariant.gone h old can count low a in
    let begins : c.places.place * span h.size c.args.level < content_count h = subst (λ n. c.places.place * span h.size c.args.level < n) count (subst (λ n. c.places.place * span n c.args.level < c.args.count) size (c.begins_before.ensures.0 c.places-test.true)) in
    let least : c.args.end / span h.size c.args.level ≤ c.places.place = subst (λ n. c.args.end / span n c.args.level ≤ c.places.place) size c.places.invariant.least in
    absurd (subst (λ o. IsSomeAnd o (λ n. HasCutTo (g.V.View.seen c.free_at.new.draft.view) old c.free_at.new.draft.fates h c.args.end c.args.level n c.free_at.new.freed.items)) c.in-None.is
    (c.in_ok-next.ensures.gone h old c.args.end can (reach_from h c.args.end c.args.level c.places.place can.file least) begins low so))

pub returns-clause-gone : goal.returns-clause-gone
returns-clause-gone g c h old can count low a =
    let size : c.block_size-size.result ≡ h.size = c.block_size-size.ensures.value ∙ sym a.shown.size in
    let so = c.places.invariant.gone h old can count low a in
    let all : content_count h ≤ c.places.place * span h.size c.args.level = elim (cases_lt (c.places.place * span h.size c.args.level) (content_count h)) [
      | inl less ↦ absurd (lacks c.begins_before.result c.begins_before.ensures c.places-test.false (subst (λ n. c.places.place * span n c.args.level < c.args.count) (sym size) (subst (λ n. c.places.place * span h.size c.args.level < n) (sym count) less)))
      | inr is ↦ is
    ] in
    let one : suc c.args.level ≡ c.args.level + 1 = omega arith in (
      refl,
      subst (λ n. HasCutTo (g.V.View.seen c.places.draft.view) old c.places.draft.fates h c.args.end n (c.args.end / span h.size n) c.places.freed.items) one (record {
        cell = so.cell;
        shown = so.shown;
        cut = cut_up old c.places.draft.fates h so.cell c.args.end c.args.level c.places.place c.places.freed.items can.file so.cut all;
        ways = so.ways;
      }),
    )

pub returns-in-None-clause-led : goal.returns-in-None-clause-led
returns-in-None-clause-led g c b =
    led_on (g.V.View.seen c.args.draft.now.view) c.args.inode c.args.draft.now.fates c.places.draft.fates c.free_at.new.draft.fates b c.args.freed.now.items c.places.freed.items c.free_at.new.freed.items (c.places.invariant.led b)
    (subst (λ v. Contains c.free_at.new.freed.items b → Contains c.places.freed.items b ⊎ WasLedTo (g.V.View.seen v) c.args.inode c.places.draft.fates c.free_at.new.draft.fates b) c.places.invariant.view (c.in_ok-next.ensures.led b))
    (c.places.invariant.within []) (subst (λ v. Follows (g.V.View.seen v) c.args.inode [] c.places.draft.fates c.free_at.new.draft.fates) c.places.invariant.view (c.in_ok-next.ensures.within []))
