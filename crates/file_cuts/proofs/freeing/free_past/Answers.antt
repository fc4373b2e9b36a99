use Rattle.std.proofs.Common.{◌≡◌, ◌⊎◌, ◌/◌, ◌<◌, inl, inr, true, false, [], refl, sym, subst, ◌∙◌, arith}
use Rattle.std.specs.Prelude.{Contains}
use Rattle.drafts.specs.Fates.{seen_in}
use Rattle.gfs2_layout.specs.Inode.{height_in, span}
use Rattle.dinode_tree.specs.Shown.{IsShown}
use Rattle.growth_drafts.specs.Touched.{Follows, as_it_was}
use Rattle.growth_drafts.proofs.Following.{follows_then}
use Rattle.growth_drafts.proofs.Rooms.{none_in}
use Rattle.file_cuts.specs.Cut.{WasLedTo}
use Rattle.file_cuts.specs.Progress.{HasCutTo, IsCutTo}
use Rattle.file_cuts.proofs.Leading.{led_then, then_led}
use Rattle.file_cuts.proofs.Going.{cut_none}
use Rattle.file_cuts.proofs.freeing.free_past.Goals as goal

pub loop-level-init : goal.loop-level-init
loop-level-init g c = record {
  view = refl;
  within = λ room. as_it_was c.args.draft.now.fates;
  led = λ b is. absurd (none_in b (subst (λ xs. Contains xs b) c.new-freed.ensures.items is));
  gone = λ h can height count shown ways. record {
    cell = h.cell;
    shown = subst (λ x. IsShown (seen_in g.V.View.seen c.args.draft.now) x h) (sym can.own) shown;
    cut = subst (λ xs. IsCutTo c.args.draft.now.fates c.args.draft.now.fates h h.cell c.args.end 0 (c.args.end / span h.size 0) xs) (sym c.new-freed.ensures.items) (cut_none c.args.draft.now.fates h c.args.end can.file);
    ways = ways;
  };
}

pub loop-level-preserved : goal.loop-level-preserved
loop-level-preserved g c = record {
  view = c.in_ok-free_on.ensures.view ∙ c.loop-level.invariant.view;
  within = λ room. follows_then (g.V.View.seen c.args.draft.now.view) c.args.inode room _ _ _ (c.loop-level.invariant.within room)
      (subst (λ v. Follows (g.V.View.seen v) c.args.inode room c.loop-level.draft.fates c.free_on.new.draft.fates) c.loop-level.invariant.view (c.in_ok-free_on.ensures.within room));
  led = λ b is.
      let first = c.loop-level.invariant.led b in
      elim (subst (λ v. Contains c.free_on.new.freed.items b → Contains c.loop-level.freed.items b ⊎ WasLedTo (g.V.View.seen v) c.args.inode c.loop-level.draft.fates c.free_on.new.draft.fates b) c.loop-level.invariant.view (c.in_ok-free_on.ensures.led b) is) [
        | inl before ↦ led_then (g.V.View.seen c.args.draft.now.view) c.args.inode c.args.draft.now.fates c.loop-level.draft.fates c.free_on.new.draft.fates b (first before)
            (subst (λ v. Follows (g.V.View.seen v) c.args.inode [] c.loop-level.draft.fates c.free_on.new.draft.fates) c.loop-level.invariant.view (c.in_ok-free_on.ensures.within []))
        | inr led ↦ then_led (g.V.View.seen c.args.draft.now.view) c.args.inode c.args.draft.now.fates c.loop-level.draft.fates c.free_on.new.draft.fates b (c.loop-level.invariant.within []) led
      ];
  gone = λ h can height count shown ways.
      (c.in_ok-free_on.ensures.gone h c.args.draft.now.fates can count (let low : c.loop-level.level < height_in h = omega (arith, c.loop-level-test.true, height) in low) (c.loop-level.invariant.gone h can height count shown ways)).1;
}

pub returns-then-not-branch-clause-within : goal.returns-then-not-branch-clause-within
returns-then-not-branch-clause-within g c room =
    follows_then (g.V.View.seen c.args.draft.now.view) c.args.inode room _ _ _ (c.loop-level.invariant.within room)
    (subst (λ v. Follows (g.V.View.seen v) c.args.inode room c.loop-level.draft.fates c.free_on.new.draft.fates) c.loop-level.invariant.view (c.in_ok-free_on.ensures.within room))

pub returns-then-not-branch-clause-gone : goal.returns-then-not-branch-clause-gone
returns-then-not-branch-clause-gone g c h can height count shown ways =
    let done = (c.in_ok-free_on.ensures.gone h c.args.draft.now.fates can count (let low : c.loop-level.level < height_in h = omega (arith, c.loop-level-test.true, height) in low) (c.loop-level.invariant.gone h can height count shown ways)).0 in
    let both : true ≡ false = sym done ∙ c.if-not-branch.true in
    absurd (cc)

pub returns-clause-gone : goal.returns-clause-gone
returns-clause-gone g c h can height count shown ways =
    let top : c.loop-level.level ≡ c.args.height = omega (arith, c.loop-level-test.false, c.loop-level.auto.level-end) in
    subst (λ n. HasCutTo (g.V.View.seen c.loop-level.draft.view) c.args.draft.now.fates c.loop-level.draft.fates h c.args.end n (c.args.end / span h.size n) c.loop-level.freed.items) top
    (c.loop-level.invariant.gone h can height count shown ways)
