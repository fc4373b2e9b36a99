use Rattle.std.proofs.Common.{◌≡◌, ◌⊎◌, inl, inr, ◌/◌, ◌<◌, ◌≤◌, IfSome, sym, subst, ◌∙◌, arith}
use Rattle.std.proofs.lemmas.Bool.{cases_lt}
use Rattle.gfs2_layout.specs.Inode.{span}
use Rattle.glock_names.specs.Views.{HasBlock}
use Rattle.glock_names.proofs.StepLaws.{answer_at, needed_at}
use Rattle.file_walks.specs.Walks.{AreSeenAbove, IsWalk}
use Rattle.file_fills.proofs.Seeing.{needed_wider, under_self}
use Rattle.file_cuts.proofs.Ways.{seen_none, seen_over}
use Rattle.file_cuts.proofs.looking.look_past.Goals as goal

pub loop-index-preserved : goal.loop-index-preserved
loop-index-preserved g c = record {
  least = omega (arith, c.loop-index.invariant.least, c.behind_hole-index.ensures.later);
  seen = λ h i file shown from until. elim (cases_lt i c.loop-index.index) [
    | inl before ↦ c.loop-index.invariant.seen h i file shown from before
    | inr later ↦
        let size : c.block_size-size.result ≡ h.size = c.block_size-size.ensures.value ∙ sym shown.size in
        let walk = subst (IsWalk h 0 c.loop-index.index) c.in-Is-Some.field-0-is (answer_at c.in_ok-stop.field-0 c.in-Is-Some.field-0 (IsWalk h 0 c.loop-index.index) c.in-Is-Some.is (c.in_ok-stop.ensures.found h file shown)) in
        let above = subst (λ found. IfSome found (AreSeenAbove (g.V.View.seen c.args.view.now) h 0 c.loop-index.index)) c.in-Is-Some.field-0-is
        (answer_at c.in_ok-stop.field-0 c.in-Is-Some.field-0 (λ found. IfSome found (AreSeenAbove (g.V.View.seen c.args.view.now) h 0 c.loop-index.index)) c.in-Is-Some.is (c.in_ok-stop.ensures.seen h file shown)) in
        let dinode = answer_at c.in_ok-stop.field-0 c.in-Is-Some.field-0 (λ found. HasBlock (g.V.View.seen c.args.view.now) c.args.inode) c.in-Is-Some.is c.in_ok-stop.ensures.dinode in
        seen_over (g.V.View.seen c.args.view.now) h c.loop-index.index i c.in-Is-Some.stop file (subst (HasBlock (g.V.View.seen c.args.view.now)) (sym shown.own) dinode) walk.1 above
        (subst (λ n. i / span n c.in-Is-Some.stop.level ≡ c.loop-index.index / span n c.in-Is-Some.stop.level) size (c.behind_hole-index.ensures.under i later until))
  ];
}

pub returns-in-Is-None-clause-seen : goal.returns-in-Is-None-clause-seen
returns-in-Is-None-clause-seen g c h i file shown from either = elim (cases_lt i c.loop-index.index) [
  | inl before ↦ c.loop-index.invariant.seen h i file shown from before
  | inr later ↦
      let walk = subst (IsWalk h 0 c.loop-index.index) c.in-Is-None.field-0-is (answer_at c.in_ok-stop.field-0 c.in-Is-None.field-0 (IsWalk h 0 c.loop-index.index) c.in-Is-None.is (c.in_ok-stop.ensures.found h file shown)) in
      let dinode = answer_at c.in_ok-stop.field-0 c.in-Is-None.field-0 (λ found. HasBlock (g.V.View.seen c.args.view.now) c.args.inode) c.in-Is-None.is c.in_ok-stop.ensures.dinode in
      seen_none (g.V.View.seen c.args.view.now) h c.loop-index.index i file (subst (HasBlock (g.V.View.seen c.args.view.now)) (sym shown.own) dinode) walk later
]

pub returns-in-NeedBlock-clause-needed : goal.returns-in-NeedBlock-clause-needed
returns-in-NeedBlock-clause-needed g c h shown =
    needed_wider (g.V.View.seen c.args.view.now) h (λ x. x ≡ c.loop-index.index) (λ x. c.args.end ≤ x) 1 1 (λ i e. subst (λ n. c.args.end ≤ n) (sym e) c.loop-index.invariant.least) (let low : 1 ≤ 1 = omega arith in low) c.in-NeedBlock.missing
    (needed_at c.in_ok-stop.field-0 c.in-NeedBlock.missing _ c.in-NeedBlock.is (c.in_ok-stop.ensures.needed h c.loop-index.index shown (under_self h c.loop-index.index)))

pub returns-clause-seen : goal.returns-clause-seen
returns-clause-seen g c h i file shown from either =
    c.loop-index.invariant.seen h i file shown from (before either)
  where
    before : (i ≡ c.args.end) ⊎ (i < c.args.count) → i < c.loop-index.index
    before (inl first) = omega (arith, first, c.loop-index.invariant.least, c.if-index-end.false)
    before (inr near) = omega (arith, near, c.if-index-count.false)
