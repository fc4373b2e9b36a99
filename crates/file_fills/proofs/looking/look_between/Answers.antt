use Rattle.std.proofs.Common.{◌≡◌, ◌<◌, ◌≤◌, inl, inr, subst, sym, arith}
use Rattle.std.proofs.lemmas.Bool.{cases_lt}
use Rattle.glock_names.proofs.StepLaws.{answer_at, needed_at}
use Rattle.file_fills.specs.Filling.{IsSeenWay}
use Rattle.file_fills.proofs.Seeing.{needed_wider}
use Rattle.file_fills.proofs.looking.look_between.Goals as goal

pub returns-in-NeedBlock-clause-needed : goal.returns-in-NeedBlock-clause-needed
returns-in-NeedBlock-clause-needed g c h shown regular =
    needed_wider (g.V.View.seen c.args.view.now) h (λ x. x ≡ c.loop-index.index) (λ x. (c.args.first ≤ x) × (x < c.args.until)) 0 0
    (λ i e. subst (λ n. (c.args.first ≤ n) × (n < c.args.until)) (sym e) (c.loop-index.auto.index, c.loop-index-test.true)) (let low : 0 ≤ 0 = omega arith in low) _
    (needed_at c.in_ok-look_at.field-0 c.in-NeedBlock.missing _ c.in-NeedBlock.is (c.in_ok-look_at.ensures.needed h shown regular))

pub loop-index-preserved : goal.loop-index-preserved
loop-index-preserved g c h i file shown low high = elim (cases_lt i c.loop-index.index) [
  | inl before ↦ c.loop-index.invariant h i file shown low before
  | inr far ↦
      let same : c.loop-index.index ≡ i = omega (arith, far, high) in
      subst (IsSeenWay (g.V.View.seen c.args.view.now) h) same
      (answer_at c.in_ok-look_at.field-0 c.in-Is.field-0 (λ done. IsSeenWay (g.V.View.seen c.args.view.now) h c.loop-index.index) c.in-Is.is (c.in_ok-look_at.ensures.seen h file shown))
]

pub returns-clause-seen : goal.returns-clause-seen
returns-clause-seen g c h i file shown low high = c.loop-index.invariant h i file shown low (omega (arith, high, c.loop-index-test.false))
