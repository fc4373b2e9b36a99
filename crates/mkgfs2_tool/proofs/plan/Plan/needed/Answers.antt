use Rattle.std.proofs.Common.{◌≡◌, ◌+◌, ◌<◌, ◌≤◌, ℕ, Bool, false, true, refl, sym, ap, ◌∙◌, arith}
use Rattle.std.specs.Prelude.{nat_lt}
use Rattle.std.proofs.lemmas.Bool.Decides.{nat_tests}
use Rattle.mkgfs2_tool.specs.Making.{IsPlan}
use Rattle.mkgfs2_tool.specs.Order.{fits}
use Rattle.mkgfs2_tool.specs.declared.plan.Plan.{Plan}
use Rattle.mkgfs2_tool.proofs.Enough.{enough, enlarged_fits, enough-small, enough-more}
use Rattle.mkgfs2_tool.proofs.plan.Plan.needed.Goals as goal

-- what does not fit is not the enlarged device
below : (p : Plan) (count : ℕ) → IsPlan p → count ≤ enough p → fits (record p { count = count }) ≡ false → count < enough p
below p count is most lacks =
    let other : count ≡ enough p → ⊥ = λ same. let both : false ≡ true = sym lacks ∙ ap (λ n. fits (record p { count = n })) same ∙ enlarged_fits p is in cc in
    grind (arith, most, other)

none_before : (p : Plan) (n : ℕ) → p.count ≤ n → n < p.count → fits (record p { count = n }) ≡ false
none_before p n low high = let never : ⊥ = omega (arith, low, high) in elim never [ ]

one_more : (p : Plan) (count n : ℕ) → ((m : ℕ) → p.count ≤ m → m < count → fits (record p { count = m }) ≡ false)
    → fits (record p { count = count }) ≡ false → p.count ≤ n → n < count + 1 → fits (record p { count = n }) ≡ false
one_more p count n before now low high = by_place (nat_lt n count) refl
  where
    by_place : (v : Bool) → nat_lt n count ≡ v → fits (record p { count = n }) ≡ false
    by_place true is = before n low (grind (arith, nat_tests))
    by_place false is = let same : n ≡ count = grind (arith, nat_tests) in rw same now

pub loop-count-init : goal.loop-count-init
loop-count-init c = record { from = omega arith; most = enough-more c.args.self.now c.requires.plan; least = none_before c.args.self.now }

pub fits_in-requires-clause-count : goal.fits_in-requires-clause-count
fits_in-requires-clause-count c = omega (arith, enough-small c.args.self.now c.requires.plan c.requires.small, c.loop-count.invariant.most)

pub overflow_add-count : goal.overflow_add-count
overflow_add-count c = omega (arith, enough-small c.args.self.now c.requires.plan c.requires.small, c.loop-count.invariant.most)

pub loop-count-smaller : goal.loop-count-smaller
loop-count-smaller c = let more = below c.args.self.now c.loop-count.count c.requires.plan c.loop-count.invariant.most (sym c.fits_in.ensures ∙ c.loop-count-test.true) in omega (arith, more)

pub loop-count-preserved : goal.loop-count-preserved
loop-count-preserved c =
    let lacks : fits (record c.args.self.now { count = c.loop-count.count }) ≡ false = sym c.fits_in.ensures ∙ c.loop-count-test.true in
    record {
      from = omega (arith, c.loop-count.invariant.from);
      most = omega (arith, below c.args.self.now c.loop-count.count c.requires.plan c.loop-count.invariant.most lacks);
      least = λ n. one_more c.args.self.now c.loop-count.count n c.loop-count.invariant.least lacks;
    }
