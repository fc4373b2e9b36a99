use Rattle.std.proofs.Common.{◌≡◌, ◌+◌, ◌*◌, ◌≤◌, suc, ap, arith}
use Rattle.glock_names.proofs.StepLaws.{answer_at, needed_at}
use Rattle.growth_laws.specs.Need.{needed_below, needed_on}
use Rattle.file_fills.proofs.needing.need_below.Goals as goal

pub returns-in-NeedBlock-clause-needed : goal.returns-in-NeedBlock-clause-needed
returns-in-NeedBlock-clause-needed g c h shown size = needed_at c.in_ok-more.field-0 c.in-NeedBlock.missing _ c.in-NeedBlock.is (c.in_ok-more.ensures.needed h shown size)

pub loop-level-preserved : goal.loop-level-preserved
loop-level-preserved g c = record {
  few =
      let flat : (c.loop-level.level + 1) * (c.args.write.now.end + 1) ≡ c.loop-level.level * (c.args.write.now.end + 1) + (c.args.write.now.end + 1) = omega arith in
      omega (arith, flat, c.loop-level.invariant.few, answer_at c.in_ok-more.field-0 c.in-Is.more (λ more. more ≤ c.args.write.now.end + 1) c.in-Is.is c.in_ok-more.ensures.few);
  found = λ h file shown w.
      let next : suc c.loop-level.level ≡ c.loop-level.level + 1 = omega arith in
      let more = answer_at c.in_ok-more.field-0 c.in-Is.more (λ more. more ≡ needed_on h c.args.write.now.at c.args.write.now.end c.loop-level.level) c.in-Is.is (c.in_ok-more.ensures.found h file shown w) in
      let so_far = c.loop-level.invariant.found h file shown w in
      let below : needed_below h c.args.write.now.at c.args.write.now.end (suc c.loop-level.level) ≡ needed_below h c.args.write.now.at c.args.write.now.end (c.loop-level.level + 1)
      = ap (needed_below h c.args.write.now.at c.args.write.now.end) next in
      omega (arith, more, so_far, below);
}
