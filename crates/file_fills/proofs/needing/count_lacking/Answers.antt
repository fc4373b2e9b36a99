use Rattle.std.proofs.Common.{◌≡◌, arith}
use Rattle.std.specs.Prelude.{not}
use Rattle.glock_names.proofs.StepLaws.{answer_at, needed_at}
use Rattle.growth_laws.specs.Need.{is_there}
use Rattle.file_fills.proofs.Counted.{at_most_one, lacking_more}
use Rattle.file_fills.proofs.needing.count_lacking.Goals as goal

pub returns-in-NeedBlock-clause-needed : goal.returns-in-NeedBlock-clause-needed
returns-in-NeedBlock-clause-needed g c h shown size = needed_at c.in_ok-lacks.field-0 c.in-NeedBlock.missing _ c.in-NeedBlock.is (c.in_ok-lacks.ensures.needed h shown size)

pub loop-place-preserved : goal.loop-place-preserved
loop-place-preserved g c = record {
  few = omega (arith, c.counted-lacking.ensures, at_most_one c.in-Is.lacks, c.loop-place.invariant.few, c.loop-place.auto.place);
  found = λ h file shown.
      lacking_more h c.args.level c.args.first c.loop-place.place c.loop-place.lacking c.counted-lacking.result c.in-Is.lacks c.loop-place.auto.place (c.loop-place.invariant.found h file shown)
      (answer_at c.in_ok-lacks.field-0 c.in-Is.lacks (λ lacks. lacks ≡ not (is_there h c.args.level c.loop-place.place)) c.in-Is.is (c.in_ok-lacks.ensures.found h file shown)) c.counted-lacking.ensures;
}
