use Rattle.std.proofs.Common.{◌<◌, ◌≤◌, arith}
use Rattle.std.proofs.Math.Nat.{one-le-mul}
use Rattle.dinode_tree.proofs.Spans.{span_some}
use Rattle.file_fills.proofs.Over.{over_places, few_places, ordered_places}
use Rattle.file_fills.proofs.numbers.places_over.Goals as goal
use Rattle.file_fills.proofs.numbers.places_over.Goals.{In-Some}

some_reach : (c : In-Some) → 0 < c.in-Some.reach
some_reach c = omega (arith, c.in-Some.ensures.some, one-le-mul (span_some c.args.size c.args.level c.requires.large) (let one : 1 ≤ c.args.size = omega (arith, c.requires.large) in one))

pub nonzero_div-result : goal.nonzero_div-result
nonzero_div-result c = some_reach (goal.at.nonzero_div-result c).In-Some

pub div_ceil-requires : goal.div_ceil-requires
div_ceil-requires c = some_reach (goal.at.div_ceil-requires c).In-Some

pub returns-in-Some-clause-over : goal.returns-in-Some-clause-over
returns-in-Some-clause-over c j =
    over_places c.args.size c.args.at c.args.end c.args.level j c.in-Some.reach _ (some_reach (goal.at.returns-in-Some-clause-over c).In-Some) c.in-Some.ensures.some c.if-at-end.false c.div_ceil.ensures

pub returns-in-Some-clause-few : goal.returns-in-Some-clause-few
returns-in-Some-clause-few c = omega (arith, c.div_ceil.ensures, few_places c.args.end c.in-Some.reach (some_reach (goal.at.returns-in-Some-clause-few c).In-Some))

pub returns-in-Some-clause-order : goal.returns-in-Some-clause-order
returns-in-Some-clause-order c =
    omega (arith, c.div_ceil.ensures, ordered_places c.args.at c.args.end c.in-Some.reach (some_reach (goal.at.returns-in-Some-clause-order c).In-Some) c.if-at-end.false)
