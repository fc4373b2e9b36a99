use Rattle.std.proofs.Common.{◌≡◌, ◌-◌, ◌*◌, ◌/◌, refl, arith}
use Rattle.growth_laws.specs.Need.{capacity}
use Rattle.file_fills.proofs.Over.{capacity_is}
use Rattle.file_fills.proofs.numbers.capacity_of.Goals as goal

pub returns-in-Some-clause-some : goal.returns-in-Some-clause-some
returns-in-Some-clause-some c =
    let product : c.in-Some.capacity ≡ c.in_ok-reach.reach * ((c.args.size - 232) / 8) = omega (arith, c.in-Some.ensures) in
    capacity_is c.args.size c.args.height c.in_ok-reach.reach _ c.in-Some.capacity c.if-height-eq0.false c.in_ok-reach.ensures.some refl product

pub returns-in-None-clause-none : goal.returns-in-None-clause-none
returns-in-None-clause-none c =
    let same : c.in_ok-reach.reach * ((c.args.size - 232) / 8) ≡ capacity c.args.size c.args.height = capacity_is c.args.size c.args.height c.in_ok-reach.reach _ _ c.if-height-eq0.false c.in_ok-reach.ensures.some refl refl in
    omega (arith, same, c.in-None.ensures)
