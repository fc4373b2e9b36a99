-- What blocks are for.
use Rattle.std.proofs.Common.{ℕ, zero, suc, ◌≡◌, ◌≢◌, ◌<◌, ◌≤◌, ◌-◌, ◌*◌, ◌/◌, refl, ap, arith, Bool, true, false}
use Rattle.std.specs.Prelude.{◌==◌}
use Rattle.std.proofs.lemmas.Bool.Decides.{nat_tests}
use Rattle.std.proofs.Math.Nat.{div-lt_iff_lt-mul}
use Rattle.mkgfs2_tool.specs.Groups.{super_block, share, last_group, group_blocks, group_address, data_blocks}
use Rattle.mkgfs2_tool.specs.Making.{IsFitting}
use Rattle.mkgfs2_tool.specs.declared.plan.Plan.{Plan}

pub quotient_below : (n few each : ℕ) → n < few * each → n / each < few
quotient_below n few zero below = let never : ⊥ = omega (arith, below) in elim never [ ]
quotient_below n few (suc each) below = (div-lt_iff_lt-mul {k = suc each} {x = n} {y = few} (omega arith)).1 below

-- a group's share isn't empty
pub shares_are_some : (p : Plan) → IsFitting p → share p ≢ 0
shares_are_some p fitting none = by_place (0 == last_group p) refl
  where
    most : 4 ≤ group_blocks p 0
    most = let some : 4 ≤ data_blocks p 0 = fitting.first in omega (arith, some)

    by_place : (v : Bool) → (0 == last_group p) ≡ v → ⊥
    by_place false is = let same : group_blocks p 0 ≡ share p = rw is refl in omega (arith, most, same, none)
    by_place true is =
        let one : p.groups ≡ 1 = let only : 0 ≡ last_group p = grind (arith, nat_tests) in omega (arith, only, fitting.plan.some_groups) in
        let same : group_blocks p 0 ≡ p.count - group_address p 0 = rw is refl in
        let all : share p ≡ (p.count - super_block p - 1) / 1 = ap (λ g. (p.count - super_block p - 1) / g) one in
        omega (arith, most, same, none, all)
