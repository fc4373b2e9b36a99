use Rattle.std.proofs.Common.{◌≤◌, ◌^◌, arith}
use Rattle.std.proofs.Math.Pow.{pow_mono}
use Rattle.tree_tables.proofs.tree_table.pointers_of.Goals as goal

pub returns-clause-most : goal.returns-clause-most
returns-clause-most c =
    let few : 2 ^ c.args.depth ≤ 2 ^ 15 = pow_mono {i = c.args.depth} {j = 15} (omega (arith, c.requires)) in
    omega (arith, few)
