-- Where all were out, as many would be as there are.
use Rattle.std.proofs.Common.{◌≤◌, refl, arith}
use Rattle.std.specs.FinMap as map
use Rattle.log_tables.proofs.Counting.{all_below}
use Rattle.log_tables.proofs.frames.take_frame.Goals as goal

pub unreachable-requires : goal.unreachable-requires
unreachable-requires c =
    let most : c.args.pool.now.count ≤ map.len c.args.pool.now.out = all_below c.args.pool.now.count c.args.pool.now.out (c.in-None.ensures.none.0 refl) in
    omega arith
