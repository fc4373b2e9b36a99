use Rattle.std.proofs.Common.{◌<◌, ◌-◌, arith}
use Rattle.std.specs.FinMap as table
use Rattle.log_memory.proofs.LandingAll.{landed_then, row_contains, row_landed, same_then}
use Rattle.log_memory.proofs.landing.land_all.Goals as goal

pub land-requires-clause-there : goal.land-requires-clause-there
land-requires-clause-there c =
    let over = c.loop.invariant.left_over in
    let inside : c.flushed_len-last.result - 1 < table.len c.loop.tables.flushed = omega (arith, c.flushed_len-end.ensures, c.flushed_len-last.ensures, c.loop-test.true) in
    row_contains c.loop.tables (c.flushed_len-last.result - 1) c.flushed_block-block.result inside c.flushed_block-block.ensures

pub loop-preserved : goal.loop-preserved
loop-preserved c =
    let over = c.loop.invariant.left_over in
    let inside : c.flushed_len-last.result - 1 < table.len c.loop.tables.flushed = omega (arith, c.flushed_len-end.ensures, c.flushed_len-last.ensures, c.loop-test.true) in
    row_landed c.args.tables.now c.loop.tables c.land.new.self c.args.first c.loop.counter (c.flushed_len-last.result - 1) c.flushed_block-block.result c.loop.invariant inside c.flushed_block-block.ensures c.land.ensures

pub returns-clause-same : goal.returns-clause-same
returns-clause-same c = same_then c.args.tables.now c.loop.tables c.args.first c.loop.counter c.loop.invariant (omega (arith, c.flushed_len-end.ensures, c.loop-test.false))

pub returns-clause-lives : goal.returns-clause-lives
returns-clause-lives c = landed_then c.args.tables.now c.loop.tables c.args.first c.loop.counter c.loop.invariant (omega (arith, c.flushed_len-end.ensures, c.loop-test.false))
