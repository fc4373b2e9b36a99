use Rattle.std.proofs.Common.{arith}
use Rattle.run_reports.specs.Out.{item_line, answered_lines}
use Rattle.run_reports.proofs.Passing.{step_more, step_cut, pieces}
use Rattle.run_reports.proofs.output.put_answered_lines.Goals as goal

pub loop-rest-preserved : goal.loop-rest-preserved
loop-rest-preserved g c =
    let (done, split, passed) = c.loop-rest.invariant.passed in
    let all = answered_lines c.args.clients.now c.args.client c.args.items.now in
    let parts = pieces (item_line c.args.clients.now c.args.client) c.loop-rest.rest.now c.item-item.result all done c.in-len1-up.len_at_least c.item-item.is split in
    record {
      passed = step_more _ _ _ c.args.held.now.items c.loop-rest.held.items c.put_item_line.new.held.items done _ _ all parts passed c.in-Ok.ensures.bytes;
      later = omega (arith, c.in-Ok.ensures.cause.later, c.loop-rest.invariant.later);
    }

pub returns-in-Err-clause-bytes : goal.returns-in-Err-clause-bytes
returns-in-Err-clause-bytes g c =
    let (done, split, passed) = c.loop-rest.invariant.passed in
    let all = answered_lines c.args.clients.now c.args.client c.args.items.now in
    let parts = pieces (item_line c.args.clients.now c.args.client) c.loop-rest.rest.now c.item-item.result all done c.in-len1-up.len_at_least c.item-item.is split in
    step_cut _ _ _ c.args.held.now.items c.loop-rest.held.items done _ _ all parts passed c.in-Err.ensures.bytes
