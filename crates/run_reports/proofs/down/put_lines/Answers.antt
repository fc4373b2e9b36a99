use Rattle.std.proofs.Common.{arith}
use Rattle.std.specs.List.{flat_map}
use Rattle.script_lang.specs.Script.{calls_by}
use Rattle.run_reports.specs.Out.{down_line}
use Rattle.run_reports.proofs.DownLines.{next_line}
use Rattle.run_reports.proofs.Passing.{step_more, step_cut}
use Rattle.run_reports.proofs.down.put_lines.Goals as goal

pub loop-rest-preserved : goal.loop-rest-preserved
loop-rest-preserved g c =
    let (done, split, passed) = c.loop-rest.invariant.passed in
    let all = flat_map (down_line c.args.name.now) (calls_by c.args.client c.args.lines.now) in
    let parts = next_line c.args.name.now c.args.client c.loop-rest.rest.now c.line-item.result all done c.in-len1-up.len_at_least c.line-item.is split in
    record {
      passed = step_more _ _ _ c.args.held.now.items c.loop-rest.held.items c.put_line.new.held.items done _ _ all parts passed c.in-Ok.ensures.bytes;
      later = omega (arith, c.in-Ok.ensures.cause.later, c.loop-rest.invariant.later);
    }

pub returns-in-Err-clause-bytes : goal.returns-in-Err-clause-bytes
returns-in-Err-clause-bytes g c =
    let (done, split, passed) = c.loop-rest.invariant.passed in
    let all = flat_map (down_line c.args.name.now) (calls_by c.args.client c.args.lines.now) in
    let parts = next_line c.args.name.now c.args.client c.loop-rest.rest.now c.line-item.result all done c.in-len1-up.len_at_least c.line-item.is split in
    step_cut _ _ _ c.args.held.now.items c.loop-rest.held.items done _ _ all parts passed c.in-Err.ensures.bytes
