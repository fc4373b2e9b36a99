use Rattle.std.proofs.Common.{ℕ, ◌-◌, ◌++◌, length, drop, take, sym, ap, ◌∙◌, arith, length-drop, length-take}
use Rattle.run_reports.specs.Out.{replayed_lines, replayed_lines_behind}
use Rattle.run_reports.proofs.Passing.{step_more, step_cut}
use Rattle.run_reports.proofs.ReplayedLines.{next_item}
use Rattle.run_reports.proofs.output.put_replayed_lines.Goals as goal

pub loop-rest-preserved : goal.loop-rest-preserved
loop-rest-preserved g c =
    let (done, split, passed) = c.loop-rest.invariant.passed in
    let all = replayed_lines c.args.items.now in
    let parts = next_item c.loop-rest.written c.loop-rest.rest.now c.item-item.result all done c.in-len1-up.len_at_least c.item-item.is split in
    let more = step_more _ _ _ c.args.held.now.items c.loop-rest.held.items c.put_replayed.new.held.items done _ _ all parts passed c.in-Ok.ensures.bytes in
    record {
      passed = (more.0, more.1 ∙ ap (λ (n : ℕ). more.0 ++ replayed_lines_behind n (take (length c.loop-rest.rest.now - 1) (drop 1 c.loop-rest.rest.now))) (sym c.count_written-written.ensures.is), more.2);
      few = omega (arith, c.loop-rest.invariant.few, c.count_written-written.ensures.most, c.in-len1-up.len_at_least, length-take (length c.loop-rest.rest.now - 1) (drop 1 c.loop-rest.rest.now), length-drop 1 c.loop-rest.rest.now);
      later = omega (arith, c.in-Ok.ensures.cause.later, c.loop-rest.invariant.later);
    }

pub returns-in-Err-clause-bytes : goal.returns-in-Err-clause-bytes
returns-in-Err-clause-bytes g c =
    let (done, split, passed) = c.loop-rest.invariant.passed in
    let all = replayed_lines c.args.items.now in
    let parts = next_item c.loop-rest.written c.loop-rest.rest.now c.item-item.result all done c.in-len1-up.len_at_least c.item-item.is split in
    step_cut _ _ _ c.args.held.now.items c.loop-rest.held.items done _ _ all parts passed c.in-Err.ensures.bytes
