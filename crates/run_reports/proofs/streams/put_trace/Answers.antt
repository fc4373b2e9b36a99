use Rattle.std.proofs.Common.{ℕ, List, [], ◌++◌, subst, arith}
use Rattle.std.specs.Prelude.{codes}
use Rattle.trace_text.specs.declared.item.TraceItem.{TraceItem}
use Rattle.trace_text.specs.Text.{item_text, print}
use Rattle.run_reports.proofs.Passing.{step_more, step_cut, pieces, then_passes, front_of, no_pieces, at_either}
use Rattle.run_reports.specs.Streams.{Passes}
use Rattle.run_reports.proofs.streams.put_trace.Goals as goal

abbrev line_text : TraceItem → List ℕ
line_text i = item_text i ++ codes "\n"

pub loop-rest-preserved : goal.loop-rest-preserved
loop-rest-preserved g c =
    let (done, split, passed) = c.loop-rest.invariant.passed in
    let parts = pieces line_text c.loop-rest.rest.now c.item-item.result (print c.args.items.now) done c.in-len1-up.len_at_least c.item-item.is split in
    record {
      passed = step_more _ _ _ _ c.loop-rest.held.items c.put_trace_line.new.held.items done (line_text c.item-item.result) _ (print c.args.items.now) parts passed c.in-Ok.ensures.bytes;
      later = omega (arith, c.in-Ok.ensures.cause.later, c.loop-rest.invariant.later);
    }

pub returns-in-Err-clause-front : goal.returns-in-Err-clause-front
returns-in-Err-clause-front g c =
    let (done, split, passed) = c.loop-rest.invariant.passed in
    let parts = pieces line_text c.loop-rest.rest.now c.item-item.result (print c.args.items.now) done c.in-len1-up.len_at_least c.item-item.is split in
    let cut = step_cut _ _ _ _ c.loop-rest.held.items done (line_text c.item-item.result) _ (print c.args.items.now) parts passed c.in-Err.ensures.bytes in
    front_of _ _ cut.0 (print c.args.items.now) cut.1

pub returns-clause-front : goal.returns-clause-front
returns-clause-front g c =
    let (done, split, passed) = c.loop-rest.invariant.passed in
    let (rest, last) = at_either _ _ c.loop-rest.held.items c.put_held.new.held.items [] c.put_held.result c.put_held.ensures.bytes in
    let whole = no_pieces line_text c.loop-rest.rest.now (print c.args.items.now) done c.in_default.len_below split in
    front_of _ _ rest (print c.args.items.now) (subst (Passes _ _ [] rest) whole (then_passes _ _ _ [] c.loop-rest.held.items rest done [] passed last))
