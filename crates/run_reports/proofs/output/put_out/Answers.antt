use Rattle.std.proofs.Common.{List, ℕ, ◌++◌, ap, subst}
use Rattle.stream_io.specs.Streams.{AppendsPrefix}
use Rattle.run_reports.specs.Out.{out_of}
use Rattle.run_reports.specs.Report.{shown}
use Rattle.run_reports.proofs.Passing.{held_front, held_front_all}
use Rattle.run_reports.proofs.output.put_out.Goals as goal

pub returns-in-Ok-clause-front : goal.returns-in-Ok-clause-front
returns-in-Ok-clause-front g c =
    let rest = out_of c.args.listing c.args.script.now c.args.items.now c.args.told.now c.dirty_to_tell-dirty.result in
    subst (λ (n : ℕ). AppendsPrefix (g.T.Sink.contents c.args.sink.now) (g.T.Sink.contents c.put_held.new.sink) (shown c.args.told.now c.args.lines.items ++ out_of c.args.listing c.args.script.now c.args.items.now c.args.told.now n)) c.dirty_to_tell-dirty.ensures
    (held_front_all _ _ _ c.held_lines-held.result.items c.put_lines.new.held.items c.put_held.new.held.items (shown c.args.told.now c.args.lines.items ++ rest) rest c.put_held.result
    (ap (λ (held : List ℕ). held ++ rest) c.held_lines-held.ensures) c.in-Ok.ensures.bytes c.put_held.ensures.bytes)

pub returns-clause-front : goal.returns-clause-front
returns-clause-front g c =
    let rest = out_of c.args.listing c.args.script.now c.args.items.now c.args.told.now c.dirty_to_tell-dirty.result in
    subst (λ (n : ℕ). AppendsPrefix (g.T.Sink.contents c.args.sink.now) (g.T.Sink.contents c.put_lines.new.sink) (shown c.args.told.now c.args.lines.items ++ out_of c.args.listing c.args.script.now c.args.items.now c.args.told.now n)) c.dirty_to_tell-dirty.ensures
    (held_front _ _ c.held_lines-held.result.items (shown c.args.told.now c.args.lines.items ++ rest) rest (ap (λ (held : List ℕ). held ++ rest) c.held_lines-held.ensures) c.in-Err.ensures.bytes)
