use Rattle.std.proofs.Common.{◌++◌}
use Rattle.run_reports.specs.Out.{counts_line, lines_of}
use Rattle.run_reports.specs.StatusText.{status_lines}
use Rattle.run_reports.proofs.Passing.{cut_short, only_held, then_passes}
use Rattle.run_reports.proofs.output.put_run.Goals as goal

pub returns-in-Err-clause-bytes : goal.returns-in-Err-clause-bytes
returns-in-Err-clause-bytes g c =
    let end = counts_line c.args.script.now c.args.items.now c.args.dirty ++ status_lines c.args.script.now.clients c.args.told.now in
    let here = c.in-Err.ensures.bytes in
    (here.0 ++ end, cut_short _ _ c.args.held.now.items here.0 (lines_of c.args.listing c.args.script.now c.args.items.now c.args.told.now) end here.1)

pub returns-in-Ok-append_end-clause-bytes : goal.returns-in-Ok-append_end-clause-bytes
returns-in-Ok-append_end-clause-bytes g c =
    let end = counts_line c.args.script.now c.args.items.now c.args.dirty ++ status_lines c.args.script.now.clients c.args.told.now in
    then_passes _ _ _ c.args.held.now.items c.put_listing.new.held.items c.append_end.new.text.items
    (lines_of c.args.listing c.args.script.now c.args.items.now c.args.told.now) end c.in-Ok.ensures.bytes
    (only_held (g.T.Sink.contents c.put_listing.new.sink) c.put_listing.new.held.items c.append_end.new.text.items end c.in-Ok-append_end.ensures)

pub returns-in-Err-append_end-clause-bytes : goal.returns-in-Err-append_end-clause-bytes
returns-in-Err-append_end-clause-bytes g c =
    let end = counts_line c.args.script.now c.args.items.now c.args.dirty ++ status_lines c.args.script.now.clients c.args.told.now in (
      c.put_listing.new.held.items ++ end,
      cut_short _ _ c.args.held.now.items c.put_listing.new.held.items
          (lines_of c.args.listing c.args.script.now c.args.items.now c.args.told.now) end c.in-Ok.ensures.bytes,
    )
