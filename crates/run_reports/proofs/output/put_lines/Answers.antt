use Rattle.run_reports.specs.Out.{out_of}
use Rattle.run_reports.proofs.Passing.{nothing_sent}
use Rattle.run_reports.proofs.output.put_lines.Goals as goal

pub returns-in-Err-clause-bytes : goal.returns-in-Err-clause-bytes
returns-in-Err-clause-bytes g c = nothing_sent _ c.args.held.now.items (out_of c.args.listing c.args.script.now c.args.items.now c.args.told.now c.args.dirty)
