use Rattle.run_reports.proofs.Passing.{nothing_sent, grown_first_on}
use Rattle.run_reports.proofs.streams.put_trace_line.Goals as goal

pub returns-in-Ok-clause-bytes : goal.returns-in-Ok-clause-bytes
returns-in-Ok-clause-bytes g c = grown_first_on _ _ c.args.held.now.items c.append_trace_line.new.held.items _ _ c.pass_on.result c.in-Ok.ensures c.pass_on.ensures.bytes

pub returns-in-Err-clause-bytes : goal.returns-in-Err-clause-bytes
returns-in-Err-clause-bytes g c = nothing_sent _ c.args.held.now.items _
