use Rattle.run_reports.proofs.Passing.{nothing_sent}
use Rattle.run_reports.proofs.down.put_line.Goals as goal

pub returns-in-Err-clause-bytes : goal.returns-in-Err-clause-bytes
returns-in-Err-clause-bytes g c = nothing_sent _ c.args.held.now.items _
