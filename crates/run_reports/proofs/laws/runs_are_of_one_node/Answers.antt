use Rattle.run_reports.proofs.LoneRuns.{lone_runs, nothing_run}
use Rattle.run_reports.proofs.laws.runs_are_of_one_node.Goals as goal

pub returns-clause-lone : goal.returns-clause-lone
returns-clause-lone c = lone_runs

pub returns-clause-nothing : goal.returns-clause-nothing
returns-clause-nothing c = nothing_run
