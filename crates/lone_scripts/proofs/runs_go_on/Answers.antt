use Rattle.lone_scripts.proofs.GoingOn.{calls_go_on, lone_runs_begin, other_items_go_on, waits_go_on}
use Rattle.lone_scripts.proofs.runs_go_on.Goals as goal

pub returns-clause-begin : goal.returns-clause-begin
returns-clause-begin c = lone_runs_begin

pub returns-clause-others : goal.returns-clause-others
returns-clause-others c = other_items_go_on

pub returns-clause-waits : goal.returns-clause-waits
returns-clause-waits c = waits_go_on

pub returns-clause-calls : goal.returns-clause-calls
returns-clause-calls c = calls_go_on
