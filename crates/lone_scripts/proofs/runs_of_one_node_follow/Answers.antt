use Rattle.lone_scripts.proofs.Runs.{lone_runs_are_numbered, lone_runs_follow, running_nodes_keep_all}
use Rattle.lone_scripts.proofs.runs_of_one_node_follow.Goals as goal

pub returns-clause-follows : goal.returns-clause-follows
returns-clause-follows c = lone_runs_follow

pub returns-clause-numbered : goal.returns-clause-numbered
returns-clause-numbered c = lone_runs_are_numbered

pub returns-clause-synced : goal.returns-clause-synced
returns-clause-synced c = running_nodes_keep_all
