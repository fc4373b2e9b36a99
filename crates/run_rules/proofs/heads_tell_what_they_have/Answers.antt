use Rattle.run_rules.proofs.Heads.{rows, each_has_a_life}
use Rattle.run_rules.proofs.heads_tell_what_they_have.Goals as goal

pub returns-clause-rows : goal.returns-clause-rows
returns-clause-rows c = rows

pub returns-clause-lives : goal.returns-clause-lives
returns-clause-lives c = each_has_a_life
