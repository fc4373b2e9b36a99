use Rattle.call_blocks.proofs.Lone.{at_the_start, behind_barriers, behind_calls, without_calls}
use Rattle.call_blocks.proofs.its_disk_may_change_alike.Goals as goal

pub returns-clause-start : goal.returns-clause-start
returns-clause-start c = at_the_start

pub returns-clause-calls : goal.returns-clause-calls
returns-clause-calls c = behind_calls

pub returns-clause-barriers : goal.returns-clause-barriers
returns-clause-barriers c = behind_barriers c.outcomes_are_the_machines.ensures

pub returns-clause-others : goal.returns-clause-others
returns-clause-others c = without_calls
