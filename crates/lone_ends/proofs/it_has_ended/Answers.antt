use Rattle.lone_ends.proofs.Standing.{clean_nodes_have_ended, its_ends_land}
use Rattle.lone_ends.proofs.it_has_ended.Goals as goal

pub returns-clause-landed : goal.returns-clause-landed
returns-clause-landed c = its_ends_land c.outcomes_are_the_machines.ensures

pub returns-clause-clean : goal.returns-clause-clean
returns-clause-clean c = clean_nodes_have_ended c.outcomes_are_the_machines.ensures
