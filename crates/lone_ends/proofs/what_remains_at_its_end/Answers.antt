use Rattle.lone_ends.proofs.Ending.{its_ends_stand}
use Rattle.lone_ends.proofs.what_remains_at_its_end.Goals as goal

pub returns : goal.returns
returns c = its_ends_stand c.outcomes_are_the_machines.ensures c.what_is_left_of_one_node_stands.ensures
