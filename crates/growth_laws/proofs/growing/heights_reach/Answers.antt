use Rattle.growth_laws.proofs.Heights.{heights_reach, lower_heights_are_short, capacity_reaches, bare_files_have_no_block}
use Rattle.growth_laws.proofs.growing.heights_reach.Goals as goal

pub returns-clause-reach : goal.returns-clause-reach
returns-clause-reach c = heights_reach

pub returns-clause-least : goal.returns-clause-least
returns-clause-least c = lower_heights_are_short

pub returns-clause-blocks : goal.returns-clause-blocks
returns-clause-blocks c = capacity_reaches

pub returns-clause-bare : goal.returns-clause-bare
returns-clause-bare c = bare_files_have_no_block
