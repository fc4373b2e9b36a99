use Rattle.growth_laws.proofs.Bare.{bare_files_change_height}
use Rattle.growth_laws.proofs.Raises.{raises_keep_files}
use Rattle.growth_laws.proofs.Rising.{raises_lower_need, unstuffing_lowers_need}
use Rattle.growth_laws.proofs.Unstuffing.{unstuffing_keeps_files}
use Rattle.growth_laws.proofs.laws.heights_change.Goals as goal

pub returns-clause-raised : goal.returns-clause-raised
returns-clause-raised c = raises_keep_files

pub returns-clause-unstuffed : goal.returns-clause-unstuffed
returns-clause-unstuffed c = unstuffing_keeps_files

pub returns-clause-bare : goal.returns-clause-bare
returns-clause-bare c = bare_files_change_height

pub returns-clause-raised_need : goal.returns-clause-raised_need
returns-clause-raised_need c = raises_lower_need

pub returns-clause-unstuffed_need : goal.returns-clause-unstuffed_need
returns-clause-unstuffed_need c = unstuffing_lowers_need
