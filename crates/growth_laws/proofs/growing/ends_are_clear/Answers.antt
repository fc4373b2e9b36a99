use Rattle.growth_laws.proofs.Ends.{puts_past_the_end, zeros_are_clear, whole_files_are_clear, holes_are_clear, rises_stay_clear, moved_content_is_clear, bare_files_are_clear}
use Rattle.growth_laws.proofs.growing.ends_are_clear.Goals as goal

pub returns-clause-past : goal.returns-clause-past
returns-clause-past c = puts_past_the_end

pub returns-clause-zeros : goal.returns-clause-zeros
returns-clause-zeros c = zeros_are_clear

pub returns-clause-whole : goal.returns-clause-whole
returns-clause-whole c = whole_files_are_clear

pub returns-clause-holes : goal.returns-clause-holes
returns-clause-holes c = holes_are_clear

pub returns-clause-raised : goal.returns-clause-raised
returns-clause-raised c = rises_stay_clear

pub returns-clause-moved : goal.returns-clause-moved
returns-clause-moved c = moved_content_is_clear

pub returns-clause-bare : goal.returns-clause-bare
returns-clause-bare c = bare_files_are_clear
