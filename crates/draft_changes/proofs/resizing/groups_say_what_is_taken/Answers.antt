use Rattle.draft_changes.proofs.Saying.{taken_groups_say, freed_groups_say}
use Rattle.draft_changes.proofs.resizing.groups_say_what_is_taken.Goals as goal

pub returns-clause-taken : goal.returns-clause-taken
returns-clause-taken c = taken_groups_say

pub returns-clause-freed : goal.returns-clause-freed
returns-clause-freed c = freed_groups_say
