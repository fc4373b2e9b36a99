use Rattle.draft_changes.proofs.Views.{have_these_blocks, none_has_the_first}
use Rattle.draft_changes.proofs.shown.inodes_have_these_blocks.Goals as goal

pub returns-clause-these : goal.returns-clause-these
returns-clause-these c = have_these_blocks

pub returns-clause-none : goal.returns-clause-none
returns-clause-none c = none_has_the_first
