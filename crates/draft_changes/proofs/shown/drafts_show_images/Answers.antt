use Rattle.draft_changes.proofs.Views.{shows_inodes, shows_blocks, later_shows, inodes_stay, shows_groups}
use Rattle.draft_changes.proofs.shown.drafts_show_images.Goals as goal

pub returns-clause-inodes : goal.returns-clause-inodes
returns-clause-inodes c = shows_inodes

pub returns-clause-blocks : goal.returns-clause-blocks
returns-clause-blocks c = shows_blocks

pub returns-clause-later : goal.returns-clause-later
returns-clause-later c = later_shows

pub returns-clause-groups : goal.returns-clause-groups
returns-clause-groups c = shows_groups

pub returns-clause-stay : goal.returns-clause-stay
returns-clause-stay c = inodes_stay
