use Rattle.std.proofs.Common.{◌∙◌}
use Rattle.linear_dirs.specs.Shown.{holding_over}
use Rattle.linear_dirs.proofs.Over.{parts_stay, over_over, as_seen}
use Rattle.linear_dirs.proofs.laws.drafts_lie_over_one_another.Goals as goal

pub returns-clause-parts : goal.returns-clause-parts
returns-clause-parts c = parts_stay

pub returns-clause-shown : goal.returns-clause-shown
returns-clause-shown c v h sound own size = c.sound_inodes_are_shown.ensures v (holding_over v h) sound (parts_stay v h h.own ∙ own) size (as_seen v h)

pub returns-clause-later : goal.returns-clause-later
returns-clause-later c = over_over
