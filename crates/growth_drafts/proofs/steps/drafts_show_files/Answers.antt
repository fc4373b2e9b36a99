use Rattle.growth_drafts.proofs.Shown.{files_are_shown, puts_are_seen}
use Rattle.growth_drafts.proofs.steps.drafts_show_files.Goals as goal

pub returns-clause-shown : goal.returns-clause-shown
returns-clause-shown c = files_are_shown

pub returns-clause-put : goal.returns-clause-put
returns-clause-put c = puts_are_seen
