use Rattle.growth_drafts.proofs.Shown.{fills_are_shown, frees_are_shown, rewrites_are_shown}
use Rattle.growth_drafts.proofs.steps.drafts_show_steps.Goals as goal

pub returns-clause-fill : goal.returns-clause-fill
returns-clause-fill c = fills_are_shown

pub returns-clause-free : goal.returns-clause-free
returns-clause-free c = frees_are_shown

pub returns-clause-rewritten : goal.returns-clause-rewritten
returns-clause-rewritten c = rewrites_are_shown
