use Rattle.growth_laws.proofs.Fills.{fills_keep_files, fills_keep_content, count_after, fills_one_place}
use Rattle.growth_laws.proofs.Needing.{fills_lower_need}
use Rattle.growth_laws.proofs.laws.fills_keep_files.Goals as goal

pub returns-clause-files : goal.returns-clause-files
returns-clause-files c = fills_keep_files

pub returns-clause-content : goal.returns-clause-content
returns-clause-content c = fills_keep_content

pub returns-clause-count : goal.returns-clause-count
returns-clause-count c = count_after

pub returns-clause-place : goal.returns-clause-place
returns-clause-place c = fills_one_place

pub returns-clause-need : goal.returns-clause-need
returns-clause-need c = fills_lower_need
