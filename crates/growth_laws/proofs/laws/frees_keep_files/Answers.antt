use Rattle.growth_laws.proofs.Frees.{frees_keep_files, frees_keep_the_front, indirect_frees_keep_content, frees_take_one}
use Rattle.growth_laws.proofs.laws.frees_keep_files.Goals as goal

pub returns-clause-files : goal.returns-clause-files
returns-clause-files c = frees_keep_files

pub returns-clause-front : goal.returns-clause-front
returns-clause-front c = frees_keep_the_front

pub returns-clause-indirect : goal.returns-clause-indirect
returns-clause-indirect c = indirect_frees_keep_content

pub returns-clause-count : goal.returns-clause-count
returns-clause-count c = frees_take_one
