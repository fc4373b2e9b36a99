use Rattle.std.proofs.Common.{refl}
use Rattle.table_files.specs.Laws.{table_file_blocks}
use Rattle.table_files.proofs.TableFiles.{counted_file, needed_file, table_file}
use Rattle.table_files.proofs.laws.tables_are_files.Goals as goal

pub returns-clause-files : goal.returns-clause-files
returns-clause-files c = λ h bytes table says. (counted_file h table (table_file_blocks h) bytes says refl, table_file h table (table_file_blocks h) bytes says refl)

pub returns-clause-need : goal.returns-clause-need
returns-clause-need c = λ h bytes table says. needed_file h table (table_file_blocks h) bytes says refl
