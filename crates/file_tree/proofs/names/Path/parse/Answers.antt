use Rattle.file_tree.proofs.FaultsRead.{parsed-its_fault}
use Rattle.file_tree.proofs.Parsing.{parsed-spelled, parsed-path, parsed-fault, parsed-none}
use Rattle.file_tree.proofs.names.Path.parse.Goals as goal

pub returns-clause-spelled : goal.returns-clause-spelled
returns-clause-spelled c = parsed-spelled c.args.text.now c.read_path.result c.read_path.ensures

pub returns-clause-parsed : goal.returns-clause-parsed
returns-clause-parsed c = parsed-path c.args.text.now c.read_path.result c.read_path.ensures

pub returns-clause-fault : goal.returns-clause-fault
returns-clause-fault c = parsed-fault c.args.text.now c.read_path.result c.read_path.ensures

pub returns-clause-none : goal.returns-clause-none
returns-clause-none c = parsed-none c.args.text.now c.read_path.result c.read_path.ensures

pub returns-clause-only : goal.returns-clause-only
returns-clause-only c = parsed-its_fault c.args.text.now c.read_path.result c.read_path.ensures
