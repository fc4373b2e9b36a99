use Rattle.script_laws.proofs.ScriptsBack.{read_back}
use Rattle.script_laws.proofs.a_printed_script_is_read_back.Goals as goal

pub returns : goal.returns
returns c = read_back
