use Rattle.script_laws.proofs.ReadScripts.{read_scripts}
use Rattle.script_laws.proofs.a_read_script_can_be_printed.Goals as goal

pub returns : goal.returns
returns c = read_scripts
