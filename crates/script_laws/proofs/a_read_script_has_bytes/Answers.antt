use Rattle.script_laws.proofs.ReadScripts.{read_bytes}
use Rattle.script_laws.proofs.a_read_script_has_bytes.Goals as goal

pub returns : goal.returns
returns c = read_bytes
