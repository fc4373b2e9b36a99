use Rattle.lone_machine.proofs.Logging.{header_begins, header_ends}
use Rattle.lone_machine.proofs.its_headers_are_headers.Goals as goal

pub returns-clause-begins : goal.returns-clause-begins
returns-clause-begins g c = header_begins (g.S.LoneSystem.files)

pub returns-clause-ends : goal.returns-clause-ends
returns-clause-ends g c = header_ends (g.S.LoneSystem.files)
