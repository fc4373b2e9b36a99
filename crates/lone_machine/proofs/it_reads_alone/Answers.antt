use Rattle.lone_machine.proofs.Going.{forgets_alone, reads_alone}
use Rattle.lone_machine.proofs.it_reads_alone.Goals as goal

pub returns-clause-reads : goal.returns-clause-reads
returns-clause-reads g c = reads_alone (g.S.LoneSystem.files)

pub returns-clause-forgets : goal.returns-clause-forgets
returns-clause-forgets g c = forgets_alone (g.S.LoneSystem.files)
