use Rattle.lone_machine.proofs.Remaining.{loses_alone, remains_alone}
use Rattle.lone_machine.proofs.what_remains_of_it_stands.Goals as goal

pub returns-clause-stands : goal.returns-clause-stands
returns-clause-stands g c = remains_alone (g.S.LoneSystem.files)

pub returns-clause-loses : goal.returns-clause-loses
returns-clause-loses g c = loses_alone (g.S.LoneSystem.files)
