use Rattle.lone_machine.proofs.Remaining.{rings_alone}
use Rattle.lone_machine.proofs.its_journal_is_its_own.Goals as goal

pub returns : goal.returns
returns g c = rings_alone (g.S.LoneSystem.files)
