use Rattle.lone_logs.proofs.Reading.{reads_are_logged}
use Rattle.lone_logs.proofs.its_reads_are_logged.Goals as goal

pub returns : goal.returns
returns c = reads_are_logged
