use Rattle.journal_reads.proofs.WholeRings.{rings_are_whole}
use Rattle.journal_reads.proofs.laws.rings_read_are_whole.Goals as goal

pub returns : goal.returns
returns c = rings_are_whole
