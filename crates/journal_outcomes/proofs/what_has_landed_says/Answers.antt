use Rattle.journal_outcomes.proofs.Outcomes.{landed_chunks, landed_header}
use Rattle.journal_outcomes.proofs.what_has_landed_says.Goals as goal

pub returns : goal.returns
returns c = record { chunks = landed_chunks; header = landed_header }
