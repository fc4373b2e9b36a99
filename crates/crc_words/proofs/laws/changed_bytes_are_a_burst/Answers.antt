-- The pattern is the difference of the changed bytes.
use Rattle.crc_words.proofs.BurstLemmas.{DifferInBurst-changed}
use Rattle.crc_words.proofs.laws.changed_bytes_are_a_burst.Goals as goal

pub returns : goal.returns
returns c = DifferInBurst-changed
