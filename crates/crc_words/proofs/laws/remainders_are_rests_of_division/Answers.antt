-- The bits that leave are the quotient.
use Rattle.crc_words.proofs.DivisionLemmas.{LeavesRest-remainder}
use Rattle.crc_words.proofs.laws.remainders_are_rests_of_division.Goals as goal

pub returns : goal.returns
returns c = LeavesRest-remainder
