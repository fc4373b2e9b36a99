use Rattle.std.proofs.Common.{◌≡◌, length}
use Rattle.crc_words.specs.Remainder.{remainder}
use Rattle.crc_words.proofs.divide.advance_words.Given as goal

abbrev pub invariant-loop-rest : goal.invariant-loop-rest
invariant-loop-rest g l = remainder g.row.POLYNOMIAL l.state l.rest ≡ remainder g.row.POLYNOMIAL l.fn.state l.bytes

abbrev pub decreases-loop-rest : goal.decreases-loop-rest
decreases-loop-rest g l = length l.rest
