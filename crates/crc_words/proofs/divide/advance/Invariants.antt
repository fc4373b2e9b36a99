use Rattle.std.proofs.Common.{◌≡◌, ◌≤◌, [], ◌∷◌, length}
use Rattle.crc_words.specs.Remainder.{remainder}
use Rattle.crc_words.proofs.TextLemmas.{pending}
use Rattle.crc_words.proofs.LaneLemmas.{row}
use Rattle.crc_words.proofs.divide.advance.Given as goal

-- what is left, from the four lanes, gives the remainder of the whole
abbrev pub invariant-loop-rest : goal.invariant-loop-rest
invariant-loop-rest g l = record {
  room : 32 ≤ length l.rest;
  value : pending g.row.POLYNOMIAL (row (l.a ∷ (l.b ∷ (l.c ∷ (l.d ∷ []))))) l.rest ≡ remainder g.row.POLYNOMIAL l.fn.state l.bytes;
}

abbrev pub decreases-loop-rest : goal.decreases-loop-rest
decreases-loop-rest g l = length l.rest
