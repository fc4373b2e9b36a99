use Rattle.std.proofs.Common.{◌≡◌, drop}
use Rattle.crc_words.specs.Remainder.{remainder}
use Rattle.crc_words.proofs.divide.advance_bytes.Given as goal

abbrev pub invariant-loop-byte : goal.invariant-loop-byte
invariant-loop-byte g l = remainder g.row.POLYNOMIAL l.state (drop l.byte-index l.bytes) ≡ remainder g.row.POLYNOMIAL l.fn.state l.bytes
