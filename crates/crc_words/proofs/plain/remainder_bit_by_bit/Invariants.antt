use Rattle.std.proofs.Common.{◌≡◌, drop}
use Rattle.crc_words.specs.Remainder.{remainder}
use Rattle.crc_words.proofs.plain.remainder_bit_by_bit.Given as goal

abbrev pub invariant-loop-byte : goal.invariant-loop-byte
invariant-loop-byte l = remainder l.polynomial l.state (drop l.byte-index l.bytes) ≡ remainder l.polynomial l.fn.state l.bytes
