-- The tables hold what the division asks of them.
use Rattle.std.proofs.Common.{ap, bit_xor}
use Rattle.crc_words.specs.Remainder.{crc32_of}
use Rattle.crc_words.proofs.TableTests.{IsTable-CRC32_NEAR, IsTable-CRC32_FAR}
use Rattle.crc_words.proofs.crc32.Goals as goal

pub advance-requires-clause-near : goal.advance-requires-clause-near
advance-requires-clause-near c = IsTable-CRC32_NEAR

pub advance-requires-clause-far : goal.advance-requires-clause-far
advance-requires-clause-far c = IsTable-CRC32_FAR

pub returns : goal.returns
unfolding crc32_of
returns c = ap (λ n. bit_xor n 4294967295) c.advance.ensures
