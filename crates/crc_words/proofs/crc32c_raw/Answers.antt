-- The tables hold what the division asks of them.
use Rattle.crc_words.specs.Remainder.{crc32c_raw_of}
use Rattle.crc_words.proofs.TableTests.{IsTable-CRC32C_NEAR, IsTable-CRC32C_FAR}
use Rattle.crc_words.proofs.crc32c_raw.Goals as goal

pub advance-requires-clause-near : goal.advance-requires-clause-near
advance-requires-clause-near c = IsTable-CRC32C_NEAR

pub advance-requires-clause-far : goal.advance-requires-clause-far
advance-requires-clause-far c = IsTable-CRC32C_FAR

pub returns : goal.returns
unfolding crc32c_raw_of
returns c = c.advance.ensures
