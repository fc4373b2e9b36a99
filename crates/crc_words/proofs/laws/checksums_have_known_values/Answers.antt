-- The definitions compute.
use Rattle.std.proofs.Common.{refl}
use Rattle.crc_words.specs.Remainder.{after_bit, after_bits, remainder, crc32_of, crc32c_raw_of}
use Rattle.crc_words.proofs.laws.checksums_have_known_values.Goals as goal

pub returns-clause-crc32 : goal.returns-clause-crc32
unfolding crc32_of remainder after_bits after_bit
returns-clause-crc32 c = refl

pub returns-clause-crc32c_raw : goal.returns-clause-crc32c_raw
unfolding crc32c_raw_of remainder after_bits after_bit
returns-clause-crc32c_raw c = refl
