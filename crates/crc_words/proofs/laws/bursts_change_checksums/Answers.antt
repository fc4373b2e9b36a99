-- The difference of two texts is divided like a text, and never vanishes.
use Rattle.crc_words.proofs.BurstLemmas.{remainder-burst, crc32-burst, crc32c_raw-burst}
use Rattle.crc_words.proofs.laws.bursts_change_checksums.Goals as goal

pub returns-clause-remainder : goal.returns-clause-remainder
returns-clause-remainder c = λ polynomial state sent received top fits. remainder-burst polynomial top fits state sent received

pub returns-clause-crc32 : goal.returns-clause-crc32
returns-clause-crc32 c = crc32-burst

pub returns-clause-crc32c_raw : goal.returns-clause-crc32c_raw
returns-clause-crc32c_raw c = crc32c_raw-burst
