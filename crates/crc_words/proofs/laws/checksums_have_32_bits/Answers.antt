use Rattle.crc_words.proofs.FitLemmas.{crc32-fits}
use Rattle.crc_words.proofs.laws.checksums_have_32_bits.Goals as goal

pub returns : goal.returns
returns c = crc32-fits
