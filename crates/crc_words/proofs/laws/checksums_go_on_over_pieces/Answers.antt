-- The rest goes on from the state after the first part.
use Rattle.crc_words.proofs.TextLemmas.{remainder-append}
use Rattle.crc_words.proofs.BurstLemmas.{crc32-pieces, crc32c_raw-pieces}
use Rattle.crc_words.proofs.laws.checksums_go_on_over_pieces.Goals as goal

pub returns-clause-remainder : goal.returns-clause-remainder
returns-clause-remainder c = remainder-append

pub returns-clause-crc32 : goal.returns-clause-crc32
returns-clause-crc32 c = crc32-pieces

pub returns-clause-crc32c_raw : goal.returns-clause-crc32c_raw
returns-clause-crc32c_raw c = crc32c_raw-pieces
