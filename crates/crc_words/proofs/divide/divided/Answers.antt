-- The eight look-ups are the eight bytes of the word.
use Rattle.crc_words.proofs.WordLemmas.{eight_bytes}
use Rattle.crc_words.proofs.divide.divided.Goals as goal

pub returns : goal.returns
returns g c = eight_bytes g.row.POLYNOMIAL g.row.DELAY c.args.table.now c.requires c.args.word c.ranges.word.fits
