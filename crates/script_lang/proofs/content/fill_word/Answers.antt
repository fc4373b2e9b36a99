use Rattle.number_words.specs.Numbers.{number_in}
use Rattle.script_lang.specs.Words.{transfer_limit}
use Rattle.script_lang.proofs.HexWords.{no_byte}
use Rattle.script_lang.proofs.content.fill_word.Goals as goal

pub returns-then-byte-ne2 : goal.returns-then-byte-ne2
returns-then-byte-ne2 c = no_byte c.args.byte.now (number_in 1 transfer_limit c.args.count.now) c.if-byte-ne2.true
