use Rattle.script_lang.proofs.HexWords.{too_long}
use Rattle.script_lang.proofs.content.bytes_word.Goals as goal

pub returns-then-word-gt-LONGEST_BYTES : goal.returns-then-word-gt-LONGEST_BYTES
returns-then-word-gt-LONGEST_BYTES c = too_long c.args.word.now c.if-word-gt-LONGEST_BYTES.true
