use Rattle.command_words.proofs.PlaceLaws.{first_wrong}
use Rattle.command_words.proofs.laws.first_wrong_word_is_told.Goals as goal

pub returns : goal.returns
returns c = λ block_size words place is_size. first_wrong block_size is_size words place
