use Rattle.hash_steps.proofs.Split.{split_stays}
use Rattle.hash_steps.proofs.splits_stay.Goals as goal

pub returns : goal.returns
returns c h g i b sound hashed low one_leaf shallow split = split_stays h g i b sound hashed low one_leaf shallow split c.halves_have_the_records.ensures
