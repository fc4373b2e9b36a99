use Rattle.hash_inserts.proofs.Onward.{fresh_still}
use Rattle.hash_inserts.proofs.laws.absent_names_stay.Goals as goal

pub returns : goal.returns
returns c = fresh_still
