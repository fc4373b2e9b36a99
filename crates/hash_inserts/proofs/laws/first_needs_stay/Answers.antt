use Rattle.hash_inserts.proofs.AfterFirst as law
use Rattle.hash_inserts.proofs.laws.first_needs_stay.Goals as goal

pub returns : goal.returns
returns c = law.first_needs_stay
