use Rattle.hash_inserts.proofs.Onward.{room_still}
use Rattle.hash_inserts.proofs.laws.rooms_stay_free.Goals as goal

pub returns : goal.returns
returns c = room_still
