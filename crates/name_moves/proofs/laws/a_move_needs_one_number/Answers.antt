use Rattle.name_moves.proofs.Alike.{need_once}
use Rattle.name_moves.proofs.laws.a_move_needs_one_number.Goals as goal

pub returns : goal.returns
returns c = need_once
