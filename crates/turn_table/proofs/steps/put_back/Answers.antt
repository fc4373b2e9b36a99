use Rattle.std.proofs.Common.{ap, None}
use Rattle.turn_table.proofs.Leaving.{front_after, lands}
use Rattle.turn_table.proofs.steps.put_back.Goals as goal

pub move_back-requires-clause-slot : goal.move_back-requires-clause-slot
move_back-requires-clause-slot g c = front_after c.args.place.now.me.1 _ c.args.part None c.requires.slot (ap (λ m. m.1) c.bring.ensures.brought)

pub returns-clause-slot : goal.returns-clause-slot
returns-clause-slot g c = λ v turn. lands c.args.place.now.me c.bring.new.place.me _ c.args.part v c.args.value c.bring.ensures.brought c.move_back.ensures.slot c.requires.slot turn
