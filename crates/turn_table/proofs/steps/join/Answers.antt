use Rattle.turn_table.proofs.Seating.{joins}
use Rattle.turn_table.proofs.steps.join.Goals as goal

pub join_seat-requires : goal.join_seat-requires
join_seat-requires g c =
    let r = g.R.TurnRule in
    (c.requires.board.0, c.requires.board.1, c.requires.idle.1, c.requires.board.2, joins r.holds r.grows _ c.args.place.now.me.0 _ c.args.other.me.0 c.requires.idle.0)
