use Rattle.turn_table.proofs.Seating.{splits}
use Rattle.turn_table.proofs.steps.split.Goals as goal

pub split_seat-requires : goal.split_seat-requires
split_seat-requires g c =
    let r = g.R.TurnRule in
    (c.requires.board.0, c.requires.board.1, splits r.holds r.grows _ c.args.place.now.me.0 c.requires.share)
