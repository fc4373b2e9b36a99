use Rattle.turn_table.proofs.Stepping.{takes_turn}
use Rattle.turn_table.proofs.steps.try_take.Goals as goal

pub compare_exchange-requires : goal.compare_exchange-requires
compare_exchange-requires g c =
    let r = g.R.TurnRule in
    (c.requires.board, c.requires.part.0, takes_turn r.holds r.grows r.grows_reflexive r.grows_transitive _ _ _ c.args.place.now.me c.requires.part.1 c.requires.share)
