use Rattle.turn_table.proofs.Giving.{gives_second}
use Rattle.turn_table.proofs.steps.give_second.Goals as goal

pub store-requires : goal.store-requires
store-requires g c =
    let r = g.R.TurnRule in
    let may = c.requires.change in (
      c.requires.board,
      c.requires.part,
      gives_second r.grows r.grows_reflexive r.grows_transitive r.holds r.alone r.paired r.alone_keeps r.paired_keeps r.alone_grows r.paired_grows
          _ _ may.0 _ c.args.place.now.me may.2 may.1 may.4 may.3 may.5 may.6 may.7 may.8 may.9 may.10,
    )
