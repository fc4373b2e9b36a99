use Rattle.turn_table.proofs.Giving.{gives_alone}
use Rattle.turn_table.proofs.steps.give_alone.Goals as goal

pub store-requires : goal.store-requires
store-requires g c =
    let r = g.R.TurnRule in
    let may = c.requires.change in (
      c.requires.board,
      c.requires.part,
      gives_alone r.grows r.grows_reflexive r.grows_transitive r.holds r.alone r.paired r.alone_keeps r.paired_keeps r.alone_grows r.paired_grows
          _ _ _ c.args.place.now.me may.0 may.1 may.2 may.3 may.4 may.5 may.6,
    )
