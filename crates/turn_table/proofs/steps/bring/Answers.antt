use Rattle.turn_table.proofs.Stepping.{brings_slot}
use Rattle.turn_table.proofs.steps.bring.Goals as goal

pub load-requires : goal.load-requires
load-requires g c =
    let r = g.R.TurnRule in
    (c.requires.board, c.requires.part, brings_slot r.holds r.grows _ _ _ _ c.requires.tied)
