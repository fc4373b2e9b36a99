use Rattle.std.proofs.Common.{ap, sym, ◌∙◌}
use Rattle.log_memory.proofs.Sending.{away_is, tells_away}
use Rattle.log_memory.proofs.homing.is_away.Goals as goal

pub returns-in-Away : goal.returns-in-Away
returns-in-Away c = λ e at. ap tells_away (sym c.in-Away.is ∙ c.live_whereabouts.ensures e at) ∙ away_is e.1.way

pub returns-in-Home : goal.returns-in-Home
returns-in-Home c = λ e at. ap tells_away (sym c.in-Home.is ∙ c.live_whereabouts.ensures e at) ∙ away_is e.1.way

pub returns-in-Flying : goal.returns-in-Flying
returns-in-Flying c = λ e at. ap tells_away (sym c.in-Flying.is ∙ c.live_whereabouts.ensures e at) ∙ away_is e.1.way
