use Rattle.std.proofs.Common.{ap, sym, ◌∙◌}
use Rattle.log_memory.proofs.Oldest.{home_is, tells_home}
use Rattle.log_memory.proofs.tails.is_home.Goals as goal

pub returns-in-Home : goal.returns-in-Home
returns-in-Home c = λ e at. ap tells_home (sym c.in-Home.is ∙ c.live_whereabouts.ensures e at) ∙ home_is e.1.way

pub returns-in-Away : goal.returns-in-Away
returns-in-Away c = λ e at. ap tells_home (sym c.in-Away.is ∙ c.live_whereabouts.ensures e at) ∙ home_is e.1.way

pub returns-in-Flying : goal.returns-in-Flying
returns-in-Flying c = λ e at. ap tells_home (sym c.in-Flying.is ∙ c.live_whereabouts.ensures e at) ∙ home_is e.1.way
