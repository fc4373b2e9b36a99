use Rattle.std.proofs.Common.{ap, sym, ◌∙◌}
use Rattle.log_memory.proofs.Barriers.{flying_is, tells_flying}
use Rattle.log_memory.proofs.settling.flies.Goals as goal

pub returns-in-Flying : goal.returns-in-Flying
returns-in-Flying c = λ e at. ap tells_flying (sym c.in-Flying.is ∙ c.live_whereabouts.ensures e at) ∙ flying_is e.1.way

pub returns-in-Home : goal.returns-in-Home
returns-in-Home c = λ e at. ap tells_flying (sym c.in-Home.is ∙ c.live_whereabouts.ensures e at) ∙ flying_is e.1.way

pub returns-in-Away : goal.returns-in-Away
returns-in-Away c = λ e at. ap tells_flying (sym c.in-Away.is ∙ c.live_whereabouts.ensures e at) ∙ flying_is e.1.way
