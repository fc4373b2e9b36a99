use Rattle.lone_runs.proofs.Damage.{may_begin}
use Rattle.lone_runs.proofs.laws.mounted_journals_serve.Goals as goal

pub returns : goal.returns
returns c disk m plans own plan time frames idle size mounted planned can own_is few = may_begin c.places_say_all.ensures c.mounted_journals_are_placed.ensures time frames disk m plans idle size mounted planned own plan own_is can few
