use Rattle.cluster_laws.proofs.Logging.{calm_untouched}
use Rattle.cluster_laws.proofs.calm_calls_touch_nothing.Goals as goal

pub returns : goal.returns
returns g c = calm_untouched _
