use Rattle.log_values.proofs.Fitting.{live_fits}
use Rattle.log_values.proofs.laws.live_blocks_fit.Goals as goal

pub returns : goal.returns
returns c = live_fits
