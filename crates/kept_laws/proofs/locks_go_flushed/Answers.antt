use Rattle.kept_laws.proofs.Fitting.{go_flushed}
use Rattle.kept_laws.proofs.locks_go_flushed.Goals as goal

pub returns : goal.returns
returns c = go_flushed
