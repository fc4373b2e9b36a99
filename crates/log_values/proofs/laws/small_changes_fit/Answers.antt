use Rattle.log_values.proofs.Resting.{small_changes_fit}
use Rattle.log_values.proofs.laws.small_changes_fit.Goals as goal

pub returns : goal.returns
returns c = small_changes_fit
