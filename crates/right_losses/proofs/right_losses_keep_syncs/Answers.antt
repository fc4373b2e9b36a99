use Rattle.right_losses.proofs.Synced.{right_losses_keep_syncs}
use Rattle.right_losses.proofs.right_losses_keep_syncs.Goals as goal

pub returns : goal.returns
returns c = right_losses_keep_syncs
