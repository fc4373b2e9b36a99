use Rattle.revoke_table.proofs.Cancelling.{later_cancel}
use Rattle.revoke_table.proofs.later_revokes_cancel.Goals as goal

pub returns : goal.returns
returns c = later_cancel
