use Rattle.lock_steps.proofs.Mailing.{mail-is-none}
use Rattle.lock_steps.proofs.mail_is_no_step.Goals as goal

pub returns : goal.returns
returns c = mail-is-none
