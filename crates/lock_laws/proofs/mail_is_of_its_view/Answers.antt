use Rattle.lock_laws.proofs.Mailing.{mail_is_of_view}
use Rattle.lock_laws.proofs.mail_is_of_its_view.Goals as goal

pub returns : goal.returns
returns c = mail_is_of_view
