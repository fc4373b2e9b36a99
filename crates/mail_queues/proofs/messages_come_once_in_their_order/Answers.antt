use Rattle.mail_queues.proofs.OrderLaws.{comes-once}
use Rattle.mail_queues.proofs.messages_come_once_in_their_order.Goals as goal

pub returns : goal.returns
returns c = comes-once
