-- What a contract sees of a queue.
use Rattle.std.specs.Prelude.{ℕ, List}
use Rattle.mail_queues.specs.declared.Message.{Message}

-- the messages that wait, the first one first, and how many more there is room for
pub record QueueState : Type 0 where
  pub messages : List Message
  pub room : ℕ
