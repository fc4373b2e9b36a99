-- The messages under way between the nodes.
use Rattle.std.specs.Prelude.{ℕ, ◌≡◌, ◌≤◌, ◌+◌, ◌*◌, List, [], slice_index_or}
use Rattle.dlm_modes.specs.declared.MailWord.{MailWord}
use Rattle.dlm_modes.specs.declared.MailWord.TheVariants as word
use Rattle.mail_queues.specs.declared.Body.{Body}
use Rattle.mail_queues.specs.declared.Body.TheVariants.{Request, Convert, Down, Grant, Callback, Report, End, View}
use Rattle.mail_queues.specs.declared.Message.{Message}
use Rattle.mail_queues.specs.State.{QueueState}

-- the kind of a message
abbrev pub word_of : Body → MailWord
word_of (Request lock mode) = word.Request
word_of (Convert lock mode) = word.Convert
word_of (Down lock mode value) = word.Down
word_of (Grant lock mode value) = word.Grant
word_of (Callback lock mode) = word.Callback
word_of (Report lock mode value) = word.Report
word_of End = word.End
word_of View = word.View

-- the queue of an ordered pair of the nodes 0 to 8
abbrev pub queue_of : List QueueState → ℕ → ℕ → QueueState
queue_of mail from to = slice_index_or mail (9 * from + to) (record { messages = []; room = 0 })

-- the messages that are under way from the one node to the other, the first one first
abbrev pub messages_of : List QueueState → ℕ → ℕ → List Message
messages_of mail from to = (queue_of mail from to).messages

-- how many more messages there is room for
abbrev pub room_of : List QueueState → ℕ → ℕ → ℕ
room_of mail from to = (queue_of mail from to).room

-- these are the messages from the one node to the other now, and no other queue has changed
pub record IsQueueNow (old new : List QueueState) (from to : ℕ) (messages : List Message) : Type 0 where
  pub queue : messages_of new from to ≡ messages
  pub others : (i k : ℕ) → i ≤ 8 → k ≤ 8 → (i ≡ from → k ≡ to → ⊥) → queue_of new i k ≡ queue_of old i k
