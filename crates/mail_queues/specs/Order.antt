-- Lists of calls of a mail, and what was sent and received in them.
use Rattle.std.specs.Prelude.{ℕ, ◌≡◌, ◌≤◌, ◌==◌, ◌&&◌, List, [], ◌∷◌, ◌++◌, Option, option_to_list, if◌then◌else◌}
use Rattle.mail_queues.specs.declared.Message.{Message}
use Rattle.mail_queues.specs.State.{QueueState}
use Rattle.mail_queues.specs.Queues.{messages_of, IsQueueNow}

-- from a node to another: a message was sent, the first one was received where there was one, or a call changed no message
pub data Call : Type 0 where
  Sent : ℕ → ℕ → Message → Call
  Received : ℕ → ℕ → Option Message → Call
  Kept : ℕ → ℕ → Call

-- what the contracts of the calls say, which are of the nodes 0 to 8
abbrev pub Makes : List QueueState → Call → List QueueState → Type 0
Makes old (Sent from to message) new = (from ≤ 8) × (to ≤ 8) × IsQueueNow old new from to (messages_of old from to ++ message ∷ [])
Makes old (Received from to message) new =
    (from ≤ 8) × (to ≤ 8) × (messages_of old from to ≡ option_to_list message ++ messages_of new from to) × IsQueueNow old new from to (messages_of new from to)
Makes old (Kept from to) new = (from ≤ 8) × (to ≤ 8) × IsQueueNow old new from to (messages_of old from to)

-- the calls, one after another
abbrev pub MakeAll : List QueueState → List Call → List QueueState → Type 0
MakeAll old [] new = old ≡ new
MakeAll old (call ∷ calls) new = (between : List QueueState) × Makes old call between × MakeAll between calls new

-- the messages that were sent from i to k, in the order of the calls
abbrev pub sent_in : List Call → ℕ → ℕ → List Message
sent_in [] i k = []
sent_in (Sent from to message ∷ calls) i k =
    if (from == i) && (to == k) then message ∷ sent_in calls i k else sent_in calls i k
sent_in (Received from to message ∷ calls) i k = sent_in calls i k
sent_in (Kept from to ∷ calls) i k = sent_in calls i k

-- those that were received
abbrev pub received_in : List Call → ℕ → ℕ → List Message
received_in [] i k = []
received_in (Sent from to message ∷ calls) i k = received_in calls i k
received_in (Received from to message ∷ calls) i k =
    if (from == i) && (to == k) then option_to_list message ++ received_in calls i k else received_in calls i k
received_in (Kept from to ∷ calls) i k = received_in calls i k

-- what was under way and what was sent is what was received and what is under way, in that order: each message comes once
abbrev pub ComesOnceInOrder : Type 0
ComesOnceInOrder = (old new : List QueueState) (calls : List Call) (i k : ℕ) → i ≤ 8 → k ≤ 8 → MakeAll old calls new
    → messages_of old i k ++ sent_in calls i k ≡ received_in calls i k ++ messages_of new i k
