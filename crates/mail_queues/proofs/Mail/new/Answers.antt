use Rattle.std.proofs.Common.{◌≡◌, ℕ, ◌+◌, ◌*◌, ◌<◌, ◌≤◌, Bool, true, false, nat_lt, List, [], length, slice_index_or, refl, ap, arith}
use Rattle.std.proofs.lemmas.Bool.{ltb-true, ltb-false}
use Rattle.std.proofs.lemmas.List.{get_or_past}
use Rattle.mail_queues.specs.State.{QueueState}
use Rattle.mail_queues.specs.Queues.{messages_of}
use Rattle.mail_queues.proofs.Mail.new.Goals as goal

-- every queue of the list is empty, and there is none past its end
all-empty : (queues : List QueueState) → length queues ≡ 81 → ((i : ℕ) (d : QueueState) → i < 81 → (slice_index_or queues i d).messages ≡ [])
    → (from to : ℕ) → messages_of queues from to ≡ []
all-empty queues long each from to = by (nat_lt (9 * from + to) 81) refl
  where
    by : (b : Bool) → nat_lt (9 * from + to) 81 ≡ b → messages_of queues from to ≡ []
    by true e = each (9 * from + to) (record { messages = []; room = 0 }) (ltb-true (9 * from + to) 81 e)
    by false e =
        let past : length queues ≤ 9 * from + to = omega (arith, ltb-false (9 * from + to) 81 e, long) in
        ap (λ (q : QueueState). q.messages) (get_or_past queues (9 * from + to) (record { messages = []; room = 0 }) past)

pub returns : goal.returns
returns c from to = all-empty c.from_fn.result c.from_fn.ensures.items.long (λ i d h. (c.from_fn.ensures.items.at i d h).2.met.1) from to
