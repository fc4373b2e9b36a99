-- Each message comes once, in its order.
use Rattle.std.proofs.Common.{ℕ, ◌≡◌, ◌≢◌, ◌≤◌, Bool, true, false, List, [], ◌∷◌, ◌++◌, Option, cond, refl, sym, ap, ◌∙◌, inl, inr, append_assoc, append-nil, eqb, arith, ◌⊎◌}
use Rattle.std.specs.Prelude.{◌==◌, ◌&&◌, option_to_list}
use Rattle.std.proofs.lemmas.Bool.Decides.{eqb_tells}
use Rattle.mail_queues.specs.declared.Message.{Message}
use Rattle.mail_queues.specs.State.{QueueState}
use Rattle.mail_queues.specs.Queues.{messages_of, IsQueueNow}
use Rattle.mail_queues.specs.Order.{Call, Sent, Received, Kept, Makes, MakeAll, sent_in, received_in, ComesOnceInOrder}

-- two pairs of nodes are one or not
pair_tells : (from to i k : ℕ) → ((((from == i) && (to == k)) ≡ true) × (from ≡ i) × (to ≡ k)) ⊎ ((((from == i) && (to == k)) ≡ false) × (i ≡ from → k ≡ to → ⊥))
pair_tells from to i k =
    elim (eqb_tells from i) [
      | inl e ↦ elim (eqb_tells to k) [
        | inl f ↦ inl (ap (λ b. b && (to == k)) e.0 ∙ f.0, e.1, f.1)
        | inr g ↦ inr (ap (λ b. b && (to == k)) e.0 ∙ g.0, λ p q. g.1 (sym q))
      ]
      | inr g ↦ inr (ap (λ b. b && (to == k)) g.0, λ p q. g.1 (sym p))
    ]

sent-here : (old between later : List Message) (m : Message) → between ≡ old ++ m ∷ [] → old ++ (m ∷ later) ≡ between ++ later
sent-here old between later m e = rw e (sym (append_assoc old (m ∷ []) later))

received-here : (old between came sent got new : List Message) → old ≡ came ++ between → between ++ sent ≡ got ++ new → old ++ sent ≡ (came ++ got) ++ new
received-here old between came sent got new e h =
    rw e (append_assoc came between sent ∙ (ap (λ (l : List Message). came ++ l) h ∙ sym (append_assoc came got new)))

-- the queue of another pair stays
stays : (old new : List QueueState) (from to i k : ℕ) (messages : List Message) → IsQueueNow old new from to messages → i ≤ 8 → k ≤ 8
    → (i ≡ from → k ≡ to → ⊥) → messages_of old i k ≡ messages_of new i k
stays old new from to i k messages now i_node k_node other = sym (ap (λ (q : QueueState). q.messages) (now.others i k i_node k_node other))

pub comes-once : ComesOnceInOrder
comes-once old new [] i k i_node k_node e = append-nil _ ∙ ap (λ (m : List QueueState). messages_of m i k) e
comes-once old new (Sent from to message ∷ calls) i k i_node k_node (between, makes, rest) =
    let later = comes-once between new calls i k i_node k_node rest in
    elim (pair_tells from to i k) [
      | inl same ↦
          let here : messages_of between i k ≡ messages_of old i k ++ message ∷ [] = rw (← same.1, ← same.2) makes.2.queue in
          rw same.0 (sent-here (messages_of old i k) (messages_of between i k) (sent_in calls i k) message here ∙ later)
      | inr other ↦
          rw other.0 (ap (λ (l : List Message). l ++ sent_in calls i k) (stays old between from to i k _ makes.2 i_node k_node other.1) ∙ later)
    ]
comes-once old new (Received from to message ∷ calls) i k i_node k_node (between, makes, rest) =
    let later = comes-once between new calls i k i_node k_node rest in
    elim (pair_tells from to i k) [
      | inl same ↦
          let here : messages_of old i k ≡ option_to_list message ++ messages_of between i k = rw (← same.1, ← same.2) makes.2 in
          rw same.0 (received-here (messages_of old i k) (messages_of between i k) (option_to_list message) (sent_in calls i k) (received_in calls i k) (messages_of new i k) here later)
      | inr other ↦
          rw other.0 (ap (λ (l : List Message). l ++ sent_in calls i k) (stays old between from to i k _ makes.3 i_node k_node other.1) ∙ later)
    ]
comes-once old new (Kept from to ∷ calls) i k i_node k_node (between, makes, rest) =
    let later = comes-once between new calls i k i_node k_node rest in
    elim (pair_tells from to i k) [
      | inl same ↦
          let here : messages_of between i k ≡ messages_of old i k = rw (← same.1, ← same.2) makes.2.queue in
          ap (λ (l : List Message). l ++ sent_in calls i k) (sym here) ∙ later
      | inr other ↦ ap (λ (l : List Message). l ++ sent_in calls i k) (stays old between from to i k _ makes.2 i_node k_node other.1) ∙ later
    ]
