-- The mail of a lock with the number of the view that each message was sent in; what the machine sees of it is what the present view has.
use Rattle.std.specs.Prelude.{ℕ, ◌≡◌, ◌<◌, ◌==◌, if◌then◌else◌, List, [], ◌∷◌, ◌++◌}
use Rattle.lock_laws.specs.Lock.{Message}

pub record Sent : Type 0 where
  pub view : ℕ
  pub message : Message

-- the messages of this view, in their order
abbrev pub of_view : ℕ → List Sent → List Message
of_view g [] = []
of_view g (s ∷ q) = if s.view == g then s.message ∷ of_view g q else of_view g q

-- each was sent in an earlier view
abbrev pub AllEarlier : ℕ → List Sent → Type 0
AllEarlier g [] = Unit {0}
AllEarlier g (s ∷ q) = (s.view < g) × AllEarlier g q

-- what becomes of the machine's queue when a message is sent, taken, or dropped, and when there is a new view
pub record MailIsOfView : Type 0 where
  pub sent : (g : ℕ) (m : Message) (q : List Sent) → of_view g (q ++ record { view = g; message = m } ∷ []) ≡ of_view g q ++ m ∷ []
  pub taken : (g : ℕ) (m : Message) (q : List Sent) → of_view g (record { view = g; message = m } ∷ q) ≡ m ∷ of_view g q
  -- a message of an older view is dropped by whoever takes it: for the machine nothing happens
  pub dropped : (g h : ℕ) (m : Message) (q : List Sent) → h < g → of_view g (record { view = h; message = m } ∷ q) ≡ of_view g q
  -- all that is under way is older than a new view: its queues begin empty, wherever the old view's rebuild stood
  pub anew : (g : ℕ) (q : List Sent) → AllEarlier g q → of_view g q ≡ []
