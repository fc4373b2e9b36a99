-- The parts of the lock manager, as their contracts see them.
use Rattle.std.specs.Prelude.{ℕ, ◌==◌, ◌&&◌, Bool, List, ◌++◌, if◌then◌else◌}
use Rattle.fencing.specs.declared.Membership.{Membership}
use Rattle.mail_queues.specs.declared.Message.{Message}
use Rattle.mail_queues.specs.declared.Body.{Body}
use Rattle.mail_queues.specs.State.{QueueState}
use Rattle.mail_queues.specs.Queues.{messages_of}
use Rattle.dlm_holder.specs.Holdings.{Holdings}
use Rattle.dlm_rebuild.specs.Rebuilding.{RebuildState}

-- the mail, and what nodes have in hand of it: of each ordered pair the messages that the second has taken and not acted on,
-- and those that the first has still to send. What a node that joined drops before its next view counts as taken and not acted on
pub record Post : Type 0 where
  pub mail : List QueueState
  pub took : ℕ → ℕ → List Message
  pub sends : ℕ → ℕ → List Message

-- all that is on its way from the one node to the other, the first message first. What a node tells itself isn't mailed
abbrev pub way : Post → ℕ → ℕ → List Message
way p from to = p.took from to ++ (messages_of p.mail from to ++ p.sends from to)

pub record Parts : Type 0 where
  pub membership : Membership
  -- the node that is the lock's master in the present view, and its table: that of a rebuild, and then of the master it became.
  -- Until that node takes the view, it is what `Rebuild::new` will give there
  pub master : ℕ
  pub table : RebuildState
  -- what each node holds, a stopped one until its slot is recovered
  pub holders : ℕ → Holdings
  pub post : Post
  -- the node has joined since the present view began; it has taken the present view
  pub fresh : ℕ → Bool
  pub taken : ℕ → Bool

-- the message of the present view that says this
abbrev pub now_says : Parts → Body → Message
now_says p body = record { generation = p.membership.generation; body = body }

-- a function of ordered pairs, with another value at one of them
abbrev pub at_pair : {A : Type 0} → (ℕ → ℕ → A) → ℕ → ℕ → A → ℕ → ℕ → A
at_pair f from to x i k = if (i == from) && (k == to) then x else f i k

-- the first node has this to send too
abbrev pub with_letters : Post → ℕ → ℕ → List Message → Post
with_letters p from to letters = record p { sends = at_pair p.sends from to (p.sends from to ++ letters) }

-- the second node has only this left of what it took
abbrev pub with_left : Post → ℕ → ℕ → List Message → Post
with_left p from to left = record p { took = at_pair p.took from to left }
