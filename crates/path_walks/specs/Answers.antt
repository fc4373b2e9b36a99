-- Which answer of a call over a view comes when.
use Rattle.std.specs.Prelude.{ℕ, ◌≡◌, false, Result, Ok, ⊤}
use Rattle.cluster_history.specs.Changes.{is_ok}
use Rattle.file_tree.specs.declared.reply.Reply.{Reply}
use Rattle.file_tree.specs.declared.reply.Reply.TheVariants as reply
use Rattle.glock_names.specs.declared.LockName.{LockName}
use Rattle.glock_names.specs.declared.State.{State}
use Rattle.glock_names.specs.declared.steps.CallFault.{CallFault}
use Rattle.glock_names.specs.declared.steps.Missing.{Missing}
use Rattle.drafts.specs.declared.attempt.Attempt.{Attempt}
use Rattle.drafts.specs.declared.attempt.Attempt.TheVariants.{Done, NeedLock, NeedBlock, NoSpace, NotBuilt}
use Rattle.drafts.specs.declared.change.Change.{Change}

-- P of what is told, where the call is answered so
abbrev pub IfDone : Result Attempt CallFault → (Reply → Change → Type 0) → Type 0
IfDone (Ok (Done reply change)) P = P reply change
IfDone _ P = ⊤

abbrev pub IfNeedLock : Result Attempt CallFault → (LockName → State → Type 0) → Type 0
IfNeedLock (Ok (NeedLock lock state)) P = P lock state
IfNeedLock _ P = ⊤

abbrev pub IfNeedBlock : Result Attempt CallFault → (Missing → Type 0) → Type 0
IfNeedBlock (Ok (NeedBlock missing)) P = P missing
IfNeedBlock _ P = ⊤

abbrev pub IfNoSpace : Result Attempt CallFault → (ℕ → ℕ → Type 0) → Type 0
IfNoSpace (Ok (NoSpace need free)) P = P need free
IfNoSpace _ P = ⊤

abbrev pub IfNotBuilt : Result Attempt CallFault → Type 0 → Type 0
IfNotBuilt (Ok NotBuilt) P = P
IfNotBuilt _ P = ⊤

-- the reply doesn't tell of too few free blocks: this is for the node to answer, once it has seen that no call frees some
abbrev pub HasSpace : Reply → Type 0
HasSpace reply.NoSpace = ⊥
HasSpace r = ⊤

-- so a call is refused: by no `ok`, nor for want of free blocks
abbrev pub Refuses : Reply → Type 0
Refuses r = (is_ok r ≡ false) × HasSpace r
