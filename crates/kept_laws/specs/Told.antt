-- What a node holds of its locks is kept twice: as states of its glocks, and as modes in the lock manager's holder.
use Rattle.std.specs.Prelude.{◌≡◌, ⊤, false, List, [], ◌∷◌}
use Rattle.glock_names.specs.declared.LockName.{LockName}
use Rattle.glock_names.specs.declared.State.{State}
use Rattle.glock_names.specs.States.{mode_for}
use Rattle.dlm_modes.specs.declared.Mode.{Mode}
use Rattle.dlm_modes.specs.declared.ValueBlock.{ValueBlock}
use Rattle.dlm_holder.specs.Holdings.{Holdings, mode_in, asked_for, granted_to, lowered_to, ask_dropped}
use Rattle.glock_machine.specs.Table.{Table, glock_of}
use Rattle.glock_machine.specs.Calls.{Act, On, Granted, Down, after, is_grant, is_down}

-- each lock is held in the mode of its state
abbrev pub Agree : Table → Holdings → Type 0
Agree t h = (lock : LockName) → mode_in h lock ≡ mode_for (glock_of t lock).state

-- a grant and a lower are told to both; an ask and its end to the holder alone, and all else to the glocks alone
pub data Told : Type 0 where
  OfGrant : (lock : LockName) → (state : State) → (value : ValueBlock) → Told
  OfLower : (lock : LockName) → (to : State) → Told
  OfAsk : (lock : LockName) → (mode : Mode) → Told
  OfAsksEnd : (lock : LockName) → Told
  OfElse : (act : Act) → Told

abbrev pub MayBeTold : Told → Type 0
MayBeTold (OfElse (On lock deed)) = (is_grant deed ≡ false) × (is_down deed ≡ false)
MayBeTold _ = ⊤

abbrev pub locks_after : Told → Table → Table
locks_after (OfGrant lock state value) t = after (On lock (Granted state)) t
locks_after (OfLower lock to) t = after (On lock (Down to)) t
locks_after (OfAsk lock mode) t = t
locks_after (OfAsksEnd lock) t = t
locks_after (OfElse act) t = after act t

abbrev pub holder_after : Told → Holdings → Holdings
holder_after (OfGrant lock state value) h = granted_to h lock (mode_for state) value
holder_after (OfLower lock to) h = lowered_to h lock (mode_for to)
holder_after (OfAsk lock mode) h = asked_for h lock mode
holder_after (OfAsksEnd lock) h = ask_dropped h lock
holder_after (OfElse act) h = h

abbrev pub AgreeAfter : List Told → Table → Holdings → Type 0
AgreeAfter [] t h = Agree t h
AgreeAfter (told ∷ more) t h = AgreeAfter more (locks_after told t) (holder_after told h)

abbrev pub MayAllBeTold : List Told → Type 0
MayAllBeTold [] = ⊤
MayAllBeTold (told ∷ more) = MayBeTold told × MayAllBeTold more
