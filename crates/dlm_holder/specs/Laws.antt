-- Lists of calls of a holder, and what was granted in them.
use Rattle.std.specs.Prelude.{◌≡◌, ⊤, true, List, [], ◌∷◌, None, if◌then◌else◌}
use Rattle.glock_names.specs.declared.LockName.{LockName}
use Rattle.glock_names.specs.LockMaps.{same_lock}
use Rattle.dlm_modes.specs.declared.Mode.{Mode}
use Rattle.dlm_modes.specs.declared.Mode.TheVariants.{Nl}
use Rattle.dlm_modes.specs.declared.ValueBlock.{ValueBlock}
use Rattle.dlm_modes.specs.Modes.{is_at_least}
use Rattle.dlm_holder.specs.Holdings.{Holdings, mode_in, wanted_in, asked_for, granted_to, lowered_to, ask_dropped}

pub data Call : Type 0 where
  Asks : LockName → Mode → Call
  IsGranted : LockName → Mode → ValueBlock → Call
  Lowers : LockName → Mode → Call
  DropsAsk : LockName → Call

abbrev pub after : Holdings → Call → Holdings
after h (Asks lock mode) = asked_for h lock mode
after h (IsGranted lock mode value) = granted_to h lock mode value
after h (Lowers lock mode) = lowered_to h lock mode
after h (DropsAsk lock) = ask_dropped h lock

-- a node lowers a lock only to what its mode covers; and it asks for a lock, or lowers it, only while no ask of it stands
abbrev pub MayCall : Holdings → Call → Type 0
MayCall h (Asks lock mode) = wanted_in h lock ≡ None
MayCall h (Lowers lock mode) = (is_at_least (mode_in h lock) mode ≡ true) × (wanted_in h lock ≡ None)
MayCall h call = ⊤

-- the calls, one after another
abbrev pub after_all : Holdings → List Call → Holdings
after_all h [] = h
after_all h (call ∷ calls) = after_all (after h call) calls

abbrev pub MayCallAll : Holdings → List Call → Type 0
MayCallAll h [] = ⊤
MayCallAll h (call ∷ calls) = MayCall h call × MayCallAll (after h call) calls

-- the mode of the lock's last grant in the calls, or what was granted before them
abbrev pub last_granted : List Call → LockName → Mode → Mode
last_granted [] lock before = before
last_granted (IsGranted other mode value ∷ calls) lock before = last_granted calls lock (if same_lock other lock then mode else before)
last_granted (call ∷ calls) lock before = last_granted calls lock before

-- after every list of calls that may be made, what the node holds of a lock is covered by the lock's last grant
abbrev pub NeverStronger : Type 0
NeverStronger = (calls : List Call) (lock : LockName) → MayCallAll [] calls
    → is_at_least (last_granted calls lock Nl) (mode_in (after_all [] calls) lock) ≡ true
