-- A master's table of locks.
use Rattle.std.specs.Prelude.{ℕ, ◌≡◌, Bool, true, false, List, [], Option, None, Some, is_none, if◌then◌else◌}
use Rattle.glock_names.specs.declared.LockName.{LockName}
use Rattle.glock_names.specs.LockMaps.{at_lock, with_lock}
use Rattle.dlm_modes.specs.declared.Mode.{Mode}
use Rattle.dlm_modes.specs.Modes.{is_above, is_at_least}
use Rattle.dlm_modes.specs.declared.ValueBlock.{ValueBlock}
use Rattle.dlm_master.specs.declared.claims.Cause.{Cause}
use Rattle.dlm_master.specs.Claims.{mode_of_node}
use Rattle.dlm_master.specs.LockState.{LockState}
use Rattle.dlm_master.specs.Locks.{known_or_free, is_waiting, request_cause, requested, convert_cause, converted, lowered, reported, holds_back, grants_of, after_grants}

-- the number of the view, whether a rebuild isn't done, the nodes whose slots wait, and a finite map from the locks, in the
-- order in which the master came to know them
pub record MasterState : Type 0 where
  pub generation : ℕ
  pub rebuild : Bool
  pub waiting : ℕ
  pub table : List (LockName × LockState)

abbrev pub lock_of : MasterState → LockName → LockState
lock_of m lock = known_or_free m.table lock

-- the same tables, and this of the lock
abbrev pub with_state : MasterState → LockName → LockState → MasterState
with_state m lock l = record m { table = with_lock m.table lock l }

-- the mode in which a node holds a lock, if it holds it
abbrev pub held_by : MasterState → ℕ → LockName → Option Mode
held_by m node lock = mode_of_node (lock_of m lock).held node

abbrev pub waits_for : MasterState → ℕ → LockName → Bool
waits_for m node lock = is_waiting (lock_of m lock) node

-- it holds a mode above this one
abbrev pub holds_above : Option Mode → Mode → Bool
holds_above None mode = false
holds_above (Some held) mode = is_above held mode

-- it holds a mode, and this one covers it
abbrev pub holds_covered : Option Mode → Mode → Bool
holds_covered None mode = false
holds_covered (Some held) mode = is_at_least mode held

-- ---- what the calls require of a lock

-- the node holds none of it
abbrev pub HoldsNone : LockState → ℕ → Type 0
HoldsNone l node = mode_of_node l.held node ≡ None

-- it waits for nothing on it
abbrev pub IsIdle : LockState → ℕ → Type 0
IsIdle l node = is_waiting l node ≡ false

-- it holds it in a mode that this one covers
abbrev pub IsCovered : LockState → ℕ → Mode → Type 0
IsCovered l node mode = holds_covered (mode_of_node l.held node) mode ≡ true

-- it holds it in a mode above this one
abbrev pub IsAbove : LockState → ℕ → Mode → Type 0
IsAbove l node mode = holds_above (mode_of_node l.held node) mode ≡ true

-- ---- what the calls do

-- no grant is to be made
abbrev pub is_blocked : MasterState → Bool
is_blocked m = holds_back m.rebuild m.waiting

abbrev pub request_waits : MasterState → ℕ → LockName → Mode → Option Cause
request_waits m node lock mode = request_cause m.rebuild m.waiting (lock_of m lock) node mode

abbrev pub convert_waits : MasterState → ℕ → LockName → Mode → Option Cause
convert_waits m node lock mode = convert_cause m.rebuild m.waiting (lock_of m lock) node mode

abbrev pub after_request : MasterState → ℕ → LockName → Mode → MasterState
after_request m node lock mode = with_state m lock (requested (request_waits m node lock mode) (lock_of m lock) node mode)

abbrev pub after_convert : MasterState → ℕ → LockName → Mode → MasterState
after_convert m node lock mode = with_state m lock (converted (convert_waits m node lock mode) (lock_of m lock) node mode)

abbrev pub after_down : MasterState → ℕ → LockName → Mode → Option (List ℕ) → MasterState
after_down m node lock mode value = with_state m lock (lowered (lock_of m lock) node mode value)

abbrev pub after_report : MasterState → ℕ → LockName → Mode → MasterState
after_report m node lock mode = with_state m lock (reported (lock_of m lock) node mode)

-- who is granted next
abbrev pub next_of : MasterState → LockName → List (ℕ × Mode × ValueBlock)
next_of m lock = if is_blocked m then [] else grants_of (lock_of m lock)

-- the waiters of a lock have taken their turns, where the master knows the lock
abbrev pub after_turns : MasterState → LockName → MasterState
after_turns m lock = if is_none (at_lock m.table lock) then m else with_state m lock (after_grants (lock_of m lock))

abbrev pub after_next : MasterState → LockName → MasterState
after_next m lock = if is_blocked m then m else after_turns m lock
