-- Lists of calls on one lock of a master.
use Rattle.std.specs.Prelude.{ℕ, ⊤, Bool, true, false, List, [], ◌∷◌, Option, None, Some, option_map, unwrap_or, if◌then◌else◌}
use Rattle.glock_names.specs.declared.LockName.{LockName}
use Rattle.dlm_modes.specs.declared.Mode.{Mode}
use Rattle.dlm_modes.specs.declared.Mode.TheVariants.{Pw}
use Rattle.dlm_modes.specs.declared.ValueBlock.{ValueBlock}
use Rattle.dlm_modes.specs.Modes.{is_at_least}
use Rattle.dlm_master.specs.Claims.{mode_at}
use Rattle.dlm_master.specs.LockState.{LockState}
use Rattle.dlm_master.specs.Locks.{free_lock, request_cause, requested, convert_cause, converted, lowered, holds_back, after_grants}
use Rattle.dlm_master.specs.Tables.{MasterState, lock_of, HoldsNone, IsIdle, IsCovered, IsAbove}

-- a call on the lock: a node asks for it, or for another mode, or lowers it; the waiters take their turns; or it is said
-- whether a rebuild isn't done and which slots wait
pub data Call : Type 0 where
  Requests : ℕ → Mode → Call
  Converts : ℕ → Mode → Call
  Lowers : ℕ → Mode → Option (List ℕ) → Call
  Grants : Call
  Blocks : Bool → ℕ → Call

-- the lock, and what keeps its master from granting it
pub record Run : Type 0 where
  pub rebuild : Bool
  pub waiting : ℕ
  pub lock : LockState

-- nobody ever asked
abbrev pub started : Run
started = record { rebuild = false; waiting = 0; lock = free_lock }

-- a lock of a master's table, and what keeps the master from granting it
abbrev pub run_of : MasterState → LockName → Run
run_of m lock = record { rebuild = m.rebuild; waiting = m.waiting; lock = lock_of m lock }

-- what the calls do, as their contracts say
abbrev pub after : Run → Call → Run
after r (Requests node mode) = record r { lock = requested (request_cause r.rebuild r.waiting r.lock node mode) r.lock node mode }
after r (Converts node mode) = record r { lock = converted (convert_cause r.rebuild r.waiting r.lock node mode) r.lock node mode }
after r (Lowers node mode value) = record r { lock = lowered r.lock node mode value }
after r Grants = if holds_back r.rebuild r.waiting then r else record r { lock = after_grants r.lock }
after r (Blocks rebuild waiting) = record { rebuild = rebuild; waiting = waiting; lock = r.lock }

-- what the calls require
abbrev pub MayCall : Run → Call → Type 0
MayCall r (Requests node mode) = HoldsNone r.lock node × IsIdle r.lock node
MayCall r (Converts node mode) = IsCovered r.lock node mode × IsIdle r.lock node
MayCall r (Lowers node mode value) = IsAbove r.lock node mode × IsIdle r.lock node
MayCall r Grants = ⊤
MayCall r (Blocks rebuild waiting) = ⊤

abbrev pub after_all : Run → List Call → Run
after_all r [] = r
after_all r (call ∷ calls) = after_all (after r call) calls

abbrev pub MayCallAll : Run → List Call → Type 0
MayCallAll r [] = ⊤
MayCallAll r (call ∷ calls) = MayCall r call × MayCallAll (after r call) calls

-- a value that somebody has written
abbrev pub valid_value : List ℕ → ValueBlock
valid_value bytes = record { bytes = bytes; valid = true }

-- what a call writes as the lock's value: what a node gives that lowers the lock from Pw or above
abbrev pub written_by : Run → Call → Option (List ℕ)
written_by r (Lowers node mode (Some bytes)) = if is_at_least (mode_at r.lock.held node) Pw then Some bytes else None
written_by r call = None

-- the value that the calls wrote last, or the one before them
abbrev pub last_value : Run → List Call → ValueBlock → ValueBlock
last_value r [] before = before
last_value r (call ∷ calls) before = last_value (after r call) calls (unwrap_or (option_map valid_value (written_by r call)) before)
