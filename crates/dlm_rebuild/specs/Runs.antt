-- Lists of calls on one lock while its table is made anew.
use Rattle.std.specs.Prelude.{ℕ, ◌≡◌, ◌≢◌, ◌==◌, ⊤, true, false, List, [], ◌∷◌, Option, None, Some, unwrap_or, if◌then◌else◌}
use Rattle.glock_names.specs.declared.LockName.{LockName}
use Rattle.dlm_modes.specs.declared.Mode.{Mode}
use Rattle.dlm_modes.specs.declared.Mode.TheVariants.{Nl}
use Rattle.dlm_modes.specs.Modes.{go_together, not_valid}
use Rattle.dlm_master.specs.declared.claims.Claim.{Claim}
use Rattle.dlm_master.specs.Claims.{is_null, mode_of_node, OneEach, Together}
use Rattle.dlm_master.specs.LockState.{LockState}
use Rattle.dlm_master.specs.Locks.{free_lock, claim, request_cause, requested, convert_cause, converted, lowered, reported}
use Rattle.dlm_master.specs.Tables.{lock_of, HoldsNone, IsIdle, IsCovered, IsAbove}
use Rattle.dlm_master.specs.Runs.{run_of}
use Rattle.dlm_master.specs.Laws.{IsSound}
use Rattle.dlm_rebuild.specs.Rebuilding.{RebuildState, IsUnderWay, begun, with_report, with_end, with_waiting, after_request_in, after_convert_in, after_down_in, master_after}

-- a node tells what it holds, or lowers it; or it asks for the lock, or for another mode
pub data Call : Type 0 where
  Reports : ℕ → Mode → Call
  Lowers : ℕ → Mode → Call
  Requests : ℕ → Mode → Call
  Converts : ℕ → Mode → Call

-- what the calls do, as their contracts say: the rebuild isn't done
abbrev pub after : LockState → Call → LockState
after l (Reports node mode) = reported l node mode
after l (Lowers node mode) = lowered l node mode None
after l (Requests node mode) = requested (request_cause true 0 l node mode) l node mode
after l (Converts node mode) = converted (convert_cause true 0 l node mode) l node mode

-- what the calls require
abbrev pub MayCall : LockState → Call → Type 0
MayCall l (Reports node mode) = IsIdle l node
MayCall l (Lowers node mode) = IsAbove l node mode × IsIdle l node
MayCall l (Requests node mode) = HoldsNone l node × IsIdle l node
MayCall l (Converts node mode) = IsCovered l node mode × IsIdle l node

abbrev pub after_all : LockState → List Call → LockState
after_all l [] = l
after_all l (call ∷ calls) = after_all (after l call) calls

abbrev pub MayCallAll : LockState → List Call → Type 0
MayCallAll l [] = ⊤
MayCallAll l (call ∷ calls) = MayCall l call × MayCallAll (after l call) calls

-- what a node that tells this mode holds: nothing in Nl
abbrev pub told : Mode → Option Mode
told mode = if is_null mode then None else Some mode

-- what the node told last in the calls, by a report or by lowering the lock
abbrev pub last_told : List Call → ℕ → Option Mode → Option Mode
last_told [] node before = before
last_told (Reports other mode ∷ calls) node before = last_told calls node (if other == node then told mode else before)
last_told (Lowers other mode ∷ calls) node before = last_told calls node (if other == node then told mode else before)
last_told (call ∷ calls) node before = last_told calls node before

-- the conversions among the calls, and the requests, in the order of their arrival
abbrev pub conversions_in : List Call → List Claim
conversions_in [] = []
conversions_in (Converts node mode ∷ calls) = claim node mode ∷ conversions_in calls
conversions_in (call ∷ calls) = conversions_in calls

abbrev pub requests_in : List Call → List Claim
requests_in [] = []
requests_in (Requests node mode ∷ calls) = claim node mode ∷ requests_in calls
requests_in (call ∷ calls) = requests_in calls

-- after every list of calls the table has of each node what it told last, nobody was granted anything, and no value is valid
pub record HasLastReports (calls : List Call) : Type 0 where
  pub reports : (node : ℕ) → mode_of_node (after_all free_lock calls).held node ≡ last_told calls node None
  -- each node once, and in modes that go together where what they told last does
  pub once : OneEach (after_all free_lock calls).held
  pub together : ((i k : ℕ) → i ≢ k → go_together (unwrap_or (last_told calls i None) Nl) (unwrap_or (last_told calls k None) Nl) ≡ true)
      → Together (after_all free_lock calls).held
  -- who asked waits, in the order of the arrival
  pub conversions : (after_all free_lock calls).conversions ≡ conversions_in calls
  pub requests : (after_all free_lock calls).requests ≡ requests_in calls
  pub value : (after_all free_lock calls).value ≡ not_valid
  -- and where each call met what it requires the lock is sound, as the laws of a master want it
  pub sound : MayCallAll free_lock calls → IsSound (after_all free_lock calls)

abbrev pub RebuiltFromReports : Type 0
RebuiltFromReports = (calls : List Call) → HasLastReports calls

-- ---- what the calls do to a table they do to its locks

-- the table after a call on one of its locks
abbrev pub with_call : RebuildState → LockName → Call → RebuildState
with_call r lock (Reports node mode) = with_report r node lock mode
with_call r lock (Lowers node mode) = after_down_in r node lock mode
with_call r lock (Requests node mode) = after_request_in r node lock mode
with_call r lock (Converts node mode) = after_convert_in r node lock mode

pub record RebuildsAreRuns : Type 0 where
  -- at the start every lock is free
  pub begins : (generation members : ℕ) (lock : LockName) → lock_of (begun generation members).master lock ≡ free_lock
  -- a call does this to its lock, and nothing to any other
  pub calls : (r : RebuildState) (lock : LockName) (call : Call) → IsUnderWay r.master → lock_of (with_call r lock call).master lock ≡ after (lock_of r.master lock) call
  pub elsewhere : (r : RebuildState) (lock other : LockName) (call : Call) → lock ≢ other → lock_of (with_call r other call).master lock ≡ lock_of r.master lock
  -- nor do an end, and the slots that wait
  pub ends : (r : RebuildState) (lock : LockName) (node : ℕ) → lock_of (with_end r node).master lock ≡ lock_of r.master lock
  pub blocked : (r : RebuildState) (lock : LockName) (waiting : ℕ) → lock_of (with_waiting r waiting).master lock ≡ lock_of r.master lock
  -- the master has each lock as it was told, and the slots that wait
  pub completes : (r : RebuildState) (lock : LockName) → run_of (master_after r) lock ≡ record { rebuild = false; waiting = r.master.waiting; lock = lock_of r.master lock }
