-- What holds of every lock at its master, and after every list of calls.
use Rattle.std.specs.Prelude.{ℕ, ◌≡◌, ◌≢◌, ◌<◌, ◌==◌, ◌⊎◌, ⊤, Bool, true, false, not, List, [], ◌∷◌, ◌++◌, Option, None, Some, Contains, filter, map}
use Rattle.std.specs.List.{AllByRecursion}
use Rattle.glock_names.specs.declared.LockName.{LockName}
use Rattle.dlm_modes.specs.declared.Mode.{Mode}
use Rattle.dlm_modes.specs.declared.ValueBlock.{ValueBlock}
use Rattle.dlm_modes.specs.Modes.{go_together, is_at_least}
use Rattle.fencing.specs.NodeSets.{has}
use Rattle.dlm_master.specs.declared.claims.Claim.{Claim}
use Rattle.dlm_master.specs.declared.claims.Cause.{Cause}
use Rattle.dlm_master.specs.declared.claims.Cause.TheVariants.{Held, Behind, Rebuild, Slot}
use Rattle.dlm_master.specs.declared.claims.Answer.TheVariants.{Granted}
use Rattle.dlm_master.specs.Claims.{is_of, mode_of_node, mode_at, Absent, OneEach, NeverNull, Together}
use Rattle.dlm_master.specs.LockState.{LockState}
use Rattle.dlm_master.specs.Locks.{free_lock, claim, request_cause, convert_cause, answer_by, all_turns, after_grants, grants_of, callbacks_of}
use Rattle.dlm_master.specs.Tables.{MasterState, with_state, holds_covered, after_request, after_convert, after_down, after_next}
use Rattle.dlm_master.specs.Runs.{Call, Requests, Converts, Lowers, Grants, Run, run_of, after, MayCall, after_all, MayCallAll, last_value}

-- ---- a wait names a cause that is so

-- the node has a claim there, in a mode that doesn't go with what another asks for
abbrev pub IsInWay : List Claim → ℕ → Claim → Type 0
IsInWay claims node asker = (mode : Mode) × Contains claims (claim node mode) × (node ≢ asker.node) × (go_together mode asker.mode ≡ false)

-- a rebuild isn't done; the slot of this node, one of 0 to 15, waits; this holder is in the way, or this earlier waiter
abbrev pub IsSo : Bool → ℕ → List Claim → List Claim → Claim → Cause → Type 0
IsSo rebuild waiting held earlier asker Rebuild = rebuild ≡ true
IsSo rebuild waiting held earlier asker (Slot node) = (node < 16) × (has waiting node ≡ true)
IsSo rebuild waiting held earlier asker (Held node) = IsInWay held node asker
IsSo rebuild waiting held earlier asker (Behind node) = IsInWay earlier node asker

-- the cause that is named is so, and where none is named none is
pub record IsRightCause (rebuild : Bool) (waiting : ℕ) (held earlier : List Claim) (asker : Claim) (named : Option Cause) : Type 0 where
  pub so : (cause : Cause) → named ≡ Some cause → IsSo rebuild waiting held earlier asker cause
  pub all : named ≡ None → (cause : Cause) → IsSo rebuild waiting held earlier asker cause → ⊥

-- whoever asks: before a request are all who wait, before a conversion those who convert
pub record CauseIsSo : Type 0 where
  pub requests : (rebuild : Bool) (waiting : ℕ) (l : LockState) (asker : Claim)
      → IsRightCause rebuild waiting l.held (l.conversions ++ l.requests) asker (request_cause rebuild waiting l asker.node asker.mode)
  pub converts : (rebuild : Bool) (waiting : ℕ) (l : LockState) (asker : Claim)
      → IsRightCause rebuild waiting l.held l.conversions asker (convert_cause rebuild waiting l asker.node asker.mode)

-- ---- what calls leave of a lock

-- a node holds the lock once, and not in Nl; it waits once; who waits for another mode holds one that this covers, and who waits for
-- the lock holds none
pub record IsSound (l : LockState) : Type 0 where
  pub held_once : OneEach l.held
  pub never_null : NeverNull l.held
  pub waits_once : OneEach (l.conversions ++ l.requests)
  pub raises : AllByRecursion (λ w. holds_covered (mode_of_node l.held w.node) w.mode ≡ true) l.conversions
  pub holds_none : AllByRecursion (λ w. mode_of_node l.held w.node ≡ None) l.requests

pub record SoundLocksStaySound : Type 0 where
  pub free : IsSound free_lock
  pub stays : (r : Run) (calls : List Call) → MayCallAll r calls → IsSound r.lock → IsSound (after_all r calls).lock

-- ---- only a node's own lower takes from it

abbrev pub is_lower_of : Call → ℕ → Bool
is_lower_of (Lowers other mode value) node = other == node
is_lower_of call node = false

-- no call of these but a node's own lower leaves the table less of the node than it had
abbrev pub OnlyLowersTake : Type 0
OnlyLowersTake = (r : Run) (call : Call) (node : ℕ) → MayCall r call → IsSound r.lock → is_lower_of call node ≡ false
    → is_at_least (mode_at (after r call).lock.held node) (mode_at r.lock.held node) ≡ true

-- ---- no waiter is lost

-- of those who wait, behind some who stay, these are granted and these stay, both in the order of their arrival; and who is granted
-- goes with each other who stays before it
pub data IsSplit : List Claim → List Claim → List Claim → List Claim → Type 0 where
  Nobody : (passed : List Claim) → IsSplit passed [] [] []
  IsGranted : (passed : List Claim) (w : Claim) (waiters granted staying : List Claim)
      → AllByRecursion (λ v. w.node ≢ v.node → go_together w.mode v.mode ≡ true) passed
      → IsSplit passed waiters granted staying → IsSplit passed (w ∷ waiters) (w ∷ granted) staying
  Stays : (passed : List Claim) (w : Claim) (waiters granted staying : List Claim)
      → IsSplit (passed ++ w ∷ []) waiters granted staying → IsSplit passed (w ∷ waiters) granted (w ∷ staying)

-- each who waits there has a cause: a holder, or one who waits before it
abbrev pub EachWaits : List Claim → List Claim → List Claim → Type 0
EachWaits held earlier [] = ⊤
EachWaits held earlier (w ∷ ws) = ((cause : Cause) × IsSo false 0 held earlier w cause) × EachWaits held (earlier ++ w ∷ []) ws

-- when the waiters have taken their turns
pub record LosesNobody (l : LockState) : Type 0 where
  -- those of the conversions and then those of the requests who are granted
  pub converted : List Claim
  pub requested : List Claim
  pub granted : (all_turns l).granted ≡ converted ++ requested
  pub conversions : IsSplit [] l.conversions converted (after_grants l).conversions
  pub requests : IsSplit (after_grants l).conversions l.requests requested (after_grants l).requests
  -- each of them holds the lock as it asked for it, nobody else's hold has changed, and who stays has a cause
  pub given : IsSound l → AllByRecursion (λ w. mode_at (after_grants l).held w.node ≡ w.mode) (all_turns l).granted
  pub others : (node : ℕ) → Absent node (all_turns l).granted → mode_of_node (after_grants l).held node ≡ mode_of_node l.held node
  pub waits : IsSound l → EachWaits (after_grants l).held [] ((after_grants l).conversions ++ (after_grants l).requests)

abbrev pub NoWaiterIsLost : Type 0
NoWaiterIsLost = (l : LockState) → LosesNobody l

-- ---- nobody is granted anything while the master is blocked

-- a rebuild isn't done, or a slot waits
abbrev pub IsBlocked : Run → Type 0
IsBlocked r = (r.rebuild ≡ true) ⊎ ((node : ℕ) × (node < 16) × (has r.waiting node ≡ true))

-- a call of these then leaves each node what it held, or less
abbrev pub NoneWhileBlocked : Type 0
NoneWhileBlocked = (r : Run) (call : Call) (node : ℕ) → IsBlocked r → MayCall r call → OneEach r.lock.held
    → is_at_least (mode_at r.lock.held node) (mode_at (after r call).lock.held node) ≡ true

-- ---- the modes in which a lock is held go together

-- where they do, they still do after every list of calls that may be made
abbrev pub GrantsKeepTogether : Type 0
GrantsKeepTogether = (r : Run) (calls : List Call) → MayCallAll r calls → Together r.lock.held → Together (after_all r calls).lock.held

-- ---- callbacks are due

-- the waiters beside this node
abbrev pub other_waiters : LockState → ℕ → List Claim
other_waiters l node = filter (λ w. not (is_of node w)) (l.conversions ++ l.requests)

abbrev pub GoesWithAll : List Claim → Mode → Type 0
GoesWithAll waiters mode = AllByRecursion (λ w. go_together mode w.mode ≡ true) waiters

-- the strongest mode which a holder's mode covers and which goes with all of them
pub record IsMostKept (had keep : Mode) (waiters : List Claim) : Type 0 where
  pub covered : is_at_least had keep ≡ true
  pub goes : GoesWithAll waiters keep
  pub most : (mode : Mode) → is_at_least had mode ≡ true → GoesWithAll waiters mode → is_at_least keep mode ≡ true

-- a holder that goes with all other waiters isn't called back; another is, with the most that it may keep
pub record IsCalledRightly (l : LockState) (c : Claim) : Type 0 where
  pub spared : GoesWithAll (other_waiters l c.node) c.mode → (keep : Mode) → Contains (callbacks_of l) (c.node, keep) → ⊥
  pub called : (GoesWithAll (other_waiters l c.node) c.mode → ⊥)
      → (keep : Mode) × Contains (callbacks_of l) (c.node, keep) × IsMostKept c.mode keep (other_waiters l c.node)

-- so it is with each holder of a lock that nobody holds twice; nobody is called back twice, and nobody but holders
pub record CallbacksAreDue : Type 0 where
  pub holders : (l : LockState) (c : Claim) → OneEach l.held → Contains l.held c → IsCalledRightly l c
  pub once : (l : LockState) → OneEach l.held → OneEach (map (λ b. claim b.0 b.1) (callbacks_of l))
  pub only : (l : LockState) (node : ℕ) → Absent node l.held → Absent node (map (λ b. claim b.0 b.1) (callbacks_of l))

-- ---- the value that was written last stands

-- after every list of calls the lock has it, and whoever is granted the lock then is told it
pub record LastValueStands (r : Run) (calls : List Call) : Type 0 where
  pub value : (after_all r calls).lock.value ≡ last_value r calls r.lock.value
  pub answers : (cause : Option Cause) (value : ValueBlock) → answer_by cause (after_all r calls).lock ≡ Granted value → value ≡ last_value r calls r.lock.value
  pub grants : AllByRecursion (λ (grant : ℕ × Mode × ValueBlock). grant.2 ≡ last_value r calls r.lock.value) (grants_of (after_all r calls).lock)

abbrev pub EveryLastValueStands : Type 0
EveryLastValueStands = (r : Run) (calls : List Call) → LastValueStands r calls

-- ---- what the calls do to a table they do to its locks

pub record TablesAreRuns : Type 0 where
  pub requests : (m : MasterState) (node : ℕ) (lock : LockName) (mode : Mode) → run_of (after_request m node lock mode) lock ≡ after (run_of m lock) (Requests node mode)
  pub converts : (m : MasterState) (node : ℕ) (lock : LockName) (mode : Mode) → run_of (after_convert m node lock mode) lock ≡ after (run_of m lock) (Converts node mode)
  pub lowers : (m : MasterState) (node : ℕ) (lock : LockName) (mode : Mode) (value : Option (List ℕ))
      → run_of (after_down m node lock mode value) lock ≡ after (run_of m lock) (Lowers node mode value)
  pub grants : (m : MasterState) (lock : LockName) → run_of (after_next m lock) lock ≡ after (run_of m lock) Grants
  -- and to no other lock
  pub elsewhere : (m : MasterState) (lock other : LockName) (l : LockState) → lock ≢ other → run_of (with_state m other l) lock ≡ run_of m lock
