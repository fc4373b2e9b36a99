-- A node's glocks, as its callers see them: for each lock that was wanted what the node keeps of it, and whether the node unmounts.
use Rattle.std.specs.Prelude.{◌≡◌, ℕ, ◌+◌, ◌-◌, min, max, Bool, true, false, not, ◌&&◌, ◌||◌, nat_lt, ◌==◌, Option, None, Some, IsSome, unwrap_or, option_and_then, if◌then◌else◌, refl}
use Rattle.std.specs.Coded.{Coded, code_by, coded×, coded_ℕ, coded_bool, coded_option}
use Rattle.std.specs.FinMap.{FinMap, code, get, insert}
use Rattle.glock_names.specs.declared.LockName.{LockName}
use Rattle.glock_names.specs.declared.State.{State}
use Rattle.glock_names.specs.declared.State.TheVariants.{Un, Sh, Df, Ex}
use Rattle.glock_names.specs.StateOrder.{leq, is_below}
use Rattle.glock_machine.specs.declared.glock.Glock.{Glock}
use Rattle.glock_machine.specs.declared.wants.Wants.{Wants}
use Rattle.glock_machine.specs.Wants.{with_want, unserved, any_unserved}
use Rattle.glock_machine.specs.Keys.{Key, key_of, key_cmp}

pub record Table : Type 0 where
  pub locks : FinMap key_cmp Glock
  pub unmounting : Bool

-- what is kept of a lock that was never wanted
abbrev pub new_glock : Glock
new_glock = record {
  state = Un;
  wants = record { shared = false; deferred = false; exclusive = false };
  pins = 0;
  called = None;
  was_called = false;
  uncalled = None;
  touched = 0;
}

abbrev pub WasWanted : Table → LockName → Type 0
WasWanted t lock = IsSome (get t.locks (key_of lock))

abbrev pub glock_of : Table → LockName → Glock
glock_of t lock = unwrap_or (get t.locks (key_of lock)) new_glock

abbrev pub with_glock : Table → LockName → Glock → Table
with_glock t lock g = record t { locks = insert t.locks (key_of lock) g }

-- ---- what each call leaves of the lock

-- a call of the node wants it in this state, where what is held doesn't serve it
abbrev pub wanted : State → Glock → Glock
wanted state g = if leq state g.state then g else record g { wants = with_want g.wants state true }

-- no call wants it in this state any more
abbrev pub unwanted : State → Glock → Glock
unwanted state g = record g { wants = with_want g.wants state false }

-- the wants that the grant serves are over. Callbacks, and the calls that touched the lock, are counted from its grant on
abbrev pub granted : State → Glock → Glock
granted state g = record g { state = state; wants = unserved state g.wants; was_called = false; uncalled = None; touched = 0 }

abbrev pub pinned : Glock → Glock
pinned g = record g { pins = min (g.pins + 1) 4294967295 }

abbrev pub unpinned : Glock → Glock
unpinned g = record g { pins = g.pins - 1 }

-- the strongest state that is no stronger than either
abbrev pub common : State → State → State
common a b = if leq b a then b else if leq a b then a else Un

-- the node may keep what this callback and those before it allow; where that is what it has, nothing is asked of it
abbrev pub called_back : State → Glock → Glock
called_back keep g = let allowed = common (unwrap_or g.called g.state) keep in
    if leq g.state allowed then g else record g { called = Some allowed; was_called = true }

-- a callback stands until the lock went down as far as it asks
abbrev pub still_called : State → Option State → Option State
still_called to None = None
still_called to (Some keep) = if leq to keep then None else Some (common keep to)

-- where the lock goes down though no callback came since its grant, the state that it had is remembered
abbrev pub lowered : State → Glock → Glock
lowered to g = record g { state = to; called = still_called to g.called; uncalled = if g.was_called then None else Some g.state }

-- the greatest number of a call that touched it
abbrev pub touched : ℕ → Glock → Glock
touched number g = record g { touched = max number g.touched }

abbrev pub changed : (Glock → Glock) → Table → LockName → Table
changed change t lock = with_glock t lock (change (glock_of t lock))

-- ---- what goes down, and what may be asked for

-- a callback lets the node keep less than it holds
abbrev pub IsCalledBelow : Glock → Type 0
IsCalledBelow g = (keep : State) → g.called ≡ Some keep → is_below keep g.state ≡ true

-- this is so of every lock of a node
abbrev pub AreCalledBelow : FinMap key_cmp Glock → Type 0
AreCalledBelow locks = (key : Key) (g : Glock) → get locks key ≡ Some g → IsCalledBelow g

-- the state to which the lock goes down: none where it is pinned or isn't held; unlocked where the node unmounts, or a call wants a state
-- that what is held doesn't serve; else what a callback lets it keep
abbrev pub down_of : Bool → Glock → Option State
down_of unmounting g =
    if nat_lt 0 g.pins || leq g.state Un then None else
    if unmounting || any_unserved g.state g.wants then Some Un else g.called

abbrev pub goes_to : Table → LockName → Option State
goes_to t lock = option_and_then (down_of t.unmounting) (get t.locks (key_of lock))

-- the node may ask for the lock in this state: it holds nothing of it, and where the lock last went down without a callback since its
-- grant, what it had then doesn't serve. So no node lets a lock go only to ask for it again
abbrev pub may_ask : State → Glock → Bool
may_ask state g = leq g.state Un && not (leq state (unwrap_or g.uncalled Un))

-- ---- how a table is stored

abbrev pub state_number : State → ℕ
state_number Un = 0
state_number Sh = 1
state_number Df = 2
state_number Ex = 3

abbrev pub numbered_state : ℕ → State
numbered_state n = if n == 0 then Un else if n == 1 then Sh else if n == 2 then Df else Ex

abbrev pub state_code : Coded State
state_code = code_by ℕ coded_ℕ state_number numbered_state (λ s. elim s as (λ v. numbered_state (state_number v) ≡ v) [ Un ↦ refl | Sh ↦ refl | Df ↦ refl | Ex ↦ refl ])

abbrev pub wants_code : Coded Wants
wants_code = code_by (Bool × (Bool × Bool)) (coded× coded_bool (coded× coded_bool coded_bool))
    (λ w. (w.shared, (w.deferred, w.exclusive))) (λ p. record { shared = p.0; deferred = p.1.0; exclusive = p.1.1 }) (λ _. refl)

abbrev pub glock_code : Coded Glock
glock_code = code_by ((State × (Wants × ℕ)) × ((Option State × Bool) × (Option State × ℕ)))
    (coded× (coded× state_code (coded× wants_code coded_ℕ)) (coded× (coded× (coded_option state_code) coded_bool) (coded× (coded_option state_code) coded_ℕ)))
    (λ g. ((g.state, (g.wants, g.pins)), ((g.called, g.was_called), (g.uncalled, g.touched))))
    (λ p. record { state = p.0.0; wants = p.0.1.0; pins = p.0.1.1; called = p.1.0.0; was_called = p.1.0.1; uncalled = p.1.1.0; touched = p.1.1.1 }) (λ _. refl)

abbrev pub table_code : Coded Table
table_code = code_by (FinMap key_cmp Glock × Bool) (coded× (code (coded× coded_ℕ coded_ℕ) glock_code) coded_bool)
    (λ t. (t.locks, t.unmounting)) (λ p. record { locks = p.0; unmounting = p.1 }) (λ _. refl)
