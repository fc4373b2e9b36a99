-- A node's glocks after a list of calls, the first of them first. What is kept of a lock is changed by the calls on that lock alone (the law
-- `locks_stand_apart`), so most is said of these.
use Rattle.std.specs.Prelude.{◌≡◌, ◌⊎◌, ℕ, Bool, true, false, nat_lt, List, [], ◌∷◌, Some, if◌then◌else◌, ⊤}
use Rattle.glock_names.specs.declared.LockName.{LockName}
use Rattle.glock_names.specs.declared.State.{State}
use Rattle.glock_names.specs.declared.State.TheVariants.{Un}
use Rattle.glock_names.specs.LockMaps.{same_lock}
use Rattle.glock_names.specs.StateOrder.{leq, is_below}
use Rattle.glock_machine.specs.declared.glock.Glock.{Glock}
use Rattle.glock_machine.specs.Wants.{is_wanted}
use Rattle.glock_machine.specs.Table.{Table, glock_of, changed, wanted, unwanted, granted, pinned, unpinned, called_back, lowered, touched, goes_to}

-- ---- calls on one lock

pub data Deed : Type 0 where
  Want : (state : State) → Deed
  Unwant : (state : State) → Deed
  Pin : Deed
  Unpin : Deed
  Granted : (state : State) → Deed
  Callback : (keep : State) → Deed
  Down : (to : State) → Deed
  Touch : (number : ℕ) → Deed

-- what it leaves of the lock
abbrev pub done : Deed → Glock → Glock
done (Want state) g = wanted state g
done (Unwant state) g = unwanted state g
done Pin g = pinned g
done Unpin g = unpinned g
done (Granted state) g = granted state g
done (Callback keep) g = called_back keep g
done (Down to) g = lowered to g
done (Touch number) g = touched number g

-- a grant comes where nothing of the lock is held; it goes down to what is weaker, where it isn't pinned; every other call may come at any time
abbrev pub MayBeDone : Deed → Glock → Type 0
MayBeDone (Granted state) g = (g.state ≡ Un) × (is_below Un state ≡ true)
MayBeDone (Down to) g = (g.pins ≡ 0) × (is_below to g.state ≡ true)
MayBeDone _ g = ⊤

abbrev pub all_done : List Deed → Glock → Glock
all_done [] g = g
all_done (deed ∷ deeds) g = all_done deeds (done deed g)

abbrev pub is_grant : Deed → Bool
is_grant (Granted state) = true
is_grant _ = false

abbrev pub is_callback : Deed → Bool
is_callback (Callback keep) = true
is_callback _ = false

abbrev pub is_down : Deed → Bool
is_down (Down to) = true
is_down _ = false

-- ---- calls on all locks

pub data Act : Type 0 where
  On : (lock : LockName) → (deed : Deed) → Act
  Unmount : Act

abbrev pub after : Act → Table → Table
after (On lock deed) t = changed (done deed) t lock
after Unmount t = record t { unmounting = true }

abbrev pub after_all : List Act → Table → Table
after_all [] t = t
after_all (act ∷ acts) t = after_all acts (after act t)

abbrev pub MayCome : Act → Table → Type 0
MayCome (On lock deed) t = MayBeDone deed (glock_of t lock)
MayCome Unmount t = ⊤

abbrev pub Come : List Act → Table → Type 0
Come [] t = ⊤
Come (act ∷ acts) t = MayCome act t × Come acts (after act t)

-- those of the calls that are on this lock
abbrev pub deeds_on : LockName → List Act → List Deed
deeds_on lock [] = []
deeds_on lock (On other deed ∷ acts) = if same_lock other lock then deed ∷ deeds_on lock acts else deeds_on lock acts
deeds_on lock (Unmount ∷ acts) = deeds_on lock acts

-- ---- what the laws say of them

-- the lock is pinned where each of these calls comes
abbrev pub PinnedThroughout : List Deed → Glock → Type 0
PinnedThroughout [] g = ⊤
PinnedThroughout (deed ∷ deeds) g = (nat_lt 0 g.pins ≡ true) × PinnedThroughout deeds (done deed g)

-- a callback stands that lets the node keep this state at most
abbrev pub Stands : State → Glock → Type 0
Stands keep g = (kept : State) × (g.called ≡ Some kept) × (leq kept keep ≡ true)

-- and where the lock is held and not pinned, it goes down that far
pub record CallStands (keep : State) (lock : LockName) (t : Table) : Type 0 where
  pub called : Stands keep (glock_of t lock)
  pub goes : leq (glock_of t lock).state Un ≡ false → (glock_of t lock).pins ≡ 0 → (to : State) × (goes_to t lock ≡ Some to) × (leq to keep ≡ true)

-- before these calls or after one of them the lock is held in no stronger state
abbrev pub GoesFarEnough : State → List Deed → Glock → Type 0
GoesFarEnough keep [] g = leq g.state keep ≡ true
GoesFarEnough keep (deed ∷ deeds) g = (leq g.state keep ≡ true) ⊎ GoesFarEnough keep deeds (done deed g)

-- none of these calls takes the want of this state back, or grants what serves it
abbrev pub KeepsWant : State → List Deed → Type 0
KeepsWant state [] = ⊤
KeepsWant state (Unwant other ∷ deeds) = (other ≡ state → ⊥) × KeepsWant state deeds
KeepsWant state (Granted other ∷ deeds) = (leq state other ≡ false) × KeepsWant state deeds
KeepsWant state (_ ∷ deeds) = KeepsWant state deeds

-- the lock is wanted in this state; and where it is held so that this isn't served, and not pinned, it goes down to unlocked
pub record WantStands (state : State) (lock : LockName) (t : Table) : Type 0 where
  pub wanted : is_wanted (glock_of t lock).wants state ≡ true
  pub goes : leq (glock_of t lock).state Un ≡ false → leq state (glock_of t lock).state ≡ false → (glock_of t lock).pins ≡ 0 → goes_to t lock ≡ Some Un

-- one of these calls touched the lock under this number
abbrev pub HasTouch : ℕ → List Deed → Type 0
HasTouch number [] = ⊥
HasTouch number (Touch other ∷ deeds) = (other ≡ number) ⊎ HasTouch number deeds
HasTouch number (_ ∷ deeds) = HasTouch number deeds

-- the state of the last grant among these calls, or what was held before them
abbrev pub last_granted : List Deed → State → State
last_granted [] before = before
last_granted (Granted state ∷ deeds) before = last_granted deeds state
last_granted (_ ∷ deeds) before = last_granted deeds before
