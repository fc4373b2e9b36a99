-- Locks in their order, and the next one whose blocks go home.
use Rattle.std.specs.Prelude.{ℕ, ◌≡◌, ◌<◌, ◌==◌, ◌&&◌, ◌||◌, nat_lt, if◌then◌else◌, Bool, true, false, List, Option, None, Some, slice_get}
use Rattle.glock_names.specs.declared.LockName.{LockName}
use Rattle.log_values.specs.Homing.{IsAwayUnder}
use Rattle.log_values.specs.Log.{Entry, LogValue}
use Rattle.log_memory.specs.Rows.{is_away}

-- by kind, and then by number
abbrev pub comes_before : LockName → LockName → Bool
comes_before a b = nat_lt a.kind b.kind || ((a.kind == b.kind) && nat_lt a.number b.number)

-- the lesser of the two, if there are two
abbrev pub lesser_of : Option LockName → LockName → LockName
lesser_of None lock = lock
lesser_of (Some other) lock = if comes_before lock other then lock else other

-- a live block under it is away from home, and not on its way; and there is none under a lock before it
pub record IsNextLock (log : LogValue) (lock : LockName) : Type 0 where
  pub block : ℕ
  pub bytes : List ℕ
  pub away : IsAwayUnder log lock block bytes
  pub least : (other : LockName) (c : ℕ) (at : List ℕ) → IsAwayUnder log other c at → comes_before other lock ≡ false

-- no live block is away, under whatever lock
abbrev pub NoneIsAway : LogValue → Type 0
NoneIsAway log = (lock : LockName) (b : ℕ) (bytes : List ℕ) → IsAwayUnder log lock b bytes → ⊥

-- ---- among the first rows of live blocks

-- it is the lock of a row among these that is away, and none of these is before it
pub record IsLeastOf (es : List (ℕ × Entry)) (count : ℕ) (lock : LockName) : Type 0 where
  pub place : ℕ
  pub entry : ℕ × Entry
  pub low : place < count
  pub here : slice_get es place ≡ Some entry
  pub goes : is_away entry.1.way ≡ true
  pub is : entry.1.lock ≡ lock
  pub least : (i : ℕ) (e : ℕ × Entry) → i < count → slice_get es i ≡ Some e → is_away e.1.way ≡ true → comes_before e.1.lock lock ≡ false

-- so of the lock that was found among them, if one was
abbrev pub IsLeastFound : List (ℕ × Entry) → ℕ → Option LockName → Type 0
IsLeastFound es count None = (i : ℕ) (e : ℕ × Entry) → i < count → slice_get es i ≡ Some e → is_away e.1.way ≡ false
IsLeastFound es count (Some lock) = IsLeastOf es count lock
