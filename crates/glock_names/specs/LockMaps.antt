-- Finite maps from locks, as lists of a lock and a value, in the order in which the locks came into the map.
use Rattle.std.specs.Prelude.{ℕ, ◌==◌, ◌&&◌, Bool, List, [], ◌∷◌, Option, if◌then◌else◌, option_map, slice_get}
use Rattle.std.specs.Map.{lookup}
use Rattle.glock_names.specs.declared.LockName.{LockName}

-- whether two names are of one lock
abbrev pub same_lock : LockName → LockName → Bool
same_lock a b = (a.kind == b.kind) && (a.number == b.number)

-- what the map has at a lock
abbrev pub at_lock : {A : Type 0} → List (LockName × A) → LockName → Option A
at_lock m lock = lookup (same_lock lock) m

-- the map with this value at a lock: a lock that is there keeps its place, and a new one goes last
abbrev pub with_lock : {A : Type 0} → List (LockName × A) → LockName → A → List (LockName × A)
with_lock [] lock x = (lock, x) ∷ []
with_lock (e ∷ es) lock x = if same_lock lock e.0 then (e.0, x) ∷ es else e ∷ with_lock es lock x

-- the lock at a place of the map's order
abbrev pub lock_in : {A : Type 0} → List (LockName × A) → ℕ → Option LockName
lock_in m place = option_map (λ e. e.0) (slice_get m place)
