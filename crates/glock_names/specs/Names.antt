-- A lock's name as bytes.
use Rattle.std.specs.Prelude.{ℕ, List, ◌∷◌}
use Rattle.std.specs.Int.{w64, to_be_bytes}
use Rattle.glock_names.specs.declared.LockName.{LockName}

-- nine bytes: the lock's kind, and its number with the highest byte first
abbrev pub name_bytes : LockName → List ℕ
name_bytes lock = lock.kind ∷ to_be_bytes w64 lock.number
