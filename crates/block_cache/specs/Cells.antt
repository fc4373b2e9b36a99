-- A cache, as its callers see it: a finite map from block numbers to cells.
use Rattle.std.specs.Prelude.{◌≡◌, ℕ, Bool, not, ◌&&◌, ◌||◌, List, Option, None, Some, if◌then◌else◌, refl}
use Rattle.std.specs.Ordering.{nat_cmp}
use Rattle.std.specs.Coded.{Coded, code_by, coded×, coded_ℕ, coded_bool, coded_list}
use Rattle.std.specs.FinMap.{FinMap, code, get}
use Rattle.glock_names.specs.declared.LockName.{LockName}
use Rattle.glock_names.specs.LockMaps.{same_lock}
use Rattle.block_cache.specs.declared.cache.Cell.{Cell}

abbrev pub Cells : Type 0
Cells = FinMap nat_cmp Cell

abbrev pub lock_code : Coded LockName
lock_code = code_by (ℕ × ℕ) (coded× coded_ℕ coded_ℕ) (λ l. (l.kind, l.number)) (λ p. record { kind = p.0; number = p.1 }) (λ _. refl)

abbrev pub cell_code : Coded Cell
cell_code = code_by (LockName × (Bool × List ℕ)) (coded× lock_code (coded× coded_bool (coded_list coded_ℕ)))
    (λ c. (c.lock, (c.plain, c.bytes))) (λ p. record { lock = p.0; plain = p.1.0; bytes = p.1.1 }) (λ _. refl)

abbrev pub cells_code : Coded Cells
cells_code = code coded_ℕ cell_code

-- the cell stays where the lock's blocks go, or its plain ones alone
abbrev pub stays : LockName → Bool → Cell → Bool
stays lock keep_meta cell = not (same_lock lock cell.lock) || (keep_meta && not cell.plain)

-- the value where it passes the test
abbrev pub kept_if : (Cell → Bool) → Option Cell → Option Cell
kept_if test None = None
kept_if test (Some cell) = if test cell then Some cell else None

-- the lock's cells are gone, or its plain ones alone, and every other cell is as it was
abbrev pub DropsLock : Cells → Cells → LockName → Bool → Type 0
DropsLock old new lock keep_meta = (b : ℕ) → get new b ≡ kept_if (stays lock keep_meta) (get old b)
