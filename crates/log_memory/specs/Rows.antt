-- What a flush logs, row by row.
use Rattle.std.specs.Prelude.{◌≡◌, ◌<◌, ◌&&◌, ℕ, Bool, true, false, List, [], map, Some, slice_get, slice_index_or}
use Rattle.std.specs.FinMap as table
use Rattle.log_layout.specs.Chunks.{Logged}
use Rattle.glock_names.specs.declared.LockName.{LockName}
use Rattle.glock_names.specs.LockMaps.{same_lock}
use Rattle.log_tables.specs.Kept.{Kept}
use Rattle.log_values.specs.Log.{Entry, Way}
use Rattle.log_tables.specs.Versions.Way.{Home, Away, Flying}
use Rattle.log_values.specs.Transactions.{logged_as}

abbrev pub rows : Kept → List Logged
rows k = map (λ e. logged_as e.0 e.1) (table.entries k.flushed)

-- that at a place of their order
abbrev pub row_of : Kept → ℕ → Logged
row_of k i = slice_index_or (rows k) i (record { block = 0; plain = false; bytes = [] })

-- ---- rows of live blocks

abbrev pub is_away : Way → Bool
is_away Home = false
is_away (Away bytes) = true
is_away (Flying bytes) = false

-- the row's block is under the lock, and is to go home
abbrev pub goes_home : LockName → Entry → Bool
goes_home lock e = same_lock lock e.lock && is_away e.way

-- none of the first so many does
abbrev pub NoneGoes : LockName → List (ℕ × Entry) → ℕ → Type 0
NoneGoes lock es count = (i : ℕ) (e : ℕ × Entry) → i < count → slice_get es i ≡ Some e → goes_home lock e.1 ≡ false

-- that at this place is the first that does
pub record IsFirstThatGoes (lock : LockName) (es : List (ℕ × Entry)) (place : ℕ) : Type 0 where
  pub entry : ℕ × Entry
  pub here : slice_get es place ≡ Some entry
  pub goes : goes_home lock entry.1 ≡ true
  pub first : NoneGoes lock es place

abbrev pub is_flying : Way → Bool
is_flying Home = false
is_flying (Away bytes) = false
is_flying (Flying bytes) = true
