-- A cache after a list of calls, the last of them first.
use Rattle.std.specs.Prelude.{◌≡◌, ℕ, Bool, true, ◌==◌, List, [], ◌∷◌, Option, None, Some, if◌then◌else◌, ⊤}
use Rattle.std.specs.FinMap.{empty, insert, remove}
use Rattle.glock_names.specs.declared.LockName.{LockName}
use Rattle.block_cache.specs.declared.cache.Cell.{Cell}
use Rattle.block_cache.specs.Cells.{Cells, stays, kept_if, DropsLock}

pub data Act : Type 0 where
  Put : (block : ℕ) → (cell : Cell) → Act
  DropLock : (lock : LockName) → (keep_meta : Bool) → Act
  DropBlock : (block : ℕ) → Act

-- what a call leaves
abbrev pub Leaves : Act → Cells → Cells → Type 0
Leaves (Put block cell) before now = now ≡ insert before block cell
Leaves (DropLock lock keep_meta) before now = DropsLock before now lock keep_meta
Leaves (DropBlock block) before now = now ≡ remove before block

-- a cache that was made, and on which these calls were made
abbrev pub Reached : List Act → Cells → Type 0
Reached [] now = now ≡ empty
Reached (act ∷ acts) now = (before : Cells) × Reached acts before × Leaves act before now

-- the cell that was put last at the block, where no call since then dropped it
abbrev pub last_put : List Act → ℕ → Option Cell
last_put [] b = None
last_put (Put block cell ∷ acts) b = if b == block then Some cell else last_put acts b
last_put (DropLock lock keep_meta ∷ acts) b = kept_if (stays lock keep_meta) (last_put acts b)
last_put (DropBlock block ∷ acts) b = if b == block then None else last_put acts b

-- each of these puts is of a cell that passes the test
abbrev pub PutsOnly : (Cell → Bool) → List Act → Type 0
PutsOnly test [] = ⊤
PutsOnly test (Put block cell ∷ acts) = (test cell ≡ true) × PutsOnly test acts
PutsOnly test (DropLock lock keep_meta ∷ acts) = PutsOnly test acts
PutsOnly test (DropBlock block ∷ acts) = PutsOnly test acts
