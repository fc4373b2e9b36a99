-- Which shelf a cell belongs to, and how shelves and cells go together.
use Rattle.std.specs.Prelude.{◌≡◌, ℕ, Bool, false, not, ◌&&◌, List, Option, None, Some}
use Rattle.std.specs.FinMap.{get, from_entries}
use Rattle.std.specs.Ordering.{nat_cmp}
use Rattle.block_cache.specs.declared.cache.Cell.{Cell}
use Rattle.block_cache.specs.declared.shelves.ShelfName.{ShelfName}
use Rattle.block_cache.specs.Shelving.{same_shelf, Shelved, on_shelf}

-- the cell of a block
abbrev pub cell_at : List (ℕ × Cell) → ℕ → Option Cell
cell_at entries b = get (from_entries {R = nat_cmp} entries) b

abbrev pub shelf_of : Cell → ShelfName
shelf_of cell = record { lock = cell.lock; plain = cell.plain }

-- there is a cell, and it belongs to that shelf
abbrev pub belongs : ShelfName → Option Cell → Bool
belongs name None = false
belongs name (Some cell) = same_shelf name (shelf_of cell)

-- there was a cell, on that shelf, and the new one is on another
abbrev pub leaves : Option Cell → ShelfName → ShelfName → Bool
leaves None name s = false
leaves (Some cell) name s = not (same_shelf name (shelf_of cell)) && same_shelf (shelf_of cell) s

-- a block is on a shelf exactly where it has a cell, and the cell belongs to that shelf
abbrev pub Tied : List (ℕ × Cell) → Shelved → Type 0
Tied entries shelves = (name : ShelfName) (b : ℕ) → on_shelf shelves name b ≡ belongs name (cell_at entries b)
