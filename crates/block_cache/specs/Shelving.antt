-- Which blocks are on which shelf.
use Rattle.std.specs.Prelude.{◌≡◌, ℕ, Bool, true, false, ◌&&◌, ◌==◌, List, [], unwrap_or, if◌then◌else◌}
use Rattle.std.specs.List.{list_any}
use Rattle.std.specs.Map.{lookup}
use mathlib.Core.Bool.{beq}
use Rattle.glock_names.specs.LockMaps.{same_lock}
use Rattle.block_cache.specs.declared.shelves.ShelfName.{ShelfName}

-- the block is among these
abbrev pub has : List ℕ → ℕ → Bool
has blocks b = list_any (λ k. b == k) blocks

abbrev pub same_shelf : ShelfName → ShelfName → Bool
same_shelf a b = same_lock a.lock b.lock && beq a.plain b.plain

abbrev pub Shelved : Type 0
Shelved = List (ShelfName × List ℕ)

-- the block is on that shelf
abbrev pub on_shelf : Shelved → ShelfName → ℕ → Bool
on_shelf shelves name b = has (unwrap_or (lookup (same_shelf name) shelves) []) b

-- the block is on that shelf too, and each other shelf has what it had
abbrev pub Adds : Shelved → Shelved → ShelfName → ℕ → Type 0
Adds old new name block = (s : ShelfName) (b : ℕ) → on_shelf new s b ≡ (if same_shelf name s && (block == b) then true else on_shelf old s b)

-- the block is on that shelf no more
abbrev pub Removes : Shelved → Shelved → ShelfName → ℕ → Type 0
Removes old new name block = (s : ShelfName) (b : ℕ) → on_shelf new s b ≡ (if same_shelf name s && (block == b) then false else on_shelf old s b)

abbrev pub Keeps : Shelved → Shelved → Type 0
Keeps old new = (s : ShelfName) (b : ℕ) → on_shelf new s b ≡ on_shelf old s b
