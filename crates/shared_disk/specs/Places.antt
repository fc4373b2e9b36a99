-- Writes in flight of which the bytes stand one after another.
use Rattle.std.specs.Prelude.{ℕ, ◌+◌, ◌*◌, ◌<◌, ◌≤◌, List, [], length, map, slice_index_or}
use Rattle.std.specs.List.{AllByRecursion}
use Rattle.shared_disk.specs.Blocks.{block_in}
use Rattle.shared_disk.specs.Disk.{Flight, AreRising}
use Rattle.shared_disk.specs.declared.places.Place.{Place}

-- the write in flight that stands there among these bytes
abbrev pub flight_at : ℕ → List ℕ → Place → Flight
flight_at size bytes p = record { block = p.block; bytes = block_in size bytes p.number }

abbrev pub flights_at : ℕ → List ℕ → List Place → List Flight
flights_at size bytes places = map (flight_at size bytes) places

-- each has its bytes among these
abbrev pub AreThere : ℕ → List ℕ → List Place → Type 0
AreThere size bytes places = AllByRecursion (λ p. p.number * size + size ≤ length bytes) places

-- the blocks rise
abbrev pub AreInOrder : List Place → Type 0
AreInOrder places = AreRising (map (λ p. record { block = p.block; bytes = [] }) places)

-- the places before one are of lower blocks than this one
abbrev pub AreBelow : List Place → ℕ → ℕ → Type 0
AreBelow places place block = (k : ℕ) (d : Place) → k < place → (slice_index_or places k d).block < block

-- the places from one on are of no lower block
abbrev pub AreNotBelow : List Place → ℕ → ℕ → Type 0
AreNotBelow places place block = (k : ℕ) (d : Place) → place ≤ k → k < length places → block ≤ (slice_index_or places k d).block
