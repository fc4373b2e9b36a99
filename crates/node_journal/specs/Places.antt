-- Where a transaction goes: its places round the ring, and what its header tells.
use Rattle.std.specs.Prelude.{ℕ, zero, suc, ◌≤◌, ◌<◌, List, [], ◌∷◌}
use Rattle.log_layout.specs.Journal.{Placed, next, way, free_places}
use Rattle.node_journal.specs.declared.ring.Ring.{Ring}

-- how many places are free in the ring
abbrev pub free_in : Ring → ℕ
free_in ring = free_places ring.length ring.tail ring.head

-- the place so many places on
abbrev pub place_on : ℕ → ℕ → ℕ → ℕ
place_on places p zero = p
place_on places p (suc count) = place_on places (next places p) count

-- a place from the tail to the head, both with them
abbrev pub IsBetween : Ring → ℕ → ℕ → Type 0
IsBetween ring head p = (p < ring.length) × (way ring.length ring.tail p ≤ way ring.length ring.tail head)

-- these blocks at places one behind the other, round a ring of so many, from one on
abbrev pub placed_from : ℕ → ℕ → List (List ℕ) → List Placed
placed_from places p [] = []
placed_from places p (b ∷ bs) = record { place = p; bytes = b } ∷ placed_from places (next places p) bs
