-- In which order a write takes blocks for its places.
use Rattle.std.specs.Prelude.{ℕ, ◌≡◌, ◌⊎◌, ◌*◌, ◌<◌, true, ⊤, List, [], ◌∷◌, Contains}
use Rattle.gfs2_layout.specs.Holding.{Holding}
use Rattle.gfs2_layout.specs.Inode.{span}
use Rattle.growth_laws.specs.Files.{IsPlaced}
use Rattle.growth_laws.specs.Need.{is_over}

-- Of two places, each so many levels above content and with content below it from an index on: on the way down to each block of content in
-- turn the first one is met before the other.
abbrev pub IsMetBefore : ℕ → ℕ → ℕ → ℕ → Type 0
IsMetBefore level first level' first' = (first < first') ⊎ ((first ≡ first') × (level' < level))

-- the places of these blocks are in an order: each one's comes before those of all that follow it in the list
abbrev pub StandIn : (ℕ → ℕ → ℕ → ℕ → Type 0) → Holding → List ℕ → Type 0
StandIn Before g [] = ⊤
StandIn Before g (b ∷ rest) =
    ((c level first level' first' : ℕ) → Contains rest c → IsPlaced g b level first → IsPlaced g c level' first' → Before level first level' first')
    × StandIn Before g rest

-- The blocks stand at places over these bytes where none stood, in the order in which they are met.
pub record AreFilled (h g : Holding) (at end : ℕ) (taken : List ℕ) : Type 0 where
  pub over : (b level j : ℕ) → Contains taken b → IsPlaced g b level (j * span h.size level) → is_over h.size at end level j ≡ true
  pub holes : (b c level first : ℕ) → Contains taken b → IsPlaced g b level first → IsPlaced h c level first → ⊥
  pub turn : StandIn IsMetBefore g taken
