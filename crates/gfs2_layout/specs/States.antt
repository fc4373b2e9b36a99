-- One state put at several data blocks of a group, one after another.
use Rattle.std.specs.Prelude.{ℕ, ◌≡◌, ◌+◌, ◌-◌, ◌&&◌, Bool, not, nat_lt, List, [], ◌∷◌, map, filter}
use Rattle.gfs2_layout.specs.Groups.{IsStatePut}

-- the state is put at each of these places, one after another
abbrev pub AreStatesPut : List (List ℕ) → List (List ℕ) → List ℕ → ℕ → Type 0
AreStatesPut old new [] state = new ≡ old
AreStatesPut old new (i ∷ places) state = (next : List (List ℕ)) × IsStatePut old next i state × AreStatesPut next new places state

-- the block is one of so many from this one on
abbrev pub is_among : ℕ → ℕ → ℕ → Bool
is_among first count b = not (nat_lt b first) && nat_lt b (first + count)

-- the places of those of these blocks that are data blocks of a group which has so many from this one on
abbrev pub places_in : ℕ → ℕ → List ℕ → List ℕ
places_in first count blocks = map (λ b. b - first) (filter (is_among first count) blocks)
