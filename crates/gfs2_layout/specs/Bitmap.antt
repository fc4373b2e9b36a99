-- The bitmap of a resource group: two bits for each block, four blocks to a byte, the lowest bits first. A block is free (0), used (1), an unlinked dinode (2) or a dinode (3).
use Rattle.std.specs.Prelude.{ℕ, ◌+◌, ◌-◌, ◌*◌, ◌/◌, ◌%◌, ◌^◌, List, [], ◌∷◌, slice_index_or, slice_set}

-- the state of the block at this place, counted from the first of the group's data blocks
abbrev pub state_at : List ℕ → ℕ → ℕ
state_at bitmap i = (slice_index_or bitmap (i / 4) 0 / 4 ^ (i % 4)) % 4

-- a byte with another state at one of its four places
abbrev pub byte_with : ℕ → ℕ → ℕ → ℕ
byte_with byte k state = (byte - (byte / 4 ^ k) % 4 * 4 ^ k) + state * 4 ^ k

-- a bitmap with another state at one place
abbrev pub with_state : List ℕ → ℕ → ℕ → List ℕ
with_state bitmap i state = slice_set bitmap (i / 4) (byte_with (slice_index_or bitmap (i / 4) 0) (i % 4) state)

-- the byte of four states
abbrev pub byte_of : ℕ → ℕ → ℕ → ℕ → ℕ
byte_of a b c d = a + 4 * b + 16 * c + 64 * d

-- the bytes of these states, four to a byte; those that the last byte lacks are 0
unfoldable pub packed : List ℕ → List ℕ
packed [] = []
packed (a ∷ []) = byte_of a 0 0 0 ∷ []
packed (a ∷ b ∷ []) = byte_of a b 0 0 ∷ []
packed (a ∷ b ∷ c ∷ []) = byte_of a b c 0 ∷ []
packed (a ∷ b ∷ c ∷ d ∷ rest) = byte_of a b c d ∷ packed rest

-- how many blocks the bitmap of a group of this length, in blocks of this size, has bits for: its first block begins with a
-- header of 128 bytes, and each further one with a header of 24
abbrev pub bitmap_room : ℕ → ℕ → ℕ
bitmap_room size len = 4 * (size - 128 + (len - 1) * (size - 24))
