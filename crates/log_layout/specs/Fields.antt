-- Numbers at their places in a block: each of four or of eight bytes.
use Rattle.std.specs.Prelude.{ℕ, ◌+◌, ◌*◌, ◌^◌, ◌<◌, ⊤, List, [], ◌∷◌}
use Rattle.std.specs.Int.{Width, w32, w64, byte_len}
use Rattle.gfs2_layout.specs.Bytes.{with_number}

-- a place and the number there
pub data Field : Type 0 where
  Four : ℕ → ℕ → Field
  Eight : ℕ → ℕ → Field

abbrev pub place_of : Field → ℕ
place_of (Four at n) = at
place_of (Eight at n) = at

abbrev pub width_of : Field → Width
width_of (Four at n) = w32
width_of (Eight at n) = w64

abbrev pub value_of : Field → ℕ
value_of (Four at n) = n
value_of (Eight at n) = n

-- the place behind it
abbrev pub end_of : Field → ℕ
end_of f = place_of f + byte_len (width_of f)

-- each number is below the bound of its width
abbrev pub HaveWidths : List Field → Type 0
HaveWidths [] = ⊤
HaveWidths (f ∷ fs) = (value_of f < 2 ^ (8 * byte_len (width_of f))) × HaveWidths fs

abbrev pub with_field : Field → List ℕ → List ℕ
with_field f bytes = with_number (width_of f) (place_of f) (value_of f) bytes

-- the numbers over the bytes at their places, and all other bytes as they were
unfoldable pub with_fields : List Field → List ℕ → List ℕ
with_fields [] bytes = bytes
with_fields (f ∷ fs) bytes = with_fields fs (with_field f bytes)
