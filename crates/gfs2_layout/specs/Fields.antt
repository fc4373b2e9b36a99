-- A structure as its fields: each is a place and a number, whose width is told with it.
use Rattle.std.specs.Prelude.{ℕ, ◌+◌, ◌*◌, ◌^◌, ◌<◌, max, List, [], ◌∷◌}
use Rattle.std.specs.Int.{Width, w16, w32, w64, byte_len}
use Rattle.gfs2_layout.specs.Bytes.{with_number}
use Rattle.gfs2_layout.specs.declared.fields.Number.{Number}
use Rattle.gfs2_layout.specs.declared.fields.Number.TheVariants.{U16, U32, U64}

abbrev pub Field : Type 0
Field = ℕ × Number

abbrev pub width_of : Number → Width
width_of (U16 n) = w16
width_of (U32 n) = w32
width_of (U64 n) = w64

abbrev pub value_of : Number → ℕ
value_of (U16 n) = n
value_of (U32 n) = n
value_of (U64 n) = n

-- the number is below the bound of its width
abbrev pub HasItsWidth : Field → Type 0
HasItsWidth f = value_of f.1 < 2 ^ (8 * byte_len (width_of f.1))

-- the place behind the last of the fields
abbrev pub end_of : List Field → ℕ
end_of [] = 0
end_of (f ∷ fs) = max (f.0 + byte_len (width_of f.1)) (end_of fs)

abbrev pub with_field : Field → List ℕ → List ℕ
with_field f bytes = with_number (width_of f.1) f.0 (value_of f.1) bytes

-- the fields over the bytes at their places, and all other bytes as they were
unfoldable pub with_fields : List Field → List ℕ → List ℕ
with_fields [] bytes = bytes
with_fields (f ∷ fs) bytes = with_fields fs (with_field f bytes)
