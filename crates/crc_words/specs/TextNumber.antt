-- A text as the polynomial that is divided.
use Rattle.std.specs.Prelude.{ℕ, ◌*◌, bit_xor, List, [], ◌∷◌}

-- the bits of a text as one number: the first byte has the lowest eight, and each later byte the next eight
unfoldable pub text_number : List ℕ → ℕ
text_number [] = 0
text_number (byte ∷ bytes) = bit_xor byte (text_number bytes * 256)
