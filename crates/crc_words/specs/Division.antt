-- The remainder as that of a division of polynomials over two elements, where sum and difference are `xor`. The bits of
-- a number are coefficients, and the lowest bit is that of the highest power.
use Rattle.std.specs.Prelude.{◌≡◌, ℕ, ◌+◌, ◌*◌, ◌^◌, bit_xor, Bool, List, [], ◌∷◌, length, if◌then◌else◌}
use Rattle.crc_words.specs.TextNumber.{text_number}

-- the product of a divisor and a quotient, whose coefficients are listed from the highest power on
unfoldable pub product : ℕ → List Bool → ℕ
product divisor [] = 0
product divisor (coefficient ∷ quotient) = bit_xor (if coefficient then divisor else 0) (product divisor quotient * 2)

-- the divisor with its highest power, which the constant of a code leaves out
abbrev pub divisor_of : ℕ → ℕ
divisor_of polynomial = polynomial * 2 + 1

-- The text, to whose first bits the state is added, less a product of the divisor, has nothing left where the bits of the
-- text stand: it is the rest alone, in the places after them, whose powers are below the divisor's highest.
pub record LeavesRest (polynomial state : ℕ) (bytes : List ℕ) (rest : ℕ) : Type 0 where
  pub quotient : List Bool
  pub as_long : length quotient ≡ 8 * length bytes
  pub exact : bit_xor (bit_xor state (text_number bytes)) (product (divisor_of polynomial) quotient) ≡ rest * 2 ^ (8 * length bytes)
