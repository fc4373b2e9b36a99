-- A cyclic redundancy check, bit by bit. Bits go from the lowest up, as in the codes that are called reflected.
use Rattle.std.specs.Prelude.{ℕ, zero, suc, ◌/◌, ◌%◌, ◌==◌, bit_xor, List, [], ◌∷◌, if◌then◌else◌}

-- one step of the division: the lowest bit leaves, and where it was 1 the polynomial is taken away, which is `xor`
unfoldable pub after_bit : ℕ → ℕ → ℕ
after_bit polynomial state = if state % 2 == 1 then bit_xor (state / 2) polynomial else state / 2

-- this many steps
unfoldable pub after_bits : ℕ → ℕ → ℕ → ℕ
after_bits polynomial zero state = state
after_bits polynomial (suc count) state = after_bits polynomial count (after_bit polynomial state)

-- the remainder after some bytes: each is added to the lowest bits, and eight steps follow
unfoldable pub remainder : ℕ → ℕ → List ℕ → ℕ
remainder polynomial state [] = state
remainder polynomial state (byte ∷ bytes) = remainder polynomial (after_bits polynomial 8 (bit_xor state byte)) bytes

-- the polynomials of two codes, the coefficient of the 31st power in the lowest bit
abbrev pub crc32_polynomial : ℕ
crc32_polynomial = 0xEDB88320

abbrev pub crc32c_polynomial : ℕ
crc32c_polynomial = 0x82F63B78

abbrev pub all_ones : ℕ
all_ones = 0xFFFFFFFF

-- CRC-32, as in zlib, PNG and Ethernet: from all ones, and inverted at the end
unfoldable pub crc32_of : List ℕ → ℕ
crc32_of bytes = bit_xor (remainder crc32_polynomial all_ones bytes) all_ones

-- CRC-32C, as in iSCSI and ext4, but for the inversion at the end
unfoldable pub crc32c_raw_of : List ℕ → ℕ
crc32c_raw_of bytes = remainder crc32c_polynomial all_ones bytes
