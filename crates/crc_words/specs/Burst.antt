-- Errors on the way of a text.
use Rattle.std.specs.Prelude.{◌≡◌, ℕ, ◌*◌, ◌^◌, ◌<◌, bit_xor, List, length}
use Rattle.crc_words.specs.TextNumber.{text_number}

-- Two texts of one length differ in one burst: the bits that differ, from one place on, are a pattern of at most 32 bits.
pub record DifferInBurst (sent received : List ℕ) : Type 0 where
  pub place : ℕ
  pub pattern : ℕ
  pub same_length : length sent ≡ length received
  pub some_bit : 0 < pattern
  pub in_32_bits : pattern < 2 ^ 32
  pub difference : bit_xor (text_number sent) (text_number received) ≡ pattern * 2 ^ place
