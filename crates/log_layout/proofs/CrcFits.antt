-- A CRC-32C of bytes has 32 bits.
use Rattle.std.proofs.Common.{ℕ, zero, suc, ◌/◌, ◌^◌, ◌<◌, inl, inr, List, [], ◌∷◌, sym, subst, arith}
use Rattle.std.specs.Prelude.{◌%◌, ◌==◌, bit_xor}
use Rattle.std.specs.List.{AllByRecursion}
use Rattle.std.proofs.lemmas.Bool.{cases_Bool, cond-true, cond-false}
use Rattle.std.proofs.lemmas.Nat.{xor_lt}
use Rattle.crc_words.specs.Remainder.{after_bit, after_bits, remainder, crc32c_polynomial, all_ones, crc32c_raw_of}

bit_fits : (state : ℕ) → state < 2 ^ 32 → after_bit crc32c_polynomial state < 2 ^ 32
unfolding after_bit
bit_fits state low = elim (cases_Bool (state % 2 == 1)) [
  | inl so ↦ subst (λ n. n < 2 ^ 32) (sym (cond-true _ _ _ so)) (xor_lt 32 (state / 2) crc32c_polynomial (omega (arith, low)) (omega arith))
  | inr non ↦ subst (λ n. n < 2 ^ 32) (sym (cond-false _ _ _ non)) (omega (arith, low))
]

bits_fit : (count state : ℕ) → state < 2 ^ 32 → after_bits crc32c_polynomial count state < 2 ^ 32
unfolding after_bits
bits_fit zero state low = low
bits_fit (suc count) state low = bits_fit count (after_bit crc32c_polynomial state) (bit_fits state low)

remainder_fits : (state : ℕ) (bytes : List ℕ) → state < 2 ^ 32 → AllByRecursion (λ byte. byte < 256) bytes → remainder crc32c_polynomial state bytes < 2 ^ 32
unfolding remainder
remainder_fits state [] low all = low
remainder_fits state (byte ∷ bytes) low all =
    remainder_fits (after_bits crc32c_polynomial 8 (bit_xor state byte)) bytes (bits_fit 8 (bit_xor state byte) (xor_lt 32 state byte low (omega (arith, all.0)))) all.1

pub crc32c-fits : (bytes : List ℕ) → AllByRecursion (λ byte. byte < 256) bytes → crc32c_raw_of bytes < 2 ^ 32
unfolding crc32c_raw_of
crc32c-fits bytes all = remainder_fits all_ones bytes (omega arith) all
