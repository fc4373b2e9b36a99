-- The remainder is the rest of a division of polynomials, and the only one.
use Rattle.std.proofs.Common.{◌≡◌, ◌↔◌, ℕ, zero, suc, ◌+◌, ◌*◌, ◌/◌, ◌%◌, ◌^◌, ◌<◌, ◌==◌, Bool, true, false, cond, List, [], ◌∷◌, length, refl, sym, ap, ◌∙◌, arith, add-zero, bit_xor}
use Rattle.std.specs.Int.Bits.{xor_assoc, xor_zero_r, xor_block}
use Rattle.std.proofs.Math.Nat.{mul_assoc, mul-one, pow-suc}
use Rattle.std.proofs.lemmas.Nat.{xor_mod}
use Rattle.crc_words.specs.Division.{product, divisor_of, LeavesRest}
use Rattle.crc_words.specs.Remainder.{after_bit, after_bits, remainder}
use Rattle.crc_words.specs.TextNumber.{text_number}
use Rattle.crc_words.proofs.StepLemmas.{xor_shifted_both}
use Rattle.crc_words.proofs.BurstLemmas.{xor-same}
use Rattle.crc_words.proofs.TextLemmas.{pending, remainder-pending}

-- the divisor is taken away where the lowest bit is 1, and the lowest bit is then 0
spent : (polynomial half bit : ℕ) → bit < 2 → bit_xor (half * 2 + bit) (cond (bit == 1) (polynomial * 2 + 1) 0) ≡ cond (bit == 1) (bit_xor half polynomial) half * 2
spent polynomial half zero h = xor_zero_r (half * 2 + 0) ∙ add-zero (half * 2)
spent polynomial half (suc zero) h =
    let whole = xor_block 1 half polynomial 1 1 (omega arith) (omega arith) in
    whole ∙ add-zero (bit_xor half polynomial * 2)
spent polynomial half (suc (suc bit)) h = absurd (omega arith)

after_bit-spent : (polynomial state : ℕ) → bit_xor state (cond (state % 2 == 1) (divisor_of polynomial) 0) ≡ after_bit polynomial state * 2
unfolding after_bit
after_bit-spent polynomial state =
    let whole : state ≡ state / 2 * 2 + state % 2 = omega arith in
    ap (λ n. bit_xor n (cond (state % 2 == 1) (divisor_of polynomial) 0)) whole ∙ spent polynomial (state / 2) (state % 2) (omega arith)

doubled : (number count : ℕ) → number * 2 ^ suc count ≡ number * 2 ^ count * 2
doubled number count = ap (λ n. number * n) (pow-suc 2 count) ∙ sym (mul_assoc number (2 ^ count) 2)

-- ---- there is such a quotient

quotient_of : ℕ → ℕ → ℕ → List Bool
quotient_of polynomial zero state = []
quotient_of polynomial (suc count) state = (state % 2 == 1) ∷ quotient_of polynomial count (after_bit polynomial state)

length-quotient_of : (polynomial count state : ℕ) → length (quotient_of polynomial count state) ≡ count
unfolding quotient_of
length-quotient_of polynomial zero state = refl
length-quotient_of polynomial (suc count) state = ap suc (length-quotient_of polynomial count (after_bit polynomial state))

quotient_of-exact : (polynomial count state : ℕ) → bit_xor state (product (divisor_of polynomial) (quotient_of polynomial count state)) ≡ after_bits polynomial count state * 2 ^ count
unfolding quotient_of product after_bits
quotient_of-exact polynomial zero state = xor_zero_r state ∙ sym (mul-one state)
quotient_of-exact polynomial (suc count) state =
    let next : ℕ = after_bit polynomial state in
    let later : ℕ = product (divisor_of polynomial) (quotient_of polynomial count next) in
    sym (xor_assoc state (cond (state % 2 == 1) (divisor_of polynomial) 0) (later * 2))
    ∙ ap (λ n. bit_xor n (later * 2)) (after_bit-spent polynomial state)
    ∙ xor_shifted_both next later 1
    ∙ ap (λ n. n * 2) (quotient_of-exact polynomial count next)
    ∙ sym (doubled (after_bits polynomial count next) count)

-- ---- and no other rest

coefficient-is : (polynomial bit : ℕ) (coefficient : Bool) → bit ≡ cond coefficient (polynomial * 2 + 1) 0 % 2 → coefficient ≡ (bit == 1)
coefficient-is polynomial bit true h = let one : bit ≡ 1 = omega arith in sym (ap (λ n. n == 1) one)
coefficient-is polynomial bit false h = sym (ap (λ n. n == 1) h)

-- the first coefficient is the bit that leaves, and what follows divides the next state
first-coefficient : (polynomial state later total : ℕ) (coefficient : Bool) → bit_xor state (bit_xor (cond coefficient (divisor_of polynomial) 0) (later * 2)) ≡ total * 2 → bit_xor (after_bit polynomial state) later ≡ total
first-coefficient polynomial state later total coefficient h =
    let first : ℕ = cond coefficient (divisor_of polynomial) 0 in
    let parity : bit_xor (state % 2) (first % 2) ≡ 0 =
    let even : later * 2 % 2 ≡ 0 = omega arith in
    let even_total : total * 2 % 2 ≡ 0 = omega arith in
    ap (bit_xor (state % 2)) (sym (xor_zero_r (first % 2)) ∙ ap (bit_xor (first % 2)) (sym even) ∙ sym (xor_mod first (later * 2) 1))
    ∙ sym (xor_mod state (bit_xor first (later * 2)) 1)
    ∙ ap (λ n. n % 2) h
    ∙ even_total
    in
    let bit : coefficient ≡ (state % 2 == 1) = coefficient-is polynomial (state % 2) coefficient (xor-same (state % 2) (first % 2) parity) in
    let twice : bit_xor (after_bit polynomial state) later * 2 ≡ total * 2 =
    sym (xor_shifted_both (after_bit polynomial state) later 1)
    ∙ ap (λ n. bit_xor n (later * 2)) (sym (after_bit-spent polynomial state) ∙ sym (ap (λ b. bit_xor state (cond b (divisor_of polynomial) 0)) bit))
    ∙ xor_assoc state first (later * 2)
    ∙ h
    in
    omega arith

rest-after_bits : (polynomial count state rest : ℕ) (quotient : List Bool) → length quotient ≡ count → bit_xor state (product (divisor_of polynomial) quotient) ≡ rest * 2 ^ count → rest ≡ after_bits polynomial count state
unfolding product after_bits
rest-after_bits polynomial zero state rest [] level h = sym (mul-one rest) ∙ sym h ∙ xor_zero_r state
rest-after_bits polynomial (suc count) state rest [] level h = cc
rest-after_bits polynomial zero state rest (coefficient ∷ quotient) level h = cc
rest-after_bits polynomial (suc count) state rest (coefficient ∷ quotient) level h =
    let later : ℕ = product (divisor_of polynomial) quotient in
    rest-after_bits polynomial count (after_bit polynomial state) rest quotient (omega arith)
    (first-coefficient polynomial state later (rest * 2 ^ count) coefficient (h ∙ doubled rest count))

pub LeavesRest-remainder : (polynomial state rest : ℕ) (bytes : List ℕ) → LeavesRest polynomial state bytes rest ↔ (rest ≡ remainder polynomial state bytes)
unfolding pending
LeavesRest-remainder polynomial state rest bytes =
    let count : ℕ = 8 * length bytes in
    let whole : ℕ = bit_xor state (text_number bytes) in (
      λ left. rest-after_bits polynomial count whole rest left.quotient left.as_long left.exact ∙ sym (remainder-pending polynomial state bytes),
      λ is. record {
        quotient = quotient_of polynomial count whole;
        as_long = length-quotient_of polynomial count whole;
        exact = quotient_of-exact polynomial count whole ∙ ap (λ n. n * 2 ^ count) (sym (is ∙ remainder-pending polynomial state bytes));
      },
    )
