-- The steps of the division are linear, and undo a shift.
use Rattle.std.proofs.Common.{◌≡◌, ℕ, zero, suc, ◌+◌, ◌*◌, ◌/◌, ◌%◌, ◌^◌, ◌<◌, ◌==◌, cond, refl, sym, ap, ◌∙◌, arith, add-zero, zero-add, bit_xor}
use Rattle.std.specs.Int.Bits.{xor_assoc, xor_self, xor_zero_r, xor_block}
use Rattle.std.proofs.Math.Nat.{mul_assoc, pow-suc}
use Rattle.std.proofs.lemmas.Nat.{xor_comm, xor_shr, xor_mod, pow_pos}
use Rattle.crc_words.specs.Remainder.{after_bit, after_bits}

xor_swap : (a b c : ℕ) → bit_xor a (bit_xor b c) ≡ bit_xor b (bit_xor a c)
xor_swap a b c = sym (xor_assoc a b c) ∙ ap (λ x. bit_xor x c) (xor_comm a b) ∙ xor_assoc b a c

pub xor_pairs : (a b c d : ℕ) → bit_xor (bit_xor a b) (bit_xor c d) ≡ bit_xor (bit_xor a c) (bit_xor b d)
xor_pairs a b c d = xor_assoc a b (bit_xor c d) ∙ ap (bit_xor a) (xor_swap b c d) ∙ sym (xor_assoc a c (bit_xor b d))

pub xor_shifted_both : (a b k : ℕ) → bit_xor (a * 2 ^ k) (b * 2 ^ k) ≡ bit_xor a b * 2 ^ k
xor_shifted_both a b k =
    let whole = xor_block k a b 0 0 (pow_pos k) (pow_pos k) in
    ap (λ x. bit_xor x (b * 2 ^ k)) (sym (add-zero (a * 2 ^ k)))
    ∙ ap (λ x. bit_xor (a * 2 ^ k + 0) x) (sym (add-zero (b * 2 ^ k)))
    ∙ whole ∙ add-zero (bit_xor a b * 2 ^ k)

-- what the bit that leaves takes away
unfoldable pub taken : ℕ → ℕ → ℕ
taken polynomial zero = 0
taken polynomial (suc bit) = polynomial

taken-cond : (polynomial half bit : ℕ) → bit < 2 → cond (bit == 1) (bit_xor half polynomial) half ≡ bit_xor half (taken polynomial bit)
unfolding taken
taken-cond polynomial half zero h = sym (xor_zero_r half)
taken-cond polynomial half (suc zero) h = refl
taken-cond polynomial half (suc (suc bit)) h = absurd (omega arith)

pub after_bit-taken : (polynomial state : ℕ) → after_bit polynomial state ≡ bit_xor (state / 2) (taken polynomial (state % 2))
unfolding after_bit
after_bit-taken polynomial state = taken-cond polynomial (state / 2) (state % 2) (omega arith)

taken-xor : (polynomial a b : ℕ) → a < 2 → b < 2 → taken polynomial (bit_xor a b) ≡ bit_xor (taken polynomial a) (taken polynomial b)
unfolding taken
taken-xor polynomial zero b ha hb = refl
taken-xor polynomial (suc zero) zero ha hb = sym (xor_zero_r polynomial)
taken-xor polynomial (suc zero) (suc zero) ha hb = sym (xor_self polynomial)
taken-xor polynomial (suc zero) (suc (suc b)) ha hb = absurd (omega arith)
taken-xor polynomial (suc (suc a)) b ha hb = absurd (omega arith)

pub after_bit-xor : (polynomial a b : ℕ) → after_bit polynomial (bit_xor a b) ≡ bit_xor (after_bit polynomial a) (after_bit polynomial b)
after_bit-xor polynomial a b =
    let halves : bit_xor a b / 2 ≡ bit_xor (a / 2) (b / 2) = xor_shr a b 1 in
    let bits : bit_xor a b % 2 ≡ bit_xor (a % 2) (b % 2) = xor_mod a b 1 in
    after_bit-taken polynomial (bit_xor a b)
    ∙ ap (λ h. bit_xor h (taken polynomial (bit_xor a b % 2))) halves
    ∙ ap (λ t. bit_xor (bit_xor (a / 2) (b / 2)) t) (ap (taken polynomial) bits ∙ taken-xor polynomial (a % 2) (b % 2) (omega arith) (omega arith))
    ∙ xor_pairs (a / 2) (b / 2) (taken polynomial (a % 2)) (taken polynomial (b % 2))
    ∙ ap (λ x. bit_xor x (bit_xor (b / 2) (taken polynomial (b % 2)))) (sym (after_bit-taken polynomial a))
    ∙ ap (bit_xor (after_bit polynomial a)) (sym (after_bit-taken polynomial b))

pub after_bits-xor : (polynomial count a b : ℕ) → after_bits polynomial count (bit_xor a b) ≡ bit_xor (after_bits polynomial count a) (after_bits polynomial count b)
unfolding after_bits
after_bits-xor polynomial zero a b = refl
after_bits-xor polynomial (suc count) a b =
    ap (after_bits polynomial count) (after_bit-xor polynomial a b)
    ∙ after_bits-xor polynomial count (after_bit polynomial a) (after_bit polynomial b)

pub after_bits-zero : (polynomial count : ℕ) → after_bits polynomial count 0 ≡ 0
unfolding after_bits after_bit
after_bits-zero polynomial zero = refl
after_bits-zero polynomial (suc count) = after_bits-zero polynomial count

pub after_bits-add : (polynomial first second state : ℕ) → after_bits polynomial (first + second) state ≡ after_bits polynomial second (after_bits polynomial first state)
unfolding after_bits
after_bits-add polynomial zero second state = ap (λ n. after_bits polynomial n state) (zero-add second)
after_bits-add polynomial (suc first) second state =
    let sum : suc first + second ≡ suc (first + second) = omega arith in
    ap (λ n. after_bits polynomial n state) sum
    ∙ after_bits-add polynomial first second (after_bit polynomial state)

after_bit-double : (polynomial half : ℕ) → after_bit polynomial (half * 2) ≡ half
unfolding taken
after_bit-double polynomial half =
    let quotient : half * 2 / 2 ≡ half = omega arith in
    let bit : half * 2 % 2 ≡ 0 = omega arith in
    after_bit-taken polynomial (half * 2)
    ∙ ap (λ h. bit_xor h (taken polynomial (half * 2 % 2))) quotient
    ∙ ap (λ r. bit_xor half (taken polynomial r)) bit
    ∙ xor_zero_r half

pub after_bits-shifted : (polynomial count state : ℕ) → after_bits polynomial count (state * 2 ^ count) ≡ state
unfolding after_bits
after_bits-shifted polynomial zero state = omega arith
after_bits-shifted polynomial (suc count) state =
    let doubled : state * 2 ^ suc count ≡ state * 2 ^ count * 2 = ap (λ n. state * n) (pow-suc 2 count) ∙ sym (mul_assoc state (2 ^ count) 2) in
    ap (λ x. after_bits polynomial count (after_bit polynomial x)) doubled
    ∙ ap (after_bits polynomial count) (after_bit-double polynomial (state * 2 ^ count))
    ∙ after_bits-shifted polynomial count state

-- what is added above the bits that leave comes down to the state
pub after_bits-above : (polynomial count state high : ℕ) → after_bits polynomial count (bit_xor state (high * 2 ^ count)) ≡ bit_xor (after_bits polynomial count state) high
after_bits-above polynomial count state high =
    after_bits-xor polynomial count state (high * 2 ^ count)
    ∙ ap (bit_xor (after_bits polynomial count state)) (after_bits-shifted polynomial count high)
