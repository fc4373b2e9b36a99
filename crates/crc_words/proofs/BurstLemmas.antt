-- A burst of at most 32 bits changes the remainder.
use Rattle.std.proofs.Common.{◌≡◌, ◌≢◌, ℕ, zero, suc, ◌+◌, ◌-◌, ◌*◌, ◌/◌, ◌%◌, ◌^◌, ◌<◌, ◌≤◌, List, [], ◌∷◌, ◌++◌, length, refl, sym, ap, ◌∙◌, arith, inl, inr, bit_xor, length-append}
use Rattle.std.specs.Int.Bits.{xor_assoc, xor_self, xor_zero_r}
use Rattle.std.specs.List.{All, AllByRecursion}
use Rattle.std.proofs.Math.Nat.{mul_assoc, mul-suc, mul-pos, pos_of_ne-zero}
use Rattle.std.proofs.lemmas.Bool.{cases_lt}
use Rattle.std.proofs.lemmas.List.Elements.{recursion_from_All}
use Rattle.std.proofs.lemmas.Nat.{pow-add, pow_pos, xor_lt}
use Rattle.crc_words.specs.Burst.{DifferInBurst}
use Rattle.crc_words.specs.Remainder.{after_bit, after_bits, remainder, crc32_of, crc32c_raw_of, crc32_polynomial, crc32c_polynomial, all_ones}
use Rattle.crc_words.specs.TextNumber.{text_number}
use Rattle.crc_words.proofs.StepLemmas.{taken, after_bit-taken, xor_pairs, xor_shifted_both, after_bits-xor, after_bits-add, after_bits-shifted}
use Rattle.crc_words.proofs.TextLemmas.{pending, remainder-pending, remainder-append, text_number-append}
use Rattle.crc_words.proofs.WordLemmas.{text_number-cons}

pub xor-same : (a b : ℕ) → bit_xor a b ≡ 0 → a ≡ b
xor-same a b h =
    sym (xor_zero_r a) ∙ ap (bit_xor a) (sym h) ∙ sym (xor_assoc a a b) ∙ ap (λ n. bit_xor n b) (xor_self a)

xor_back : (a mask : ℕ) → bit_xor (bit_xor a mask) mask ≡ a
xor_back a mask = xor_assoc a mask mask ∙ ap (bit_xor a) (xor_self mask) ∙ xor_zero_r a

-- what both have in front cancels
xor-front : (front a b : ℕ) → bit_xor (bit_xor front a) (bit_xor front b) ≡ bit_xor a b
xor-front front a b = xor_pairs front a front b ∙ ap (λ n. bit_xor n (bit_xor a b)) (xor_self front)

-- ---- a state of 32 bits that is not zero stays so

module _ (polynomial : ℕ) (top : 2 ^ 31 ≤ polynomial) (fits : polynomial < 2 ^ 32) where
  taken-nonzero : (half bit : ℕ) → half < 2 ^ 31 → bit < 2 → half * 2 + bit ≢ 0 → bit_xor half (taken polynomial bit) ≢ 0
  unfolding taken
  taken-nonzero half zero small h some e = let none : half ≡ 0 = xor-same half 0 e in some (omega arith)
  taken-nonzero half (suc zero) small h some e = let same : half ≡ polynomial = xor-same half polynomial e in absurd (omega arith)
  taken-nonzero half (suc (suc bit)) small h some e = absurd (omega arith)

  taken-fits : (bit : ℕ) → taken polynomial bit < 2 ^ 32
  unfolding taken
  taken-fits zero = omega arith
  taken-fits (suc bit) = fits

  after_bit-nonzero : (state : ℕ) → state < 2 ^ 32 → state ≢ 0 → after_bit polynomial state ≢ 0
  after_bit-nonzero state h some e =
      taken-nonzero (state / 2) (state % 2) (omega arith) (omega arith) (λ (none : state / 2 * 2 + state % 2 ≡ 0). some (omega arith))
      (sym (after_bit-taken polynomial state) ∙ e)

  after_bit-fits : (state : ℕ) → state < 2 ^ 32 → after_bit polynomial state < 2 ^ 32
  after_bit-fits state h =
      let half : state / 2 < 2 ^ 32 = omega arith in
      let sum = xor_lt 32 (state / 2) (taken polynomial (state % 2)) half (taken-fits (state % 2)) in
      omega (arith, after_bit-taken polynomial state)

  after_bits-nonzero : (count state : ℕ) → state < 2 ^ 32 → state ≢ 0 → after_bits polynomial count state ≢ 0
  unfolding after_bits
  after_bits-nonzero zero state h some = some
  after_bits-nonzero (suc count) state h some =
      after_bits-nonzero count (after_bit polynomial state) (after_bit-fits state h) (after_bit-nonzero state h some)

  shifted-nonzero : (count place pattern : ℕ) → 0 < pattern → pattern < 2 ^ 32 → after_bits polynomial count (pattern * 2 ^ place) ≢ 0
  shifted-nonzero count place pattern some small =
      elim (cases_lt place count) [
        | inl below ↦ λ (e : after_bits polynomial count (pattern * 2 ^ place) ≡ 0).
            let more : ℕ = count - place in
            let sum : place + more ≡ count = omega arith in
            let apart : after_bits polynomial count (pattern * 2 ^ place) ≡ after_bits polynomial more pattern =
            ap (λ n. after_bits polynomial n (pattern * 2 ^ place)) (sym sum)
            ∙ after_bits-add polynomial place more (pattern * 2 ^ place)
            ∙ ap (after_bits polynomial more) (after_bits-shifted polynomial place pattern)
            in
            after_bits-nonzero more pattern small (λ (none : pattern ≡ 0). absurd (omega arith)) (sym apart ∙ e)
        | inr above ↦ λ (e : after_bits polynomial count (pattern * 2 ^ place) ≡ 0).
            let more : ℕ = place - count in
            let sum : more + count ≡ place = omega arith in
            let apart : after_bits polynomial count (pattern * 2 ^ place) ≡ pattern * 2 ^ more =
            ap (λ n. after_bits polynomial count (pattern * 2 ^ n)) (sym sum)
            ∙ ap (λ n. after_bits polynomial count (pattern * n)) (pow-add 2 more count)
            ∙ ap (after_bits polynomial count) (sym (mul_assoc pattern (2 ^ more) (2 ^ count)))
            ∙ after_bits-shifted polynomial count (pattern * 2 ^ more)
            in
            let positive : 0 < pattern * 2 ^ more = mul-pos some (pow_pos more) in
            absurd (omega (arith, apart, e))
      ]

  pub remainder-burst : (state : ℕ) (sent received : List ℕ) → DifferInBurst sent received → remainder polynomial state sent ≢ remainder polynomial state received
  unfolding pending
  remainder-burst state sent received differ e =
      let count : ℕ = 8 * length sent in
      let of_sent : remainder polynomial state sent ≡ after_bits polynomial count (bit_xor state (text_number sent)) = remainder-pending polynomial state sent in
      let of_received : remainder polynomial state received ≡ after_bits polynomial count (bit_xor state (text_number received)) =
      remainder-pending polynomial state received
      ∙ ap (λ n. after_bits polynomial (8 * n) (bit_xor state (text_number received))) (sym differ.same_length)
      in
      let lost : after_bits polynomial count (differ.pattern * 2 ^ differ.place) ≡ 0 =
      ap (after_bits polynomial count) (sym differ.difference ∙ sym (xor-front state (text_number sent) (text_number received)))
      ∙ after_bits-xor polynomial count (bit_xor state (text_number sent)) (bit_xor state (text_number received))
      ∙ ap (λ n. bit_xor n (after_bits polynomial count (bit_xor state (text_number received)))) (sym of_sent ∙ e ∙ of_received)
      ∙ xor_self (after_bits polynomial count (bit_xor state (text_number received)))
      in
      shifted-nonzero count differ.place differ.pattern differ.some_bit differ.in_32_bits lost

pub crc32-burst : (sent received : List ℕ) → DifferInBurst sent received → crc32_of sent ≢ crc32_of received
unfolding crc32_of
crc32-burst sent received differ e =
    let sent_state : ℕ = remainder crc32_polynomial all_ones sent in
    let received_state : ℕ = remainder crc32_polynomial all_ones received in
    let same : sent_state ≡ received_state =
    sym (xor_back sent_state all_ones) ∙ ap (λ n. bit_xor n all_ones) e ∙ xor_back received_state all_ones
    in
    remainder-burst crc32_polynomial (omega arith) (omega arith) all_ones sent received differ same

pub crc32c_raw-burst : (sent received : List ℕ) → DifferInBurst sent received → crc32c_raw_of sent ≢ crc32c_raw_of received
unfolding crc32c_raw_of
crc32c_raw-burst = remainder-burst crc32c_polynomial (omega arith) (omega arith) all_ones

pub crc32-pieces : (first second : List ℕ) → crc32_of (first ++ second) ≡ bit_xor (remainder crc32_polynomial (bit_xor (crc32_of first) all_ones) second) all_ones
unfolding crc32_of
crc32-pieces first second =
    ap (λ n. bit_xor n all_ones) (remainder-append crc32_polynomial all_ones first second
    ∙ ap (λ n. remainder crc32_polynomial n second) (sym (xor_back (remainder crc32_polynomial all_ones first) all_ones)))

pub crc32c_raw-pieces : (first second : List ℕ) → crc32c_raw_of (first ++ second) ≡ remainder crc32c_polynomial (crc32c_raw_of first) second
unfolding crc32c_raw_of
crc32c_raw-pieces = remainder-append crc32c_polynomial all_ones

-- ---- changed bytes

text_number-fits : (count : ℕ) (bytes : List ℕ) → AllByRecursion (λ byte. byte < 256) bytes → length bytes ≤ count → text_number bytes < 2 ^ (8 * count)
unfolding text_number
text_number-fits count [] small h = pow_pos (8 * count)
text_number-fits zero (byte ∷ bytes) small h = absurd (omega arith)
text_number-fits (suc count) (byte ∷ bytes) small h =
    let rest = text_number-fits count bytes small.1 (omega arith) in
    let power : 2 ^ (8 * suc count) ≡ 2 ^ (8 * count) * 256 = ap (λ n. 2 ^ n) (mul-suc 8 count) ∙ pow-add 2 (8 * count) 8 in
    omega (arith, small.0, text_number-cons byte bytes small.0)

text_number-same : (xs ys : List ℕ) → length xs ≡ length ys → AllByRecursion (λ byte. byte < 256) xs → AllByRecursion (λ byte. byte < 256) ys → text_number xs ≡ text_number ys → xs ≡ ys
text_number-same [] [] level hx hy e = refl
text_number-same [] (y ∷ ys) level hx hy e = cc
text_number-same (x ∷ xs) [] level hx hy e = cc
text_number-same (x ∷ xs) (y ∷ ys) level hx hy e =
    let first : x ≡ y = omega (arith, hx.0, hy.0, text_number-cons x xs hx.0, text_number-cons y ys hy.0) in
    let later : text_number xs ≡ text_number ys = omega (arith, hx.0, hy.0, text_number-cons x xs hx.0, text_number-cons y ys hy.0) in
    let rest = text_number-same xs ys (omega arith) hx.1 hy.1 later in
    cc

pub DifferInBurst-changed : (before old new after : List ℕ) → length old ≡ length new → length old ≤ 4 → All (λ byte. byte < 256) old → All (λ byte. byte < 256) new → old ≢ new → DifferInBurst (before ++ (old ++ after)) (before ++ (new ++ after))
DifferInBurst-changed before old new after level short small_old small_new differ =
    let place : ℕ = 8 * length before in
    let bytes_old = recursion_from_All (λ byte. byte < 256) old small_old in
    let bytes_new = recursion_from_All (λ byte. byte < 256) new small_new in
    let inner : bit_xor (text_number (old ++ after)) (text_number (new ++ after)) ≡ bit_xor (text_number old) (text_number new) =
    ap (λ n. bit_xor n (text_number (new ++ after))) (text_number-append old after)
    ∙ ap (bit_xor (bit_xor (text_number old) (text_number after * 2 ^ (8 * length old)))) (text_number-append new after)
    ∙ ap (λ n. bit_xor (bit_xor (text_number old) (text_number after * 2 ^ (8 * n))) (bit_xor (text_number new) (text_number after * 2 ^ (8 * length new)))) level
    ∙ xor_pairs (text_number old) (text_number after * 2 ^ (8 * length new)) (text_number new) (text_number after * 2 ^ (8 * length new))
    ∙ ap (bit_xor (bit_xor (text_number old) (text_number new))) (xor_self (text_number after * 2 ^ (8 * length new)))
    ∙ xor_zero_r (bit_xor (text_number old) (text_number new))
    in
    let some : bit_xor (text_number old) (text_number new) ≢ 0 =
    λ (e : bit_xor (text_number old) (text_number new) ≡ 0). differ (text_number-same old new level bytes_old bytes_new (xor-same (text_number old) (text_number new) e))
    in
    record {
      place = place;
      pattern = bit_xor (text_number old) (text_number new);
      same_length = simp length-append (ap (λ n. length before + (n + length after)) level);
      some_bit = pos_of_ne-zero some;
      in_32_bits = xor_lt 32 (text_number old) (text_number new) (text_number-fits 4 old bytes_old short) (text_number-fits 4 new bytes_new (omega arith));
      difference =
          ap (λ n. bit_xor n (text_number (before ++ (new ++ after)))) (text_number-append before (old ++ after))
          ∙ ap (bit_xor (bit_xor (text_number before) (text_number (old ++ after) * 2 ^ place))) (text_number-append before (new ++ after))
          ∙ xor-front (text_number before) (text_number (old ++ after) * 2 ^ place) (text_number (new ++ after) * 2 ^ place)
          ∙ xor_shifted_both (text_number (old ++ after)) (text_number (new ++ after)) place
          ∙ ap (λ n. n * 2 ^ place) inner;
    }
