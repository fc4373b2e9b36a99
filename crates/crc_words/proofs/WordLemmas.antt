-- A byte and a word are divided by a table.
use Rattle.std.proofs.Common.{◌≡◌, ℕ, suc, ◌+◌, ◌*◌, ◌/◌, ◌%◌, ◌^◌, ◌<◌, List, ◌∷◌, length, get_or, take, drop, refl, sym, ap, ◌∙◌, arith, bit_xor, bit_and, drop-cons}
use Rattle.std.specs.Int.Bits.{xor_assoc, xor_shifted, xor_zero_r}
use Rattle.std.proofs.lemmas.Nat.{xor_comm, xor_shr, xor_mod, xor_lt, and_mask, shr-shr}
use Rattle.std.proofs.Math.Nat.{mod-eq_of_lt}
use Rattle.crc_words.specs.Remainder.{after_bits}
use Rattle.crc_words.specs.Table.{IsTable}
use Rattle.crc_words.specs.TextNumber.{text_number}
use Rattle.crc_words.proofs.StepLemmas.{after_bits-xor, after_bits-add, after_bits-shifted}

-- the lowest byte and the rest are divided apart
after_bits-peel : (polynomial count state : ℕ) → after_bits polynomial (8 + count) state ≡ bit_xor (after_bits polynomial (8 + count) (state % 256)) (after_bits polynomial count (state / 256))
after_bits-peel polynomial count state =
    let low : state % 256 < 2 ^ 8 = omega arith in
    let whole : state ≡ bit_xor (state % 256) (state / 256 * 256) =
    let sum : state ≡ state / 256 * 256 + state % 256 = omega arith in
    sum ∙ sym (xor_shifted (state / 256) 8 (state % 256) low) ∙ xor_comm (state / 256 * 256) (state % 256)
    in
    ap (after_bits polynomial (8 + count)) whole
    ∙ after_bits-xor polynomial (8 + count) (state % 256) (state / 256 * 256)
    ∙ ap (bit_xor (after_bits polynomial (8 + count) (state % 256))) (after_bits-add polynomial 8 count (state / 256 * 256)
    ∙ ap (after_bits polynomial count) (after_bits-shifted polynomial 8 (state / 256)))

module _ (polynomial delay : ℕ) (table : List ℕ) (known : IsTable polynomial delay table) where
  entry : (row number : ℕ) → row < 8 → get_or table (256 * row + bit_and number 255) 0 ≡ after_bits polynomial (8 * row + 8 + delay) (number % 256)
  entry row number h =
      ap (λ byte. get_or table (256 * row + byte) 0) (and_mask number 8) ∙ known.entries row (number % 256) h (omega arith)

  -- one look-up for the lowest byte, and the rest a row below
  next_row : (row number : ℕ) → suc row < 8 → after_bits polynomial (8 * suc row + 8 + delay) number ≡ bit_xor (get_or table (256 * suc row + bit_and number 255) 0) (after_bits polynomial (8 * row + 8 + delay) (number / 256))
  next_row row number h =
      let steps : 8 * suc row + 8 + delay ≡ 8 + (8 * row + 8 + delay) = omega arith in
      ap (λ n. after_bits polynomial n number) steps
      ∙ after_bits-peel polynomial (8 * row + 8 + delay) number
      ∙ ap (λ n. bit_xor (after_bits polynomial n (number % 256)) (after_bits polynomial (8 * row + 8 + delay) (number / 256))) (sym steps)
      ∙ ap (λ n. bit_xor n (after_bits polynomial (8 * row + 8 + delay) (number / 256))) (sym (entry (suc row) number h))

  further : (row number done : ℕ) → suc row < 8 → bit_xor done (after_bits polynomial (8 * suc row + 8 + delay) number) ≡ bit_xor (bit_xor done (get_or table (256 * suc row + bit_and number 255) 0)) (after_bits polynomial (8 * row + 8 + delay) (number / 256))
  further row number done h =
      ap (bit_xor done) (next_row row number h)
      ∙ sym (xor_assoc done (get_or table (256 * suc row + bit_and number 255) 0) (after_bits polynomial (8 * row + 8 + delay) (number / 256)))

  -- the look-up of the byte from bit `shift` on
  seek : ℕ → ℕ → ℕ → ℕ
  seek row shift number = get_or table (256 * row + bit_and (number / 2 ^ shift) 255) 0

  shifted : (row shift number done : ℕ) → suc row < 8 → bit_xor done (after_bits polynomial (8 * suc row + 8 + delay) (number / 2 ^ shift)) ≡ bit_xor (bit_xor done (seek (suc row) shift number)) (after_bits polynomial (8 * row + 8 + delay) (number / 2 ^ (shift + 8)))
  unfolding seek
  shifted row shift number done h =
      further row (number / 2 ^ shift) done h
      ∙ ap (λ n. bit_xor (bit_xor done (seek (suc row) shift number)) (after_bits polynomial (8 * row + 8 + delay) n)) (shr-shr number shift 8)

  pub eight_bytes : (number : ℕ) → number < 2 ^ 64 →
      bit_xor (bit_xor (bit_xor (bit_xor (bit_xor (bit_xor (bit_xor (get_or table (1792 + bit_and number 255) 0) (get_or table (1536 + bit_and (number / 256) 255) 0)) (get_or table (1280 + bit_and (number / 65536) 255) 0)) (get_or table (1024 + bit_and (number / 16777216) 255) 0)) (get_or table (768 + bit_and (number / 4294967296) 255) 0)) (get_or table (512 + bit_and (number / 1099511627776) 255) 0)) (get_or table (256 + bit_and (number / 281474976710656) 255) 0)) (get_or table (number / 72057594037927936) 0)
      ≡ after_bits polynomial (64 + delay) number
  unfolding seek
  eight_bytes number h =
      let top : ℕ = number / 72057594037927936 in
      let small : top < 256 = omega arith in
      let last : get_or table top 0 ≡ after_bits polynomial (8 + delay) top =
      let place : top ≡ 0 + top = omega arith in
      ap (λ i. get_or table i 0) place ∙ known.entries 0 top (omega arith) small
      in
      ap (bit_xor _) last
      ∙ sym (
      next_row 6 number (omega arith)
      ∙ shifted 5 8 number _ (omega arith)
      ∙ shifted 4 16 number _ (omega arith)
      ∙ shifted 3 24 number _ (omega arith)
      ∙ shifted 2 32 number _ (omega arith)
      ∙ shifted 1 40 number _ (omega arith)
      ∙ shifted 0 48 number _ (omega arith))

after_bits-none : (polynomial state : ℕ) → after_bits polynomial 0 state ≡ state
unfolding after_bits
after_bits-none polynomial state = refl

-- one byte is divided by the first row
pub after_byte : (polynomial : ℕ) (near : List ℕ) → IsTable polynomial 0 near → (state byte : ℕ) → byte < 256 → after_bits polynomial 8 (bit_xor state byte) ≡ bit_xor (get_or near (bit_xor (bit_and state 255) byte) 0) (state / 256)
after_byte polynomial near known state byte h =
    let low : ℕ = bit_xor (bit_and state 255) byte in
    let low_small : low < 256 = xor_lt 8 (bit_and state 255) byte (let masked = and_mask state 8 in omega arith) h in
    let low_is : bit_xor state byte % 256 ≡ low =
    xor_mod state byte 8
    ∙ ap (λ b. bit_xor (state % 256) b) (mod-eq_of_lt h)
    ∙ ap (λ n. bit_xor n byte) (sym (and_mask state 8))
    in
    let none : byte / 256 ≡ 0 = omega arith in
    let high_is : bit_xor state byte / 256 ≡ state / 256 =
    xor_shr state byte 8 ∙ ap (bit_xor (state / 256)) none ∙ xor_zero_r (state / 256)
    in
    let place : low ≡ 0 + low = omega arith in
    after_bits-peel polynomial 0 (bit_xor state byte)
    ∙ ap (λ n. bit_xor (after_bits polynomial 8 n) (after_bits polynomial 0 (bit_xor state byte / 256))) low_is
    ∙ ap (bit_xor (after_bits polynomial 8 low)) (after_bits-none polynomial (bit_xor state byte / 256) ∙ high_is)
    ∙ ap (λ n. bit_xor n (state / 256)) (sym (ap (λ i. get_or near i 0) place ∙ known.entries 0 low (omega arith) low_small))

-- ---- the word at a place

pub text_number-cons : (byte : ℕ) (bytes : List ℕ) → byte < 256 → text_number (byte ∷ bytes) ≡ byte + text_number bytes * 256
unfolding text_number
text_number-cons byte bytes h =
    let sum : text_number bytes * 256 + byte ≡ byte + text_number bytes * 256 = omega arith in
    xor_comm byte (text_number bytes * 256) ∙ xor_shifted (text_number bytes) 8 byte h ∙ sum

pub text_number-at : (bytes : List ℕ) (at next count : ℕ) → next ≡ at + 1 → at < length bytes → get_or bytes at 0 < 256 → text_number (take (suc count) (drop at bytes)) ≡ get_or bytes at 0 + text_number (take count (drop next bytes)) * 256
text_number-at bytes at next count e h small =
    let following : suc at ≡ next = omega arith in
    ap (λ xs. text_number (take (suc count) xs)) (drop-cons bytes at 0 h)
    ∙ ap (λ i. text_number (get_or bytes at 0 ∷ take count (drop i bytes))) following
    ∙ text_number-cons (get_or bytes at 0) (take count (drop next bytes)) small

pub text_number-none : (bytes : List ℕ) (at : ℕ) → text_number (take 0 (drop at bytes)) ≡ 0
unfolding text_number
text_number-none bytes at = refl
