-- Several states side by side, each 64 bits above the one before.
use Rattle.std.proofs.Common.{◌≡◌, ℕ, zero, suc, ◌+◌, ◌-◌, ◌*◌, ◌^◌, ◌≤◌, List, [], ◌∷◌, ◌++◌, length, take, drop, map, refl, sym, ap, ◌∙◌, arith, bit_xor, length-drop, drop-drop}
use Rattle.std.specs.Int.Bits.{xor_assoc, xor_zero_r}
use Rattle.std.proofs.Math.Seq.{take-add, take-length}
use Rattle.std.proofs.lemmas.List.{take-append-drop, length-take-le}
use Rattle.crc_words.specs.Remainder.{after_bits, remainder}
use Rattle.crc_words.specs.TextNumber.{text_number}
use Rattle.crc_words.proofs.StepLemmas.{xor_pairs, xor_shifted_both, after_bits-xor, after_bits-zero, after_bits-add, after_bits-shifted}
use Rattle.crc_words.proofs.TextLemmas.{pending, pending-append, pending-split, remainder-pending, text_number-append}

-- the number of a row of words
unfoldable pub row : List ℕ → ℕ
row [] = 0
row (word ∷ words) = bit_xor word (row words * 2 ^ 64)

-- one word of each row added to one of the other
unfoldable pub sums : List ℕ → List ℕ → List ℕ
sums [] ys = []
sums (x ∷ xs) [] = []
sums (x ∷ xs) (y ∷ ys) = bit_xor x y ∷ sums xs ys

row-sums : (xs ys : List ℕ) → length xs ≡ length ys → row (sums xs ys) ≡ bit_xor (row xs) (row ys)
unfolding row sums
row-sums [] [] h = refl
row-sums [] (y ∷ ys) h = cc
row-sums (x ∷ xs) [] h = cc
row-sums (x ∷ xs) (y ∷ ys) h =
    let rest : length xs ≡ length ys = omega arith in
    ap (λ n. bit_xor (bit_xor x y) (n * 2 ^ 64)) (row-sums xs ys rest)
    ∙ ap (bit_xor (bit_xor x y)) (sym (xor_shifted_both (row xs) (row ys) 64))
    ∙ xor_pairs x y (row xs * 2 ^ 64) (row ys * 2 ^ 64)

-- the words of a text from a place on
unfoldable pub words : ℕ → ℕ → List ℕ → List ℕ
words at zero bytes = []
words at (suc count) bytes = text_number (take 8 (drop at bytes)) ∷ words (at + 8) count bytes

row-words : (at count : ℕ) (bytes : List ℕ) → at + 8 * count ≤ length bytes → text_number (take (8 * count) (drop at bytes)) ≡ row (words at count bytes)
unfolding row words text_number
row-words at zero bytes h = refl
row-words at (suc count) bytes h =
    let bits : 8 * suc count ≡ 8 + 8 * count = omega arith in
    let split : take (8 * suc count) (drop at bytes) ≡ take 8 (drop at bytes) ++ take (8 * count) (drop (at + 8) bytes) =
    ap (λ n. take n (drop at bytes)) bits
    ∙ take-add 8 (8 * count) (drop at bytes)
    ∙ ap (λ rest. take 8 (drop at bytes) ++ take (8 * count) rest) (drop-drop 8 at bytes)
    in
    let first : length (take 8 (drop at bytes)) ≡ 8 = length-take-le 8 (drop at bytes) (omega (arith, length-drop at bytes)) in
    ap text_number split
    ∙ text_number-append (take 8 (drop at bytes)) (take (8 * count) (drop (at + 8) bytes))
    ∙ ap (λ n. bit_xor (text_number (take 8 (drop at bytes))) (text_number (take (8 * count) (drop (at + 8) bytes)) * 2 ^ (8 * n))) first
    ∙ ap (λ n. bit_xor (text_number (take 8 (drop at bytes))) (n * 2 ^ 64)) (row-words (at + 8) count bytes (omega arith))

-- A state above the others may be divided by itself, where enough bits follow.
after_bits-lane : (polynomial low count this high high' : ℕ) → after_bits polynomial low (after_bits polynomial count high) ≡ after_bits polynomial low high' → after_bits polynomial (64 + low) (after_bits polynomial count (bit_xor this (high * 2 ^ 64))) ≡ after_bits polynomial (64 + low) (bit_xor (after_bits polynomial count this) (high' * 2 ^ 64))
after_bits-lane polynomial low count this high high' same =
    let far : after_bits polynomial (64 + low) (after_bits polynomial count (high * 2 ^ 64)) ≡ after_bits polynomial (64 + low) (high' * 2 ^ 64) =
    let order : count + (64 + low) ≡ 64 + (count + low) = omega arith in
    sym (after_bits-add polynomial count (64 + low) (high * 2 ^ 64))
    ∙ ap (λ n. after_bits polynomial n (high * 2 ^ 64)) order
    ∙ after_bits-add polynomial 64 (count + low) (high * 2 ^ 64)
    ∙ ap (after_bits polynomial (count + low)) (after_bits-shifted polynomial 64 high)
    ∙ after_bits-add polynomial count low high
    ∙ same
    ∙ sym (ap (after_bits polynomial low) (after_bits-shifted polynomial 64 high'))
    ∙ sym (after_bits-add polynomial 64 low (high' * 2 ^ 64))
    in
    ap (after_bits polynomial (64 + low)) (after_bits-xor polynomial count this (high * 2 ^ 64))
    ∙ after_bits-xor polynomial (64 + low) (after_bits polynomial count this) (after_bits polynomial count (high * 2 ^ 64))
    ∙ ap (bit_xor (after_bits polynomial (64 + low) (after_bits polynomial count this))) far
    ∙ sym (after_bits-xor polynomial (64 + low) (after_bits polynomial count this) (high' * 2 ^ 64))

after_bits-row : (polynomial steps count : ℕ) (zs : List ℕ) → 64 * length zs ≤ steps + 64 → after_bits polynomial steps (after_bits polynomial count (row zs)) ≡ after_bits polynomial steps (row (map (after_bits polynomial count) zs))
unfolding row
after_bits-row polynomial steps count [] h = ap (after_bits polynomial steps) (after_bits-zero polynomial count)
after_bits-row polynomial steps count (z ∷ []) h =
    ap (after_bits polynomial steps) (ap (after_bits polynomial count) (xor_zero_r z) ∙ sym (xor_zero_r (after_bits polynomial count z)))
after_bits-row polynomial steps count (z ∷ (y ∷ zs)) h =
    let low : ℕ = steps - 64 in
    let e : 64 + low ≡ steps = omega arith in
    ap (λ n. after_bits polynomial n (after_bits polynomial count (row (z ∷ (y ∷ zs))))) (sym e)
    ∙ after_bits-lane polynomial low count z (row (y ∷ zs)) (row (map (after_bits polynomial count) (y ∷ zs))) (after_bits-row polynomial low count (y ∷ zs) (omega arith))
    ∙ ap (λ n. after_bits polynomial n (row (map (after_bits polynomial count) (z ∷ (y ∷ zs))))) e

length-words : (at count : ℕ) (bytes : List ℕ) → length (words at count bytes) ≡ count
unfolding words
length-words at zero bytes = refl
length-words at (suc count) bytes = ap suc (length-words (at + 8) count bytes)

length-sums : (xs ys : List ℕ) → length xs ≡ length ys → length (sums xs ys) ≡ length xs
unfolding sums
length-sums [] ys h = refl
length-sums (x ∷ xs) [] h = cc
length-sums (x ∷ xs) (y ∷ ys) h = ap suc (length-sums xs ys (omega arith))

-- every state takes a word, and each goes on by itself
pub pending-row : (polynomial count : ℕ) (states bytes : List ℕ) → length states ≡ count → 8 * count + 8 * count ≤ length bytes + 8 → 8 * count ≤ length bytes → pending polynomial (row states) bytes ≡ pending polynomial (row (map (after_bits polynomial (64 * count)) (sums states (words 0 count bytes)))) (drop (8 * count) bytes)
unfolding pending
pending-row polynomial count states bytes same room fits =
    let block : List ℕ = take (8 * count) bytes in
    let rest : List ℕ = drop (8 * count) bytes in
    let zs : List ℕ = sums states (words 0 count bytes) in
    let length_block : length block ≡ 8 * count = length-take-le (8 * count) bytes fits in
    let bits : 8 * length block ≡ 64 * count = omega arith in
    let added : bit_xor (row states) (text_number block) ≡ row zs =
    let level : length states ≡ length (words 0 count bytes) = same ∙ sym (length-words 0 count bytes) in
    ap (bit_xor (row states)) (row-words 0 count bytes (omega arith)) ∙ sym (row-sums states (words 0 count bytes) level)
    in
    let enough : 64 * length zs ≤ 8 * length rest + 64 =
    let level : length states ≡ length (words 0 count bytes) = same ∙ sym (length-words 0 count bytes) in
    omega (arith, length-sums states (words 0 count bytes) level, length-drop (8 * count) bytes)
    in
    let divided : pending polynomial (row states) block ≡ after_bits polynomial (64 * count) (row zs) =
    ap (λ n. after_bits polynomial n (bit_xor (row states) (text_number block))) bits ∙ ap (after_bits polynomial (64 * count)) added
    in
    ap (pending polynomial (row states)) (sym (take-append-drop (8 * count) bytes))
    ∙ pending-split polynomial (row states) block rest
    ∙ ap (λ s. pending polynomial s rest) divided
    ∙ after_bits-xor polynomial (8 * length rest) (after_bits polynomial (64 * count) (row zs)) (text_number rest)
    ∙ ap (λ n. bit_xor n (after_bits polynomial (8 * length rest) (text_number rest))) (after_bits-row polynomial (8 * length rest) (64 * count) zs enough)
    ∙ sym (after_bits-xor polynomial (8 * length rest) (row (map (after_bits polynomial (64 * count)) zs)) (text_number rest))

-- the lowest state takes a word, and joins what stands above it
above-word : (polynomial state high : ℕ) (bytes : List ℕ) → 8 ≤ length bytes → pending polynomial (bit_xor state (high * 2 ^ 64)) bytes ≡ pending polynomial (bit_xor (after_bits polynomial 64 (bit_xor state (text_number (take 8 bytes)))) high) (drop 8 bytes)
unfolding pending
above-word polynomial state high bytes h =
    let length_first : length (take 8 bytes) ≡ 8 = length-take-le 8 bytes h in
    ap (pending polynomial (bit_xor state (high * 2 ^ 64))) (sym (take-append-drop 8 bytes))
    ∙ ap (λ n. pending polynomial (bit_xor state (high * 2 ^ (8 * n))) (take 8 bytes ++ drop 8 bytes)) (sym length_first)
    ∙ pending-append polynomial state high (take 8 bytes) (drop 8 bytes)
    ∙ ap (λ n. pending polynomial (bit_xor (after_bits polynomial (8 * n) (bit_xor state (text_number (take 8 bytes)))) high) (drop 8 bytes)) length_first

pub pending-join : (polynomial first second : ℕ) (states bytes : List ℕ) → 8 ≤ length bytes → pending polynomial (row (first ∷ (second ∷ states))) bytes ≡ pending polynomial (row (bit_xor (after_bits polynomial 64 (bit_xor first (text_number (take 8 bytes)))) second ∷ states)) (drop 8 bytes)
unfolding row
pending-join polynomial first second states bytes h =
    let left : ℕ = after_bits polynomial 64 (bit_xor first (text_number (take 8 bytes))) in
    above-word polynomial first (row (second ∷ states)) bytes h
    ∙ ap (λ n. pending polynomial n (drop 8 bytes)) (sym (xor_assoc left second (row states * 2 ^ 64)))

pub row-one : (state : ℕ) → row (state ∷ []) ≡ state
unfolding row
row-one state = xor_zero_r state

-- the state takes a word
pub pending-word : (polynomial state : ℕ) (bytes : List ℕ) → 8 ≤ length bytes → pending polynomial state bytes ≡ pending polynomial (after_bits polynomial 64 (bit_xor state (text_number (take 8 bytes)))) (drop 8 bytes)
pending-word polynomial state bytes h =
    ap (λ n. pending polynomial n bytes) (sym (xor_zero_r state))
    ∙ above-word polynomial state 0 bytes h
    ∙ ap (λ n. pending polynomial n (drop 8 bytes)) (xor_zero_r (after_bits polynomial 64 (bit_xor state (text_number (take 8 bytes)))))

pub remainder-word : (polynomial state : ℕ) (bytes : List ℕ) → 8 ≤ length bytes → remainder polynomial state bytes ≡ remainder polynomial (after_bits polynomial 64 (bit_xor state (text_number (take 8 bytes)))) (drop 8 bytes)
remainder-word polynomial state bytes h =
    let left : ℕ = after_bits polynomial 64 (bit_xor state (text_number (take 8 bytes))) in
    remainder-pending polynomial state bytes
    ∙ pending-word polynomial state bytes h
    ∙ sym (remainder-pending polynomial left (drop 8 bytes))

-- the rest of a slice, as code takes it
pub take-rest : (count : ℕ) (bytes : List ℕ) → take (length bytes - count) (drop count bytes) ≡ drop count bytes
take-rest count bytes =
    ap (λ n. take n (drop count bytes)) (sym (length-drop count bytes)) ∙ take-length (drop count bytes)

-- ---- the four lanes of a long text

pub lanes-begin : (polynomial state : ℕ) (bytes : List ℕ) → pending polynomial (row (state ∷ (0 ∷ (0 ∷ (0 ∷ []))))) bytes ≡ remainder polynomial state bytes
unfolding row
lanes-begin polynomial state bytes =
    ap (λ n. pending polynomial n bytes) (xor_zero_r state) ∙ sym (remainder-pending polynomial state bytes)

module _ (polynomial a b c d a' b' c' d' : ℕ) (bytes : List ℕ) where
  pub lanes-step : 64 ≤ length bytes → a' ≡ after_bits polynomial 256 (bit_xor a (text_number (take 8 (drop 0 bytes)))) → b' ≡ after_bits polynomial 256 (bit_xor b (text_number (take 8 (drop 8 bytes)))) → c' ≡ after_bits polynomial 256 (bit_xor c (text_number (take 8 (drop 16 bytes)))) → d' ≡ after_bits polynomial 256 (bit_xor d (text_number (take 8 (drop 24 bytes)))) → pending polynomial (row (a' ∷ (b' ∷ (c' ∷ (d' ∷ []))))) (drop 32 bytes) ≡ pending polynomial (row (a ∷ (b ∷ (c ∷ (d ∷ []))))) bytes
  unfolding sums words
  lanes-step h ea eb ec ed =
      let lanes = pending-row polynomial 4 (a ∷ (b ∷ (c ∷ (d ∷ [])))) bytes refl (omega arith) (omega arith) in
      let same : a' ∷ (b' ∷ (c' ∷ (d' ∷ []))) ≡ map (after_bits polynomial 256) (sums (a ∷ (b ∷ (c ∷ (d ∷ [])))) (words 0 4 bytes)) = cc in
      ap (λ xs. pending polynomial (row xs) (drop 32 bytes)) same ∙ sym lanes

  pub lanes-join : 32 ≤ length bytes → a' ≡ after_bits polynomial 64 (bit_xor a (text_number (take 8 (drop 0 bytes)))) → b' ≡ after_bits polynomial 64 (bit_xor (bit_xor a' b) (text_number (take 8 (drop 8 bytes)))) → c' ≡ after_bits polynomial 64 (bit_xor (bit_xor b' c) (text_number (take 8 (drop 16 bytes)))) → d' ≡ after_bits polynomial 64 (bit_xor (bit_xor c' d) (text_number (take 8 (drop 24 bytes)))) → remainder polynomial d' (drop 32 bytes) ≡ pending polynomial (row (a ∷ (b ∷ (c ∷ (d ∷ []))))) bytes
  lanes-join h ea eb ec ed =
      let first : pending polynomial (row (a ∷ (b ∷ (c ∷ (d ∷ []))))) bytes ≡ pending polynomial (row (bit_xor a' b ∷ (c ∷ (d ∷ [])))) (drop 8 bytes) =
      pending-join polynomial a b (c ∷ (d ∷ [])) bytes (omega arith)
      ∙ ap (λ n. pending polynomial (row (bit_xor n b ∷ (c ∷ (d ∷ [])))) (drop 8 bytes)) (sym ea)
      in
      let second : pending polynomial (row (bit_xor a' b ∷ (c ∷ (d ∷ [])))) (drop 8 bytes) ≡ pending polynomial (row (bit_xor b' c ∷ (d ∷ []))) (drop 16 bytes) =
      pending-join polynomial (bit_xor a' b) c (d ∷ []) (drop 8 bytes) (omega (arith, length-drop 8 bytes))
      ∙ ap (λ n. pending polynomial (row (bit_xor n c ∷ (d ∷ []))) (drop 8 (drop 8 bytes))) (sym eb)
      ∙ ap (pending polynomial (row (bit_xor b' c ∷ (d ∷ [])))) (drop-drop 8 8 bytes)
      in
      let third : pending polynomial (row (bit_xor b' c ∷ (d ∷ []))) (drop 16 bytes) ≡ pending polynomial (row (bit_xor c' d ∷ [])) (drop 24 bytes) =
      pending-join polynomial (bit_xor b' c) d [] (drop 16 bytes) (omega (arith, length-drop 16 bytes))
      ∙ ap (λ n. pending polynomial (row (bit_xor n d ∷ [])) (drop 8 (drop 16 bytes))) (sym ec)
      ∙ ap (pending polynomial (row (bit_xor c' d ∷ []))) (drop-drop 8 16 bytes)
      in
      let last : pending polynomial (row (bit_xor c' d ∷ [])) (drop 24 bytes) ≡ pending polynomial d' (drop 32 bytes) =
      ap (λ n. pending polynomial n (drop 24 bytes)) (row-one (bit_xor c' d))
      ∙ pending-word polynomial (bit_xor c' d) (drop 24 bytes) (omega (arith, length-drop 24 bytes))
      ∙ ap (λ n. pending polynomial n (drop 8 (drop 24 bytes))) (sym ed)
      ∙ ap (pending polynomial d') (drop-drop 8 24 bytes)
      in
      remainder-pending polynomial d' (drop 32 bytes) ∙ sym (first ∙ second ∙ third ∙ last)
