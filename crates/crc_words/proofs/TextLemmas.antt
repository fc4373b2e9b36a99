-- The remainder after a text, by the number of the text.
use Rattle.std.proofs.Common.{◌≡◌, ℕ, suc, ◌+◌, ◌*◌, ◌^◌, ◌<◌, ◌≤◌, List, [], ◌∷◌, ◌++◌, length, get_or, drop, refl, sym, ap, ◌∙◌, arith, bit_xor, length-append}
use Rattle.std.specs.Int.Bits.{xor_assoc, xor_zero_l, xor_zero_r}
use Rattle.std.proofs.Math.Nat.{mul_assoc, mul-suc, zero-mul}
use Rattle.std.proofs.lemmas.Nat.{pow-add}
use Rattle.std.proofs.lemmas.List.{at_drop_more, at_drop_all}
use Rattle.crc_words.specs.Remainder.{after_bits, remainder}
use Rattle.crc_words.specs.TextNumber.{text_number}
use Rattle.crc_words.proofs.StepLemmas.{xor_pairs, xor_shifted_both, after_bits-add, after_bits-above}

-- the remainder after the bytes of a text, from a state of any width
unfoldable pub pending : ℕ → ℕ → List ℕ → ℕ
pending polynomial state bytes = after_bits polynomial (8 * length bytes) (bit_xor state (text_number bytes))

shift-suc : (n k : ℕ) → n * 2 ^ (8 * k) * 256 ≡ n * 2 ^ (8 * suc k)
shift-suc n k =
    mul_assoc n (2 ^ (8 * k)) 256
    ∙ ap (λ m. n * m) (sym (pow-add 2 (8 * k) 8) ∙ ap (λ e. 2 ^ e) (sym (mul-suc 8 k)))

pub text_number-append : (xs ys : List ℕ) → text_number (xs ++ ys) ≡ bit_xor (text_number xs) (text_number ys * 2 ^ (8 * length xs))
unfolding text_number
text_number-append [] ys = omega (arith, xor_zero_l (text_number ys * 2 ^ (8 * 0)))
text_number-append (x ∷ xs) ys =
    let high : ℕ = text_number ys * 2 ^ (8 * length xs) in
    ap (λ n. bit_xor x (n * 256)) (text_number-append xs ys)
    ∙ ap (bit_xor x) (sym (xor_shifted_both (text_number xs) high 8))
    ∙ sym (xor_assoc x (text_number xs * 256) (high * 256))
    ∙ ap (bit_xor (bit_xor x (text_number xs * 256))) (shift-suc (text_number ys) (length xs))

-- the first bytes are divided, and what they leave is added to what stands above them
pub pending-append : (polynomial state high : ℕ) (xs ys : List ℕ) → pending polynomial (bit_xor state (high * 2 ^ (8 * length xs))) (xs ++ ys) ≡ pending polynomial (bit_xor (pending polynomial state xs) high) ys
unfolding pending
pending-append polynomial state high xs ys =
    let first : ℕ = 8 * length xs in
    let second : ℕ = 8 * length ys in
    let front : ℕ = bit_xor state (text_number xs) in
    let count : 8 * length (xs ++ ys) ≡ first + second = omega (arith, length-append xs ys) in
    let number : bit_xor (bit_xor state (high * 2 ^ first)) (text_number (xs ++ ys)) ≡ bit_xor front (bit_xor high (text_number ys) * 2 ^ first) =
    ap (bit_xor (bit_xor state (high * 2 ^ first))) (text_number-append xs ys)
    ∙ xor_pairs state (high * 2 ^ first) (text_number xs) (text_number ys * 2 ^ first)
    ∙ ap (bit_xor front) (xor_shifted_both high (text_number ys) first)
    in
    ap (λ n. after_bits polynomial n (bit_xor (bit_xor state (high * 2 ^ first)) (text_number (xs ++ ys)))) count
    ∙ ap (after_bits polynomial (first + second)) number
    ∙ after_bits-add polynomial first second (bit_xor front (bit_xor high (text_number ys) * 2 ^ first))
    ∙ ap (after_bits polynomial second) (after_bits-above polynomial first front (bit_xor high (text_number ys))
    ∙ sym (xor_assoc (after_bits polynomial first front) high (text_number ys)))

pub pending-split : (polynomial state : ℕ) (xs ys : List ℕ) → pending polynomial state (xs ++ ys) ≡ pending polynomial (pending polynomial state xs) ys
pending-split polynomial state xs ys =
    let none : state ≡ bit_xor state (0 * 2 ^ (8 * length xs)) = sym (ap (bit_xor state) (zero-mul (2 ^ (8 * length xs))) ∙ xor_zero_r state) in
    ap (λ s. pending polynomial s (xs ++ ys)) none
    ∙ pending-append polynomial state 0 xs ys
    ∙ ap (λ s. pending polynomial s ys) (xor_zero_r (pending polynomial state xs))

pending-cons : (polynomial state byte : ℕ) (bytes : List ℕ) → pending polynomial state (byte ∷ bytes) ≡ pending polynomial (after_bits polynomial 8 (bit_xor state byte)) bytes
unfolding pending text_number
pending-cons polynomial state byte bytes =
    pending-split polynomial state (byte ∷ []) bytes
    ∙ ap (λ b. pending polynomial (after_bits polynomial 8 (bit_xor state b)) bytes) (xor_zero_r byte)

pending-nil : (polynomial state : ℕ) → pending polynomial state [] ≡ state
unfolding pending text_number after_bits
pending-nil polynomial state = xor_zero_r state

pub remainder-pending : (polynomial state : ℕ) (bytes : List ℕ) → remainder polynomial state bytes ≡ pending polynomial state bytes
unfolding remainder
remainder-pending polynomial state [] = sym (pending-nil polynomial state)
remainder-pending polynomial state (byte ∷ bytes) =
    remainder-pending polynomial (after_bits polynomial 8 (bit_xor state byte)) bytes
    ∙ sym (pending-cons polynomial state byte bytes)

pub remainder-append : (polynomial state : ℕ) (first second : List ℕ) → remainder polynomial state (first ++ second) ≡ remainder polynomial (remainder polynomial state first) second
unfolding remainder
remainder-append polynomial state [] second = refl
remainder-append polynomial state (byte ∷ first) second = remainder-append polynomial (after_bits polynomial 8 (bit_xor state byte)) first second

-- ---- a loop over the bytes

pub remainder-more : (polynomial state : ℕ) (bytes : List ℕ) (i : ℕ) → i < length bytes → remainder polynomial (after_bits polynomial 8 (bit_xor state (get_or bytes i 0))) (drop (i + 1) bytes) ≡ remainder polynomial state (drop i bytes)
unfolding remainder
remainder-more polynomial state bytes i h = sym (at_drop_more (remainder polynomial state) bytes i 0 h)

pub remainder-all : (polynomial state : ℕ) (bytes : List ℕ) (i : ℕ) → length bytes ≤ i → state ≡ remainder polynomial state (drop i bytes)
unfolding remainder
remainder-all polynomial state bytes i h = sym (at_drop_all (remainder polynomial state) bytes i h)
