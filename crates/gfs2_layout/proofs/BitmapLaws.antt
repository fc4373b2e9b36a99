-- States in a bitmap: what is put is read again, what stands elsewhere stays, and what was packed is read.
use Rattle.std.proofs.Common.{◌≡◌, ◌≢◌, ℕ, zero, suc, ◌+◌, ◌-◌, ◌*◌, ◌/◌, ◌%◌, ◌^◌, ◌<◌, ◌≤◌, inl, inr, List, [], ◌∷◌, ◌++◌, length, get_or, refl, sym, ap, ◌∙◌, subst, arith}
use Rattle.std.proofs.Math.ListN.{set}
use Rattle.std.specs.List.{AllByRecursion}
use Rattle.std.proofs.lemmas.Bool.{cases_eq, cases_lt}
use Rattle.std.proofs.lemmas.List.{get_or-set_same, get_or-set_other}
use Rattle.gfs2_layout.specs.Bitmap.{state_at, byte_with, with_state, byte_of, packed}

-- ---- one byte

pub shift_is : (k : ℕ) → k < 4 → 2 ^ (2 * k) ≡ 4 ^ k
shift_is zero low = refl
shift_is (suc zero) low = refl
shift_is (suc (suc zero)) low = refl
shift_is (suc (suc (suc zero))) low = refl
shift_is (suc (suc (suc (suc k)))) low = absurd (omega arith)

pub byte_same : (byte k state : ℕ) → k < 4 → state < 4 → (byte_with byte k state / 4 ^ k) % 4 ≡ state
byte_same byte zero state low few = omega arith
byte_same byte (suc zero) state low few = omega arith
byte_same byte (suc (suc zero)) state low few = omega arith
byte_same byte (suc (suc (suc zero))) state low few = omega arith
byte_same byte (suc (suc (suc (suc k)))) state low few = absurd (omega arith)

pub byte_other : (byte k j state : ℕ) → k < 4 → j < 4 → j ≢ k → state < 4 → (byte_with byte k state / 4 ^ j) % 4 ≡ (byte / 4 ^ j) % 4
byte_other byte zero zero state low lower apart few = absurd (apart refl)
byte_other byte zero (suc zero) state low lower apart few = omega arith
byte_other byte zero (suc (suc zero)) state low lower apart few = omega arith
byte_other byte zero (suc (suc (suc zero))) state low lower apart few = omega arith
byte_other byte (suc zero) zero state low lower apart few = omega arith
byte_other byte (suc zero) (suc zero) state low lower apart few = absurd (apart refl)
byte_other byte (suc zero) (suc (suc zero)) state low lower apart few = omega arith
byte_other byte (suc zero) (suc (suc (suc zero))) state low lower apart few = omega arith
byte_other byte (suc (suc zero)) zero state low lower apart few = omega arith
byte_other byte (suc (suc zero)) (suc zero) state low lower apart few = omega arith
byte_other byte (suc (suc zero)) (suc (suc zero)) state low lower apart few = absurd (apart refl)
byte_other byte (suc (suc zero)) (suc (suc (suc zero))) state low lower apart few = omega arith
byte_other byte (suc (suc (suc zero))) zero state low lower apart few = omega arith
byte_other byte (suc (suc (suc zero))) (suc zero) state low lower apart few = omega arith
byte_other byte (suc (suc (suc zero))) (suc (suc zero)) state low lower apart few = omega arith
byte_other byte (suc (suc (suc zero))) (suc (suc (suc zero))) state low lower apart few = absurd (apart refl)
byte_other byte (suc (suc (suc (suc k)))) j state low lower apart few = absurd (omega arith)
byte_other byte k (suc (suc (suc (suc j)))) state low lower apart few = absurd (omega arith)

pub shifted_is : (state k : ℕ) → state < 4 → k < 4 → state * 2 ^ (2 * k) % 256 ≡ state * 4 ^ k
shifted_is state zero few low = omega arith
shifted_is state (suc zero) few low = omega arith
shifted_is state (suc (suc zero)) few low = omega arith
shifted_is state (suc (suc (suc zero))) few low = omega arith
shifted_is state (suc (suc (suc (suc k)))) few low = absurd (omega arith)

pub old_within : (byte k : ℕ) → k < 4 → (byte / 4 ^ k) % 4 * 4 ^ k ≤ byte
old_within byte zero low = omega arith
old_within byte (suc zero) low = omega arith
old_within byte (suc (suc zero)) low = omega arith
old_within byte (suc (suc (suc zero))) low = omega arith
old_within byte (suc (suc (suc (suc k)))) low = absurd (omega arith)

pub byte_fits : (byte k state : ℕ) → byte < 256 → k < 4 → state < 4 → byte_with byte k state < 256
byte_fits byte zero state short low few = omega arith
byte_fits byte (suc zero) state short low few = omega arith
byte_fits byte (suc (suc zero)) state short low few = omega arith
byte_fits byte (suc (suc (suc zero))) state short low few = omega arith
byte_fits byte (suc (suc (suc (suc k)))) state short low few = absurd (omega arith)

-- the old state is taken out, and the new one put in
pub put_in_byte : (byte k old state : ℕ) → k < 4 → state < 4 → old ≡ (byte / 4 ^ k) % 4
    → (old * 2 ^ (2 * k) % 256 ≤ byte) × (byte - old * 2 ^ (2 * k) % 256 + state * 2 ^ (2 * k) % 256 ≡ byte_with byte k state)
put_in_byte byte k old state low few is =
    let out : old * 2 ^ (2 * k) % 256 ≡ (byte / 4 ^ k) % 4 * 4 ^ k = shifted_is old k (omega arith) low ∙ ap (λ (o : ℕ). o * 4 ^ k) is in
    (subst (λ (x : ℕ). x ≤ byte) (sym out) (old_within byte k low), (λ i. byte - out i + shifted_is state k few low i))

-- ---- a bitmap

pub state_same : (bitmap : List ℕ) (i state : ℕ) → i < 4 * length bitmap → state < 4 → state_at (with_state bitmap i state) i ≡ state
state_same bitmap i state inside few =
    ap (λ (b : ℕ). (b / 4 ^ (i % 4)) % 4) (get_or-set_same bitmap (i / 4) (byte_with (get_or bitmap (i / 4) 0) (i % 4) state) 0 (omega arith))
    ∙ byte_same (get_or bitmap (i / 4) 0) (i % 4) state (omega arith) few

set_outside : (xs : List ℕ) (i x : ℕ) → length xs ≤ i → set xs i x ≡ xs
set_outside [] i x far = refl
set_outside (y ∷ ys) zero x far = absurd (omega arith)
set_outside (y ∷ ys) (suc i) x far = ap (λ (zs : List ℕ). y ∷ zs) (set_outside ys i x (omega arith))

pub state_other : (bitmap : List ℕ) (i state k : ℕ) → state < 4 → k ≢ i → state_at (with_state bitmap i state) k ≡ state_at bitmap k
state_other bitmap i state k few apart = elim (cases_lt (i / 4) (length bitmap)) [
  | inr outside ↦ ap (λ (b : List ℕ). state_at b k) (set_outside bitmap (i / 4) (byte_with (get_or bitmap (i / 4) 0) (i % 4) state) outside)
  | inl inside ↦ elim (cases_eq (k / 4) (i / 4)) [
    | inr other ↦ ap (λ (b : ℕ). (b / 4 ^ (k % 4)) % 4) (get_or-set_other bitmap (i / 4) (k / 4) (byte_with (get_or bitmap (i / 4) 0) (i % 4) state) 0 other)
    | inl same ↦ ap (λ (at : ℕ). (get_or (with_state bitmap i state) at 0 / 4 ^ (k % 4)) % 4) same
        ∙ ap (λ (b : ℕ). (b / 4 ^ (k % 4)) % 4) (get_or-set_same bitmap (i / 4) (byte_with (get_or bitmap (i / 4) 0) (i % 4) state) 0 inside)
        ∙ byte_other (get_or bitmap (i / 4) 0) (i % 4) (k % 4) state (omega arith) (omega arith) (λ e. apart (omega (arith, same, e))) few
        ∙ ap (λ (at : ℕ). (get_or bitmap at 0 / 4 ^ (k % 4)) % 4) (sym same)
  ]
]

-- ---- packed states

-- the states from the fourth on are those of the bytes behind the first
state_behind : (byte : ℕ) (bytes : List ℕ) (i : ℕ) → state_at (byte ∷ bytes) (suc (suc (suc (suc i)))) ≡ state_at bytes i
state_behind byte bytes i =
    let quotient : suc (suc (suc (suc i))) / 4 ≡ suc (i / 4) = omega arith in
    let rest : suc (suc (suc (suc i))) % 4 ≡ i % 4 = omega arith in
    ap (λ (at : ℕ). (get_or (byte ∷ bytes) at 0 / 4 ^ (suc (suc (suc (suc i))) % 4)) % 4) quotient
    ∙ ap (λ (k : ℕ). (get_or bytes (i / 4) 0 / 4 ^ k) % 4) rest

state_of_none : (i : ℕ) → state_at [] i ≡ 0
state_of_none i = none (i % 4) (omega arith)
  where
    none : (k : ℕ) → k < 4 → (0 / 4 ^ k) % 4 ≡ 0
    none zero low = refl
    none (suc zero) low = refl
    none (suc (suc zero)) low = refl
    none (suc (suc (suc zero))) low = refl
    none (suc (suc (suc (suc k)))) low = absurd (omega arith)

zero_more : (xs : List ℕ) (i : ℕ) → get_or (xs ++ 0 ∷ []) i 0 ≡ get_or xs i 0
zero_more [] zero = refl
zero_more [] (suc i) = refl
zero_more (x ∷ xs) zero = refl
zero_more (x ∷ xs) (suc i) = zero_more xs i

module _ (a b c d : ℕ) (a_low : a < 4) (b_low : b < 4) (c_low : c < 4) (d_low : d < 4) (bytes rest : List ℕ) (behind : (i : ℕ) → state_at bytes i ≡ get_or rest i 0) where
  read_on : (i : ℕ) → state_at (byte_of a b c d ∷ bytes) i ≡ get_or (a ∷ b ∷ c ∷ d ∷ rest) i 0
  read_on zero = omega arith
  read_on (suc zero) = omega arith
  read_on (suc (suc zero)) = omega arith
  read_on (suc (suc (suc zero))) = omega arith
  read_on (suc (suc (suc (suc i)))) = state_behind (byte_of a b c d) bytes i ∙ behind i

pub packed_read : (states : List ℕ) (i : ℕ) → AllByRecursion (λ s. s < 4) states → state_at (packed states) i ≡ get_or states i 0
unfolding packed
packed_read [] i low = state_of_none i
packed_read (a ∷ []) i low =
    read_on a 0 0 0 low.0 (omega arith) (omega arith) (omega arith) [] [] state_of_none i
    ∙ zero_more (a ∷ 0 ∷ 0 ∷ []) i ∙ zero_more (a ∷ 0 ∷ []) i ∙ zero_more (a ∷ []) i
packed_read (a ∷ b ∷ []) i low =
    read_on a b 0 0 low.0 low.1.0 (omega arith) (omega arith) [] [] state_of_none i
    ∙ zero_more (a ∷ b ∷ 0 ∷ []) i ∙ zero_more (a ∷ b ∷ []) i
packed_read (a ∷ b ∷ c ∷ []) i low = read_on a b c 0 low.0 low.1.0 low.1.1.0 (omega arith) [] [] state_of_none i ∙ zero_more (a ∷ b ∷ c ∷ []) i
packed_read (a ∷ b ∷ c ∷ d ∷ rest) i low =
    read_on a b c d low.0 low.1.0 low.1.1.0 low.1.1.1.0 (packed rest) rest (λ k. packed_read rest k low.1.1.1.1) i

pub packed_on : (front back : List ℕ) → length front % 4 ≡ 0 → packed (front ++ back) ≡ packed front ++ packed back
unfolding packed
packed_on [] back whole = refl
packed_on (a ∷ []) back whole = absurd (omega arith)
packed_on (a ∷ b ∷ []) back whole = absurd (omega arith)
packed_on (a ∷ b ∷ c ∷ []) back whole = absurd (omega arith)
packed_on (a ∷ b ∷ c ∷ d ∷ front) back whole = ap (λ (bytes : List ℕ). byte_of a b c d ∷ bytes) (packed_on front back (omega arith))

pub length-packed : (states : List ℕ) → length (packed states) ≡ (length states + 3) / 4
unfolding packed
length-packed [] = refl
length-packed (a ∷ []) = refl
length-packed (a ∷ b ∷ []) = refl
length-packed (a ∷ b ∷ c ∷ []) = refl
length-packed (a ∷ b ∷ c ∷ d ∷ rest) = omega (arith, length-packed rest)

pub packed_four : (states : List ℕ) → length states ≡ 4 → packed states ≡ byte_of (get_or states 0 0) (get_or states 1 0) (get_or states 2 0) (get_or states 3 0) ∷ []
unfolding packed
packed_four [] four = absurd (omega arith)
packed_four (a ∷ []) four = absurd (omega arith)
packed_four (a ∷ b ∷ []) four = absurd (omega arith)
packed_four (a ∷ b ∷ c ∷ []) four = absurd (omega arith)
packed_four (a ∷ b ∷ c ∷ d ∷ []) four = refl
packed_four (a ∷ b ∷ c ∷ d ∷ e ∷ rest) four = absurd (omega arith)
