-- Numbers that are kept below the greatest of 64 bits.
use Rattle.std.proofs.Common.{◌≡◌, ℕ, zero, suc, ◌+◌, ◌-◌, ◌*◌, ◌/◌, ◌%◌, ◌^◌, ◌<◌, ◌≤◌, min, inl, inr, sym, ap, subst, ◌∙◌, arith}
use Rattle.std.proofs.lemmas.Nat.{pow-add, div-add-mod'}
use Rattle.std.proofs.Math.Nat.{lt_of_mul-lt-mul_right, mul-le-mul_right, min-eq_left, min-eq_right, mul_comm, le-mul_of_pos_right, one-le-mul}
use Rattle.std.proofs.lemmas.Bool.{cases_lt}
use Rattle.gfs2_layout.specs.Inode.{fan, span, header_length}

at_most : (m a f : ℕ) → a ≤ m → min (min a m * f) m ≡ min (f * a) m
at_most m a f low =
    let same : min a m ≡ a = min-eq_left low in
    ap (λ n. min (n * f) m) same ∙ ap (λ n. min n m) (mul_comm a f)

above : (m a f : ℕ) → m < a → min (min a m * f) m ≡ min (f * a) m
above m a zero high = grind arith
above m a (suc g) high =
    let same : min a m ≡ m = min-eq_right (omega arith) in
    let left : m ≤ m * suc g = le-mul_of_pos_right m (omega arith) in
    let more : a ≤ a * suc g = le-mul_of_pos_right a (omega arith) in
    let turned : a * suc g ≡ suc g * a = mul_comm a (suc g) in
    let right : m ≤ suc g * a = omega (arith, more, turned, high) in
    ap (λ n. min (n * suc g) m) same ∙ min-eq_right left ∙ sym (min-eq_right right)

-- a product of a number that was cut off at the greatest, cut off too
pub capped_product : (m a f : ℕ) → min (min a m * f) m ≡ min (f * a) m
capped_product m a f = elim (cases_lt m a) [ inl high ↦ above m a f high | inr low ↦ at_most m a f low ]

-- a block leads to a block at least
pub span_some : (size level : ℕ) → 512 ≤ size → 1 ≤ span size level
span_some size zero large = omega arith
span_some size (suc level) large = one-le-mul (omega arith) (span_some size level large)

-- one level further up
pub span_up : (m size level s f r : ℕ) → s ≡ min (span size level) m → f ≡ fan size header_length → r ≡ min (s * f) m → r ≡ min (span size (level + 1)) m
span_up m size level s f r low full up =
    let e : level + 1 ≡ suc level = omega arith in
    up ∙ (λ i. min (low i * full i) m) ∙ capped_product m (span size level) (fan size header_length) ∙ sym (ap (λ n. min (span size n) m) e)

-- a multiple below a greater one has room for one more
room_above : (p m q : ℕ) → q * p < m * p → q * p + p ≤ m * p
room_above p m q below =
    let less : q < m = lt_of_mul-lt-mul_right p below in
    let more : suc q * p ≤ m * p = mul-le-mul_right p (omega arith) in
    omega (arith, more)

-- a number below a power, at a multiple of a lesser power of the same base, has room for that power
pub aligned : (i k d : ℕ) → k ≤ d → i < 2 ^ d → i % 2 ^ k ≡ 0 → i + 2 ^ k ≤ 2 ^ d
aligned i k d low below whole =
    let m = d - k in
    let same : d ≡ m + k = omega arith in
    let both : 2 ^ d ≡ 2 ^ m * 2 ^ k = ap (λ n. 2 ^ n) same ∙ pow-add 2 m k in
    let split : i / 2 ^ k * 2 ^ k + i % 2 ^ k ≡ i = div-add-mod' i (2 ^ k) in
    let room : i / 2 ^ k * 2 ^ k + 2 ^ k ≤ 2 ^ m * 2 ^ k = room_above (2 ^ k) (2 ^ m) (i / 2 ^ k) (omega (arith, split, both, whole, below)) in
    omega (arith, split, both, whole, room)

-- the same of so many pointers that lead to one leaf
pub aligned_run : (i run d depth : ℕ) → run ≡ 2 ^ (d - depth) → i < 2 ^ d → i % run ≡ 0 → i + run ≤ 2 ^ d
aligned_run i run d depth is below whole =
    let P : ℕ → Type 0 = λ n. i % n ≡ 0 → i + n ≤ 2 ^ d in
    subst P (sym is) (λ w. aligned i (d - depth) d (omega arith) below w) whole

-- what is above a product that was cut off is above the product
pub not_capped : (m f s c : ℕ) → c ≤ m → min (f * min s m) m < c → f * s < c
not_capped m f s c small below =
    let same : min (f * min s m) m ≡ min (f * s) m = ap (λ n. min n m) (mul_comm f (min s m)) ∙ capped_product m s f in
    omega (arith, same, below, small)
