-- How many blocks of content stand below a block.
use Rattle.std.proofs.Common.{◌≡◌, ℕ, zero, suc, ◌+◌, ◌-◌, ◌*◌, ◌/◌, ◌%◌, ◌<◌, ◌≤◌, min, refl, sym, ap, subst, ◌∙◌, arith}
use Rattle.std.proofs.lemmas.Grind.{div_ceil_times}
use Rattle.std.proofs.lemmas.Nat.{le-div}
use Rattle.std.proofs.Math.Nat.{mul_comm, one-le-mul, mul-le-mul_right, le-mul_of_pos_right, div-lt_iff_lt-mul, div-mul-le_self, div-eq_of_lt, mod-eq_of_lt, mod-le}
use Rattle.gfs2_layout.specs.Inode.{fan, span, header_length, pieces}

-- a block leads to a block at least
pub span_some : (size level : ℕ) → 512 ≤ size → 1 ≤ span size level
span_some size zero large = omega arith
span_some size (suc level) large = one-le-mul (omega arith) (span_some size level large)

span_rises_by : (size a d : ℕ) → 512 ≤ size → span size a ≤ span size (d + a)
span_rises_by size a zero large = subst (λ n. span size a ≤ span size n) (sym (zero_plus a)) (omega arith)
  where
    zero_plus : (n : ℕ) → 0 + n ≡ n
    zero_plus n = omega arith
span_rises_by size a (suc d) large =
    let up : span size (d + a) ≤ span size (d + a) * fan size header_length = le-mul_of_pos_right (span size (d + a)) (omega arith) in
    let turned : span size (d + a) * fan size header_length ≡ fan size header_length * span size (d + a) = mul_comm (span size (d + a)) (fan size header_length) in
    let next : suc d + a ≡ suc (d + a) = omega arith in
    subst (λ n. span size a ≤ span size n) (sym next) (omega (arith, up, turned, span_rises_by size a d large))

-- the further up, the more
pub span_rises : (size a b : ℕ) → 512 ≤ size → a ≤ b → span size a ≤ span size b
span_rises size a b large low =
    let same : b - a + a ≡ b = omega (arith, low) in
    subst (λ n. span size a ≤ span size n) same (span_rises_by size a (b - a) large)

-- one level further up
pub span_up : (size level s f r : ℕ) → s ≡ span size level → f ≡ fan size header_length → r ≡ s * f → r ≡ span size (level + 1)
span_up size level s f r low full up =
    let next : level + 1 ≡ suc level = omega arith in
    up ∙ (λ i. low i * full i) ∙ mul_comm (span size level) (fan size header_length) ∙ sym (ap (span size) next)

-- what is too much one level further up is too much above it
pub span_over : (m size above level s f : ℕ) → 512 ≤ size → s ≡ span size above → f ≡ fan size header_length → m ≤ s * f → above < level → m ≤ span size level
span_over m size above level s f large low full over less =
    let up : s * f ≡ span size (above + 1) = span_up size above s f (s * f) low full refl in
    omega (arith, over, up, span_rises size (above + 1) level large (omega (arith, less)))

-- a number below a divisor
pub below_quotient : (n s : ℕ) → n < s → 0 ≡ n / s
below_quotient n s less = sym (div-eq_of_lt less)

pub below_rest : (n s : ℕ) → n < s → n ≡ n % s
below_rest n s less = sym (mod-eq_of_lt less)

-- how many pieces it takes: the quotient, and one more for a rest
pub pieces_of : (n e : ℕ) → 0 < e → n / e + min 1 (n % e) ≡ pieces n e
pieces_of n e some =
    let c = n / e + min 1 (n % e) in
    let times = div_ceil_times n e some in
    let low : c ≤ (n + e - 1) / e = le-div c (n + e - 1) e some (omega (arith, times.0, times.1)) in
    let high : (n + e - 1) / e < suc c = (div-lt_iff_lt-mul some).1 (omega (arith, times.0, times.1)) in
    omega (arith, low, high)

-- so many fit where the last one's pointer is there
pub enough : (c s f : ℕ) → 1 ≤ s → (c - 1) / s < f → c ≤ f * s
enough c s f some low =
    let less : c - 1 < f * s = (div-lt_iff_lt-mul some).0 low in
    omega (arith, less)

pub too_many : (c s f : ℕ) → 1 ≤ c → f ≤ (c - 1) / s → f * s < c
too_many c s f some high =
    let more : f * s ≤ (c - 1) / s * s = mul-le-mul_right s high in
    omega (arith, some, more, div-mul-le_self (c - 1) s)

-- a rest is no more than the whole
pub rest_below : (i s left : ℕ) → left ≡ i % s → left ≤ i
rest_below i s left is = omega (arith, is, mod-le i s)
