-- Hashes, their top bits, and indexes of a table.
use Rattle.std.proofs.Common.{◌≡◌, ℕ, ◌+◌, ◌-◌, ◌*◌, ◌/◌, ◌%◌, ◌^◌, ◌<◌, ◌≤◌, ◌⊎◌, inl, inr, sym, ap, ◌∙◌, subst, arith}
use Rattle.std.proofs.Math.Nat.{div-div-eq-div-mul, lt-div-mul-add, mod-eq_of_lt, mul-div_cancel, mul-le-mul_right}
use Rattle.std.proofs.Math.Pow.{pow_mono}
use Rattle.std.proofs.lemmas.Nat.{pow-add, div_below}
use Rattle.gfs2_layout.specs.Device.{IsBlockSize}
use Rattle.gfs2_layout.specs.Inode.{top_bits}

pub some_pow : (n : ℕ) → 0 < 2 ^ n
some_pow n = let p : 2 ^ 0 ≤ 2 ^ n = pow_mono {i = 0} {j = n} (omega arith) in omega (arith, p)

-- fewer top bits are the top bits of more
pub bits_of_bits : (depth table hash : ℕ) → depth ≤ table → table ≤ 32 → top_bits table hash / 2 ^ (table - depth) ≡ top_bits depth hash
bits_of_bits depth table hash low high =
    div-div-eq-div-mul hash (2 ^ (32 - table)) (2 ^ (table - depth))
    ∙ ap (λ n. hash / n) (sym (pow-add 2 (32 - table) (table - depth)) ∙ ap (λ n. 2 ^ n) (together low high))
  where
    together : depth ≤ table → table ≤ 32 → 32 - table + (table - depth) ≡ 32 - depth
    together low high = omega arith

-- the top bits of the first hash of some
pub bits_of_first : (depth bits : ℕ) → top_bits depth (bits * 2 ^ (32 - depth)) ≡ bits
bits_of_first depth bits = mul-div_cancel bits {n = 2 ^ (32 - depth)} (some_pow (32 - depth))

-- an index is one of the table's
pub bits_low : (depth hash : ℕ) → depth ≤ 32 → hash < 2 ^ 32 → top_bits depth hash < 2 ^ depth
bits_low depth hash high small =
    div_below hash (2 ^ (32 - depth)) (2 ^ depth) (some_pow (32 - depth)) (subst (λ n. hash < n) (ap (λ n. 2 ^ n) (whole high) ∙ pow-add 2 depth (32 - depth)) small)
  where
    whole : depth ≤ 32 → 32 ≡ depth + (32 - depth)
    whole high = omega arith

-- a table that isn't longer than one may be is no deeper than a hash has bits
pub not_too_deep : (size depth : ℕ) → IsBlockSize size → 2 ^ depth ≤ 8 * size → depth ≤ 15
not_too_deep size depth is low = elim (deep_or_not depth) [ inl fits ↦ fits | inr deep ↦ absurd (let p : 2 ^ 16 ≤ 2 ^ depth = pow_mono {i = 16} {j = depth} deep in omega (arith, p, low, most size is)) ]
  where
    deep_or_not : (n : ℕ) → (n ≤ 15) ⊎ (16 ≤ n)
    deep_or_not n = grind arith

    most : (n : ℕ) → IsBlockSize n → n ≤ 4096
    most n is = omega arith

-- behind the indexes that share so many top bits with one there is an index at most the table's end
pub run_within : (index table depth : ℕ) → depth ≤ table → index < 2 ^ table → (index / 2 ^ (table - depth) + 1) * 2 ^ (table - depth) ≤ 2 ^ table
run_within index table depth low small =
    let run = 2 ^ (table - depth) in
    let all : 2 ^ table ≡ 2 ^ depth * run = ap (λ n. 2 ^ n) (whole low) ∙ pow-add 2 depth (table - depth) in
    let bits : index / run < 2 ^ depth = div_below index run (2 ^ depth) (some_pow (table - depth)) (subst (λ n. index < n) all small) in
    let le : (index / run + 1) * run ≤ 2 ^ depth * run = mul-le-mul_right run (omega (arith, bits)) in
    omega (arith, le, all)
  where
    whole : depth ≤ table → table ≡ depth + (table - depth)
    whole low = omega arith

-- such an index is that which is computed
pub run_end : (index table depth : ℕ) → depth ≤ table → table ≤ 15 → index < 2 ^ table
    → (index / 2 ^ (table - depth) + 1) * 2 ^ (table - depth) % 4294967296 ≡ (index / 2 ^ (table - depth) + 1) * 2 ^ (table - depth)
run_end index table depth low high small =
    let within : (index / 2 ^ (table - depth) + 1) * 2 ^ (table - depth) ≤ 2 ^ table = run_within index table depth low small in
    let most : 2 ^ table ≤ 2 ^ 15 = pow_mono {i = table} {j = 15} high in
    mod-eq_of_lt (omega (arith, within, most))

pub run_further : (index table depth : ℕ) → index < (index / 2 ^ (table - depth) + 1) * 2 ^ (table - depth)
run_further index table depth =
    let run = 2 ^ (table - depth) in
    let over : index < index / run * run + run = lt-div-mul-add (some_pow (table - depth)) in
    let e : (index / run + 1) * run ≡ index / run * run + run = omega arith in
    omega (arith, over, e)
