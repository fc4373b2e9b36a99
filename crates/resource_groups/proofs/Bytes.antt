-- The four states of a byte, and the states of a bitmap byte by byte.
use Rattle.std.proofs.Common.{◌≡◌, ◌≢◌, ℕ, zero, suc, ◌+◌, ◌*◌, ◌/◌, ◌^◌, ◌<◌, ◌≤◌, ◌==◌, cond, List, [], ◌∷◌, get_or, sym, ap, ap₂, ◌∙◌, inl, inr, arith}
use Rattle.std.specs.Prelude.{◌%◌}
use Rattle.std.proofs.lemmas.Bool.{cases_lt}
use Rattle.std.proofs.lemmas.List.FromFn.{sum_by-map-range_with_len_more}
use Rattle.gfs2_layout.specs.Bitmap.{state_at}
use Rattle.gfs2_layout.specs.Groups.{count_of}
use Rattle.resource_groups.specs.Finding.{NoneFrom}
use Rattle.resource_groups.specs.Counting.{states_upto}

-- 1 where the number is 0, and else 0
abbrev pub zero_is : ℕ → ℕ
zero_is n = cond (n == 0) 1 0

not_zero : (n : ℕ) → zero_is n ≡ 0 → n ≢ 0
not_zero zero e z = absurd (omega (arith, e))
not_zero (suc n) e z = absurd (omega (arith, z))

pub none_free : (byte : ℕ) → count_of 0 (states_upto (byte ∷ []) 4) ≡ 0 → (k : ℕ) → k < 4 → byte / 4 ^ k % 4 ≢ 0
none_free byte e zero low = not_zero (byte / 4 ^ 0 % 4) (omega (arith, e))
none_free byte e (suc zero) low = not_zero (byte / 4 ^ 1 % 4) (omega (arith, e))
none_free byte e (suc (suc zero)) low = not_zero (byte / 4 ^ 2 % 4) (omega (arith, e))
none_free byte e (suc (suc (suc zero))) low = not_zero (byte / 4 ^ 3 % 4) (omega (arith, e))
none_free byte e (suc (suc (suc (suc k)))) low = absurd (omega (arith, low))

-- ---- none is free

-- the states of a place's byte
state_in_byte : (bits : List ℕ) (i j : ℕ) → i / 4 ≡ j / 4 → state_at bits i ≡ get_or bits (j / 4) 0 / 4 ^ (i % 4) % 4
state_in_byte bits i j e = ap (λ n. get_or bits n 0 / 4 ^ (i % 4) % 4) e

pub past_byte : (bits : List ℕ) (from place byte : ℕ) → get_or bits (place / 4) 0 ≡ byte → NoneFrom bits from place → ((k : ℕ) → k < 4 → byte / 4 ^ k % 4 ≢ 0)
    → NoneFrom bits from ((place / 4 + 1) * 4)
past_byte bits from place byte is none full i low high free = elim (cases_lt i place) [
  | inr late ↦ full (i % 4) (omega arith) (ap (λ b. b / 4 ^ (i % 4) % 4) (sym is) ∙ sym (state_in_byte bits i place (same i place late high)) ∙ free)
  | inl early ↦ none i low early free
]
  where
    same : (i place : ℕ) → place ≤ i → i < (place / 4 + 1) * 4 → i / 4 ≡ place / 4
    same i place late high = omega (arith, late, high)

pub past_place : (bits : List ℕ) (from place : ℕ) → NoneFrom bits from place → state_at bits place ≢ 0 → NoneFrom bits from (place + 1)
past_place bits from place none taken i low high free = elim (cases_lt i place) [
  | inr late ↦ taken (ap (state_at bits) (same i place late high) ∙ free)
  | inl early ↦ none i low early free
]
  where
    same : (i place : ℕ) → place ≤ i → i < place + 1 → place ≡ i
    same i place late high = omega (arith, late, high)

-- ---- counted

-- one more place
pub one_more : (bits : List ℕ) (n : ℕ) → count_of 0 (states_upto bits (n + 1)) ≡ count_of 0 (states_upto bits n) + zero_is (state_at bits n)
one_more bits n = sum_by-map-range_with_len_more zero_is (state_at bits) 0 n n (omega arith)

-- four more
pub byte_more : (bits : List ℕ) (n byte : ℕ) → get_or bits n 0 ≡ byte → count_of 0 (states_upto bits (4 * (n + 1))) ≡ count_of 0 (states_upto bits (4 * n)) + count_of 0 (states_upto (byte ∷ []) 4)
byte_more bits n byte is =
    let a = one_more bits (4 * n) in
    let b = one_more bits (4 * n + 1) in
    let c = one_more bits (4 * n + 2) in
    let d = one_more bits (4 * n + 3) in
    let sa = at 0 (4 * n) (omega arith) (omega arith) in
    let sb = at 1 (4 * n + 1) (omega arith) (omega arith) in
    let sc = at 2 (4 * n + 2) (omega arith) (omega arith) in
    let sd = at 3 (4 * n + 3) (omega arith) (omega arith) in
    let end = upto (4 * (n + 1)) (4 * n + 3 + 1) (omega arith) in
    let mid = upto (4 * n + 3) (4 * n + 2 + 1) (omega arith) in
    let low = upto (4 * n + 2) (4 * n + 1 + 1) (omega arith) in
    omega (arith, a, b, c, d, sa, sb, sc, sd, end, mid, low)
  where
    upto : (m o : ℕ) → m ≡ o → count_of 0 (states_upto bits m) ≡ count_of 0 (states_upto bits o)
    upto m o e = ap (λ k. count_of 0 (states_upto bits k)) e

    at : (k i : ℕ) → i / 4 ≡ n → i % 4 ≡ k → zero_is (state_at bits i) ≡ zero_is (byte / 4 ^ k % 4)
    at k i e f = ap zero_is (ap₂ (λ m j. get_or bits m 0 / 4 ^ j % 4) e f ∙ ap (λ b. b / 4 ^ k % 4) is)
