-- How many blocks a write needs at most.
use Rattle.std.proofs.Common.{◌≡◌, ◌+◌, ◌-◌, ◌*◌, ◌/◌, ◌<◌, ◌≤◌, ◌⊎◌, ℕ, zero, suc, inl, inr, Bool, true, false, List, ◌∷◌, length, refl, sym, subst, arith, true≢false}
use Rattle.std.specs.Prelude.{◌==◌, ◌&&◌, ◌||◌, if◌then◌else◌, max, nat_lt, not}
use Rattle.std.specs.List.{range_with_len}
use Rattle.std.proofs.Math.Nat.{div-lt_iff_lt-mul, lt-div-mul-add, mul-le-mul, mul-le-mul_right, mul_assoc}
use Rattle.std.proofs.lemmas.Bool.{cases_lt, eqb-true, ltb-true}
use Rattle.std.proofs.lemmas.List.FromFn.{length-range_with_len}
use Rattle.gfs2_layout.specs.Holding.{Holding}
use Rattle.gfs2_layout.specs.Inode.{dinode_in, fan, header_length, height_in, pieces, span}
use Rattle.growth_laws.specs.Need.{capacity, has_content, height_for, is_needed, is_on_way, is_over, is_there, needed, needed_below, needed_on, raised_to}
use Rattle.image_model.proofs.Members.{IsIn, in_range}
use Rattle.image_model.proofs.Rising.{rising_range}
use Rattle.small_changes.proofs.Counting.{count_few}

pub first_of : (p q : Bool) → (p && q) ≡ true → p ≡ true
first_of true q e = refl
first_of false q e = e

pub second_of : (p q : Bool) → (p && q) ≡ true → q ≡ true
second_of true q e = e
second_of false q e = absurd (true≢false (sym e))

one_of : (p q : Bool) → (p || q) ≡ true → (p ≡ true) ⊎ (q ≡ true)
one_of true q e = inl refl
one_of false q e = inr e

-- how high a file gets
pub raised_low : (size height bytes more most : ℕ) → height + more ≤ most → raised_to size height bytes more ≤ most
raised_low size height bytes zero most low = omega (arith, low)
raised_low size height bytes (suc more) most low = by (nat_lt (capacity size height) bytes) (raised_low size (suc height) bytes more most (omega (arith, low)))
  where
    by : (t : Bool) → raised_to size (suc height) bytes more ≤ most → (if t then raised_to size (suc height) bytes more else height) ≤ most
    by true higher = higher
    by false higher = omega (arith, low)

pub height_low : (h : Holding) (bytes : ℕ) → height_in h ≤ 10 → height_for h bytes ≤ 10
height_low h bytes low = raised_low h.size (height_in h) bytes (10 - height_in h) 10 (omega (arith, low))

-- ---- how wide a place is

pub fan_large : (size : ℕ) → 512 ≤ size → 61 ≤ fan size header_length
fan_large size wide = omega (arith, wide)

pub span_some : (size level : ℕ) → 512 ≤ size → 1 ≤ span size level
span_some size zero wide = omega arith
span_some size (suc level) wide =
    let f : 1 ≤ fan size header_length = (let g = fan_large size wide in omega (arith, g)) in
    mul-le-mul f (span_some size level wide)

-- above content a place is wider than a write
wide_place : (size level : ℕ) → 512 ≤ size → 16384 < span size (suc level) * size
wide_place size level wide =
    let f : 61 ≤ fan size header_length * span size level = mul-le-mul (fan_large size wide) (span_some size level wide) in
    let all : 61 * 512 ≤ fan size header_length * span size level * size = mul-le-mul f wide in
    omega (arith, all)

-- ---- which places bytes lie over

-- between these two numbers of places
pub over : (at len width j : ℕ) → 0 < width → at < (j + 1) * width → j * width < at + len → (at / width ≤ j) × (j < at / width + (len / width + 2))
over at len width j some high low =
    let first : at / width < j + 1 = (div-lt_iff_lt-mul some).1 high in
    let a : at < at / width * width + width = lt-div-mul-add some in
    let l : len < len / width * width + width = lt-div-mul-add some in (
      omega (arith, first),
      elim (cases_lt j (at / width + (len / width + 2))) [
        | inl less ↦ less
        | inr more ↦
            let wider : (at / width + (len / width + 2)) * width ≤ j * width = mul-le-mul_right width more in
            absurd (omega (arith, wider, low, a, l))
      ],
    )

module _ (h : Holding) (wide : 512 ≤ h.size) (at len : ℕ) where
  width : ℕ → ℕ
  width level = span h.size level * h.size

  -- the first place, and those over the bytes
  abbrev places : ℕ → List ℕ
  places level = 0 ∷ range_with_len (at / (span h.size level * h.size)) (len / (span h.size level * h.size) + 2)

  width_some : (level : ℕ) → 0 < span h.size level * h.size
  width_some level =
      let one : 1 * 1 ≤ span h.size level * h.size = mul-le-mul (span_some h.size level wide) (let w : 1 ≤ h.size = omega (arith, wide) in w) in
      omega (arith, one)

  needed_place : (level j : ℕ) → is_needed h at (at + len) level j ≡ true → IsIn j (places level)
  needed_place level j e = elim (one_of (is_over h.size at (at + len) level j) (not (nat_lt level (height_in h)) && j == 0 && has_content h) (first_of (is_on_way h at (at + len) level j) (not (is_there h level j)) e)) [
    | inl lies ↦
        let begins : j * span h.size level * h.size < at + len = ltb-true (j * span h.size level * h.size) (at + len) (second_of _ _ (first_of _ _ lies)) in
        let ends : at < (j + 1) * span h.size level * h.size = ltb-true at ((j + 1) * span h.size level * h.size) (second_of _ _ lies) in
        let both = over at len (span h.size level * h.size) j (width_some level) (subst (λ n. at < n) (mul_assoc (j + 1) (span h.size level) h.size) ends) (subst (λ n. n < at + len) (mul_assoc j (span h.size level) h.size) begins) in
        inr (in_range (at / (span h.size level * h.size)) (len / (span h.size level * h.size) + 2) j both.0 both.1)
    | inr first ↦ inl (eqb-true j 0 (second_of _ _ (first_of _ _ first)))
  ]

  on_few : (level : ℕ) → needed_on h at (at + len) level ≤ len / (span h.size level * h.size) + 3
  on_few level =
      let few : needed_on h at (at + len) level ≤ length (places level)
      = count_few (is_needed h at (at + len) level) (range_with_len 0 (max 1 (pieces (at + len) (span h.size level * h.size)))) (places level) (rising_range 0 _) (λ j there is. needed_place level j is) in
      omega (arith, few, length-range_with_len (at / (span h.size level * h.size)) (len / (span h.size level * h.size) + 2))

  module _ (short : len ≤ 16384) where
    content_few : len / (span h.size 0 * h.size) ≤ 32
    content_few =
        let less : len / (span h.size 0 * h.size) < 33 = (div-lt_iff_lt-mul (width_some 0)).1 (omega (arith, short, wide)) in
        omega (arith, less)

    above_few : (level : ℕ) → len / (span h.size (suc level) * h.size) ≤ 0
    above_few level =
        let wider = wide_place h.size level wide in
        let less : len / (span h.size (suc level) * h.size) < 1 = (div-lt_iff_lt-mul (width_some (suc level))).1 (omega (arith, short, wider)) in
        omega (arith, less)

    below_few : (levels : ℕ) → needed_below h at (at + len) levels ≤ 32 + 3 * levels
    below_few zero = omega arith
    below_few (suc zero) = let few = on_few 0 in omega (arith, few, content_few)
    below_few (suc (suc level)) = let few = on_few (suc level) in let rest = below_few (suc level) in omega (arith, few, rest, above_few level)

    -- at most 35 of content, and three of each level above
    pub few_needed : height_in h ≤ 10 → needed h at len ≤ 62
    few_needed low =
        let high = height_low h (max (dinode_in h).size (at + len)) low in
        let few = below_few (height_for h (max (dinode_in h).size (at + len))) in
        omega (arith, few, high)
