-- Places over bytes of the content, as numbers.
use Rattle.std.proofs.Common.{◌≡◌, ◌≢◌, ◌⊎◌, inl, inr, Bool, true, false, ℕ, zero, suc, ◌+◌, ◌-◌, ◌*◌, ◌/◌, ◌%◌, ◌<◌, ◌≤◌, min, refl, sym, ap, subst, ◌∙◌, arith}
use Rattle.std.proofs.lemmas.Bool.{cases_lt, cond-true, cond-false, lt-ltb, le-ltb, ltb-true}
use Rattle.std.proofs.lemmas.Grind.{div_ceil_times}
use Rattle.std.proofs.Math.Nat.{mul-le-mul_right, le-mul_of_pos_right, div-lt_iff_lt-mul, lt-mul-div-succ, div-mul-le_self}
use Rattle.std.specs.Prelude.{◌↔◌, ◌&&◌, nat_lt}
use Rattle.gfs2_layout.specs.Inode.{fan, span}
use Rattle.gfs2_layout.specs.Structures.{dinode_length}
use Rattle.dinode_tree.proofs.Spans.{span_some}
use Rattle.growth_drafts.specs.Taken.{HasBytes}
use Rattle.growth_laws.specs.Need.{capacity, is_over, raised_to}
use Rattle.file_walks.specs.Walks.{place_above}
use Rattle.file_walks.proofs.Above.{under_above}

-- ---- tests

all_three : (a b c : Bool) → (a && b && c) ≡ true → (a ≡ true) × (b ≡ true) × (c ≡ true)
all_three true true true e = (refl, refl, refl)
all_three true true false e = absurd (cc)
all_three true false c e = absurd (cc)
all_three false b c e = absurd (cc)

pub over_parts : (size at end level j : ℕ) → is_over size at end level j ≡ true → (at < end) × (j * span size level * size < end) × (at < (j + 1) * span size level * size)
over_parts size at end level j over =
    let parts = all_three (nat_lt at end) (nat_lt (j * span size level * size) end) (nat_lt at ((j + 1) * span size level * size)) over in
    (ltb-true at end parts.0, ltb-true (j * span size level * size) end parts.1, ltb-true at ((j + 1) * span size level * size) parts.2)

pub over_of : (size at end level j : ℕ) → at < end → j * span size level * size < end → at < (j + 1) * span size level * size → is_over size at end level j ≡ true
over_of size at end level j some begins ends =
    let a : nat_lt at end ≡ true = lt-ltb at end some in
    let b : nat_lt (j * span size level * size) end ≡ true = lt-ltb (j * span size level * size) end begins in
    let c : nat_lt at ((j + 1) * span size level * size) ≡ true = lt-ltb at ((j + 1) * span size level * size) ends in
    (λ i. a i && b i && c i)

-- ---- the places of a level

pub over_places : (size at end level j r until : ℕ) → 0 < r → r ≡ span size level * size → at < end → until ≡ end / r + min 1 (end % r)
    → (is_over size at end level j ≡ true) ↔ ((at / r ≤ j) × (j < until))
over_places size at end level j r until some r_is less until_is = (to, back)
  where
    times : (end ≤ until * r) × (until * r < end + r)
    times = subst (λ n. (end ≤ n * r) × (n * r < end + r)) (sym until_is) (div_ceil_times end r some)

    here : j * r ≡ j * span size level * size
    here = ap (λ n. j * n) r_is ∙ grouped j (span size level) size
      where
        grouped : (a b c : ℕ) → a * (b * c) ≡ a * b * c
        grouped a b c = omega arith

    next : (j + 1) * r ≡ (j + 1) * span size level * size
    next = ap (λ n. (j + 1) * n) r_is ∙ grouped (j + 1) (span size level) size
      where
        grouped : (a b c : ℕ) → a * (b * c) ≡ a * b * c
        grouped a b c = omega arith

    to : is_over size at end level j ≡ true → (at / r ≤ j) × (j < until)
    to over =
        let parts = over_parts size at end level j over in
        let low : at / r < j + 1 = (div-lt_iff_lt-mul some).1 (omega (arith, parts.2, next)) in
        (omega (arith, low), before (cases_lt j until))
      where
        before : (j < until) ⊎ (until ≤ j) → j < until
        before (inl less) = less
        before (inr far) =
            let parts = over_parts size at end level j over in
            let more : until * r ≤ j * r = mul-le-mul_right r far in
            absurd (omega (arith, more, times.0, parts.1, here))

    back : (at / r ≤ j) × (j < until) → is_over size at end level j ≡ true
    back inside =
        let low : at / r < j + 1 = omega (arith, inside.0) in
        let ends : at < (j + 1) * r = (div-lt_iff_lt-mul some).0 low in
        let more : (j + 1) * r ≤ until * r = mul-le-mul_right r (let le : j + 1 ≤ until = omega (arith, inside.1) in le) in
        let one : (j + 1) * r ≡ j * r + r = omega arith in
        over_of size at end level j less (omega (arith, more, one, times.1, here)) (omega (arith, ends, next))

pub few_places : (end r : ℕ) → 0 < r → end / r + min 1 (end % r) ≤ end
few_places end r some = elim (cases_lt end (end / r + min 1 (end % r))) [
  | inl far ↦
      let times = div_ceil_times end r some in
      let less : (end / r + min 1 (end % r)) * r < end + r = times.1 in
      let more : (end + 1) * r ≤ (end / r + min 1 (end % r)) * r = mul-le-mul_right r (let le : end + 1 ≤ end / r + min 1 (end % r) = omega (arith, far) in le) in
      let one : (end + 1) * r ≡ end * r + r = omega arith in
      let wide : end ≤ end * r = le-mul_of_pos_right end some in
      absurd (omega (arith, less, more, one, wide))
  | inr low ↦ low
]

pub ordered_places : (at end r : ℕ) → 0 < r → at < end → at / r ≤ end / r + min 1 (end % r)
ordered_places at end r some less = elim (cases_lt (end / r + min 1 (end % r)) (at / r)) [
  | inl far ↦
      let times = div_ceil_times end r some in
      let more : (end / r + min 1 (end % r)) * r ≤ at / r * r = mul-le-mul_right r (let le : end / r + min 1 (end % r) ≤ at / r = omega (arith, far) in le) in
      absurd (omega (arith, times.0, more, div-mul-le_self at r, less))
  | inr low ↦ low
]

-- ---- blocks of content

pub bytes_of_over : (size at end i : ℕ) → is_over size at end 0 i ≡ true → HasBytes size at end i
bytes_of_over size at end i over =
    let parts = over_parts size at end 0 i over in
    let here : i * 1 * size ≡ i * size = omega arith in
    let next : (i + 1) * 1 * size ≡ (i + 1) * size = omega arith in
    record { some = parts.0; begins = omega (arith, parts.1, here); ends = omega (arith, parts.2, next) }

pub over_of_bytes : (size at end i : ℕ) → HasBytes size at end i → is_over size at end 0 i ≡ true
over_of_bytes size at end i has =
    let here : i * 1 * size ≡ i * size = omega arith in
    let next : (i + 1) * 1 * size ≡ (i + 1) * size = omega arith in
    over_of size at end 0 i has.some (omega (arith, has.begins, here)) (omega (arith, has.ends, next))

-- below a place over the bytes stands a block of content with some of them
pub over_has : (size at end level j : ℕ) → 512 ≤ size → is_over size at end level j ≡ true → (i : ℕ) × HasBytes size at end i × (j * span size level ≤ i) × (i < (j + 1) * span size level)
over_has size at end level j large over = elim (cases_lt (at / size) (j * span size level)) [
  | inl before ↦ (
    j * span size level,
    record {
      some = parts.0;
      begins = parts.1;
      ends =
          let lasts : at < (at / size + 1) * size = omega (arith, lt-mul-div-succ at some, turned size (at / size + 1)) in
          let more : (at / size + 1) * size ≤ (j * span size level + 1) * size = mul-le-mul_right size (let le : at / size + 1 ≤ j * span size level + 1 = omega (arith, before) in le) in
          omega (arith, lasts, more);
    },
    (let same : j * span size level ≤ j * span size level = omega arith in same),
    (let below : 1 ≤ span size level = span_some size level large in
        let one : (j + 1) * span size level ≡ j * span size level + span size level = omega arith in
        omega (arith, below, one)),
  )
  | inr behind ↦ (
    at / size,
    record {
      some = parts.0;
      begins = omega (arith, div-mul-le_self at size, parts.0);
      ends = omega (arith, lt-mul-div-succ at some, turned size (at / size + 1));
    },
    behind,
    (div-lt_iff_lt-mul some).1 parts.2,
  )
]
  where
    parts : (at < end) × (j * span size level * size < end) × (at < (j + 1) * span size level * size)
    parts = over_parts size at end level j over

    some : 0 < size
    some = omega (arith, large)

    turned : (a b : ℕ) → a * b ≡ b * a
    turned a b = omega arith

-- each place above a block of content with some of the bytes is over them
pub over_above : (size at end i l : ℕ) → 512 ≤ size → HasBytes size at end i → is_over size at end l (place_above size 0 i l) ≡ true
over_above size at end i l large has =
    let one : i * 1 ≡ i = omega arith in
    let under = under_above size 0 i l i large (omega arith) (omega (arith, one)) (omega arith) in
    let begins : place_above size 0 i l * span size l * size ≤ i * size = mul-le-mul_right size under.0 in
    let next : (place_above size 0 i l + 1) * span size l ≡ place_above size 0 i l * span size l + span size l = omega arith in
    let ends : (i + 1) * size ≤ (place_above size 0 i l + 1) * span size l * size
    = mul-le-mul_right size (let le : i + 1 ≤ (place_above size 0 i l + 1) * span size l = omega (arith, under.1, next) in le) in
    over_of size at end l (place_above size 0 i l) has.some (omega (arith, begins, has.begins)) (omega (arith, ends, has.ends))

-- ---- the height

pub capacity_is : (size height reach f c : ℕ) → height ≢ 0 → reach ≡ span size (height - 1) * size → f ≡ fan size dinode_length → c ≡ reach * f → c ≡ capacity size height
capacity_is size zero reach f c some reach_is f_is c_is = absurd (some refl)
capacity_is size (suc level) reach f c some reach_is f_is c_is =
    let back : suc level - 1 ≡ level = omega arith in
    c_is ∙ (λ i. (reach_is ∙ ap (λ n. span size n * size) back) i * f_is i) ∙ turned (span size level) size (fan size dinode_length)
  where
    turned : (a b c : ℕ) → a * b * c ≡ c * a * b
    turned a b c = omega arith

pub capacity_large : (m size height : ℕ) → height ≢ 0 → 512 ≤ size → m ≤ span size (height - 1) * size → m ≤ capacity size height
capacity_large m size zero some large far = absurd (some refl)
capacity_large m size (suc level) some large far =
    let back : suc level - 1 ≡ level = omega arith in
    let wide : span size level * size ≤ span size level * size * fan size dinode_length = le-mul_of_pos_right (span size level * size) (omega arith) in
    omega (arith, subst (λ n. m ≤ span size n * size) back far, wide, turned (span size level) size (fan size dinode_length))
  where
    turned : (a b c : ℕ) → a * b * c ≡ c * a * b
    turned a b c = omega arith

-- a height that has room stays
pub raised_stays : (size height bytes more : ℕ) → bytes ≤ capacity size height → raised_to size height bytes more ≡ height
raised_stays size height bytes zero room = refl
raised_stays size height bytes (suc more) room = cond-false _ _ _ (le-ltb (capacity size height) bytes room)

-- and one that hasn't rises
pub raised_more : (size height bytes : ℕ) → height < 10 → ¬ (bytes ≤ capacity size height) → raised_to size height bytes (10 - height) ≡ raised_to size (height + 1) bytes (10 - (height + 1))
raised_more size height bytes low full =
    let more : 10 - height ≡ suc (10 - (height + 1)) = omega (arith, low) in
    let next : suc height ≡ height + 1 = omega arith in
    ap (raised_to size height bytes) more ∙ cond-true _ _ _ (lt-ltb (capacity size height) bytes (less (cases_lt (capacity size height) bytes)))
    ∙ ap (λ n. raised_to size n bytes (10 - (height + 1))) next
  where
    less : (capacity size height < bytes) ⊎ (bytes ≤ capacity size height) → capacity size height < bytes
    less (inl over) = over
    less (inr room) = absurd (full room)
