-- The levels of a file's blocks: which block is which, and which leads to which.
use Rattle.std.proofs.Common.{ℕ, zero, suc, ◌≡◌, ◌+◌, ◌-◌, ◌*◌, ◌/◌, ◌<◌, ◌≤◌, ◌⊎◌, inl, inr, refl, sym, ap, ◌∙◌, subst, arith}
use Rattle.std.specs.Prelude.{◌%◌, ◌^◌, ◌==◌, if◌then◌else◌}
use Rattle.std.proofs.lemmas.Bool.{cases_lt, cases_eq, cond-true, cond-false, ne_eqb, le-leb, lt-leb}
use Rattle.std.proofs.lemmas.Bool.Decides.{nat_tests}
use Rattle.std.proofs.lemmas.Nat.{le-div, div-add-mod', mod_below}
use Rattle.std.proofs.Math.Nat.{pow-suc, pow-zero, mul_comm, mul_assoc, add-mul, mul-le-mul_right, suc-mul}
use Rattle.gfs2_layout.specs.Inode.{span}
use Rattle.mkgfs2_tool.specs.Groups.{parts}
use Rattle.mkgfs2_tool.specs.Files.{dinode_pointers, block_pointers, content_blocks, height, level_blocks, level_start, file_blocks, part}
use Rattle.mkgfs2_tool.specs.declared.files.Shape.{Shape}
use Rattle.mkgfs2_tool.specs.declared.files.Part.{Part}
use Rattle.mkgfs2_tool.specs.declared.files.Part.TheVariants.{Pointers, Content}

-- a block of a row is one of its parts exactly where it begins before the end
pub part_begins : (x c s : ℕ) → 1 ≤ s → x < parts c s → x * s < c
part_begins x c s some low =
    let enough : suc x * s ≤ (c + s - 1) / s * s = mul-le-mul_right s low in
    omega (arith, enough, suc-mul x s, div-add-mod' (c + s - 1) s, some)

pub begins_part : (x c s : ℕ) → 1 ≤ s → x * s < c → x < parts c s
begins_part x c s some low = le-div (suc x) (c + s - 1) s some (omega (arith, suc-mul x s, low, some))

-- so many parts of a length are long enough
pub parts_cover : (whole size : ℕ) → 0 < size → whole ≤ parts whole size * size
parts_cover whole size some = enough whole size (parts whole size * size) ((whole + size - 1) % size) (div-add-mod' (whole + size - 1) size) (mod_below (whole + size - 1) size some)
  where
    enough : (n e p r : ℕ) → p + r ≡ n + e - 1 → r < e → n ≤ p
    enough n e p r same low = omega (arith, same, low)

pub span_some : (size n : ℕ) → 512 ≤ size → 1 ≤ span size n
span_some size zero large = omega arith
span_some size (suc n) large = let one : 1 * span size n ≤ (size - 24) / 8 * span size n = mul-le-mul_right (span size n) (omega (arith, large)) in omega (arith, one, span_some size n large)

pub span_pow : (size n : ℕ) → block_pointers size ^ n ≡ span size n
span_pow size zero = pow-zero (block_pointers size)
span_pow size (suc n) = pow-suc (block_pointers size) n ∙ mul_comm (block_pointers size ^ n) (block_pointers size) ∙ ap (λ m. block_pointers size * m) (span_pow size n)

-- the content has room below three levels of pointers
pub record IsLow (f : Shape) : Type 0 where
  pub size : (f.size ≡ 512) ⊎ ((f.size ≡ 1024) ⊎ ((f.size ≡ 2048) ⊎ (f.size ≡ 4096)))
  pub room : content_blocks f ≤ dinode_pointers f.size * (block_pointers f.size * block_pointers f.size)

-- a block below the dinode: block i of level l
pub record IsBelow (f : Shape) (l i : ℕ) : Type 0 where
  pub some : 1 ≤ l
  pub low : l ≤ height f
  pub inside : i < level_blocks f l

-- what a block below the dinode is
abbrev pub part_below : Shape → ℕ → ℕ → Part
part_below f l i = if l == height f then Content i else Pointers l i

pub data Piece (f : Shape) (n : ℕ) : Type 0 where
  is_top : n ≡ 0 → Piece f n
  is_below : (l i : ℕ) → IsBelow f l i → n ≡ level_start f l + i → Piece f n

module _ (f : Shape) (is : IsLow f) where
  large : 512 ≤ f.size
  large = omega (arith, is.size)

  pub height_low : height f ≤ 3
  height_low = grind (arith, nat_tests)

  pub level_begins : (l i : ℕ) → i < level_blocks f l → i * span f.size (height f - l) < content_blocks f
  level_begins l i low = part_begins i (content_blocks f) (span f.size (height f - l)) (span_some f.size (height f - l) large) (subst (λ s. i < parts (content_blocks f) s) (span_pow f.size (height f - l)) low)

  pub begins_level : (l i : ℕ) → i * span f.size (height f - l) < content_blocks f → i < level_blocks f l
  begins_level l i low = subst (λ s. i < parts (content_blocks f) s) (sym (span_pow f.size (height f - l))) (begins_part i (content_blocks f) (span f.size (height f - l)) (span_some f.size (height f - l) large) low)

  -- ---- which part a block is

  pub part_here : (l i : ℕ) → IsBelow f l i → part f (level_start f l + i) ≡ part_below f l i
  part_here zero i at = absurd (omega (arith, at.some))
  part_here (suc zero) i at =
      cond-false _ _ _ (ne_eqb (1 + i) 0 (λ e. absurd (omega (arith, e))))
      ∙ cond-false _ _ _ (lt-leb (level_start f 2) (1 + i) (omega (arith, at.inside)))
      ∙ ap (part_below f 1) (gone 1 i)
    where
      gone : (a r : ℕ) → a + r - a ≡ r
      gone a r = omega arith
  part_here (suc (suc zero)) i at =
      cond-false _ _ _ (ne_eqb (level_start f 2 + i) 0 (λ e. absurd (omega (arith, e))))
      ∙ cond-true _ _ _ (le-leb (level_start f 2) (level_start f 2 + i) (omega arith))
      ∙ cond-false _ _ _ (lt-leb (level_start f 3) (level_start f 2 + i) (omega (arith, at.inside)))
      ∙ ap (part_below f 2) (gone (level_start f 2) i)
    where
      gone : (a r : ℕ) → a + r - a ≡ r
      gone a r = omega arith
  part_here (suc (suc (suc zero))) i at =
      cond-false _ _ _ (ne_eqb (level_start f 3 + i) 0 (λ e. absurd (omega (arith, e))))
      ∙ cond-true _ _ _ (le-leb (level_start f 2) (level_start f 3 + i) (omega arith))
      ∙ cond-true _ _ _ (le-leb (level_start f 3) (level_start f 3 + i) (omega arith))
      ∙ ap (part_below f 3) (gone (level_start f 3) i)
    where
      gone : (a r : ℕ) → a + r - a ≡ r
      gone a r = omega arith
  part_here (suc (suc (suc (suc l)))) i at = absurd (omega (arith, at.low, height_low))

  -- ---- each block is one of a level

  starts_rise : (l : ℕ) → 1 ≤ l → level_start f (suc l) ≡ level_start f l + level_blocks f l
  starts_rise zero some = absurd (omega (arith, some))
  starts_rise (suc l) some = refl

  pub start_low : (l m : ℕ) → 1 ≤ l → l ≤ m → level_start f l ≤ level_start f m
  start_low l zero some le = absurd (omega (arith, some, le))
  start_low l (suc m) some le = elim (cases_eq l (suc m)) [
    | inl e ↦ omega (arith, ap (level_start f) e)
    | inr d ↦ omega (arith, start_low l m some (omega (arith, le, d)), starts_rise m (omega (arith, some, le, d)))
  ]

  pub inside_file : (l i : ℕ) → IsBelow f l i → level_start f l + i < file_blocks f
  inside_file l i at = omega (arith, at.inside, starts_rise l at.some, start_low (suc l) (suc (height f)) (omega arith) (omega (arith, at.low)), same)
    where
      same : file_blocks f ≡ level_start f (suc (height f))
      same = ap (level_start f) (let e : 1 + height f ≡ suc (height f) = omega arith in e)

  find : (h n : ℕ) → 1 ≤ n → h ≤ height f → n < level_start f (suc h) → Piece f n
  find zero n some ok low = absurd (omega (arith, some, low))
  find (suc h) n some ok low = elim (cases_lt n (level_start f (suc h))) [
    | inl l ↦ find h n some (omega (arith, ok)) l
    | inr ge ↦ is_below (suc h) (n - level_start f (suc h)) (record { some = omega arith; low = ok; inside = omega (arith, low, ge) }) (omega (arith, ge))
  ]

  pub piece : (n : ℕ) → n < file_blocks f → Piece f n
  piece zero low = is_top refl
  piece (suc n) low = find (height f) (suc n) (omega arith) (omega arith) (omega (arith, low, same))
    where
      same : file_blocks f ≡ level_start f (suc (height f))
      same = ap (level_start f) (let e : 1 + height f ≡ suc (height f) = omega arith in e)

  -- a block has one level and one place in it
  pub one_level : (l i m j : ℕ) → IsBelow f l i → IsBelow f m j → level_start f l + i ≡ level_start f m + j → (l ≡ m) × (i ≡ j)
  one_level l i m j at at' e = elim (cases_lt l m) [
    | inl less ↦ absurd (omega (arith, e, at.inside, starts_rise l at.some, start_low (suc l) m (omega arith) less))
    | inr ge ↦ elim (cases_lt m l) [
      | inl less ↦ absurd (omega (arith, e, at'.inside, starts_rise m at'.some, start_low (suc m) l (omega arith) less))
      | inr le ↦ same (omega (arith, ge, le))
    ]
  ]
    where
      same : l ≡ m → (l ≡ m) × (i ≡ j)
      same s = (s, omega (arith, e, ap (level_start f) s))

  -- ---- what leads to a block

  two_spans : height f ≡ 2 → span f.size (height f - 1) ≡ block_pointers f.size
  two_spans e = ap (λ h. span f.size (h - 1)) e ∙ omega arith

  three_spans : height f ≡ 3 → span f.size (height f - 1) ≡ block_pointers f.size * block_pointers f.size
  three_spans e = ap (λ h. span f.size (h - 1)) e ∙ ap (λ m. block_pointers f.size * m) (let one : block_pointers f.size * 1 ≡ block_pointers f.size = omega arith in one)

  top_fits : (s : ℕ) → 1 ≤ s → (i : ℕ) → i * s < content_blocks f → content_blocks f ≤ dinode_pointers f.size * s → i < dinode_pointers f.size
  top_fits s some i low all = elim (cases_lt i (dinode_pointers f.size)) [
    | inl l ↦ l
    | inr ge ↦ absurd (omega (arith, low, all, mul-le-mul_right s ge))
  ]

  one_spans : height f ≡ 1 → span f.size (height f - 1) ≡ 1
  one_spans e = ap (λ h. span f.size (h - 1)) e

  pub top_room : 1 ≤ height f → content_blocks f ≤ dinode_pointers f.size * span f.size (height f - 1)
  top_room some = elim (cases_eq (height f) 1) [
    | inl one ↦ omega (arith, height_one one, ap (λ s. dinode_pointers f.size * s) (one_spans one))
    | inr more ↦ elim (cases_eq (height f) 2) [
      | inl two ↦ omega (arith, height_two two, ap (λ s. dinode_pointers f.size * s) (two_spans two))
      | inr other ↦ omega (arith, is.room, ap (λ s. dinode_pointers f.size * s) (three_spans (omega (arith, height_low, some, more, other))))
    ]
  ]
    where
      height_one : height f ≡ 1 → content_blocks f ≤ dinode_pointers f.size
      height_one e = grind (arith, nat_tests)

      height_two : height f ≡ 2 → content_blocks f ≤ dinode_pointers f.size * block_pointers f.size
      height_two e = grind (arith, nat_tests)

  pub top_narrow : (i : ℕ) → IsBelow f 1 i → i < dinode_pointers f.size
  top_narrow i at = top_fits (span f.size (height f - 1)) (span_some f.size (height f - 1) large) i (level_begins 1 i at.inside) (top_room at.low)

  -- one level's span is that of the next, for each pointer of a block
  pub span_on : (l : ℕ) → l < height f → span f.size (height f - l) ≡ block_pointers f.size * span f.size (height f - suc l)
  span_on l low = ap (span f.size) (let e : height f - l ≡ suc (height f - suc l) = omega (arith, low) in e)

  pub wide : 1 ≤ block_pointers f.size
  wide = omega (arith, is.size)

  -- the block above is one of its level
  pub above : (l i : ℕ) → 1 ≤ l → IsBelow f (suc l) i → IsBelow f l (i / block_pointers f.size)
  above l i some at = record {
    some = some;
    low = omega (arith, at.low);
    inside = begins_level l (i / block_pointers f.size) (omega (
      arith,
      level_begins (suc l) i at.inside,
      step,
      ap (λ s. i / block_pointers f.size * s) (span_on l at.low),
      mul_assoc (i / block_pointers f.size) (block_pointers f.size) (span f.size (height f - suc l)),
    ));
  }
    where
      step : i / block_pointers f.size * block_pointers f.size * span f.size (height f - suc l) ≤ i * span f.size (height f - suc l)
      step = mul-le-mul_right (span f.size (height f - suc l)) (omega (arith, div-add-mod' i (block_pointers f.size)))

  -- content begins as many blocks later as a pointer counts
  pub first_on : (l i k : ℕ) → l < height f → (i * block_pointers f.size + k) * span f.size (height f - suc l) ≡ i * span f.size (height f - l) + k * span f.size (height f - suc l)
  first_on l i k low = add-mul (i * block_pointers f.size) k (span f.size (height f - suc l))
      ∙ ap (λ n. n + k * span f.size (height f - suc l)) (mul_assoc i (block_pointers f.size) (span f.size (height f - suc l)) ∙ ap (λ s. i * s) (sym (span_on l low)))

  pub first_inside : (l i : ℕ) → IsBelow f l i → i * span f.size (height f - l) < content_blocks f
  first_inside l i at = level_begins l i at.inside
