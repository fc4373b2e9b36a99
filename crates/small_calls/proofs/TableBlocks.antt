-- The blocks below a directory's dinode are few: those of its table, and of each level above at most two.
use Rattle.std.proofs.Common.{◌≡◌, ◌+◌, ◌-◌, ◌*◌, ◌/◌, ◌%◌, ◌<◌, ◌≤◌, ℕ, zero, suc, inl, inr, true, List, ◌++◌, length, map, refl, sym, ap, ap₂, subst, ◌∙◌, arith}
use Rattle.std.specs.List.{range_with_len}
use Rattle.std.proofs.Math.ListN.{length-append, length-map}
use Rattle.std.proofs.Math.Nat.{mul-le-mul, mul-le-mul_left}
use Rattle.std.proofs.lemmas.Bool.{cases_lt, cond-true}
use Rattle.std.proofs.lemmas.List.FromFn.{length-range_with_len}
use Rattle.std.proofs.lemmas.Nat.{div-mul-add, mod-mul-add, mul-add-lt}
use Rattle.gfs2_layout.specs.Holding.{Holding}
use Rattle.gfs2_layout.specs.Inode.{HasTree, IsInode, Leads, content_count, dinode_in, fan, from_block, from_dinode, header_length, height_in, is_directory_in, pieces, pointer, span, table_count, unit}
use Rattle.gfs2_layout.specs.Structures.{dinode_length}
use Rattle.dinode_tree.specs.Below.{IsBelow}
use Rattle.dinode_tree.proofs.Sound.{part_of_led}
use Rattle.small_changes.specs.Tables.{table_blocks}
use Rattle.image_model.proofs.Members.{IsIn, in_left, in_range, in_right}
use Rattle.small_changes.proofs.NameNeed.{table_few}
use Rattle.small_changes.proofs.Need.{fan_large, span_some}
use Rattle.small_changes.proofs.Writing.{in_map}

-- ---- the block to which pointers lead, so many blocks down, by the index of its first block of content

abbrev pub led_at : Holding → ℕ → ℕ → ℕ
led_at h zero first = pointer h dinode_length h.own (first / span h.size (height_in h - 1))
led_at h (suc up) first = pointer h header_length (led_at h up first) ((first % span h.size (height_in h - 1 - up)) / span h.size (height_in h - 1 - suc up))

-- it is the same for each index of content below it, and the first of these is a whole number of such blocks
pub record IsLedAt (h : Holding) (level first b : ℕ) : Type 0 where
  pub up : ℕ
  pub high : height_in h ≡ suc (up + level)
  pub index : ℕ
  pub begins : first ≡ index * span h.size level
  pub there : (i : ℕ) → i < span h.size level → led_at h up (first + i) ≡ b

swapped : (a b : ℕ) → a * b ≡ b * a
swapped a b = omega arith

summed : (m f j s : ℕ) → m * (f * s) + j * s ≡ (m * f + j) * s
summed m f j s = omega arith

is_led : (h : Holding) (from k level first b : ℕ) → Leads h from k level first b → IsLedAt h level first b
is_led h _ _ _ _ _ (from_dinode k level high low some) = record {
  up = 0;
  high = high ∙ (let z : suc level ≡ suc (0 + level) = omega arith in z);
  index = k;
  begins = refl;
  there = λ i less.
      let top : height_in h - 1 ≡ level = omega (arith, high) in
      ap (pointer h dinode_length h.own) (ap (λ n. (k * span h.size level + i) / span h.size n) top ∙ div-mul-add k (span h.size level) i less);
}
is_led h _ _ _ _ _ (from_block b k level first c j lead low some) =
    let over = is_led h b k (suc level) first c lead in
    let s = span h.size level in
    let f = fan h.size header_length in
    record {
      up = suc over.up;
      high = (let e = over.high in omega (arith, e));
      index = over.index * f + j;
      begins = ap (λ n. n + j * s) over.begins ∙ summed over.index f j s;
      there = λ i less.
          let inside : j * s + i < f * s = subst (λ n. j * s + i < n) (swapped s f) (mul-add-lt j s i f low less) in
          let same : first + j * s + i ≡ first + (j * s + i) = omega arith in
          let above : led_at h over.up (first + j * s + i) ≡ c = ap (led_at h over.up) same ∙ over.there (j * s + i) inside in
          let here : height_in h - 1 - over.up ≡ suc level = (let e = over.high in omega (arith, e)) in
          let below : height_in h - 1 - suc over.up ≡ level = (let e = over.high in omega (arith, e)) in
          let rest : (first + j * s + i) % (f * s) ≡ j * s + i = ap (λ n. n % (f * s)) (same ∙ ap (λ n. n + (j * s + i)) over.begins) ∙ mod-mul-add over.index (f * s) (j * s + i) inside in
          ap₂ (pointer h header_length) above
          (ap (λ n. ((first + j * s + i) % span h.size n) / span h.size (height_in h - 1 - suc over.up)) here ∙ ap (λ n. ((first + j * s + i) % (f * s)) / span h.size n) below
          ∙ ap (λ n. n / s) rest ∙ div-mul-add j s i less);
    }

within : (h : Holding) → HasTree h → (from k level first b : ℕ) → Leads h from k level first b → first < content_count h
within h tree _ _ _ _ _ (from_dinode k level high low some) = (tree.top level high k low some).within
within h tree _ _ _ _ _ (from_block b k level first c j lead low some) = (tree.inner c b k level first (part_of_led h b k (suc level) first c tree lead) j low some).within

level_low : (h : Holding) (from k level first b : ℕ) → Leads h from k level first b → level < height_in h
level_low h from k level first b lead = let over = is_led h from k level first b lead in let e = over.high in omega (arith, e)

-- above content a block stands over many
span_wide : (size level : ℕ) → 512 ≤ size → 61 ≤ span size (suc level)
span_wide size level wide = mul-le-mul (fan_large size wide) (span_some size level wide)

-- ---- all of them

abbrev row_at : Holding → ℕ → ℕ → List ℕ
row_at h level n = map (λ m. led_at h (height_in h - 1 - level) (m * span h.size level)) (range_with_len 0 n)

abbrev rows_to : Holding → ℕ → List ℕ
rows_to h zero = row_at h 0 68
rows_to h (suc level) = row_at h (suc level) 2 ++ rows_to h level

-- the blocks below the dinode of a directory
abbrev pub blocks_below : Holding → List ℕ
blocks_below h = rows_to h 9

row_many : (h : Holding) (level n : ℕ) → length (row_at h level n) ≡ n
row_many h level n = length-map (range_with_len 0 n) (λ m. led_at h (height_in h - 1 - level) (m * span h.size level)) ∙ length-range_with_len 0 n

rows_many : (h : Holding) (levels : ℕ) → length (rows_to h levels) ≡ 68 + 2 * levels
rows_many h zero = row_many h 0 68
rows_many h (suc level) =
    let one = length-append (row_at h (suc level) 2) (rows_to h level) in
    omega (arith, one, row_many h (suc level) 2, rows_many h level)

pub below_many : (h : Holding) → length (blocks_below h) ≡ 86
below_many h = rows_many h 9

abbrev most_on : ℕ → ℕ
most_on zero = 68
most_on (suc level) = 2

in_rows : (h : Holding) (levels level b : ℕ) → level ≤ levels → IsIn b (row_at h level (most_on level)) → IsIn b (rows_to h levels)
in_rows h zero zero b low there = there
in_rows h zero (suc level) b low there = absurd (omega (arith, low))
in_rows h (suc levels) level b low there = elim (cases_lt level (suc levels)) [
  | inl less ↦ in_right b (row_at h (suc levels) 2) (rows_to h levels) (in_rows h levels level b (omega (arith, less)) there)
  | inr top ↦
      let same : level ≡ suc levels = omega (arith, low, top) in
      in_left b (row_at h (suc levels) 2) (rows_to h levels) (subst (λ n. IsIn b (row_at h n (most_on n))) same there)
]

module _ (h : Holding) (inode : IsInode h) (wide : 512 ≤ h.size) (directory : is_directory_in h ≡ true) (size : (dinode_in h).size ≡ 8 * table_count h) (small : table_count h ≤ 8 * h.size) where
  count_few : content_count h ≤ 68
  count_few =
      let units : unit h ≡ h.size - header_length = cond-true (is_directory_in h) (h.size - header_length) h.size directory in
      let same : content_count h ≡ table_blocks h.size (table_count h) = ap₂ pieces size units in
      subst (λ n. n ≤ 68) (sym same) (table_few h.size (table_count h) wide small)

  index_low : (level index : ℕ) → index * span h.size level < 68 → index < most_on level
  index_low zero index low = omega (arith, low)
  index_low (suc level) index low =
      let wider : index * 61 ≤ index * span h.size (suc level) = mul-le-mul_left index (span_wide h.size level wide) in
      omega (arith, low, wider)

  pub below_in : (b : ℕ) → IsBelow h b → IsIn b (blocks_below h)
  below_in b (from, k, level, first, lead) =
      let is = is_led h from k level first b lead in
      let inside = within h inode.tree from k level first b lead in
      let high = level_low h from k level first b lead in
      let low : is.index * span h.size level < 68 = (let e = is.begins in let few = count_few in omega (arith, inside, e, few)) in
      let some : 0 < span h.size level = (let one = span_some h.size level wide in omega (arith, one)) in
      let up : is.up ≡ height_in h - 1 - level = (let e = is.high in omega (arith, e)) in
      let zero_more : first ≡ first + 0 = omega arith in
      let at : led_at h (height_in h - 1 - level) (is.index * span h.size level) ≡ b = (λ i. led_at h (sym up i) (sym is.begins i)) ∙ ap (led_at h is.up) zero_more ∙ is.there 0 some in
      in_rows h 9 level b (let lowest = inode.fits.low in omega (arith, high, lowest))
      (subst (λ x. IsIn x (row_at h level (most_on level))) at
      (in_map (λ m. led_at h (height_in h - 1 - level) (m * span h.size level)) is.index (range_with_len 0 (most_on level)) (in_range 0 (most_on level) is.index (omega arith) (let less = index_low level is.index low in omega (arith, less)))))
