-- A file without holes: how many blocks it has, and how many a write over all of it and more needs.
use Rattle.std.proofs.Common.{◌≡◌, ◌≢◌, ◌⊎◌, ℕ, zero, suc, ◌+◌, ◌-◌, ◌*◌, ◌<◌, ◌≤◌, max, inl, inr, Bool, true, false, not, Option, None, Some, refl, sym, ap, ◌∙◌, subst, arith}
use Rattle.std.specs.Prelude.{◌==◌, ◌&&◌, ◌||◌, nat_lt, count_by, IsSome, is_some, if◌then◌else◌}
use Rattle.std.specs.List.{range_with_len}
use Rattle.std.proofs.lemmas.Bool.{cases_eq, cases_lt, eq-eqb, eqb-true, ne_eqb, lt-ltb}
use Rattle.std.proofs.lemmas.Bool.Decides.{nat_tests}
use Rattle.std.proofs.Math.Nat.{mul-le-mul_right, one-le-mul}
use Rattle.gfs2_layout.specs.Holding.{Cell, Holding, Part, Itself, Pointed, InChain, cell_part, part_at}
use Rattle.gfs2_layout.specs.Inode.{IsPointed, by_dinode, by_block, block_count, content_block, content_count, dinode_in, fan, header_length, height_in, pieces, span}
use Rattle.dinode_tree.proofs.Spans.{span_some}
use Rattle.growth_laws.specs.Files.{IsFile, IsPlaced, block_on, places_on}
use Rattle.growth_laws.specs.Need.{capacity, has_content, height_for, is_needed, is_on_way, is_over, is_there, needed, needed_below, needed_on, raised_to}
use Rattle.growth_laws.proofs.Contents.{content_part}
use Rattle.growth_laws.proofs.Counting.{count_same, one_if}
use Rattle.growth_laws.proofs.Needing.{on_way}
use Rattle.growth_laws.proofs.Parts.{some_part}
use Rattle.growth_laws.proofs.Places.{cancelled, part_of_place, place_of_part, size_large}
use Rattle.growth_laws.proofs.Rising.{none_above, there_false}
use Rattle.growth_laws.proofs.Trees.{part_within}
use Rattle.table_growth.proofs.Counted.{count_all, count_window}
use Rattle.table_growth.proofs.Over.{over_of, over_parts}
use Rattle.table_growth.specs.Tables.{tree_blocks}
use Rattle.table_files.proofs.Pieces.{begins_piece, below_scaled, count_both, count_places, false_else, more_pieces, piece_begins, pieces_scaled, scaled_below}

-- the height of a file that grows is no less than it was
pub raised_least : (size height bytes more : ℕ) → height ≤ raised_to size height bytes more
raised_least size height bytes zero = omega arith
raised_least size height bytes (suc more) = by (nat_lt (capacity size height) bytes) (raised_least size (suc height) bytes more)
  where
    by : (t : Bool) → suc height ≤ raised_to size (suc height) bytes more → height ≤ (if t then raised_to size (suc height) bytes more else height)
    by true rest = omega (arith, rest)
    by false rest = omega arith

module _ (f : Holding) (file : IsFile f) (full : (i : ℕ) → i < content_count f → content_block f i ≢ 0) where
  large : 512 ≤ f.size
  large = size_large f.size file.block_size

  abbrev n : ℕ
  n = content_count f

  -- ---- what stands at which place

  -- above each block of content stands one on each level
  abbrev StandsOver : ℕ → ℕ → Type 0
  StandsOver i d = (c start : ℕ) × IsPlaced f c d start × (start ≤ i) × (i < start + span f.size d)

  climb : (i : ℕ) → i < n → (d : ℕ) → d < height_in f → StandsOver i d
  climb i low zero less =
      let placed = content_part f file (λ e. absurd (omega (arith, e, less))) i low (full i low) in
      (content_block f i, i, placed, omega arith, omega arith)
  climb i low (suc d) less = by (climb i low d (omega (arith, less)))
    where
      up : (c start from k : ℕ) → start ≤ i → i < start + span f.size d → IsPointed f c from k d start → StandsOver i (suc d)
      up c start from k least most (by_dinode own high near is first) = absurd (omega (arith, high, less))
      up c start from k least most (by_block above j before part near is first) =
          let wide : suc k * span f.size d ≤ fan f.size header_length * span f.size d = mul-le-mul_right (span f.size d) near in
          let next : suc k * span f.size d ≡ k * span f.size d + span f.size d = omega arith in
          (from, before, (above, j, part), omega (arith, first, least), omega (arith, first, most, wide, next))

      by : StandsOver i d → StandsOver i (suc d)
      by (c, start, (from, k, part), least, most) = up c start from k least most (file.tree.pointed c from k d start part)

  abbrev IsBlockAt : ℕ → ℕ → Type 0
  IsBlockAt level j = (j < places_on f level) × (block_on f level j ≢ 0)

  pub block_there : (level j : ℕ) → level < height_in f → j * span f.size level < n → IsBlockAt level j
  block_there level j less low = by (climb (j * span f.size level) low level less)
    where
      s : ℕ
      s = span f.size level

      some : 0 < span f.size level
      some = span_some f.size level large

      by : StandsOver (j * span f.size level) level → IsBlockAt level j
      by (c, start, placed, least, most) =
          let found = place_of_part f file c level start placed in
          let i = found.0 in
          let up : (a b : ℕ) → suc a * b ≡ a * b + b = λ a b. omega arith in
          let one : i < suc j = scaled_below i (suc j) (span f.size level) some (omega (arith, found.1, least, up j (span f.size level), some)) in
          let two : j < suc i = scaled_below j (suc i) (span f.size level) some (omega (arith, found.1, most, up i (span f.size level))) in
          let same : i ≡ j = omega (arith, one, two) in
          let is : block_on f level j ≡ c = ap (block_on f level) (sym same) ∙ found.3 in
          (subst (λ m. m < places_on f level) same found.2, λ none. some_part f c _ file.nobody placed.2 (sym is ∙ none))

  is_there_true : (level j : ℕ) → level < height_in f → IsBlockAt level j → is_there f level j ≡ true
  is_there_true level j less at =
      ap (λ t. t && nat_lt j (places_on f level) && not (block_on f level j == 0)) (lt-ltb level (height_in f) less)
      ∙ ap (λ t. true && t && not (block_on f level j == 0)) (lt-ltb j (places_on f level) at.0)
      ∙ ap (λ t. true && true && not t) (ne_eqb (block_on f level j) 0 at.1)

  there_before : (level j : ℕ) → level < height_in f → j * span f.size level < n → is_there f level j ≡ true
  there_before level j less low = is_there_true level j less (block_there level j less low)

  none_behind : (level j : ℕ) → level < height_in f → n ≤ j * span f.size level → is_there f level j ≡ false
  none_behind level j less high = there_false f level j (λ low. elim (cases_eq (block_on f level j) 0) [
    | inl none ↦ none
    | inr some ↦
        let placed = part_of_place f file level j less low some in
        let within = part_within f file _ _ _ level _ placed.2 in
        absurd (omega (arith, within, high))
  ])

  -- ---- what a write over all of it needs

  module _ (m : ℕ) (more : 1 ≤ m) (least : n ≤ m) where
    abbrev end : ℕ
    end = m * f.size

    abbrev old : ℕ → ℕ
    old level = pieces n (span f.size level)

    abbrev new : ℕ → ℕ
    new level = pieces m (span f.size level)

    pos : (level : ℕ) → 0 < span f.size level
    pos level = span_some f.size level large

    size_some : 0 < f.size
    size_some = omega (arith, large)

    some_new : (level : ℕ) → 0 < new level
    some_new level = begins_piece m (span f.size level) 0 (pos level) (omega (arith, more))

    over_true : (level j : ℕ) → j < new level → is_over f.size 0 end level j ≡ true
    over_true level j low =
        let begins = piece_begins m (span f.size level) j (pos level) low in
        let wide : 1 ≤ (j + 1) * span f.size level = one-le-mul {a = j + 1} {b = span f.size level} (omega arith) (pos level) in
        over_of f.size 0 end level j (omega (arith, one-le-mul {a = m} {b = f.size} more size_some)) (below_scaled (j * span f.size level) m f.size size_some begins)
        (omega (arith, one-le-mul {a = (j + 1) * span f.size level} {b = f.size} wide size_some))

    over_false : (level j : ℕ) → new level ≤ j → is_over f.size 0 end level j ≡ false
    over_false level j high = false_else (is_over f.size 0 end level j) (λ holds.
        let part = over_parts f.size 0 end level j holds in
        let low = begins_piece m (span f.size level) j (pos level) (scaled_below (j * span f.size level) m f.size size_some part.1) in
        omega (arith, low, high))

    all_places : (level : ℕ) → max 1 (pieces end (span f.size level * f.size)) ≡ new level
    all_places level = let same = pieces_scaled m (span f.size level) f.size size_some (pos level) in omega (arith, same, some_new level)

    -- a test that passes the places from one on up to the last
    window : (level first : ℕ) → first ≤ new level → ((x : ℕ) → first ≤ x → x < new level → is_needed f 0 end level x ≡ true) → ((x : ℕ) → (x < first) ⊎ (new level ≤ x) → is_needed f 0 end level x ≡ false)
        → needed_on f 0 end level ≡ new level - first
    window level first order passes fails =
        ap (λ k. count_by (is_needed f 0 end level) (range_with_len 0 k)) (all_places level)
        ∙ count_window (is_needed f 0 end level) first (new level) (new level) order (λ x low high. high) fails
        ∙ count_all (is_needed f 0 end level) first (new level - first) (λ x low high. passes x low (omega (arith, high, order)))

    and_not : (a b : Bool) → a ≡ true → b ≡ false → (a && not b) ≡ true
    and_not a b holds none = ap (λ t. t && not b) holds ∙ ap (λ t. true && not t) none

    and_false : (a b : Bool) → b ≡ true → (a && not b) ≡ false
    and_false a b is = ap (λ t. a && not t) is ∙ by a
      where
        by : (a : Bool) → (a && not true) ≡ false
        by true = refl
        by false = refl

    false_and : (a b : Bool) → a ≡ false → (a && not b) ≡ false
    false_and a b is = ap (λ t. t && not b) is

    fewer : (level : ℕ) → old level ≤ new level
    fewer level = more_pieces n m (span f.size level) (pos level) least

    needed_level : (level : ℕ) → level < height_in f → needed_on f 0 end level + old level ≡ new level
    needed_level level less =
        let counted = window level (old level) (fewer level)
        (λ x low high. and_not (is_on_way f 0 end level x) (is_there f level x) (on_way f 0 end level x less ∙ over_true level x high) (none_behind level x less (behind x low)))
        (λ x out. elim out [
          | inl before ↦ and_false (is_on_way f 0 end level x) (is_there f level x) (there_before level x less (piece_begins n (span f.size level) x (pos level) before))
          | inr past ↦ false_and (is_on_way f 0 end level x) (is_there f level x) (on_way f 0 end level x less ∙ over_false level x past)
        ]) in
        omega (arith, counted, fewer level)
      where
        behind : (x : ℕ) → old level ≤ x → n ≤ x * span f.size level
        behind x low = elim (cases_lt (x * span f.size level) n) [
          | inl before ↦ let never = begins_piece n (span f.size level) x (pos level) before in absurd (omega (arith, never, low))
          | inr past ↦ past
        ]

    needed_new_level : (level : ℕ) → height_in f ≤ level → needed_on f 0 end level ≡ new level
    needed_new_level level high =
        let counted = window level 0 (omega arith)
        (λ x low less. and_not (is_on_way f 0 end level x) (is_there f level x) (ap (λ t. t || (not (nat_lt level (height_in f)) && x == 0 && has_content f)) (over_true level x less)) (none_above f level x high))
        (λ x out. elim out [
          | inl before ↦ absurd (omega (arith, before))
          | inr past ↦ false_and (is_on_way f 0 end level x) (is_there f level x)
              (ap (λ t. t || (not (nat_lt level (height_in f)) && x == 0 && has_content f)) (over_false level x past)
              ∙ ap (λ t. false || (not (nat_lt level (height_in f)) && t && has_content f)) (ne_eqb x 0 (λ e. absurd (omega (arith, e, past, some_new level))))
              ∙ last (not (nat_lt level (height_in f))) (has_content f))
        ]) in
        omega (arith, counted)
      where
        last : (a b : Bool) → (false || (a && false && b)) ≡ false
        last true b = refl
        last false b = refl

    below_old : (level : ℕ) → level ≤ height_in f → needed_below f 0 end level + tree_blocks f.size level n ≡ tree_blocks f.size level m
    below_old zero low = refl
    below_old (suc level) low =
        let one = needed_level level (omega (arith, low)) in
        let rest = below_old level (omega (arith, low)) in
        omega (arith, one, rest)

    below_new : (level : ℕ) → height_in f ≤ level → needed_below f 0 end level + tree_blocks f.size (height_in f) n ≡ tree_blocks f.size level m
    below_new zero high =
        let none : height_in f ≡ 0 = omega (arith, high) in
        subst (λ k. needed_below f 0 end 0 + tree_blocks f.size k n ≡ tree_blocks f.size 0 m) (sym none) (below_old 0 (omega arith))
    below_new (suc level) high = elim (cases_lt level (height_in f)) [
      | inl less ↦
          let same : height_in f ≡ suc level = omega (arith, less, high) in
          subst (λ k. needed_below f 0 end (suc level) + tree_blocks f.size k n ≡ tree_blocks f.size (suc level) m) (sym same) (below_old (suc level) (omega (arith, same)))
      | inr more' ↦
          let one = needed_new_level level more' in
          let rest = below_new level more' in
          omega (arith, one, rest)
    ]

    pub needed_all : (dinode_in f).size ≤ end → needed f 0 end ≡ tree_blocks f.size (height_for f end) m - tree_blocks f.size (height_in f) n
    needed_all short =
        let from : 0 + end ≡ end = omega arith in
        let long : max (dinode_in f).size (0 + end) ≡ end = omega (arith, short) in
        let high : height_in f ≤ height_for f end = raised_least f.size (height_in f) end (10 - height_in f) in
        let sums = below_new (height_for f end) high in
        ap (λ k. needed_below f 0 k (height_for f (max (dinode_in f).size (0 + end)))) from ∙ ap (λ k. needed_below f 0 end (height_for f k)) long ∙ omega (arith, sums)

  -- ---- how many blocks it has

  -- so many levels above content, or the dinode's, or either below so many levels
  abbrev is_on : ℕ → Option Part → Bool
  is_on level None = false
  is_on level (Some Itself) = false
  is_on level (Some (Pointed b k l first)) = l == level
  is_on level (Some (InChain hash place)) = false

  abbrev is_under : ℕ → Option Part → Bool
  is_under levels None = false
  is_under levels (Some Itself) = true
  is_under levels (Some (Pointed b k l first)) = nat_lt l levels
  is_under levels (Some (InChain hash place)) = false

  on_parts : (level : ℕ) (p : Option Part) → is_on level p ≡ true → (b k first : ℕ) × (p ≡ Some (Pointed b k level first))
  on_parts level None is = let never : false ≡ true = is in absurd (cc)
  on_parts level (Some Itself) is = let never : false ≡ true = is in absurd (cc)
  on_parts level (Some (Pointed b k l first)) is = (b, k, first, ap (λ x. Some (Pointed b k x first)) (eqb-true l level is))
  on_parts level (Some (InChain hash place)) is = let never : false ≡ true = is in absurd (cc)

  itself_of : (p : Option Part) → is_under 0 p ≡ true → p ≡ Some Itself
  itself_of None is = let never : false ≡ true = is in absurd (cc)
  itself_of (Some Itself) is = refl
  itself_of (Some (Pointed b k l first)) is = let never : nat_lt l 0 ≡ true = is in absurd (grind (arith, nat_tests))
  itself_of (Some (InChain hash place)) is = let never : false ≡ true = is in absurd (cc)

  one_level : (level : ℕ) (p : Option Part) → one_if (is_under (suc level) p) ≡ one_if (is_under level p) + one_if (is_on level p)
  one_level level None = refl
  one_level level (Some Itself) = refl
  one_level level (Some (Pointed b k l first)) = by (cases_lt l level)
    where
      by : (l < level) ⊎ (level ≤ l) → one_if (nat_lt l (suc level)) ≡ one_if (nat_lt l level) + one_if (l == level)
      by which = grind (arith, nat_tests)
  one_level level (Some (InChain hash place)) = refl

  part_some : (c : Option Cell) → ((x hash place : ℕ) → cell_part c ≡ Some (InChain hash place) → ⊥) → ((b k l first : ℕ) → cell_part c ≡ Some (Pointed b k l first) → l < height_in f) → is_some c ≡ is_under (height_in f) (cell_part c)
  part_some None leafless below = refl
  part_some (Some c) leafless below = by c.part refl
    where
      by : (p : Part) → c.part ≡ p → true ≡ is_under (height_in f) (Some c.part)
      by Itself e = sym (ap (λ q. is_under (height_in f) (Some q)) e)
      by (Pointed b k l first) e = sym (ap (λ q. is_under (height_in f) (Some q)) e ∙ lt-ltb l (height_in f) (below b k l first (ap (λ q. Some q) e)))
      by (InChain hash place) e = absurd (leafless 0 hash place (ap (λ q. Some q) e))

  module _ (inside : (b : ℕ) → IsSome (f.cell b) → b < f.count) where
    low_part : (b : ℕ) (p : Part) → part_at f b ≡ Some p → b < f.count
    low_part b p part = inside b (by (f.cell b) part)
      where
        by : (c : Option Cell) → cell_part c ≡ Some p → IsSome c
        by None e = let never : ◌≡◌ {A = Option Part} None (Some p) = e in absurd (cc)
        by (Some c) e = refl

    count_own : count_by (λ b. is_under 0 (part_at f b)) (range_with_len 0 f.count) ≡ 1
    count_own = count_places 1 (λ b. is_under 0 (part_at f b)) f.count (λ j. f.own)
        (λ j low. (low_part f.own Itself file.own, ap (is_under 0) file.own))
        (λ i j low low' same. omega (arith, low, low'))
        (λ b low passes. (0, omega arith, sym (file.only b (itself_of (part_at f b) passes))))

    count_level : (level : ℕ) → level < height_in f → count_by (λ b. is_on level (part_at f b)) (range_with_len 0 f.count) ≡ pieces n (span f.size level)
    count_level level less = count_places (pieces n (span f.size level)) (λ b. is_on level (part_at f b)) f.count (block_on f level) each once all
      where
        some : 0 < span f.size level
        some = span_some f.size level large

        at : (j : ℕ) → j < pieces n (span f.size level) → IsPlaced f (block_on f level j) level (j * span f.size level)
        at j low =
            let is = block_there level j less (piece_begins n (span f.size level) j some low) in
            part_of_place f file level j less is.0 is.1

        each : (j : ℕ) → j < pieces n (span f.size level) → (block_on f level j < f.count) × (is_on level (part_at f (block_on f level j)) ≡ true)
        each j low =
            let placed = at j low in
            (low_part _ _ placed.2, ap (is_on level) placed.2 ∙ eq-eqb level level refl)

        firsts : {b b' k k' l l' s s' : ℕ} → Some (Pointed b k l s) ≡ Some (Pointed b' k' l' s') → s ≡ s'
        firsts e = cc

        once : (i j : ℕ) → i < pieces n (span f.size level) → j < pieces n (span f.size level) → block_on f level i ≡ block_on f level j → i ≡ j
        once i j low low' same =
            let one = at i low in
            let two = at j low' in
            cancelled i j (span f.size level) some (firsts (sym one.2 ∙ ap (part_at f) same ∙ two.2))

        all : (b : ℕ) → b < f.count → is_on level (part_at f b) ≡ true → (j : ℕ) × (j < pieces n (span f.size level)) × (block_on f level j ≡ b)
        all b low passes =
            let part = on_parts level (part_at f b) passes in
            let found = place_of_part f file b level part.2 (part.0, part.1, part.3) in
            let within = part_within f file b part.0 part.1 level part.2 part.3 in
            (found.0, begins_piece n (span f.size level) found.0 some (omega (arith, found.1, within)), found.3)

    count_under : (level : ℕ) → level ≤ height_in f → count_by (λ b. is_under level (part_at f b)) (range_with_len 0 f.count) ≡ 1 + tree_blocks f.size level n
    count_under zero low = count_own
    count_under (suc level) low =
        let both = count_both (λ b. is_under level (part_at f b)) (λ b. is_on level (part_at f b)) (λ b. is_under (suc level) (part_at f b)) 0 f.count (λ x. one_level level (part_at f x)) in
        let rest = count_under level (omega (arith, low)) in
        let here = count_level level (omega (arith, low)) in
        omega (arith, both, rest, here)

    pub blocks_counted : block_count f ≡ 1 + tree_blocks f.size (height_in f) n
    unfolding block_count
    blocks_counted =
        count_same (λ b. is_under (height_in f) (part_at f b)) (λ b. is_some (f.cell b)) 0 f.count
        (λ x low high. part_some (f.cell x) (λ y hash place part. file.leafless x hash place part) (λ b k l first part. file.tree.below x b k l first part))
        ∙ count_under (height_in f) (omega arith)
