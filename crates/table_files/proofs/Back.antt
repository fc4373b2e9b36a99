-- What the file's write has made of it is a directory again, with its leaves, whose table is twice as long.
use Rattle.std.proofs.Common.{◌≡◌, ◌≢◌, ◌⊎◌, ℕ, zero, suc, ◌+◌, ◌-◌, ◌*◌, ◌/◌, ◌%◌, ◌^◌, ◌<◌, ◌≤◌, inl, inr, Bool, true, false, List, ◌++◌, length, take, drop, Option, None, Some, refl, sym, ap, ap₂, ◌∙◌, subst, arith, take-append-drop}
use Rattle.std.specs.Prelude.{◌==◌, ◌||◌, Contains, IsSome, is_some, flat_map, nat_lt, replicate, if◌then◌else◌}
use Rattle.std.specs.List.{range_with_len}
use Rattle.std.proofs.lemmas.Bool.{cases_Bool, cases_eq, cases_lt, cond-true, cond-false, eq-eqb, ne_eqb, lt-ltb, le-ltb}
use Rattle.std.proofs.lemmas.List.{take_all, length-take}
use Rattle.std.proofs.lemmas.Nat.{div-add-mod'}
use Rattle.std.proofs.Math.Nat.{mul-le-mul_right}
use Rattle.gfs2_layout.specs.Bytes.{slice, u64_at}
use Rattle.gfs2_layout.specs.Headers.{HasHeader}
use Rattle.gfs2_layout.specs.Holding.{Cell, Holding, Part, Itself, Pointed, InChain, cell_bytes, cell_part, part_at, bytes_at}
use Rattle.gfs2_layout.specs.Inode.{Fits, HasTree, block_count, carried, content_block, content_count, content_of, dinode_in, entry, fan, header_length, height_in, is_directory_in, is_leaf_part, pieces, span, table_count, unit}
use Rattle.gfs2_layout.specs.Structures.{dinode_length, dinode_of, is_directory}
use Rattle.gfs2_layout.specs.Writing.{dinode_put}
use Rattle.gfs2_layout.specs.declared.dinode.Dinode.{Dinode}
use Rattle.dinode_tree.specs.Pads.{KeepsPads, dinode_over}
use Rattle.dinode_tree.proofs.Pads.{keeps_by}
use Rattle.growth_laws.specs.Files.{IsFile, IsPlaced as StandsAt, block_on, with_cells}
use Rattle.growth_laws.specs.Need.{height_for}
use Rattle.growth_laws.proofs.Bytes.{pieces_length}
use Rattle.growth_laws.proofs.Contents.{carried_block, carried_hole, carried_length, content_part as part_of_content, content_in_blocks, whole_unit}
use Rattle.growth_laws.proofs.Counting.{one_if}
use Rattle.growth_laws.proofs.Numbers.{numbers_behind_are_the_same}
use Rattle.growth_laws.proofs.Parts.{not_itself}
use Rattle.growth_laws.proofs.Places.{content_is_level_zero, place_of_part}
use Rattle.growth_laws.proofs.Trees.{part_within}
use Rattle.growth_drafts.specs.Taken.{HasTaken}
use Rattle.table_growth.specs.Headers.{HaveSamePads}
use Rattle.table_growth.proofs.Headers.{put_over}
use Rattle.table_growth.specs.Sized.{dinode_as}
use Rattle.table_growth.specs.Written.{IsWritten, size_with}
use Rattle.pointer_tables.specs.Directories.{IsPlaced, IsTreeSound}
use Rattle.pointer_tables.specs.Tables.{IsDoubled, LeavesStay}
use Rattle.table_growth.specs.Tables.{GrowsAsFile, IsClearBehind, IsTableFile, KeepsTableHeaders, table_blocks, table_header, table_height, tree_blocks, without_leaf}
use Rattle.table_files.specs.Files.{AreDoubledPointers, AreHeadersOf, SaysInstead, directory_cells, doubled_dinode, file_cells, file_dinode, header_at, own_cell, table_block, table_bytes}
use Rattle.table_files.proofs.Alike.{LeadAlike, content_block_alike, tree_alike}
use Rattle.table_files.proofs.ContentParts.{content_part, whole_by_parts}
use Rattle.tree_tables.proofs.Entries.{entry_in_block, fits_block, within}
use Rattle.table_files.proofs.Pieces.{count_both, count_most, begins_piece, whole_pieces}
use Rattle.table_files.proofs.TableBytes.{all_over, block_clear, block_has_header, block_header, block_long, block_pointer, front_header, new_header, same_piece, table_long, zeros_no_header}
use Rattle.table_files.specs.Laws.{IsTable}
use Rattle.table_files.proofs.TableFiles.{cell_other, cell_own, content_same, count_high, counted_file, dinode_file, file_of, full, height_file, height_for_file, inside_file, is_file, large, leads_alike, leaf_without, no_hole, size_more, table_file}

module _ (h : Holding) (t : IsTable h) (blocks : ℕ) (bytes : List ℕ) (is : SaysInstead h (file_dinode h blocks) bytes)
    (counts : blocks ≡ 1 + tree_blocks h.size (height_in h) (table_blocks h.size (table_count h)))
    (headers pointers : List ℕ) (heads : AreHeadersOf h headers) (twice : AreDoubledPointers h pointers)
    (kc : ℕ → Option Cell) (taken : List ℕ) (written : IsWritten (file_of h t blocks bytes is) (with_cells h kc) 0 (table_bytes h.size headers pointers) taken)
    (free : (b : ℕ) → Contains taken b → (h.cell b ≡ None) × (b < h.count)) where
  abbrev f : Holding
  f = file_of h t blocks bytes is

  abbrev k : Holding
  k = with_cells h kc

  abbrev raw : List ℕ
  raw = table_bytes h.size headers pointers

  abbrev many : ℕ
  many = table_blocks h.size (2 * table_count h)

  big : 512 ≤ h.size
  big = large h t

  size_some : 0 < h.size
  size_some = omega (arith, big)

  unit_some : 0 < h.size - 24
  unit_some = omega (arith, big)

  pub file_k : IsFile k
  file_k = written.sound.file

  many_is : pieces (length pointers) (h.size - 24) ≡ many
  many_is = ap (λ n. pieces n (h.size - 24)) twice.long

  heads_whole : length headers % 24 ≡ 0
  heads_whole = by (height_in h) refl
    where
      times : (n : ℕ) → n * 24 % 24 ≡ 0
      times n = omega arith

      by : (n : ℕ) → height_in h ≡ n → length headers % 24 ≡ 0
      by zero none = ap (λ (xs : List ℕ). length xs % 24) (heads.none none)
      by (suc level) high = ap (λ n. n % 24) (heads.long level high) ∙ times (content_count h)

  pub raw_long : length raw ≡ many * h.size
  raw_long = table_long h.size big headers pointers heads_whole ∙ ap (λ n. n * h.size) many_is

  many_some : 1 ≤ many
  many_some = begins_piece (8 * (2 * table_count h)) (h.size - 24) 0 unit_some (omega (arith, power (dinode_in h).depth))
    where
      power : (n : ℕ) → 1 ≤ 2 ^ n
      power zero = omega arith
      power (suc n) = let rest = power n in omega (arith, rest)

  -- ---- the file afterwards

  size_k : (dinode_in k).size ≡ many * h.size
  size_k = ap (λ (d : Dinode). d.size) written.dinode ∙ omega (arith, raw_long, size_more h t blocks bytes is counts)

  pub height_k : height_in k ≡ table_height h.size (height_in h) (2 * table_count h)
  height_k =
      let end : size_with f (0 + length raw) ≡ many * h.size = omega (arith, raw_long, size_more h t blocks bytes is counts) in
      ap (λ (d : Dinode). d.height) written.dinode ∙ ap (height_for f) end ∙ height_for_file h t blocks bytes is counts

  blocks_k : block_count k ≡ block_count f + length taken
  blocks_k = sym written.sound.blocks ∙ ap (λ (d : Dinode). d.blocks) written.dinode ∙ ap (λ n. n + length taken) (counted_file h t blocks bytes is counts).blocks

  unit_k : unit k ≡ h.size
  unit_k = whole_unit k file_k.regular

  count_k : content_count k ≡ many
  count_k = ap₂ pieces size_k unit_k ∙ whole_pieces many h.size size_some

  high_k : height_in k ≢ 0
  high_k none = by (written.sound.file.fits.stuffed none)
    where
      wide : h.size ≤ many * h.size
      wide = let one : 1 * h.size ≤ many * h.size = mul-le-mul_right h.size many_some in let same : 1 * h.size ≡ h.size = omega arith in omega (arith, one, same)

      by : dinode_length + (dinode_in k).size ≤ h.size → ⊥
      by fits = absurd (omega (arith, fits, size_k, wide))

  pub level_k : height_in k ≡ suc (height_in k - 1)
  level_k = omega (arith, high_k)

  content_k : content_of k ≡ raw
  content_k =
      let short : length (content_of f) ≤ length raw = omega (arith, content_same h t blocks bytes is, raw_long, size_more h t blocks bytes is counts) in
      written.content ∙ all_over raw (content_of f) short

  -- what each of its blocks of content carries
  piece_k : (j : ℕ) → j < many → carried k (content_block k j) ≡ table_block h.size headers pointers j
  piece_k j low =
      same_piece (λ i. carried k (content_block k i)) (table_block h.size headers pointers) h.size many j
      (λ i less. carried_length k file_k high_k i (omega (arith, less, count_k)))
      (λ i less. block_long h.size big headers pointers i heads_whole) low joined
    where
      all : length (flat_map (λ i. carried k (content_block k i)) (range_with_len 0 (content_count k))) ≤ (dinode_in k).size
      all = omega (arith, pieces_length (λ i. carried k (content_block k i)) h.size 0 (content_count k) (λ i less. carried_length k file_k high_k i (omega (arith, less))), size_k, ap (λ n. n * h.size) count_k)

      joined : flat_map (λ i. carried k (content_block k i)) (range_with_len 0 many) ≡ flat_map (table_block h.size headers pointers) (range_with_len 0 many)
      joined =
          ap (λ n. flat_map (λ i. carried k (content_block k i)) (range_with_len 0 n)) (sym count_k)
          ∙ sym (take_all (dinode_in k).size (flat_map (λ i. carried k (content_block k i)) (range_with_len 0 (content_count k))) all)
          ∙ sym (content_in_blocks k high_k) ∙ content_k
          ∙ ap (λ n. flat_map (table_block h.size headers pointers) (range_with_len 0 n)) many_is

  -- each header is a table block's
  headed : (j : ℕ) → j < many → HasHeader 7 700 (header_at headers j)
  headed j low = elim (cases_lt (j * 24) (length headers)) [
    | inl less ↦ subst (HasHeader 7 700) (sym (cond-true (nat_lt (j * 24) (length headers)) (slice (j * 24) 24 headers) table_header (lt-ltb (j * 24) (length headers) less))) (old (height_in h) refl less)
    | inr more ↦ subst (HasHeader 7 700) (sym (cond-false (nat_lt (j * 24) (length headers)) (slice (j * 24) 24 headers) table_header (le-ltb (j * 24) (length headers) more))) new_header
  ]
    where
      old : (n : ℕ) → height_in h ≡ n → j * 24 < length headers → HasHeader 7 700 (slice (j * 24) 24 headers)
      old zero none less = let empty : length headers ≡ 0 = ap length (heads.none none) in absurd (omega (arith, less, empty))
      old (suc level) high less =
          let near : j < content_count h = omega (arith, less, heads.long level high) in
          let b : ℕ = content_block h j in
          let some = no_hole h t level high j near in
          let part = content_part h level j t.sound.tree big high (omega (arith, near, t.sound.fits.under level high)) some in
          let has : HasHeader 7 700 (bytes_at h b) = t.sound.tree.table b part.0 part.1 j t.directory part.2 in
          let long : length (bytes_at h b) ≡ h.size = t.sound.whole b _ part.2 in
          let joined : take 24 (bytes_at h b) ++ drop 24 (bytes_at h b) ≡ bytes_at h b = split 24 (bytes_at h b) in
          subst (HasHeader 7 700) (sym (heads.each level j high near))
          (front_header 7 700 (take 24 (bytes_at h b)) (drop 24 (bytes_at h b)) (omega (arith, length-take 24 (bytes_at h b), long, big)) (subst (HasHeader 7 700) (sym joined) has))
        where
          split : (n : ℕ) (xs : List ℕ) → take n xs ++ drop n xs ≡ xs
          split n xs = take-append-drop n xs

  some_k : (j : ℕ) → j < many → content_block k j ≢ 0
  some_k j low none =
      let zeros : table_block h.size headers pointers j ≡ replicate h.size 0 = sym (piece_k j low) ∙ ap (carried k) none ∙ carried_hole k file_k.regular in
      zeros_no_header 7 700 h.size (subst (HasHeader 7 700) zeros (block_has_header h.size big headers pointers j heads_whole (headed j low)))

  bytes_k : (j : ℕ) → j < many → bytes_at k (content_block k j) ≡ table_block h.size headers pointers j
  bytes_k j low = sym (carried_block k (content_block k j) file_k.regular (some_k j low)) ∙ piece_k j low

  -- a block of content by its part
  content_of_part : (x b n first : ℕ) → part_at k x ≡ Some (Pointed b n 0 first) → (first < many) × (content_block k first ≡ x)
  content_of_part x b n first part =
      let found = place_of_part k file_k x 0 first (b, n, part) in
      let index : found.0 ≡ first = omega (arith, found.1) in
      (subst (λ m. first < m) count_k (part_within k file_k x b n 0 first part), content_is_level_zero k first ∙ ap (block_on k 0) (sym index) ∙ found.3)

  -- ---- leaves, and blocks of the file

  own_no_leaf : is_leaf_part (part_at h h.own) ≡ false
  own_no_leaf = ap is_leaf_part t.placed.own

  truth : {A : Type 0} (b : Bool) → b ≡ true → b ≡ false → A
  truth b holds fails = let both : true ≡ false = sym holds ∙ fails in absurd (cc)

  leaf_apart : (b : ℕ) → is_leaf_part (part_at h b) ≡ true → b ≢ h.own
  leaf_apart b leaf same = truth (is_leaf_part (part_at h b)) leaf (ap (λ x. is_leaf_part (part_at h x)) same ∙ own_no_leaf)

  none_some' : {A : Type 0} (c : Option Cell) → c ≡ None → IsSome c → A
  none_some' None e there = let never : false ≡ true = there in absurd (cc)
  none_some' (Some c) e there = let never : Some c ≡ None = e in absurd (cc)

  none_of : (c : Option Cell) → (IsSome c → ⊥) → c ≡ None
  none_of None never = refl
  none_of (Some c) never = absurd (never refl)

  no_part : {A : Type 0} (p : Part) → ◌≡◌ {A = Option Part} None (Some p) → A
  no_part p e = absurd (cc)

  leaf_some : (b : ℕ) → is_leaf_part (part_at h b) ≡ true → h.cell b ≡ None → ⊥
  leaf_some b leaf none = truth (is_leaf_part (part_at h b)) leaf (ap (λ (c : Option Cell). is_leaf_part (cell_part c)) none)

  pub leaf_gone : (b : ℕ) → is_leaf_part (part_at h b) ≡ true → kc b ≡ None
  leaf_gone b leaf = none_of (kc b) (λ there. elim ((written.blocks.blocks b).0 there) [
    | inl had ↦ none_some' (file_cells h bytes b) (cell_other h t blocks bytes is b (leaf_apart b leaf) ∙ leaf_without (h.cell b) leaf) had
    | inr has ↦ leaf_some b leaf (free b has).0
  ])

  itself_some : (c : Option Cell) → cell_part c ≡ Some Itself → IsSome c
  itself_some None e = no_part Itself e
  itself_some (Some c) e = refl

  one_was : (b : ℕ) → one_if (is_some (h.cell b)) ≡ one_if (is_some (file_cells h bytes b)) + one_if (is_leaf_part (part_at h b))
  one_was b = elim (cases_eq b h.own) [
    | inl same ↦
        let here : one_if (is_some (h.cell b)) ≡ 1 = ap (λ x. one_if (is_some (h.cell x))) same ∙ ap one_if (itself_some (h.cell h.own) t.placed.own) in
        let there : one_if (is_some (file_cells h bytes b)) ≡ 1 = ap (λ x. one_if (is_some (file_cells h bytes x))) same ∙ ap (λ c. one_if (is_some c)) (cell_own h t blocks bytes is) in
        let none : one_if (is_leaf_part (part_at h b)) ≡ 0 = ap (λ x. one_if (is_leaf_part (part_at h x))) same ∙ ap one_if own_no_leaf in
        omega (arith, here, there, none)
    | inr other ↦
        let there : one_if (is_some (file_cells h bytes b)) ≡ one_if (is_some (without_leaf (h.cell b))) = ap (λ c. one_if (is_some c)) (cell_other h t blocks bytes is b other) in
        omega (arith, there, split (h.cell b))
  ]
    where
      split : (c : Option Cell) → one_if (is_some c) ≡ one_if (is_some (without_leaf c)) + one_if (is_leaf_part (cell_part c))
      split None = refl
      split (Some c) = by (is_leaf_part (Some c.part)) refl
        where
          by : (q : Bool) → is_leaf_part (Some c.part) ≡ q → 1 ≡ one_if (is_some (if is_leaf_part (Some c.part) then None else Some c)) + one_if (is_leaf_part (Some c.part))
          by true e = sym (ap₂ (λ (c' : Option Cell) q. one_if (is_some c') + one_if q) (cond-true (is_leaf_part (Some c.part)) None (Some c) e) e)
          by false e = sym (ap₂ (λ (c' : Option Cell) q. one_if (is_some c') + one_if q) (cond-false (is_leaf_part (Some c.part)) None (Some c) e) e)

  -- all blocks that the directory has then are of the image
  pub blocks_fit : block_count h + length taken ≤ h.count
  unfolding block_count
  blocks_fit =
      let after = count_both (λ b. is_some (kc b)) (λ b. is_leaf_part (part_at h b)) (λ b. is_some (kc b) || is_leaf_part (part_at h b)) 0 h.count either in
      let before = count_both (λ b. is_some (file_cells h bytes b)) (λ b. is_leaf_part (part_at h b)) (λ b. is_some (h.cell b)) 0 h.count one_was in
      let most = count_most (λ b. is_some (kc b) || is_leaf_part (part_at h b)) 0 h.count in
      omega (arith, after, before, most, blocks_k)
    where
      none_one : (c : Option Cell) (q : Bool) → (q ≡ true → IsSome c → ⊥) → one_if (is_some c || q) ≡ one_if (is_some c) + one_if q
      none_one None true apart = refl
      none_one None false apart = refl
      none_one (Some c) true apart = absurd (apart refl refl)
      none_one (Some c) false apart = refl

      either : (b : ℕ) → one_if (is_some (kc b) || is_leaf_part (part_at h b)) ≡ one_if (is_some (kc b)) + one_if (is_leaf_part (part_at h b))
      either b = none_one (kc b) (is_leaf_part (part_at h b)) (λ leaf there. none_some' (kc b) (leaf_gone b leaf) there)

  -- ---- the directory afterwards

  module _ (own : List ℕ) (says : SaysInstead k (doubled_dinode h (height_in k) (length taken)) own) where
    abbrev cells : ℕ → Option Cell
    cells = directory_cells h k own

    abbrev pub directory_of : Holding
    directory_of = with_cells h (directory_cells h k own)

    abbrev g : Holding
    g = with_cells h (directory_cells h k own)

    pub cell_own_g : cells h.own ≡ own_cell own
    cell_own_g = cond-true (h.own == h.own) (own_cell own) (if is_leaf_part (part_at h h.own) then h.cell h.own else kc h.own) (eq-eqb h.own h.own refl)

    pub cell_leaf : (b : ℕ) → is_leaf_part (part_at h b) ≡ true → cells b ≡ h.cell b
    cell_leaf b leaf = cond-false (b == h.own) (own_cell own) (if is_leaf_part (part_at h b) then h.cell b else kc b) (ne_eqb b h.own (leaf_apart b leaf)) ∙ cond-true (is_leaf_part (part_at h b)) (h.cell b) (kc b) leaf

    pub cell_k : (b : ℕ) → b ≢ h.own → is_leaf_part (part_at h b) ≡ false → cells b ≡ kc b
    cell_k b other fails = cond-false (b == h.own) (own_cell own) (if is_leaf_part (part_at h b) then h.cell b else kc b) (ne_eqb b h.own other) ∙ cond-false (is_leaf_part (part_at h b)) (h.cell b) (kc b) fails

    -- a pointed block of the file is one of the directory
    pointed_cell : (x b n level first : ℕ) → part_at k x ≡ Some (Pointed b n level first) → cells x ≡ kc x
    pointed_cell x b n level first part = elim (cases_Bool (is_leaf_part (part_at h x))) [
      | inl leaf ↦ no_part (Pointed b n level first) (ap cell_part (sym (leaf_gone x leaf)) ∙ part)
      | inr fails ↦ cell_k x (λ same. not_itself b n level first (sym file_k.own ∙ ap (part_at k) (sym same) ∙ part)) fails
    ]

    pub own_part_g : part_at g h.own ≡ Some Itself
    own_part_g = ap cell_part cell_own_g

    itself_leaf : {A : Type 0} (hash place : ℕ) → Some Itself ≡ Some (InChain hash place) → A
    itself_leaf hash place e = absurd (cc)

    pointed_leaf : {A : Type 0} (b n level first hash place : ℕ) → Some (Pointed b n level first) ≡ Some (InChain hash place) → A
    pointed_leaf b n level first hash place e = absurd (cc)

    -- each other block is a leaf of the directory, or one of the file
    other_cell : (x : ℕ) (p : Part) → x ≢ h.own → part_at g x ≡ Some p → ((is_leaf_part (Some p) ≡ true) × (cells x ≡ h.cell x) × (part_at h x ≡ Some p)) ⊎ ((cells x ≡ kc x) × (part_at k x ≡ Some p))
    other_cell x p other part = elim (cases_Bool (is_leaf_part (part_at h x))) [
      | inl leaf ↦
          let same = cell_leaf x leaf in
          let was : part_at h x ≡ Some p = ap cell_part (sym same) ∙ part in
          inl (ap is_leaf_part (sym was) ∙ leaf, same, was)
      | inr fails ↦ let same = cell_k x other fails in inr (same, ap cell_part (sym same) ∙ part)
    ]

    pub bytes_own_g : bytes_at g h.own ≡ own
    bytes_own_g = ap cell_bytes cell_own_g

    pub dinode_g : dinode_in g ≡ doubled_dinode h (height_in k) (length taken)
    unfolding dinode_in
    dinode_g = ap dinode_of bytes_own_g ∙ says.said

    pub height_g : height_in g ≡ height_in k
    height_g = ap (λ (d : Dinode). d.height) dinode_g

    directory_g : is_directory_in g ≡ true
    directory_g = ap is_directory dinode_g ∙ t.directory

    size_g : (dinode_in g).size ≡ 8 * (2 * table_count h)
    size_g = ap (λ (d : Dinode). d.size) dinode_g ∙ omega (arith, t.size)

    unit_g : unit g ≡ h.size - 24
    unit_g = cond-true (is_directory_in g) (h.size - header_length) h.size directory_g

    count_g : content_count g ≡ many
    count_g = ap₂ pieces size_g unit_g

    pub alike_g : LeadAlike k (directory_cells h k own)
    alike_g = record {
      height = height_g;
      count = λ level high. count_g ∙ sym count_k;
      own = λ level n high. numbers_behind_are_the_same (bytes_at g h.own) (bytes_at k h.own) dinode_length dinode_length (8 * n) (ap (drop dinode_length) bytes_own_g ∙ says.behind);
      parts = λ x b n level first part. ap cell_part (pointed_cell x b n level first part) ∙ part;
      only = λ x b n level first part. elim (other_cell x (Pointed b n level first) (λ same. not_itself b n level first (sym own_part_g ∙ ap (part_at g) (sym same) ∙ part)) part) [
        | inl leaf ↦ truth (is_leaf_part (Some (Pointed b n level first))) leaf.0 refl
        | inr of_file ↦ of_file.1
      ];
      indirect = λ x b n level first part. ap cell_bytes (pointed_cell x b n (suc level) first part);
    }

    tree_k : HasTree k
    tree_k = file_k.tree

    block_same : (j : ℕ) → j < many → content_block g j ≡ content_block k j
    block_same j low = content_block_alike k (directory_cells h k own) alike_g tree_k big (height_in k - 1) level_k j (omega (arith, low, count_k, file_k.fits.under (height_in k - 1) level_k))

    -- the bytes of a table block
    table_part : (x b n first : ℕ) → part_at k x ≡ Some (Pointed b n 0 first) → (first < many) × (bytes_at g x ≡ table_block h.size headers pointers first)
    table_part x b n first part =
        let found = content_of_part x b n first part in
        (found.0, ap cell_bytes (pointed_cell x b n 0 first part) ∙ ap (bytes_at k) (sym found.1) ∙ bytes_k first found.0)

    fits_g : Fits g
    fits_g = record {
      low = subst (λ n. n ≤ 10) (sym height_g) file_k.fits.low;
      stuffed = λ none. absurd (high_k (sym height_g ∙ none));
      under = λ level high. let high' = sym height_g ∙ high in subst (λ n. n ≤ fan h.size dinode_length * span h.size level) (count_k ∙ sym count_g) (file_k.fits.under level high');
    }

    -- ---- how many blocks it has

    -- a block of either is a leaf, or one of the file
    one_more : (b : ℕ) → one_if (is_some (cells b)) ≡ one_if (is_some (kc b)) + one_if (is_leaf_part (part_at h b))
    one_more b = elim (cases_Bool (is_leaf_part (part_at h b))) [
      | inl leaf ↦
          let here : one_if (is_some (cells b)) ≡ 1 = ap (λ c. one_if (is_some c)) (cell_leaf b leaf) ∙ ap one_if (some_leaf (h.cell b) leaf) in
          let there : one_if (is_some (kc b)) ≡ 0 = ap (λ c. one_if (is_some c)) (leaf_gone b leaf) in
          let one : one_if (is_leaf_part (part_at h b)) ≡ 1 = ap one_if leaf in
          omega (arith, here, there, one)
      | inr fails ↦
          let none : one_if (is_leaf_part (part_at h b)) ≡ 0 = ap one_if fails in
          elim (cases_eq b h.own) [
            | inl same ↦
                let here : one_if (is_some (cells b)) ≡ 1 = ap (λ x. one_if (is_some (cells x))) same ∙ ap (λ c. one_if (is_some c)) cell_own_g in
                let there : one_if (is_some (kc b)) ≡ 1 = ap (λ x. one_if (is_some (kc x))) same ∙ ap one_if (itself_some (kc h.own) file_k.own) in
                omega (arith, here, there, none)
            | inr other ↦
                let here : one_if (is_some (cells b)) ≡ one_if (is_some (kc b)) = ap (λ c. one_if (is_some c)) (cell_k b other fails) in
                omega (arith, here, none)
          ]
    ]
      where
        some_leaf : (c : Option Cell) → is_leaf_part (cell_part c) ≡ true → is_some c ≡ true
        some_leaf None leaf = truth false leaf refl
        some_leaf (Some c) leaf = refl

    block_count_g : block_count g ≡ block_count h + length taken
    unfolding block_count
    block_count_g =
        let after = count_both (λ b. is_some (kc b)) (λ b. is_leaf_part (part_at h b)) (λ b. is_some (cells b)) 0 h.count one_more in
        let before = count_both (λ b. is_some (file_cells h bytes b)) (λ b. is_leaf_part (part_at h b)) (λ b. is_some (h.cell b)) 0 h.count one_was in
        omega (arith, after, before, blocks_k)

    -- ---- it is sound, and its blocks stand in their places

    pub sound_g : IsTreeSound g
    sound_g = record {
      whole = λ b p part. elim (cases_eq b h.own) [
        | inl same ↦ ap (λ x. length (bytes_at g x)) same ∙ ap length bytes_own_g ∙ says.whole
        | inr other ↦ elim (other_cell b p other part) [
          | inl leaf ↦ ap (λ c. length (cell_bytes c)) leaf.1 ∙ t.sound.whole b p leaf.2
          | inr of_file ↦ ap (λ c. length (cell_bytes c)) of_file.0 ∙ file_k.whole b p of_file.1
        ]
      ];
      header = subst (HasHeader 4 400) (sym bytes_own_g) says.header;
      address = ap (λ (d : Dinode). d.num.address) dinode_g ∙ t.sound.address;
      number = λ none. t.sound.number (sym (ap (λ (d : Dinode). d.num.number) dinode_g) ∙ none);
      fits = fits_g;
      tree = tree_alike k (directory_cells h k own) alike_g tree_k (λ x b n first directory part.
          let found = table_part x b n first part in
          subst (HasHeader 7 700) (sym found.1) (block_has_header h.size big headers pointers first heads_whole (headed first found.0)));
      blocks = ap (λ (d : Dinode). d.blocks) dinode_g ∙ ap (λ n. n + length taken) t.sound.blocks ∙ sym block_count_g;
    }

    own_apart_g : 0 ≢ h.own
    own_apart_g same = no_part Itself (sym t.placed.nobody ∙ ap (part_at h) same ∙ t.placed.own)

    pub placed_g : IsPlaced g
    placed_g = record {
      own = own_part_g;
      only = λ b part. elim (cases_eq b h.own) [
        | inl same ↦ same
        | inr other ↦ elim (other_cell b Itself other part) [
          | inl leaf ↦ truth (is_leaf_part (Some Itself)) leaf.0 refl
          | inr of_file ↦ file_k.only b of_file.1
        ]
      ];
      nobody = ap cell_part (cell_k 0 own_apart_g (ap is_leaf_part t.placed.nobody)) ∙ file_k.nobody;
      inside = λ b there. elim (cases_Bool (is_leaf_part (part_at h b))) [
        | inl leaf ↦ t.placed.inside b (subst IsSome (cell_leaf b leaf) there)
        | inr fails ↦ elim (cases_eq b h.own) [
          | inl same ↦ t.placed.inside b (subst (λ x. IsSome (h.cell x)) (sym same) (itself_some (h.cell h.own) t.placed.own))
          | inr other ↦ elim ((written.blocks.blocks b).0 (subst IsSome (cell_k b other fails) there)) [
            | inl had ↦ inside_file h t blocks bytes is b had
            | inr has ↦ (free b has).1
          ]
        ]
      ];
    }

    pub has_taken : HasTaken h g taken
    has_taken = record {
      count = refl;
      blocks = λ b. (to b, λ which. elim which [ inl had ↦ from b had | inr has ↦ new b has ]);
    }
      where
        in_file : (b : ℕ) → b ≢ h.own → is_leaf_part (part_at h b) ≡ false → IsSome (h.cell b) → IsSome (file_cells h bytes b)
        in_file b other fails had = subst IsSome (sym (cell_other h t blocks bytes is b other)) (stay (h.cell b) fails had)
          where
            stay : (c : Option Cell) → is_leaf_part (cell_part c) ≡ false → IsSome c → IsSome (without_leaf c)
            stay None fails' had' = had'
            stay (Some c) fails' had' = subst IsSome (sym (cond-false (is_leaf_part (Some c.part)) None (Some c) fails')) refl

        to : (b : ℕ) → IsSome (cells b) → IsSome (h.cell b) ⊎ Contains taken b
        to b there = elim (cases_Bool (is_leaf_part (part_at h b))) [
          | inl leaf ↦ inl (subst IsSome (cell_leaf b leaf) there)
          | inr fails ↦ elim (cases_eq b h.own) [
            | inl same ↦ inl (subst (λ x. IsSome (h.cell x)) (sym same) (itself_some (h.cell h.own) t.placed.own))
            | inr other ↦ elim ((written.blocks.blocks b).0 (subst IsSome (cell_k b other fails) there)) [
              | inl had ↦ inl (was (h.cell b) (subst IsSome (cell_other h t blocks bytes is b other) had))
              | inr has ↦ inr has
            ]
          ]
        ]
          where
            was : (c : Option Cell) → IsSome (without_leaf c) → IsSome c
            was None some = some
            was (Some c) some = refl

        from : (b : ℕ) → IsSome (h.cell b) → IsSome (cells b)
        from b had = elim (cases_Bool (is_leaf_part (part_at h b))) [
          | inl leaf ↦ subst IsSome (sym (cell_leaf b leaf)) had
          | inr fails ↦ elim (cases_eq b h.own) [
            | inl same ↦ subst (λ x. IsSome (cells x)) (sym same) (subst IsSome (sym cell_own_g) refl)
            | inr other ↦ subst IsSome (sym (cell_k b other fails)) ((written.blocks.blocks b).1 (inl (in_file b other fails had)))
          ]
        ]

        new : (b : ℕ) → Contains taken b → IsSome (cells b)
        new b has =
            let none = (free b has).0 in
            let other : b ≢ h.own = λ same. no_part Itself (sym (ap cell_part none) ∙ ap (part_at h) same ∙ t.placed.own) in
            subst IsSome (sym (cell_k b other (ap (λ (c : Option Cell). is_leaf_part (cell_part c)) none))) ((written.blocks.blocks b).1 (inr has))

    leaf_of_part : (x hash place : ℕ) → part_at h x ≡ Some (InChain hash place) → is_leaf_part (part_at h x) ≡ true
    leaf_of_part x hash place part = ap is_leaf_part part

    pub leaves_stay : LeavesStay h g
    leaves_stay = record {
      leaves = λ x hash place part. cell_leaf x (leaf_of_part x hash place part);
      parts = λ x hash place part. elim (cases_eq x h.own) [
        | inl same ↦ itself_leaf hash place (sym own_part_g ∙ ap (part_at g) (sym same) ∙ part)
        | inr other ↦ elim (other_cell x (InChain hash place) other part) [
          | inl leaf ↦ leaf.2
          | inr of_file ↦ absurd (file_k.leafless x hash place of_file.1)
        ]
      ];
    }

    -- ---- its pointers

    pub entries_g : (i : ℕ) → i < table_count g → entry g i ≡ entry h (i / 2)
    entries_g i low =
        let deep : table_count g ≡ 2 * table_count h = ap (λ (d : Dinode). 2 ^ d.depth) dinode_g ∙ twofold (dinode_in h).depth in
        let less : i < 2 * table_count h = omega (arith, low, deep) in
        let inside : 8 * i + 8 ≤ (dinode_in g).size = omega (arith, less, size_g) in
        let high : height_in g ≡ suc (height_in k - 1) = height_g ∙ level_k in
        let j : ℕ = 8 * i / unit g in
        let r : ℕ = 8 * i % unit g in
        let split : j * unit g + r ≡ 8 * i = div-add-mod' (8 * i) (unit g) in
        let near : j < many = subst (λ n. j < n) count_g (within g (height_in k - 1) t.block_size directory_g high fits_g (whole_by_parts g sound_g big) i inside) in
        let is_block : content_block g j ≡ content_block k j = block_same j near in
        let some : content_block g j ≢ 0 = λ none. some_k j near (sym is_block ∙ none) in
        let part = content_part k (height_in k - 1) j tree_k big level_k (omega (arith, near, count_k, file_k.fits.under (height_in k - 1) level_k)) (some_k j near) in
        let at : bytes_at g (content_block g j) ≡ table_block h.size headers pointers j = ap (bytes_at g) is_block ∙ (table_part (content_block k j) part.0 part.1 j part.2).1 in
        let fits : r + 8 ≤ h.size - 24 = subst (λ u. 8 * i % u + 8 ≤ h.size - 24) (sym unit_g) (fits_block h.size i t.block_size) in
        let place : j * (h.size - 24) + r ≡ 8 * i = subst (λ u. j * u + r ≡ 8 * i) unit_g split in
        entry_in_block g (height_in k - 1) t.block_size directory_g high fits_g (whole_by_parts g sound_g big) i inside some
        ∙ ap (u64_at (24 + r)) at
        ∙ block_pointer h.size big headers pointers j r heads_whole fits (omega (arith, place, twice.long, less))
        ∙ ap (λ n. u64_at n pointers) place
        ∙ twice.each i less
      where
        twofold : (n : ℕ) → 2 ^ (n + 1) ≡ 2 * 2 ^ n
        twofold n = let next : n + 1 ≡ suc n = omega arith in ap (λ m. 2 ^ m) next ∙ omega arith

    pub is_doubled : IsDoubled h g taken
    is_doubled = record {
      own = refl;
      size = refl;
      sound = sound_g;
      placed = placed_g;
      dinode = dinode_g ∙ ap (λ n. doubled_dinode h n (length taken)) (sym height_g);
      entries = entries_g;
      stays = leaves_stay;
    }

    -- ---- headers and pads

    own_long : (x : Holding) → length (bytes_at x h.own) ≡ h.size → dinode_length ≤ length (bytes_at x h.own)
    own_long x long = omega (arith, long, big)

    own_k : dinode_length ≤ length (bytes_at k h.own)
    own_k = own_long k (file_k.whole h.own Itself file_k.own)

    pads_kg : HaveSamePads (bytes_at k h.own) own
    pads_kg = put_over (doubled_dinode h (height_in k) (length taken)) (bytes_at k h.own) (bytes_at k h.own) own own_k refl says.put

    pads_hk : HaveSamePads (bytes_at h h.own) (bytes_at k h.own)
    pads_hk d behind = (table_file h t blocks bytes is counts).pads d behind ∙ written.headers.pads d behind

    pub pads_kept : KeepsPads (bytes_at h h.own) (bytes_at g h.own)
    unfolding dinode_over
    pads_kept =
        let d = doubled_dinode h (height_in k) (length taken) in
        let old : List ℕ = bytes_at k h.own in
        let over : own ≡ dinode_over d (bytes_at h h.own) (drop dinode_length old) = says.put ∙ ap (dinode_put d) (sym (take-append-drop dinode_length old)) ∙ whole_over d old ∙ sym (pads_hk d (drop dinode_length old)) in
        subst (KeepsPads (bytes_at h h.own)) (sym bytes_own_g) (keeps_by d (bytes_at h h.own) (drop dinode_length old) own over says.said says.behind)
      where
        whole_over : (d : Dinode) (old : List ℕ) → dinode_put d (take dinode_length old ++ drop dinode_length old) ≡ dinode_over d old (drop dinode_length old)
        whole_over d old = refl

    pub headers_kept : KeepsTableHeaders h g taken
    headers_kept = record {
      old = λ b first had stands.
          let part = alike_g.only b stands.0 stands.1 0 first stands.2 in
          let found = table_part b stands.0 stands.1 first part in
          let other : b ≢ h.own = λ same. not_itself stands.0 stands.1 0 first (sym own_part_g ∙ ap (part_at g) (sym same) ∙ stands.2) in
          let fails : is_leaf_part (part_at h b) ≡ false = no_leaf b stands.0 stands.1 first part in
          let in_f : IsSome (file_cells h bytes b) = subst IsSome (sym (cell_other h t blocks bytes is b other)) (stay (h.cell b) fails had) in
          let was = (written.places b 0 first in_f).0 (stands.0, stands.1, part) in
          ap (take 24) found.1 ∙ block_header h.size big headers pointers first heads_whole ∙ old_header b first was;
      new = λ b first has stands.
          let part = alike_g.only b stands.0 stands.1 0 first stands.2 in
          let found = table_part b stands.0 stands.1 first part in
          ap (take 24) found.1 ∙ block_header h.size big headers pointers first heads_whole ∙ fresh_header b first has stands.0 stands.1 part;
    }
      where
        no_leaf : (b from n first : ℕ) → part_at k b ≡ Some (Pointed from n 0 first) → is_leaf_part (part_at h b) ≡ false
        no_leaf b from n first part = elim (cases_Bool (is_leaf_part (part_at h b))) [
          | inl leaf ↦ no_part (Pointed from n 0 first) (ap cell_part (sym (leaf_gone b leaf)) ∙ part)
          | inr fails ↦ fails
        ]

        stay : (c : Option Cell) → is_leaf_part (cell_part c) ≡ false → IsSome c → IsSome (without_leaf c)
        stay None fails had = had
        stay (Some c) fails had = subst IsSome (sym (cond-false (is_leaf_part (Some c.part)) None (Some c) fails)) refl

        is_old : (first : ℕ) → first * 24 < length headers → header_at headers first ≡ slice (first * 24) 24 headers
        is_old first less = cond-true (nat_lt (first * 24) (length headers)) (slice (first * 24) 24 headers) table_header (lt-ltb (first * 24) (length headers) less)

        is_new : (first : ℕ) → length headers ≤ first * 24 → header_at headers first ≡ table_header
        is_new first more = cond-false (nat_lt (first * 24) (length headers)) (slice (first * 24) 24 headers) table_header (le-ltb (first * 24) (length headers) more)

        -- the file's block of content with this index is the directory's
        f_block : (level b first : ℕ) → height_in h ≡ suc level → first < content_count h → content_block f first ≡ content_block h first
        f_block level b first high low = content_block_alike h (file_cells h bytes) (leads_alike h t blocks bytes is) t.sound.tree big level high first (omega (arith, low, t.sound.fits.under level high))

        old_header : (b first : ℕ) → StandsAt f b 0 first → header_at headers first ≡ take 24 (bytes_at h b)
        old_header b first (from, n, part) = by (height_in h) refl
          where
            file_f : IsFile f
            file_f = is_file h t blocks bytes is

            by : (m : ℕ) → height_in h ≡ m → header_at headers first ≡ take 24 (bytes_at h b)
            by zero none = absurd (omega (arith, file_f.tree.below b from n 0 first part, height_file h t blocks bytes is, none))
            by (suc level) high =
                let low : first < content_count h = subst (λ m. first < m) (count_high h t blocks bytes is level high) (part_within f file_f b from n 0 first part) in
                let found = place_of_part f file_f b 0 first (from, n, part) in
                let index : found.0 ≡ first = omega (arith, found.1) in
                let at : content_block h first ≡ b = sym (f_block level b first high low) ∙ content_is_level_zero f first ∙ ap (block_on f 0) (sym index) ∙ found.3 in
                is_old first (omega (arith, low, heads.long level high)) ∙ heads.each level first high low ∙ ap (λ x. take 24 (bytes_at h x)) at

        fresh_header : (b first : ℕ) → Contains taken b → (from n : ℕ) → part_at k b ≡ Some (Pointed from n 0 first) → header_at headers first ≡ table_header
        fresh_header b first has from n part = elim (cases_lt (first * 24) (length headers)) [
          | inr more ↦ is_new first more
          | inl less ↦ by (height_in h) refl less
        ]
          where
            part_some : (c : Option Cell) (p : Part) → cell_part c ≡ Some p → IsSome c
            part_some None p e = no_part p e
            part_some (Some c) p e = refl

            gone : (x : ℕ) → h.cell x ≡ None → file_cells h bytes x ≡ None
            gone x none =
                let other : x ≢ h.own = λ same. no_part Itself (sym (ap cell_part none) ∙ ap (part_at h) same ∙ t.placed.own) in
                cell_other h t blocks bytes is x other ∙ ap without_leaf none

            file_f : IsFile f
            file_f = is_file h t blocks bytes is

            by : (m : ℕ) → height_in h ≡ m → first * 24 < length headers → header_at headers first ≡ table_header
            by zero none less = let empty : length headers ≡ 0 = ap length (heads.none none) in absurd (omega (arith, less, empty))
            by (suc level) high less =
                let low : first < content_count h = omega (arith, less, heads.long level high) in
                let low_f : first < content_count f = subst (λ m. first < m) (sym (count_high h t blocks bytes is level high)) low in
                let c : ℕ = content_block f first in
                let some = full h t blocks bytes is first low_f in
                let high_f : height_in f ≢ 0 = λ none. absurd (omega (arith, none, height_file h t blocks bytes is, high)) in
                let stands = part_of_content f file_f high_f first low_f some in
                let there : IsSome (file_cells h bytes c) = part_some (file_cells h bytes c) _ stands.2 in
                let later = (written.places c 0 first there).1 stands in
                let one = content_of_part c later.0 later.1 first later.2 in
                let two = content_of_part b from n first part in
                let same : b ≡ c = sym two.1 ∙ one.1 in
                let none : file_cells h bytes b ≡ None = gone b (free b has).0 in
                none_some' (file_cells h bytes b) none (subst (λ x. IsSome (file_cells h bytes x)) (sym same) there)

    pub clear_g : IsClearBehind g
    clear_g b i stands last =
        let part = alike_g.only b stands.0 stands.1 0 i stands.2 in
        let found = table_part b stands.0 stands.1 i part in
        let long : (dinode_in g).size ≡ length pointers = size_g ∙ sym twice.long in
        let last' : length pointers < (i + 1) * (h.size - 24) = subst (λ n. n < (i + 1) * (h.size - 24)) long (subst (λ u. (dinode_in g).size < (i + 1) * u) unit_g last) in
        ap₂ (λ n u. drop (24 + (n - i * u)) (bytes_at g b)) long unit_g ∙ ap (drop (24 + (length pointers - i * (h.size - 24)))) found.1
        ∙ block_clear h.size big headers pointers i heads_whole last'
        ∙ ap₂ (λ n u. replicate (u - (n - i * u)) 0) (sym long) (sym unit_g)

    -- ---- it has grown as a file

    -- a regular file's dinode with the directory's other fields
    abbrev of_file : ℕ → ℕ → ℕ → Dinode
    of_file size count height = record (dinode_in h) { mode = 33188; nlink = 1; depth = 0; size = size; blocks = count; height = height }

    dinode_k : dinode_in k ≡ of_file (dinode_in k).size (dinode_in k).blocks (height_in k)
    dinode_k =
        let end = size_with f (0 + length raw) in
        let made : dinode_in k ≡ of_file end ((dinode_in f).blocks + length taken) (height_for f end)
        = written.dinode ∙ ap (λ (d : Dinode). dinode_as d end ((dinode_in f).blocks + length taken) (height_for f end)) (dinode_file h t blocks bytes is) in
        made ∙ sym (ap (λ n. of_file n (dinode_in k).blocks (height_in k)) (ap (λ (d : Dinode). d.size) made)
        ∙ ap (λ n. of_file end n (height_in k)) (ap (λ (d : Dinode). d.blocks) made)
        ∙ ap (of_file end ((dinode_in f).blocks + length taken)) (ap (λ (d : Dinode). d.height) made))

    pub table_file_g : IsTableFile g k
    table_file_g = record {
      size = refl;
      count = refl;
      own = refl;
      itself = file_k.own ∙ sym own_part_g;
      others = λ b other. elim (cases_Bool (is_leaf_part (part_at h b))) [
        | inl leaf ↦ leaf_gone b leaf ∙ sym (ap without_leaf (cell_leaf b leaf) ∙ leaf_without (h.cell b) leaf)
        | inr fails ↦ sym (ap without_leaf (cell_k b other fails) ∙ stays (kc b) (λ hash place part. file_k.leafless b hash place part))
      ];
      dinode =
          let high : height_in g ≢ 0 = λ none. high_k (sym height_g ∙ none) in
          let size_is : (dinode_in k).size ≡ (if height_in g == 0 then 0 else content_count g * h.size) = size_k ∙ ap (λ n. n * h.size) (sym count_g) ∙ sym (cond-false (height_in g == 0) 0 (content_count g * h.size) (ne_eqb (height_in g) 0 high)) in
          dinode_k ∙ ap (λ n. of_file n (dinode_in k).blocks (height_in k)) size_is
          ∙ ap (λ n. of_file (if height_in g == 0 then 0 else content_count g * h.size) n (height_in k)) written.sound.blocks
          ∙ sym (ap (λ (d : Dinode). record d { mode = 33188; nlink = 1; depth = 0; size = (if height_in g == 0 then 0 else content_count g * h.size); blocks = block_count k }) dinode_g);
      pointers = λ high. sym (ap (drop dinode_length) bytes_own_g ∙ says.behind);
      pads = λ d behind. ap (λ (xs : List ℕ). dinode_over d xs behind) bytes_own_g ∙ sym (pads_kg d behind);
    }
      where
        stays : (c : Option Cell) → ((hash place : ℕ) → cell_part c ≡ Some (InChain hash place) → ⊥) → without_leaf c ≡ c
        stays None leafless = refl
        stays (Some c) leafless = by c.part refl
          where
            by : (p : Part) → c.part ≡ p → (if is_leaf_part (Some c.part) then None else Some c) ≡ Some c
            by Itself e = cond-false (is_leaf_part (Some c.part)) None (Some c) (ap (λ q. is_leaf_part (Some q)) e)
            by (Pointed b n level first) e = cond-false (is_leaf_part (Some c.part)) None (Some c) (ap (λ q. is_leaf_part (Some q)) e)
            by (InChain hash place) e = absurd (leafless hash place (ap (λ q. Some q) e))

    pub grows : GrowsAsFile h g taken
    grows = record { before = f; after = k; bytes = raw; of_old = table_file h t blocks bytes is counts; of_new = table_file_g; written = written }
