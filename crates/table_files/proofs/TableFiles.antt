-- A directory without its leaves is a file of whole blocks without holes.
use Rattle.std.proofs.Common.{◌≡◌, ◌≢◌, ℕ, zero, suc, ◌+◌, ◌-◌, ◌*◌, ◌/◌, ◌^◌, ◌<◌, ◌≤◌, inl, inr, Bool, true, false, List, length, drop, Option, None, Some, refl, sym, ap, ap₂, ◌∙◌, subst, arith}
use Rattle.std.specs.Prelude.{◌==◌, IsSome, if◌then◌else◌}
use Rattle.std.proofs.lemmas.Bool.{cases_eq, cond-true, cond-false, eq-eqb, ne_eqb}
use Rattle.std.proofs.Math.Nat.{mul-div_cancel, mul-le-mul_right}
use Rattle.gfs2_layout.specs.Device.{IsBlockSize}
use Rattle.gfs2_layout.specs.Headers.{HasHeader}
use Rattle.gfs2_layout.specs.Holding.{Cell, Holding, Part, Itself, Pointed, InChain, cell_bytes, cell_part, part_at, bytes_at}
use Rattle.gfs2_layout.specs.Inode.{Fits, block_count, content_block, content_count, content_of, dinode_in, fan, header_length, height_in, is_directory_in, is_leaf_part, pieces, span, table_count, unit}
use Rattle.gfs2_layout.specs.Structures.{dinode_length, dinode_of, is_regular}
use Rattle.gfs2_layout.specs.declared.dinode.Dinode.{Dinode}
use Rattle.glock_names.specs.Views.{Seen}
use Rattle.dinode_tree.specs.Pads.{dinode_over}
use Rattle.dinode_tree.specs.Shown.{IsAsSeen, IsShown}
use Rattle.dinode_tree.proofs.Sound.{size_large}
use Rattle.growth_laws.specs.Files.{IsFile, with_cells}
use Rattle.growth_laws.specs.Need.{height_for, needed, raised_to}
use Rattle.growth_laws.proofs.Contents.{no_directory, whole_unit}
use Rattle.growth_laws.proofs.Numbers.{numbers_behind_are_the_same}
use Rattle.growth_laws.proofs.Parts.{not_itself}
use Rattle.growth_drafts.specs.Taken.{AreFreeFor, IsCounted}
use Rattle.growth_drafts.proofs.Shown.{files_are_shown}
use Rattle.table_growth.specs.Headers.{HaveSamePads}
use Rattle.table_growth.proofs.Headers.{put_over}
use Rattle.table_growth.specs.Written.{CanWrite}
use Rattle.table_growth.proofs.Writes.{long_content}
use Rattle.table_growth.specs.Tables.{CanDouble, IsTableFile, doubling_need, table_blocks, table_height, tree_blocks, without_leaf}
use Rattle.table_files.specs.Files.{SaysInstead, file_cells, file_dinode, own_cell}
use Rattle.table_files.specs.Laws.{IsTable}
use Rattle.table_files.proofs.Alike.{LeadAlike, content_block_alike, tree_alike}
use Rattle.table_files.proofs.ContentParts.{whole_by_parts}
use Rattle.tree_tables.proofs.Entries.{entry_in_hole}
use Rattle.table_files.proofs.Filled.{blocks_counted, needed_all}
use Rattle.table_files.proofs.Pieces.{begins_piece, more_pieces, piece_begins, whole_pieces}

-- ---- cells without leaves

pub leafless_stays : (c : Option Cell) (p : Part) → cell_part c ≡ Some p → is_leaf_part (Some p) ≡ false → without_leaf c ≡ c
leafless_stays None p at other = refl
leafless_stays (Some c) p at other = cond-false (is_leaf_part (Some c.part)) None (Some c) (ap is_leaf_part at ∙ other)

pub stays_leafless : (c : Option Cell) (p : Part) → cell_part (without_leaf c) ≡ Some p → (without_leaf c ≡ c) × (cell_part c ≡ Some p) × (is_leaf_part (Some p) ≡ false)
stays_leafless None p at = (refl, at, ap is_leaf_part (sym at))
stays_leafless (Some c) p at = by (is_leaf_part (Some c.part)) refl at
  where
    by : (t : Bool) → is_leaf_part (Some c.part) ≡ t → cell_part (if t then None else Some c) ≡ Some p
        → ((if is_leaf_part (Some c.part) then None else Some c) ≡ Some c) × (Some c.part ≡ Some p) × (is_leaf_part (Some p) ≡ false)
    by true e is = let never : ◌≡◌ {A = Option Part} None (Some p) = is in absurd (cc)
    by false e is = (cond-false (is_leaf_part (Some c.part)) None (Some c) e, is, ap is_leaf_part (sym is) ∙ e)

none_without : (c : Option Cell) → cell_part c ≡ None → cell_part (without_leaf c) ≡ None
none_without None at = refl
none_without (Some c) at = let never : ◌≡◌ {A = Option Part} (Some c.part) None = at in absurd (cc)

some_without : (c : Option Cell) → IsSome (without_leaf c) → IsSome c
some_without None some = some
some_without (Some c) some = refl

-- a leaf is none of the file
pub leaf_without : (c : Option Cell) → is_leaf_part (cell_part c) ≡ true → without_leaf c ≡ None
leaf_without None leaf = refl
leaf_without (Some c) leaf = cond-true (is_leaf_part (Some c.part)) None (Some c) leaf

-- ---- pointers and blocks

-- a table block carries whole pointers
pub whole_words : (size : ℕ) → IsBlockSize size → size - 24 ≡ 8 * ((size - 24) / 8)
whole_words size (inl e) = subst (λ s. s - 24 ≡ 8 * ((s - 24) / 8)) (sym e) refl
whole_words size (inr (inl e)) = subst (λ s. s - 24 ≡ 8 * ((s - 24) / 8)) (sym e) refl
whole_words size (inr (inr (inl e))) = subst (λ s. s - 24 ≡ 8 * ((s - 24) / 8)) (sym e) refl
whole_words size (inr (inr (inr e))) = subst (λ s. s - 24 ≡ 8 * ((s - 24) / 8)) (sym e) refl

module _ (h : Holding) (t : IsTable h) where
  pub large : 512 ≤ h.size
  large = size_large h.size t.block_size

  pub unit_is : unit h ≡ h.size - 24
  unit_is = cond-true (is_directory_in h) (h.size - header_length) h.size t.directory

  unit_some : 0 < h.size - 24
  unit_some = omega (arith, large)

  -- where its content stands in blocks, these are as many as a table takes
  pub count_is : content_count h ≡ table_blocks h.size (table_count h)
  count_is = ap₂ pieces t.size unit_is

  -- none of its blocks is missing
  pub no_hole : (level : ℕ) → height_in h ≡ suc level → (j : ℕ) → j < content_count h → content_block h j ≢ 0
  no_hole level high j low none =
      let w : ℕ = (h.size - 24) / 8 in
      let i : ℕ = j * w in
      let words : h.size - 24 ≡ 8 * w = whole_words h.size t.block_size in
      let begins : j * (h.size - 24) < 8 * table_count h = piece_begins (8 * table_count h) (h.size - 24) j unit_some (subst (λ n. j < n) count_is low) in
      let spread : j * (8 * w) ≡ 8 * i = grouped j w in
      let same : 8 * i ≡ j * (h.size - 24) = sym (ap (λ n. j * n) words ∙ spread) in
      let inside : 8 * i + 8 ≤ (dinode_in h).size = omega (arith, t.size, begins, same) in
      let place : 8 * i / unit h ≡ j = ap₂ (λ a b. a / b) same unit_is ∙ mul-div_cancel j unit_some in
      t.leads i (omega (arith, t.size, inside)) (entry_in_hole h level t.block_size t.directory high t.sound.fits (whole_by_parts h t.sound large) i inside (ap (content_block h) place ∙ none))
    where
      grouped : (a b : ℕ) → a * (8 * b) ≡ 8 * (a * b)
      grouped a b = omega arith

-- ---- the file

module _ (h : Holding) (t : IsTable h) (blocks : ℕ) (bytes : List ℕ) (is : SaysInstead h (file_dinode h blocks) bytes) where
  abbrev pub file_of : Holding
  file_of = with_cells h (file_cells h bytes)

  pub cell_own : file_cells h bytes h.own ≡ own_cell bytes
  cell_own = cond-true (h.own == h.own) (own_cell bytes) (without_leaf (h.cell h.own)) (eq-eqb h.own h.own refl)

  pub cell_other : (b : ℕ) → b ≢ h.own → file_cells h bytes b ≡ without_leaf (h.cell b)
  cell_other b other = cond-false (b == h.own) (own_cell bytes) (without_leaf (h.cell b)) (ne_eqb b h.own other)

  pub own_bytes : bytes_at file_of h.own ≡ bytes
  own_bytes = ap cell_bytes cell_own

  pub dinode_file : dinode_in file_of ≡ file_dinode h blocks
  unfolding dinode_in
  dinode_file = ap dinode_of own_bytes ∙ is.said

  pub height_file : height_in file_of ≡ height_in h
  height_file = ap (λ (d : Dinode). d.height) dinode_file

  regular_file : is_regular (dinode_in file_of) ≡ true
  regular_file = ap is_regular dinode_file

  unit_file : unit file_of ≡ h.size
  unit_file = whole_unit file_of regular_file

  size_some : 0 < h.size
  size_some = omega (arith, large h t)

  -- a block with a pointed part isn't the dinode's
  pointed_other : (x b k level first : ℕ) → part_at h x ≡ Some (Pointed b k level first) → x ≢ h.own
  pointed_other x b k level first part same = not_itself b k level first (sym t.placed.own ∙ ap (part_at h) (sym same) ∙ part)

  pub cell_pointed : (x b k level first : ℕ) → part_at h x ≡ Some (Pointed b k level first) → file_cells h bytes x ≡ h.cell x
  cell_pointed x b k level first part = cell_other x (pointed_other x b k level first part) ∙ leafless_stays (h.cell x) _ part refl

  -- and each other block of the file is the directory's
  pub cell_back : (x : ℕ) (p : Part) → x ≢ h.own → part_at file_of x ≡ Some p → (file_cells h bytes x ≡ h.cell x) × (part_at h x ≡ Some p) × (is_leaf_part (Some p) ≡ false)
  cell_back x p other part =
      let back = stays_leafless (h.cell x) p (sym (ap cell_part (cell_other x other)) ∙ part) in
      (cell_other x other ∙ back.0, back.1, back.2)

  pub own_part : part_at file_of h.own ≡ Some Itself
  own_part = ap cell_part cell_own

  file_other : (x b k level first : ℕ) → part_at file_of x ≡ Some (Pointed b k level first) → x ≢ h.own
  file_other x b k level first part same = not_itself b k level first (sym own_part ∙ ap (part_at file_of) (sym same) ∙ part)

  size_high : (level : ℕ) → height_in h ≡ suc level → (dinode_in file_of).size ≡ content_count h * h.size
  size_high level high = ap (λ (d : Dinode). d.size) dinode_file ∙ cond-false (height_in h == 0) 0 (content_count h * h.size) (ne_eqb (height_in h) 0 (λ e. absurd (omega (arith, e, high))))

  size_low : height_in h ≡ 0 → (dinode_in file_of).size ≡ 0
  size_low none = ap (λ (d : Dinode). d.size) dinode_file ∙ cond-true (height_in h == 0) 0 (content_count h * h.size) (eq-eqb (height_in h) 0 none)

  pub count_high : (level : ℕ) → height_in h ≡ suc level → content_count file_of ≡ content_count h
  count_high level high = ap₂ pieces (size_high level high) unit_file ∙ whole_pieces (content_count h) h.size size_some

  count_low : height_in h ≡ 0 → content_count file_of ≡ 0
  count_low none = let zeros : 0 ≡ 0 * h.size = omega arith in ap₂ pieces (size_low none ∙ zeros) unit_file ∙ whole_pieces 0 h.size size_some

  pub leads_alike : LeadAlike h (file_cells h bytes)
  leads_alike = record {
    height = height_file;
    count = count_high;
    own = λ level k high. numbers_behind_are_the_same (bytes_at file_of h.own) (bytes_at h h.own) dinode_length dinode_length (8 * k) (ap (drop dinode_length) own_bytes ∙ is.behind);
    parts = λ x b k level first part. ap cell_part (cell_pointed x b k level first part) ∙ part;
    only = λ x b k level first part. (cell_back x _ (file_other x b k level first part) part).1;
    indirect = λ x b k level first part. ap cell_bytes (cell_pointed x b k (suc level) first part);
  }

  fits_file : Fits file_of
  fits_file = record {
    low = subst (λ n. n ≤ 10) (sym height_file) t.sound.fits.low;
    stuffed = λ none. omega (arith, size_low (sym height_file ∙ none), large h t);
    under = λ level high. let high' = sym height_file ∙ high in subst (λ n. n ≤ fan h.size dinode_length * span h.size level) (sym (count_high level high')) (t.sound.fits.under level high');
  }

  own_apart : 0 ≢ h.own
  own_apart same = let both : Some Itself ≡ None = sym t.placed.own ∙ ap (part_at h) (sym same) ∙ t.placed.nobody in absurd (cc)

  pub is_file : IsFile file_of
  is_file = record {
    block_size = t.block_size;
    own = own_part;
    only = λ b part. elim (cases_eq b h.own) [ inl same ↦ same | inr other ↦ t.placed.only b (cell_back b Itself other part).1 ];
    nobody = ap cell_part (cell_other 0 own_apart) ∙ none_without (h.cell 0) t.placed.nobody;
    whole = λ b p part. elim (cases_eq b h.own) [
      | inl same ↦ ap (λ x. length (bytes_at file_of x)) same ∙ ap length own_bytes ∙ is.whole
      | inr other ↦ let back = cell_back b p other part in ap (λ c. length (cell_bytes c)) back.0 ∙ t.sound.whole b p back.1
    ];
    header = subst (HasHeader 4 400) (sym own_bytes) is.header;
    address = ap (λ (d : Dinode). d.num.address) dinode_file ∙ t.sound.address;
    number = λ none. t.sound.number (sym (ap (λ (d : Dinode). d.num.number) dinode_file) ∙ none);
    regular = regular_file;
    links = ap (λ (d : Dinode). d.nlink) dinode_file;
    fits = fits_file;
    tree = tree_alike h (file_cells h bytes) leads_alike t.sound.tree (λ x b k first directory part. never directory (no_directory file_of regular_file));
    leafless = λ x hash place part. elim (cases_eq x h.own) [
      | inl same ↦ let both : Some Itself ≡ Some (InChain hash place) = sym own_part ∙ ap (part_at file_of) (sym same) ∙ part in absurd (cc)
      | inr other ↦ let both : true ≡ false = (cell_back x (InChain hash place) other part).2 in absurd (cc)
    ];
  }
    where
      never : {A : Type 0} → is_directory_in file_of ≡ true → is_directory_in file_of ≡ false → A
      never is_one is_none = let both : true ≡ false = sym is_one ∙ is_none in absurd (cc)

  -- its content is as long as its dinode says
  pub content_same : length (content_of file_of) ≡ (dinode_in file_of).size
  content_same = long_content file_of is_file

  -- it has no hole
  pub full : (i : ℕ) → i < content_count file_of → content_block file_of i ≢ 0
  full i low = by (height_in h) refl
    where
      by : (n : ℕ) → height_in h ≡ n → content_block file_of i ≢ 0
      by zero none = absurd (omega (arith, count_low none, low))
      by (suc level) high =
          let low' : i < content_count h = subst (λ n. i < n) (count_high level high) low in
          let same = content_block_alike h (file_cells h bytes) leads_alike t.sound.tree (large h t) level high i (omega (arith, low', t.sound.fits.under level high)) in
          λ none. no_hole h t level high i low' (sym same ∙ none)

  pub inside_file : (b : ℕ) → IsSome (file_of.cell b) → b < h.count
  inside_file b some = elim (cases_eq b h.own) [
    | inl same ↦ t.placed.inside b (subst (λ x. IsSome (h.cell x)) (sym same) (there (h.cell h.own) t.placed.own))
    | inr other ↦ t.placed.inside b (some_without (h.cell b) (subst IsSome (cell_other b other) some))
  ]
    where
      there : (c : Option Cell) → cell_part c ≡ Some Itself → IsSome c
      there None e = let never : ◌≡◌ {A = Option Part} None (Some Itself) = e in absurd (cc)
      there (Some c) e = refl

  -- its tree has as many blocks as a table's
  pub tree_file : tree_blocks h.size (height_in file_of) (content_count file_of) ≡ tree_blocks h.size (height_in h) (table_blocks h.size (table_count h))
  tree_file = ap (λ n. tree_blocks h.size n (content_count file_of)) height_file ∙ by (height_in h) refl
    where
      by : (n : ℕ) → height_in h ≡ n → tree_blocks h.size n (content_count file_of) ≡ tree_blocks h.size n (table_blocks h.size (table_count h))
      by zero none = refl
      by (suc level) high = ap (tree_blocks h.size (suc level)) (count_high level high ∙ count_is h t)

  pub block_count_file : block_count file_of ≡ 1 + tree_blocks h.size (height_in h) (table_blocks h.size (table_count h))
  block_count_file = blocks_counted file_of is_file full inside_file ∙ ap (λ n. 1 + n) tree_file

  -- ---- what is written over it

  module _ (counts : blocks ≡ 1 + tree_blocks h.size (height_in h) (table_blocks h.size (table_count h))) where
    blocks_same : blocks ≡ block_count file_of
    blocks_same = counts ∙ sym block_count_file

    own_large : dinode_length ≤ length (bytes_at h h.own)
    own_large = omega (arith, t.sound.whole h.own Itself t.placed.own, large h t)

    same_pads : HaveSamePads (bytes_at h h.own) bytes
    same_pads = put_over (file_dinode h blocks) (bytes_at h h.own) (bytes_at h h.own) bytes own_large refl is.put

    pub counted_file : IsCounted file_of
    counted_file = record { file = is_file; blocks = ap (λ (d : Dinode). d.blocks) dinode_file ∙ blocks_same }

    pub table_file : IsTableFile h file_of
    table_file = record {
      size = refl;
      count = refl;
      own = refl;
      itself = own_part ∙ sym t.placed.own;
      others = cell_other;
      dinode = dinode_file ∙ ap (file_dinode h) blocks_same;
      pointers = λ high. ap (drop dinode_length) own_bytes ∙ is.behind;
      pads = λ d behind. same_pads d behind ∙ ap (λ (xs : List ℕ). dinode_over d xs behind) (sym own_bytes);
    }

    abbrev twice : ℕ
    twice = table_blocks h.size (2 * table_count h)

    table_some : 1 ≤ table_count h
    table_some = power (dinode_in h).depth
      where
        power : (n : ℕ) → 1 ≤ 2 ^ n
        power zero = omega arith
        power (suc n) = let rest = power n in omega (arith, rest)

    unit_pos : 0 < h.size - 24
    unit_pos = omega (arith, large h t)

    twice_some : 1 ≤ twice
    twice_some = begins_piece (8 * (2 * table_count h)) (h.size - 24) 0 unit_pos (omega (arith, table_some))

    twice_more : table_blocks h.size (table_count h) ≤ twice
    twice_more = more_pieces (8 * table_count h) (8 * (2 * table_count h)) (h.size - 24) unit_pos (omega arith)

    pub count_more : content_count file_of ≤ twice
    count_more = by (height_in h) refl
      where
        by : (n : ℕ) → height_in h ≡ n → content_count file_of ≤ twice
        by zero none = omega (arith, count_low none)
        by (suc level) high = omega (arith, count_high level high, count_is h t, twice_more)

    pub size_more : (dinode_in file_of).size ≤ twice * h.size
    size_more = by (height_in h) refl
      where
        by : (n : ℕ) → height_in h ≡ n → (dinode_in file_of).size ≤ twice * h.size
        by zero none = omega (arith, size_low none)
        by (suc level) high =
            let wide : content_count h * h.size ≤ twice * h.size = mul-le-mul_right h.size (let less : content_count h ≤ twice = omega (arith, count_is h t, twice_more) in less) in
            omega (arith, size_high level high, wide)

    pub needed_file : needed file_of 0 (twice * h.size) ≡ doubling_need h.size (height_in h) (table_count h)
    needed_file =
        needed_all file_of is_file full twice twice_some count_more size_more
        ∙ ap (λ n. tree_blocks h.size (raised_to h.size n (twice * h.size) (10 - n)) twice - tree_blocks h.size (height_in file_of) (content_count file_of)) height_file
        ∙ ap (λ n. tree_blocks h.size (table_height h.size (height_in h) (2 * table_count h)) twice - n) tree_file

    pub height_for_file : height_for file_of (twice * h.size) ≡ table_height h.size (height_in h) (2 * table_count h)
    height_for_file = ap (λ n. raised_to h.size n (twice * h.size) (10 - n)) height_file

    pub free_file : (room : List ℕ) → AreFreeFor h room → AreFreeFor file_of room
    free_file room free = record {
      some = free.some;
      once = free.once;
      inside = free.inside;
      new = λ b has. elim (cases_eq b h.own) [
        | inl same ↦ let both : Some Itself ≡ None = sym t.placed.own ∙ ap (part_at h) (sym same) ∙ ap cell_part (free.new b has) in absurd (cc)
        | inr other ↦ cell_other b other ∙ ap without_leaf (free.new b has)
      ];
    }

    pub can_write : (room : List ℕ) → CanDouble h room → CanWrite file_of 0 (twice * h.size) room
    can_write room can = record { counted = counted_file; few = can.few; free = free_file room can.free; enough = omega (arith, needed_file, can.enough) }

  -- ---- what shows it

  pub shown_file : (v w : Seen) → IsShown v h.own h → w.size ≡ v.size → w.block_at h.own ≡ Some bytes → ((b : ℕ) → b ≢ h.own → w.block_at b ≡ v.block_at b) → IsShown w h.own file_of
  shown_file v w shown size at others = files_are_shown w file_of is_file (shown.size ∙ sym size) seen
    where
      same_of : (xs ys : List ℕ) → Some xs ≡ Some ys → xs ≡ ys
      same_of xs ys e = cc

      -- what the directory has without its leaves it has
      stay : (c : Option Cell) → IsSome (without_leaf c) → cell_bytes (without_leaf c) ≡ cell_bytes c
      stay None some = refl
      stay (Some c) some = pick (is_leaf_part (Some c.part)) refl some
        where
          pick : (q : Bool) → is_leaf_part (Some c.part) ≡ q → IsSome (if q then None else Some c) → cell_bytes (if is_leaf_part (Some c.part) then None else Some c) ≡ c.bytes
          pick true e there = let never : false ≡ true = there in absurd (cc)
          pick false e there = ap cell_bytes (cond-false (is_leaf_part (Some c.part)) None (Some c) e)

      seen : IsAsSeen w file_of
      seen b bytes' some has = elim (cases_eq b h.own) [
        | inl same ↦ ap (bytes_at file_of) same ∙ own_bytes ∙ same_of bytes bytes' (sym at ∙ ap w.block_at (sym same) ∙ has)
        | inr other ↦
            let there : IsSome (without_leaf (h.cell b)) = subst IsSome (cell_other b other) some in
            ap cell_bytes (cell_other b other) ∙ stay (h.cell b) there ∙ shown.same b bytes' (some_without (h.cell b) there) (sym (others b other) ∙ has)
      ]
