-- A file in which a hole is filled.
use Rattle.std.proofs.Common.{◌≡◌, ◌≢◌, ◌⊎◌, ℕ, suc, ◌+◌, ◌-◌, ◌*◌, ◌<◌, ◌≤◌, inl, inr, true, false, List, length, drop, Option, Some, None, refl, sym, ap, ap₂, subst, ◌∙◌, arith}
use Rattle.std.proofs.lemmas.Bool.{cases_eq, cond-true, cond-false, eq-eqb, ne_eqb}
use Rattle.std.specs.Prelude.{replicate, is_some}
use Rattle.gfs2_layout.specs.Headers.{HasHeader}
use Rattle.gfs2_layout.specs.Holding.{Part, Itself, Pointed, InChain, Cell, Holding, cell_part, part_at, bytes_at}
use Rattle.gfs2_layout.specs.Inode.{dinode_in, height_in, header_length, fan, span, pointer, unit, carried, content_block, pieces, content_count, content_of, IsChild, IsPointed, by_dinode, by_block, HasTree, block_count}
use Rattle.gfs2_layout.specs.Structures.{dinode_length, is_regular}
use Rattle.gfs2_layout.specs.declared.dinode.Dinode.{Dinode}
use Rattle.dinode_tree.proofs.Spans.{span_some}
use Rattle.growth_laws.specs.Files.{IsFile, with_cells, places_on, block_on, IsPlaced}
use Rattle.growth_laws.specs.Steps.{IsFilled}
use Rattle.growth_laws.specs.Laws.{FillsKeepFiles, FillsKeepContent, FillsAddOne, FillsOnePlace}
use Rattle.growth_laws.proofs.Counting.{count_more}
use Rattle.growth_laws.proofs.Contents.{no_directory, whole_unit, same_place, content_place, same_content}
use Rattle.growth_laws.proofs.Parts.{same_from, same_pointer, same_level, same_first, not_itself, some_part, pointed_at}
use Rattle.growth_laws.proofs.Places.{size_large, cancelled, place_of_pointer, part_of_place, pointer_low, part_there, content_is_level_zero}

module _ (h : Holding) (cell : ℕ → Option Cell) (from k level first b : ℕ) (file : IsFile h) (f : IsFilled h cell from k level first b) where
  height_same : height_in (with_cells h cell) ≡ height_in h
  height_same = ap (λ (d : Dinode). d.height) f.dinode

  size_same : (dinode_in (with_cells h cell)).size ≡ (dinode_in h).size
  size_same = ap (λ (d : Dinode). d.size) f.dinode

  regular_same : is_regular (dinode_in (with_cells h cell)) ≡ true
  regular_same = ap is_regular f.dinode ∙ file.regular

  count_same : content_count (with_cells h cell) ≡ content_count h
  count_same = ap₂ pieces size_same (whole_unit (with_cells h cell) regular_same ∙ sym (whole_unit h file.regular))

  -- ---- parts

  none_before : part_at h b ≡ None
  none_before = ap cell_part f.new

  is_old : (x : ℕ) (p : Part) → part_at h x ≡ Some p → x ≢ b
  is_old x p part same = let both : Some p ≡ None = sym part ∙ ap (part_at h) same ∙ none_before in absurd (cc)

  part_stays : (x : ℕ) (p : Part) → part_at h x ≡ Some p → part_at (with_cells h cell) x ≡ Some p
  part_stays x p part = f.stays.parts x (is_old x p part) ∙ part

  own_old : h.own ≢ b
  own_old = is_old h.own Itself file.own

  -- ---- children

  child_stays : (x j l s c : ℕ) → IsChild h x j l s c → IsChild (with_cells h cell) x j l s c
  child_stays x j l s c child = record { part = part_stays c (Pointed x j l s) child.part; within = subst (λ n. s < n) (sym count_same) child.within }

  child_new : (x j l s c : ℕ) → x ≡ from → j ≡ k → l ≡ level → s ≡ first → c ≡ b → IsChild (with_cells h cell) x j l s c
  child_new x j l s c xe je le se ce = record {
    part = ap (part_at (with_cells h cell)) ce ∙ f.part ∙ sym (λ i. Some (Pointed (xe i) (je i) (le i) (se i)));
    within = omega (arith, se, f.within, count_same);
  }

  -- where the hole is, by which block has it
  top_hole : (l : ℕ) → h.own ≡ from → height_in h ≡ suc l → (l ≡ level) × (first ≡ k * span h.size level) × (pointer (with_cells h cell) dinode_length h.own k ≡ b)
  top_hole l same high = by f.filled
    where
      by : IsPointed (with_cells h cell) b from k level first → (l ≡ level) × (first ≡ k * span h.size level) × (pointer (with_cells h cell) dinode_length h.own k ≡ b)
      by (by_dinode own high' low is first_is) = (omega (arith, high, high', height_same), first_is, ap (λ x. pointer (with_cells h cell) dinode_length x k) same ∙ is)
      by (by_block above j start part low is first_is) = absurd (not_itself _ _ _ _ (sym (part_stays h.own Itself file.own) ∙ ap (part_at (with_cells h cell)) same ∙ part))

  inner_hole : (x a j l s : ℕ) → x ≡ from → part_at h x ≡ Some (Pointed a j (suc l) s) → (l ≡ level) × (first ≡ s + k * span h.size level) × (pointer (with_cells h cell) header_length x k ≡ b)
  inner_hole x a j l s same part = by f.filled
    where
      by : IsPointed (with_cells h cell) b from k level first → (l ≡ level) × (first ≡ s + k * span h.size level) × (pointer (with_cells h cell) header_length x k ≡ b)
      by (by_dinode own high' low is first_is) = absurd (not_itself _ _ _ _ (sym file.own ∙ ap (part_at h) (sym own ∙ sym same) ∙ part))
      by (by_block above i start part' low is first_is) =
          let both : Some (Pointed a j (suc l) s) ≡ Some (Pointed above i (suc level) start) = sym (part_stays x _ part) ∙ ap (part_at (with_cells h cell)) same ∙ part' in
          (omega (arith, same_level both), first_is ∙ ap (λ n. n + k * span h.size level) (sym (same_first both)), ap (λ y. pointer (with_cells h cell) header_length y k) same ∙ is)

  top : (l : ℕ) → height_in (with_cells h cell) ≡ suc l → (j : ℕ) → j < fan h.size dinode_length → pointer (with_cells h cell) dinode_length h.own j ≢ 0
      → IsChild (with_cells h cell) h.own j l (j * span h.size l) (pointer (with_cells h cell) dinode_length h.own j)
  top l high j low some = elim (cases_eq h.own from) [
    | inl same ↦ elim (cases_eq j k) [
      | inl is ↦
          let at = top_hole l same (sym height_same ∙ high) in
          child_new h.own j l (j * span h.size l) _ same is at.0 (ap₂ (λ n m. n * span h.size m) is at.0 ∙ sym at.1) (ap (pointer (with_cells h cell) dinode_length h.own) is ∙ at.2)
      | inr apart ↦ old (f.pointers.of_dinode j (λ e. apart))
    ]
    | inr other ↦ old (f.pointers.of_dinode j (λ e. absurd (other e)))
  ]
    where
      old : pointer (with_cells h cell) dinode_length h.own j ≡ pointer h dinode_length h.own j → IsChild (with_cells h cell) h.own j l (j * span h.size l) (pointer (with_cells h cell) dinode_length h.own j)
      old e = subst (IsChild (with_cells h cell) h.own j l (j * span h.size l)) (sym e)
          (child_stays h.own j l (j * span h.size l) _ (file.tree.top l (sym height_same ∙ high) j low (λ none. some (e ∙ none))))

  -- the file has a part of the new block, or had it before
  new_or_old : (x : ℕ) (p : Part) → part_at (with_cells h cell) x ≡ Some p → ((x ≡ b) × (Some p ≡ Some (Pointed from k level first))) ⊎ ((x ≢ b) × (part_at h x ≡ Some p))
  new_or_old x p part = elim (cases_eq x b) [
    | inl is ↦ inl (is, sym part ∙ ap (part_at (with_cells h cell)) is ∙ f.part)
    | inr apart ↦ inr (apart, sym (f.stays.parts x apart) ∙ part)
  ]

  inner : (x a i l s : ℕ) → part_at (with_cells h cell) x ≡ Some (Pointed a i (suc l) s) → (j : ℕ) → j < fan h.size header_length → pointer (with_cells h cell) header_length x j ≢ 0
      → IsChild (with_cells h cell) x j l (s + j * span h.size l) (pointer (with_cells h cell) header_length x j)
  inner x a i l s part j low some = elim (new_or_old x _ part) [
    | inl new ↦ absurd (some (ap (λ y. pointer (with_cells h cell) header_length y j) new.0 ∙ f.leads_nowhere l j (sym (same_level new.1))))
    | inr old ↦ elim (cases_eq x from) [
      | inl same ↦ elim (cases_eq j k) [
        | inl is ↦
            let at = inner_hole x a i l s same old.1 in
            child_new x j l (s + j * span h.size l) _ same is at.0 (ap₂ (λ n m. s + n * span h.size m) is at.0 ∙ sym at.1) (ap (pointer (with_cells h cell) header_length x) is ∙ at.2)
        | inr apart ↦ before old (f.pointers.of_blocks x j (not_own old) old.0 (λ e. apart))
      ]
      | inr other ↦ before old (f.pointers.of_blocks x j (not_own old) old.0 (λ e. absurd (other e)))
    ]
  ]
    where
      not_own : ((x ≢ b) × (part_at h x ≡ Some (Pointed a i (suc l) s))) → x ≢ h.own
      not_own old e = not_itself _ _ _ _ (sym file.own ∙ ap (part_at h) (sym e) ∙ old.1)

      before : ((x ≢ b) × (part_at h x ≡ Some (Pointed a i (suc l) s))) → pointer (with_cells h cell) header_length x j ≡ pointer h header_length x j
          → IsChild (with_cells h cell) x j l (s + j * span h.size l) (pointer (with_cells h cell) header_length x j)
      before old e = subst (IsChild (with_cells h cell) x j l (s + j * span h.size l)) (sym e)
          (child_stays x j l (s + j * span h.size l) _ (file.tree.inner x a i l s old.1 j low (λ none. some (e ∙ none))))

  -- ---- pointers

  -- a pointer that led to a block isn't the hole
  not_hole : (x a j l s : ℕ) → part_at h x ≡ Some (Pointed a j l s) → IsPointed h x a j l s → a ≡ from → j ≢ k
  not_hole x a j l s part pointed same is = some_part h x _ file.nobody part (by pointed f.hole)
    where
      by : IsPointed h x a j l s → IsPointed h 0 from k level first → x ≡ 0
      by (by_dinode own high low at first_is) (by_dinode own' high' low' at' first_is') = sym at ∙ ap₂ (pointer h dinode_length) same is ∙ at'
      by (by_block above i start part' low at first_is) (by_block above' i' start' part'' low' at' first_is') = sym at ∙ ap₂ (pointer h header_length) same is ∙ at'
      by (by_dinode own high low at first_is) (by_block above' i' start' part'' low' at' first_is') = absurd (not_itself _ _ _ _ (sym file.own ∙ ap (part_at h) (sym own ∙ same) ∙ part''))
      by (by_block above i start part' low at first_is) (by_dinode own' high' low' at' first_is') = absurd (not_itself _ _ _ _ (sym file.own ∙ ap (part_at h) (sym own' ∙ sym same) ∙ part'))

  pointed : (x a j l s : ℕ) → part_at (with_cells h cell) x ≡ Some (Pointed a j l s) → IsPointed (with_cells h cell) x a j l s
  pointed x a j l s part = elim (new_or_old x _ part) [
    | inl new ↦
        let xe : x ≡ b = new.0 in
        let ae : a ≡ from = same_from new.1 in
        let je : j ≡ k = same_pointer new.1 in
        let le : l ≡ level = same_level new.1 in
        let se : s ≡ first = same_first new.1 in
        pointed_at (with_cells h cell) xe ae je le se f.filled
    | inr old ↦ stays (file.tree.pointed x a j l s old.1) (not_hole x a j l s old.1 (file.tree.pointed x a j l s old.1))
  ]
    where
      stays : IsPointed h x a j l s → (a ≡ from → j ≢ k) → IsPointed (with_cells h cell) x a j l s
      stays (by_dinode own high low at first_is) other =
          let kept : pointer (with_cells h cell) dinode_length h.own j ≡ pointer h dinode_length h.own j = f.pointers.of_dinode j (λ e. other (own ∙ e)) in
          by_dinode own (height_same ∙ high) low (ap (λ y. pointer (with_cells h cell) dinode_length y j) own ∙ kept ∙ ap (λ y. pointer h dinode_length y j) (sym own) ∙ at) first_is
      stays (by_block above i start part' low at first_is) other =
          by_block above i start (part_stays a _ part') low
          (f.pointers.of_blocks a j (λ e. not_itself _ _ _ _ (sym file.own ∙ ap (part_at h) (sym e) ∙ part')) (is_old a _ part') other ∙ at) first_is

  -- ---- the rules

  tree_after : HasTree (with_cells h cell)
  tree_after = record {
    top = top;
    inner = inner;
    pointed = pointed;
    below = λ x a j l s part. elim (new_or_old x _ part) [
      | inl new ↦ omega (arith, same_level new.1, height_same, pointer_low h file 0 from k level first f.hole)
      | inr old ↦ omega (arith, height_same, file.tree.below x a j l s old.1)
    ];
    indirect = λ x a j l s part. elim (new_or_old x _ part) [
      | inl new ↦ subst (λ y. HasHeader 5 500 (bytes_at (with_cells h cell) y)) (sym new.0) (f.header l (sym (same_level new.1)))
      | inr old ↦ f.stays.headers x 5 500 old.0 (file.tree.indirect x a j l s old.1)
    ];
    table = λ x a j s directory part. let both : true ≡ false = sym directory ∙ no_directory (with_cells h cell) regular_same in absurd (cc);
  }

  pub file_after : IsFile (with_cells h cell)
  file_after = record {
    block_size = file.block_size;
    own = part_stays h.own Itself file.own;
    only = λ x part. elim (new_or_old x _ part) [ inl new ↦ absurd (not_itself _ _ _ _ new.1) | inr old ↦ file.only x old.1 ];
    nobody = f.stays.parts 0 (λ e. f.some (sym e)) ∙ file.nobody;
    whole = λ x p part. elim (new_or_old x p part) [
      | inl new ↦ ap (λ y. length (bytes_at (with_cells h cell) y)) new.0 ∙ f.whole
      | inr old ↦ f.stays.lengths x old.0 ∙ file.whole x p old.1
    ];
    header = f.stays.headers h.own 4 400 own_old file.header;
    address = ap (λ (d : Dinode). d.num.address) f.dinode ∙ file.address;
    number = λ e. file.number (ap (λ (d : Dinode). d.num.number) (sym f.dinode) ∙ e);
    regular = regular_same;
    links = ap (λ (d : Dinode). d.nlink) f.dinode ∙ file.links;
    fits = record {
      low = omega (arith, height_same, file.fits.low);
      stuffed = λ e. omega (arith, size_same, file.fits.stuffed (sym height_same ∙ e));
      under = λ l e. subst (λ n. n ≤ fan h.size dinode_length * span h.size l) (sym count_same) (file.fits.under l (sym height_same ∙ e));
    };
    tree = tree_after;
    leafless = λ x hash place part. elim (new_or_old x _ part) [
      | inl new ↦ chained new.1
      | inr old ↦ file.leafless x hash place old.1
    ];
  }
    where
      chained : {hash place : ℕ} → Some (InChain hash place) ≡ Some (Pointed from k level first) → ⊥
      chained e = cc

  -- ---- places

  placed_before : (c l s : ℕ) → IsPlaced h c l s → IsPlaced (with_cells h cell) c l s
  placed_before c l s (a, j, part) = (a, j, part_stays c _ part)

  placed_after : (c l s : ℕ) → (l ≡ level → s ≢ first) → IsPlaced (with_cells h cell) c l s → IsPlaced h c l s
  placed_after c l s other (a, j, part) = elim (new_or_old c _ part) [
    | inl new ↦ absurd (other (same_level new.1) (same_first new.1))
    | inr old ↦ (a, j, old.1)
  ]

  places_same : (l : ℕ) → places_on (with_cells h cell) l ≡ places_on h l
  places_same l = ap (λ n. fan h.size dinode_length * span h.size (n - 1 - l)) height_same

  pub other_place : (l j : ℕ) → l < height_in h → j < places_on h l → (l ≡ level → j * span h.size l ≢ first) → block_on (with_cells h cell) l j ≡ block_on h l j
  other_place l j less low other =
      same_place h (with_cells h cell) l j file file_after less (omega (arith, less, height_same)) low (omega (arith, low, places_same l))
      (λ c. placed_before c l (j * span h.size l)) (λ c. placed_after c l (j * span h.size l) other)

  pub that_place : (l j : ℕ) → l < height_in h → j < places_on h l → l ≡ level → j * span h.size l ≡ first → (block_on h l j ≡ 0) × (block_on (with_cells h cell) l j ≡ b)
  that_place l j less low same is = (empty, (part_there (with_cells h cell) file_after l j b (omega (arith, less, height_same)) (omega (arith, low, places_same l)) f.some).1 there)
    where
      there : IsPlaced (with_cells h cell) b l (j * span h.size l)
      there = (from, k, f.part ∙ sym (λ i. Some (Pointed from k (same i) (is i))))

      empty : block_on h l j ≡ 0
      empty = elim (cases_eq (block_on h l j) 0) [
        | inl none ↦ none
        | inr some ↦
            let found = place_of_pointer h file 0 from k level first f.hole in
            let index : j ≡ found.0 = same_index j found.0 l level same (is ∙ found.1) in
            ap₂ (block_on h) same index ∙ found.3
      ]
        where
          same_index : (i i' l l' : ℕ) → l ≡ l' → i * span h.size l ≡ i' * span h.size l' → i ≡ i'
          same_index i i' l l' e products = cancelled i i' (span h.size l) (span_some h.size l (size_large h.size file.block_size)) (products ∙ ap (λ n. i' * span h.size n) (sym e))

  pub one_place : (l j : ℕ) → l < height_in h → j < places_on h l
      → ((l ≡ level) × (j * span h.size l ≡ first) × (block_on h l j ≡ 0) × (block_on (with_cells h cell) l j ≡ b)) ⊎ ((l ≡ level → j * span h.size l ≢ first) × (block_on (with_cells h cell) l j ≡ block_on h l j))
  one_place l j less low = elim (cases_eq l level) [
    | inl same ↦ elim (cases_eq (j * span h.size l) first) [
      | inl is ↦ let at = that_place l j less low same is in inl (same, is, at.0, at.1)
      | inr apart ↦ inr ((λ e. apart), other_place l j less low (λ e. apart))
    ]
    | inr apart ↦ inr ((λ e is. apart e), other_place l j less low (λ e is. apart e))
  ]

  -- ---- content

  high : height_in h ≢ 0
  high none = omega (arith, none, pointer_low h file 0 from k level first f.hole)

  carried_hole : carried h 0 ≡ replicate h.size 0
  carried_hole = ap (λ n. replicate n 0) (whole_unit h file.regular)

  carried_new : level ≡ 0 → carried (with_cells h cell) b ≡ replicate h.size 0
  carried_new zero_level =
      let none : h.size - unit (with_cells h cell) ≡ 0 = omega (arith, whole_unit (with_cells h cell) regular_same) in
      cond-false _ _ _ (ne_eqb b 0 f.some) ∙ ap (λ n. drop n (bytes_at (with_cells h cell) b)) none ∙ f.zeros zero_level

  carried_old : (i c : ℕ) → (c ≢ 0 → IsPlaced h c 0 i) → carried (with_cells h cell) c ≡ carried h c
  carried_old i c placed = elim (cases_eq c 0) [
    | inl none ↦ cond-true _ _ _ (eq-eqb c 0 none) ∙ ap (λ n. replicate n 0) units ∙ sym (cond-true _ _ _ (eq-eqb c 0 none))
    | inr some ↦
        let at = placed some in
        cond-false _ _ _ (ne_eqb c 0 some) ∙ ap₂ (λ (n : ℕ) (bytes : List ℕ). drop (h.size - n) bytes) units (f.stays.contents c at.0 at.1 i (is_old c _ at.2) at.2) ∙ sym (cond-false _ _ _ (ne_eqb c 0 some))
  ]
    where
      units : unit (with_cells h cell) ≡ unit h
      units = whole_unit (with_cells h cell) regular_same ∙ sym (whole_unit h file.regular)

  carried_same : (i : ℕ) → i < content_count h → carried (with_cells h cell) (content_block (with_cells h cell) i) ≡ carried h (content_block h i)
  carried_same i low =
      let at = content_place h i file high low in
      ap (carried (with_cells h cell)) (content_is_level_zero (with_cells h cell) i) ∙ each at (one_place 0 i at.0 at.1) ∙ ap (carried h) (sym (content_is_level_zero h i))
    where
      each : (0 < height_in h) × (i < places_on h 0)
          → ((0 ≡ level) × (i * 1 ≡ first) × (block_on h 0 i ≡ 0) × (block_on (with_cells h cell) 0 i ≡ b)) ⊎ ((0 ≡ level → i * 1 ≢ first) × (block_on (with_cells h cell) 0 i ≡ block_on h 0 i))
          → carried (with_cells h cell) (block_on (with_cells h cell) 0 i) ≡ carried h (block_on h 0 i)
      each at (inl there) = ap (carried (with_cells h cell)) there.3 ∙ carried_new (sym there.0) ∙ sym carried_hole ∙ ap (carried h) (sym there.2)
      each at (inr other) = ap (carried (with_cells h cell)) other.1 ∙ carried_old (i * 1) (block_on h 0 i) (part_of_place h file 0 i at.0 at.1)

  pub content_after : content_of (with_cells h cell) ≡ content_of h
  content_after = same_content h (with_cells h cell) high (λ e. high (sym height_same ∙ e)) size_same count_same carried_same

-- ---- how many blocks it has

pub some_by_part : (o o' : Option Cell) → cell_part o' ≡ cell_part o → is_some o' ≡ is_some o
some_by_part None None e = refl
some_by_part (Some c) (Some d) e = refl
some_by_part None (Some d) e = cc
some_by_part (Some c) None e = cc

pub count_after : FillsAddOne
unfolding block_count
count_after h cell from k level first b f = count_more (λ x. is_some (h.cell x)) (λ x. is_some (cell x)) b 0 h.count (omega arith) (omega (arith, f.inside)) (ap is_some f.new) (there (cell b) f.part) (λ x other. some_by_part (h.cell x) (cell x) (f.stays.parts x other))
  where
    there : (o : Option Cell) → cell_part o ≡ Some (Pointed from k level first) → is_some o ≡ true
    there None e = cc
    there (Some c) e = refl

pub fills_keep_files : FillsKeepFiles
fills_keep_files h cell from k level first b file f = file_after h cell from k level first b file f

pub fills_keep_content : FillsKeepContent
fills_keep_content h cell from k level first b file f = content_after h cell from k level first b file f

pub fills_one_place : FillsOnePlace
fills_one_place h cell from k level first b l j file f less low = one_place h cell from k level first b file f l j less low
