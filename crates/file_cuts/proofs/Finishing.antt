-- A file that was cut: its new end, and what it has.
use Rattle.std.proofs.Common.{◌≡◌, ◌≢◌, ◌⊎◌, inl, inr, false, Option, Some, Result, Ok, Err, IfOk, OnOk, ℕ, zero, suc, ◌+◌, ◌-◌, ◌*◌, ◌/◌, ◌%◌, ◌<◌, ◌≤◌, List, [], ◌++◌, length, take, drop, refl, sym, ap, subst, ◌∙◌, arith, append-nil}
use Rattle.std.proofs.lemmas.Bool.{cases_Bool}
use Rattle.std.proofs.lemmas.Nat.{div-add-mod'}
use Rattle.std.proofs.Math.Nat.{div-eq_of_lt-le, lt-mul-div-succ, mod-lt, mul-le-mul_right}
use Rattle.std.specs.Prelude.{Contains, IsSome, replicate}
use Rattle.std.specs.FinMap.{FinMap}
use Rattle.std.specs.Ordering.{nat_cmp}
use Rattle.drafts.specs.Fates.{seen_with}
use Rattle.drafts.specs.declared.fate.Fate.{Fate}
use Rattle.file_tree.specs.Apply.{resized}
use Rattle.gfs2_layout.specs.Holding.{Pointed, Cell, Holding, bytes_at, part_at}
use Rattle.gfs2_layout.specs.Inode.{block_count, content_count, content_of, dinode_in, height_in, pieces, unit}
use Rattle.gfs2_layout.specs.Structures.{dinode_length, is_directory}
use Rattle.gfs2_layout.specs.Writing.{dinode_put, zeros_from}
use Rattle.gfs2_layout.specs.declared.dinode.Dinode.{Dinode}
use Rattle.glock_names.specs.Views.{Seen}
use Rattle.dinode_tree.specs.Shown.{IsShown}
use Rattle.dinode_tree.proofs.Sound.{is_there}
use Rattle.growth_laws.specs.Files.{IsFile, IsPlaced, with_cells}
use Rattle.growth_laws.specs.Need.{has_content}
use Rattle.growth_laws.specs.Steps.{IsBareTo, IsClearFrom, IsStuffedAs}
use Rattle.growth_laws.proofs.Bare.{stuffed_content_is_put}
use Rattle.growth_laws.proofs.Bytes.{resized_length}
use Rattle.growth_laws.proofs.Contents.{whole_unit}
use Rattle.growth_laws.proofs.Ends.{whole_files_are_clear}
use Rattle.growth_laws.proofs.Parts.{not_itself}
use Rattle.growth_laws.proofs.Places.{size_large}
use Rattle.growth_drafts.specs.Taken.{DraftsFile, HasFreed, IsCutAt}
use Rattle.growth_drafts.proofs.Rooms.{none_in}
use Rattle.growth_steps.specs.Becoming.{Becomes}
use Rattle.growth_steps.specs.Heights.{CanBeBare}
use Rattle.growth_steps.specs.Sizes.{CanHaveSize}
use Rattle.file_fills.specs.Causes.{ChangesOnly, LeadsToOne}
use Rattle.file_fills.specs.Filling.{IsSeenWay}
use Rattle.file_fills.proofs.Ways.{ways_along}
use Rattle.file_heights.specs.Grown.{HasCleared, IsUnclear}
use Rattle.file_heights.specs.Sized.{HasSize, dinode_as}
use Rattle.file_heights.proofs.Changing.{changes_then, changes_wider}
use Rattle.file_heights.proofs.Joining.{grown_as, grown_then}
use Rattle.file_heights.proofs.Sized.{counts_same, no_more}
use Rattle.file_heights.proofs.Pads.{before_rest, pads_over}
use Rattle.file_heights.proofs.Rising.{bare_is_risen, led_along}
use Rattle.file_heights.proofs.Keeping.{heads_then, own_large}
use Rattle.file_growth.proofs.Writes.{long_content}
use Rattle.file_cuts.specs.Cut.{CanCut, HasCut, IsCutBlock, end_of, height_at}
use Rattle.file_cuts.specs.Progress.{HasCutTo, HasNewEnd}
use Rattle.file_cuts.proofs.Drafting.{drafts_and_frees, freed_then}
use Rattle.file_cuts.proofs.Heads.{heads_cut, heads_on, zeros_from_there, zeros_keep_heads}
use Rattle.file_cuts.proofs.Ending.{content_cut, exactly}

-- ---- numbers

-- whole blocks
pub whole_pieces : (size each : ℕ) → 0 < each → size % each ≡ 0 → pieces size each * each ≡ size
whole_pieces size each some none =
    let whole : size / each * each + size % each ≡ size = div-add-mod' size each in
    let count : pieces size each ≡ size / each
    = div-eq_of_lt-le each (let low : size / each * each ≤ size + each - 1 = omega (arith, whole, some) in low) (let high : size + each - 1 < (size / each + 1) * each = omega (arith, whole, none, some) in high) in
    ap (λ n. n * each) count ∙ omega (arith, whole, none)

-- how many blocks a size takes that ends in one
pub part_pieces : (size each : ℕ) → 0 < each → size % each ≢ 0 → pieces size each ≡ size / each + 1
part_pieces size each some part =
    let whole : size / each * each + size % each ≡ size = div-add-mod' size each in
    let rest : size % each < each = mod-lt size some in
    div-eq_of_lt-le each (let low : (size / each + 1) * each ≤ size + each - 1 = omega (arith, whole, part, some) in low) (let high : size + each - 1 < (size / each + 1 + 1) * each = omega (arith, whole, rest, some) in high)

-- and one that isn't
cut_piece : (size each i : ℕ) → 0 < each → size % each ≢ 0 → i + 1 ≡ pieces size each → size < (i + 1) * each
cut_piece size each i some part last =
    let whole : size / each * each + size % each ≡ size = div-add-mod' size each in
    let rest : size % each < each = mod-lt size some in
    let count : pieces size each ≡ size / each + 1 = part_pieces size each some part in
    let same : i + 1 ≡ size / each + 1 = last ∙ count in
    subst (λ n. size < n * each) (sym same) (omega (arith, whole, rest))

-- content from the end on is past the size
pub past_size : (size each i : ℕ) → 0 < each → pieces size each ≤ i → size < (i + 1) * each
past_size size each i some past =
    let until : size + each - 1 < each * ((size + each - 1) / each + 1) = lt-mul-div-succ (size + each - 1) some in
    let flat : each * ((size + each - 1) / each + 1) ≡ (size + each - 1) / each * each + each = omega arith in
    let more : (size + each - 1) / each * each ≤ i * each = mul-le-mul_right each past in
    let next : (i + 1) * each ≡ i * each + each = omega arith in
    omega (arith, until, flat, more, next, some)

-- ---- the new end

module _ (f0 f1 : FinMap nat_cmp Fate) (mid : Seen) (inode : ℕ) (h : Holding) (size blocks : ℕ) (file : IsFile h) (own : h.own ≡ inode) (can : CanHaveSize h size) (s : HasSize mid f0 f1 h size blocks) where
  abbrev k : Holding
  k = with_cells h s.cell

  some : 0 < h.size
  some = omega (arith, size_large h.size file.block_size)

  size_k : (dinode_in (with_cells h s.cell)).size ≡ size
  size_k = ap (λ (d : Dinode). d.size) s.grown.dinode

  high_k : height_in (with_cells h s.cell) ≡ height_in h
  high_k = ap (λ (d : Dinode). d.height) s.grown.dinode

  units : unit (with_cells h s.cell) ≡ h.size
  units = whole_unit (with_cells h s.cell) s.grown.file.regular

  count_k : content_count (with_cells h s.cell) ≡ pieces size h.size
  count_k = (λ t. pieces (size_k t) (units t))

  pub high_again : height_in (with_cells h s.cell) ≢ 0
  high_again none = can.in_blocks (sym high_k ∙ none)

  same_height : size ≢ 0 → height_in h ≡ height_at h size
  same_height some_bytes = let up : size ≡ suc (size - 1) = omega (arith, some_bytes) in sym (ap (height_at h) up)

  -- what stands somewhere stood there
  pub was : (b level first : ℕ) → IsPlaced (with_cells h s.cell) b level first → IsPlaced h b level first
  was b level first placed = elim ((s.grown.blocks.blocks b).0 (is_there (s.cell b) _ placed.2)) [
    | inl had ↦ (s.grown.places b level first had).0 placed
    | inr taken ↦ absurd (none_in b taken)
  ]

  pub end_as_it_is : size ≢ 0 → size % h.size ≡ 0 → HasNewEnd mid f0 f1 h size blocks
  end_as_it_is some_bytes none = record {
    cell = s.cell;
    shown = s.shown;
    grown = grown_as f0 f1 h s.cell _ _ _ _ _ _ (ap (dinode_as (dinode_in h) size blocks) (same_height some_bytes)) refl refl s.grown;
    clear = λ high. subst (IsClearFrom (with_cells h s.cell)) size_k
        (whole_files_are_clear (with_cells h s.cell) s.grown.file (ap (λ n. n * h.size) count_k ∙ whole_pieces size h.size some none ∙ sym size_k));
    clear_behind = λ low. absurd (high_again low);
    heads = s.heads;
    changes = changes_wider f0 f1 _ _ (λ b e. inl e) s.changes;
  }

  pub end_cleared : (after : Seen) (f2 : FinMap nat_cmp Fate) → size ≢ 0 → HasCleared after f1 f2 (with_cells h s.cell) → HasNewEnd after f0 f2 h size blocks
  end_cleared after f2 some_bytes c = record {
    cell = c.cell;
    shown = c.shown;
    grown =
        grown_as f0 f2 h c.cell _ _ _ _ _ _ (s.grown.dinode ∙ ap (dinode_as (dinode_in h) size blocks) (same_height some_bytes)) s.grown.content refl
        (grown_then f0 f1 f2 h s.cell c.cell _ _ _ _ [] [] s.grown c.same.grown);
    clear = λ high. subst (IsClearFrom (with_cells h c.cell)) size_k c.clear;
    clear_behind = λ low. absurd (high_again (sym (ap (λ (d : Dinode). d.height) c.same.grown.dinode) ∙ low));
    heads = heads_on h (with_cells h s.cell) (with_cells h c.cell) refl refl s.grown.file (λ b level first placed there. (s.grown.places b (suc level) first (is_there (h.cell b) _ placed.2)).1 placed) s.heads c.others;
    changes = changes_then f0 f1 f2 _ _ _ (λ b e. inl e) unclear_before s.changes c.changes;
  }
    where
      unclear_before : (b : ℕ) → IsUnclear (with_cells h s.cell) (dinode_in (with_cells h s.cell)).size b → (b ≡ h.own) ⊎ IsUnclear h size b
      unclear_before b u =
          let placed = was b 0 u.index u.placed in
          let other : b ≢ h.own = λ e. not_itself _ _ _ _ (sym file.own ∙ ap (part_at h) (sym e) ∙ placed.2) in
          inr (record {
            index = u.index;
            behind = u.behind;
            placed = placed;
            some = u.some;
            within = u.within;
            ends = u.ends ∙ size_k;
            unclear = λ same. u.unclear (subst (λ xs. xs ≡ zeros_from u.behind xs) (sym (s.others b other)) same);
          })

  -- the last block is seen
  pub last_seen : (v : Seen) (i : ℕ) → size % h.size ≢ 0 → ((i : ℕ) → i + 1 ≡ end_of h size → IsCutAt h size i → IsSeenWay (seen_with v f0) h i) → i + 1 ≡ content_count (with_cells h s.cell) → IsSeenWay (seen_with v f1) (with_cells h s.cell) i
  last_seen v i part ways last =
      let end : i + 1 ≡ end_of h size = last ∙ count_k in
      ways_along f0 f1 v h s.cell [] s.grown.drafted i file s.grown.file s.grown.blocks (λ b none. absurd (none_in b none)) (λ b level first had placed. (s.grown.places b level first had).0 placed)
      (ways i end (cut_piece size h.size i some part end))

  -- without any byte it has no block
  no_part : size ≡ 0 → (b from j level first : ℕ) → part_at (with_cells h s.cell) b ≢ Some (Pointed from j level first)
  no_part none b from j level first part =
      let before = was b level first (from, j, part) in
      let low = can.no_block b before.0 before.1 level first before.2 in
      let zero_size : pieces size (unit h) ≡ 0 = (λ t. pieces (none t) (whole_unit h file.regular t)) ∙ nothing in
      omega (arith, low, zero_size)
    where
      nothing : pieces 0 h.size ≡ 0
      nothing =
          let less : 0 + h.size - 1 ≡ h.size - 1 = omega arith in
          ap (λ n. n / h.size) less ∙ div-eq_of_lt-le h.size (let low : 0 * h.size ≤ h.size - 1 = omega arith in low) (let high : h.size - 1 < (0 + 1) * h.size = omega (arith, some) in high)

  pub can_be_bare : size ≡ 0 → CanBeBare (with_cells h s.cell) 0
  can_be_bare none = record {
    bare = no_part none;
    low = omega arith;
    enough = λ level e. absurd (omega (arith, e));
    from_stuffed = λ e. size_k ∙ none;
    to_stuffed = λ e. size_k ∙ none;
  }

  no_content : size ≡ 0 → has_content (with_cells h s.cell) ≡ false
  no_content none = elim (cases_Bool (has_content (with_cells h s.cell))) [
    | inr is ↦ is
    | inl has ↦
        let led = led_along (with_cells h s.cell) high_again has in
        let up : height_in (with_cells h s.cell) ≡ suc (height_in (with_cells h s.cell) - 1) = omega (arith, high_again) in
        let child = s.grown.file.tree.top (height_in (with_cells h s.cell) - 1) up led.0 led.1 led.2 in
        absurd (no_part none _ _ _ _ _ child.part)
  ]

  pub end_bare : (after : Seen) (f2 : FinMap nat_cmp Fate) (cell : ℕ → Option Cell) → size ≡ 0 → IsBareTo (with_cells h s.cell) cell 0 → Becomes after f1 f2 inode (with_cells h s.cell) (with_cells h cell)
      → bytes_at (with_cells h cell) h.own ≡ dinode_put (record (dinode_in (with_cells h s.cell)) { height = 0 }) (zeros_from dinode_length (bytes_at (with_cells h s.cell) h.own)) → ChangesOnly f1 f2 (λ b. b ≡ inode) → HasNewEnd after f0 f2 h size blocks
  end_bare after f2 cell none bare becomes put changes =
      let pads =
      pads_over (with_cells h s.cell) cell (record (dinode_in (with_cells h s.cell)) { height = 0 }) (zeros_from dinode_length (bytes_at (with_cells h s.cell) h.own)) s.grown.file
      (before_rest dinode_length (bytes_at (with_cells h s.cell) h.own) _ (own_large (with_cells h s.cell) s.grown.file)) put in
      let risen = bare_is_risen f1 f2 after inode (with_cells h s.cell) cell s.grown.file becomes pads 0 (no_content none) bare in
      let flat : 0 ≡ height_at h size = ap (height_at h) (sym none) in
      record {
        cell = cell;
        shown = subst (λ a. IsShown after a (with_cells h cell)) (sym own) becomes.shown;
        grown =
            grown_as f0 f2 h cell _ _ _ _ _ _ (ap (λ (d : Dinode). record d { height = 0 }) s.grown.dinode ∙ ap (dinode_as (dinode_in h) size blocks) flat) s.grown.content refl
            (grown_then f0 f1 f2 h s.cell cell _ _ _ _ [] [] s.grown risen.grown);
        clear = λ high. absurd (high (ap (λ (d : Dinode). d.height) bare.dinode));
        clear_behind = λ low. subst (λ n. drop n (bytes_at (with_cells h cell) h.own) ≡ replicate (h.size - n) 0) (let front : dinode_length ≡ dinode_length + size = omega (arith, none) in front)
            (zeros_from_there (with_cells h s.cell) cell (record (dinode_in (with_cells h s.cell)) { height = 0 }) dinode_length s.grown.file put bare.dinode (omega arith) fits bare.others);
        heads = heads_then h (with_cells h s.cell) (with_cells h cell) refl file (λ b level first placed there. (s.grown.places b (suc level) first (is_there (h.cell b) _ placed.2)).1 placed) s.heads
            (zeros_keep_heads (with_cells h s.cell) cell (record (dinode_in (with_cells h s.cell)) { height = 0 }) dinode_length s.grown.file put bare.dinode (omega arith) fits bare.others);
        changes = changes_then f0 f1 f2 _ _ _ (λ b e. inl e) (λ b e. inl (e ∙ sym own)) s.changes changes;
      }
    where
      fits : dinode_length ≤ h.size
      fits = omega (arith, size_large h.size file.block_size)

-- ---- all of it

module _ (v : Seen) (f0 f1 f2 : FinMap nat_cmp Fate) (h : Holding) (size place blocks : ℕ) (freed : List ℕ) (can : CanCut h size) (high : height_in h ≢ 0) (a : HasCutTo v f0 f1 h (end_of h size) (height_in h) place freed)
    (after : Seen) (blocks_are : blocks ≡ (dinode_in h).blocks - length freed) (n : HasNewEnd after f1 f2 (with_cells h a.cell) size blocks) where
  abbrev last : Holding
  last = with_cells h n.cell

  no_more_freed : HasFreed (with_cells h a.cell) (with_cells h n.cell) []
  no_more_freed = record {
    count = refl;
    were = λ x none. absurd (none_in x none);
    kept = λ x. (
      λ there. elim ((n.grown.blocks.blocks x).0 there) [ inl had ↦ (had, none_in x) | inr taken ↦ absurd (none_in x taken) ],
      λ had. (n.grown.blocks.blocks x).1 (inl had.0),
    );
  }

  height_same : height_at (with_cells h a.cell) size ≡ height_at h size
  height_same = each size
    where
      each : (m : ℕ) → height_at (with_cells h a.cell) m ≡ height_at h m
      each zero = refl
      each (suc m) = ap (λ (d : Dinode). d.height) a.cut.dinode

  says : dinode_in (with_cells h n.cell) ≡ dinode_as (dinode_in h) size ((dinode_in h).blocks - length freed) (height_at h size)
  says = n.grown.dinode ∙ (λ t. dinode_as (a.cut.dinode t) size (blocks_are t) (height_same t))

  counted : (dinode_in h).blocks ≡ block_count (with_cells h n.cell) + length freed
  counted = omega (arith, can.counted.blocks, a.cut.counted, n.grown.counted)

  pub cut_is_done : HasCut after f0 f2 h size freed
  cut_is_done = record {
    g = with_cells h n.cell;
    shown = n.shown;
    is_cut = record {
      sound = record { file = n.grown.file; blocks = ap (λ (d : Dinode). d.blocks) says ∙ omega (arith, counted) };
      content = n.grown.content ∙ content_cut f0 f1 h a.cell size place freed can.counted.file can.larger high a.cut;
      dinode = says;
      head = ap (λ (d : Dinode). record { number = d.num.number; is_dir = is_directory d }) says;
      fewer = omega (arith, counted, ap (λ (d : Dinode). d.blocks) says);
      blocks = subst (HasFreed h (with_cells h n.cell)) (append-nil freed) (freed_then h (with_cells h a.cell) (with_cells h n.cell) freed [] a.cut.blocks no_more_freed);
      once = a.cut.once;
      exactly = exactly f0 f1 h a.cell size place freed can.counted.file can.larger high a.cut;
      places = λ b level first there.
          let mid : IsSome (a.cell b) = ((no_more_freed.kept b).0 there).0 in
          let steps = n.grown.places b level first mid in (
            λ placed. let so = steps.0 placed in (so.0, so.1, sym (a.cut.parts b mid) ∙ so.2),
            λ placed. steps.1 (placed.0, placed.1, a.cut.parts b mid ∙ placed.2),
          );
      clear = n.clear;
      clear_behind = n.clear_behind;
      heads = heads_cut h (with_cells h a.cell) (with_cells h n.cell) can.counted.file refl (λ b left. ((no_more_freed.kept b).0 left).0) (λ b level first mid placed. (placed.0, placed.1, a.cut.parts b mid ∙ placed.2))
          (is_there (a.cell h.own) _ a.cut.file.own) a.cut.heads n.heads;
    };
    drafted = subst (λ xs. DraftsFile f0 f2 h (with_cells h n.cell) xs) (append-nil freed)
        (drafts_and_frees f0 f1 f2 h (with_cells h a.cell) (with_cells h n.cell) freed [] refl a.cut.blocks no_more_freed a.cut.drafted n.grown.drafted);
    changes = changes_then f0 f1 f2 _ _ _ earlier later a.cut.changes n.changes;
  }
    where
      earlier : (x : ℕ) → Contains freed x ⊎ LeadsToOne h freed x → IsCutBlock h size freed x
      earlier x (inl is) = inr (inl is)
      earlier x (inr leads) = inr (inr (inl leads))

      later : (x : ℕ) → (x ≡ h.own) ⊎ IsUnclear (with_cells h a.cell) size x → IsCutBlock h size freed x
      later x (inl own) = inl own
      later x (inr u) = inr (inr (inr (record {
        index = u.index;
        behind = u.behind;
        placed = (u.placed.0, u.placed.1, sym (a.cut.parts x (is_there (a.cell x) _ u.placed.2)) ∙ u.placed.2);
        some = u.some;
        within = u.within;
        ends = u.ends;
        unclear = λ same. u.unclear (subst (λ xs. xs ≡ zeros_from u.behind xs) (sym (a.cut.contents x (u.placed.0, u.placed.1, u.index, u.placed.2))) same);
      })))

-- ---- content behind the dinode

pub stuffed_cut : (after : Seen) (f0 f1 : FinMap nat_cmp Fate) (inode : ℕ) (h : Holding) (cell : ℕ → Option Cell) (size : ℕ) → CanCut h size → h.own ≡ inode → IsStuffedAs h cell (resized size (content_of h)) → Becomes after f0 f1 inode h (with_cells h cell)
    → bytes_at (with_cells h cell) h.own ≡ dinode_put (record (dinode_in h) { size = size }) (zeros_from (dinode_length + size) (bytes_at h h.own)) → ChangesOnly f0 f1 (λ b. b ≡ inode) → HasCut after f0 f1 h size []
stuffed_cut after f0 f1 inode h cell size can own is becomes put changes = record {
  g = with_cells h cell;
  shown = subst (λ a. IsShown after a (with_cells h cell)) (sym own) becomes.shown;
  is_cut = record {
    sound = record { file = file'.0; blocks = ap (λ (d : Dinode). d.blocks) is.dinode ∙ can.counted.blocks ∙ sym (counts_same h cell is.parts) };
    content = file'.1 ∙ cut_content;
    dinode = says;
    head = ap (λ (d : Dinode). record { number = d.num.number; is_dir = is_directory d }) says;
    fewer = (let one : (dinode_in h).blocks ≡ (dinode_in h).blocks + 0 = omega arith in one ∙ ap (λ n. n + 0) (sym (ap (λ (d : Dinode). d.blocks) is.dinode)));
    blocks = record {
      count = refl;
      were = λ x none. absurd (none_in x none);
      kept = λ x. (λ there. (elim (((no_more h cell is.parts).0.blocks x).0 there) [ inl had ↦ had | inr taken ↦ absurd (none_in x taken) ], none_in x), λ had. ((no_more h cell is.parts).0.blocks x).1 (inl had.0));
    };
    once = tt;
    exactly = λ b from k level first part. absurd (let low = can.counted.file.tree.below b from k level first part in omega (arith, low, is.stuffed));
    places = λ b level first there. (λ placed. (placed.0, placed.1, sym (is.parts b) ∙ placed.2), λ placed. (placed.0, placed.1, is.parts b ∙ placed.2));
    clear = λ high. absurd (high (ap (λ (d : Dinode). d.height) is.dinode ∙ is.stuffed));
    clear_behind = λ low. zeros_from_there h cell (record (dinode_in h) { size = size }) (dinode_length + size) can.counted.file put sized (omega arith) fits is.others;
    heads = zeros_keep_heads h cell (record (dinode_in h) { size = size }) (dinode_length + size) can.counted.file put sized (omega arith) fits is.others;
  };
  drafted = becomes.drafted;
  changes = changes_wider f0 f1 _ _ (λ b e. inl (e ∙ sym own)) changes;
}
  where
    file' : IsFile (with_cells h cell) × (content_of (with_cells h cell) ≡ resized size (content_of h))
    file' = stuffed_content_is_put h cell (resized size (content_of h)) can.counted.file is

    sized : dinode_in (with_cells h cell) ≡ record (dinode_in h) { size = size }
    sized = is.dinode ∙ ap (λ n. record (dinode_in h) { size = n }) (resized_length size (content_of h))

    fits : dinode_length + size ≤ h.size
    fits = omega (arith, is.room, resized_length size (content_of h))

    cut_content : resized size (content_of h) ≡ take size (content_of h)
    cut_content =
        let none : size - length (content_of h) ≡ 0 = omega (arith, long_content h can.counted.file, can.larger) in
        (λ t. take size (content_of h) ++ replicate (none t) 0) ∙ append-nil (take size (content_of h))

    flat : (m : ℕ) → height_in h ≡ height_at h m
    flat zero = is.stuffed
    flat (suc m) = refl

    says : dinode_in (with_cells h cell) ≡ dinode_as (dinode_in h) size ((dinode_in h).blocks - 0) (height_at h size)
    says =
        let none : (dinode_in h).blocks ≡ (dinode_in h).blocks - 0 = omega arith in
        is.dinode ∙ (λ t. dinode_as (dinode_in h) (resized_length size (content_of h) t) (none t) (flat size t))

-- ---- answers

pub if_ok_of : {A E : Type 0} (r : Result A E) (P : Type 0) → OnOk r P → IfOk r (λ (answer : A). P)
if_ok_of (Ok answer) P p = p
if_ok_of (Err e) P none = tt
