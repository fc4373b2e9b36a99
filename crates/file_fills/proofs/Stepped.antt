-- One step of a file that gets further in a draft: a hole is filled, or bytes are put.
use Rattle.std.proofs.Common.{◌≡◌, ◌≢◌, ◌⊎◌, inl, inr, Bool, true, false, Option, None, Some, ℕ, zero, suc, ◌+◌, ◌-◌, ◌*◌, ◌/◌, ◌^◌, ◌<◌, ◌≤◌, Result, Ok, Err, OnOk, List, [], ◌∷◌, ◌++◌, length, take, drop, refl, sym, ap, subst, ◌∙◌, arith, append_assoc}
use Rattle.std.proofs.lemmas.Bool.{cases_eq, cond-true, cond-false, eq-eqb, ne_eqb}
use Rattle.std.proofs.lemmas.List.Elements.{Contains-append_cases}
use Rattle.std.proofs.Math.Nat.{mul-div_cancel}
use Rattle.std.specs.Cmp.{nat_cmp_total}
use Rattle.std.specs.Prelude.{◌==◌, if◌then◌else◌, ◌&&◌, not, Contains, IsSome, is_some}
use Rattle.std.specs.FinMap.{FinMap, get, insert, nat_cmp-IsAntisymmetric}
use Rattle.std.specs.Ordering.{nat_cmp}
use Rattle.drafts.specs.Fates.{Drafted, seen_in, seen_with}
use Rattle.drafts.specs.declared.fate.Fate.{Fate}
use Rattle.drafts.specs.declared.fate.Fate.TheVariants.{Put}
use Rattle.finite_maps.proofs.Keys.{inserted_at, inserted_apart}
use Rattle.gfs2_layout.specs.Holding.{Part, Pointed, Cell, Holding, cell_bytes, cell_part, part_at, bytes_at}
use Rattle.gfs2_layout.specs.Inode.{block_count, dinode_in, header_length, height_in, content_block, content_count, content_of, pieces, span, IsPointed, by_dinode, by_block}
use Rattle.gfs2_layout.specs.Structures.{dinode_length, dinode_of}
use Rattle.gfs2_layout.specs.declared.dinode.Dinode.{Dinode}
use Rattle.glock_names.specs.Views.{Seen}
use Rattle.dinode_tree.specs.Reading.{inode_lock}
use Rattle.dinode_tree.specs.Shown.{IsShown}
use Rattle.dinode_tree.proofs.Ranges.{piece_within}
use Rattle.dinode_tree.proofs.Sound.{is_there}
use Rattle.dinode_tree.proofs.Spans.{span_some}
use Rattle.growth_laws.specs.Blocks.{start_in, with_pointer, rewritten, rewritten_cells, filled_cells}
use Rattle.growth_laws.specs.Files.{IsFile, IsPlaced, block_on, with_cells}
use Rattle.growth_laws.specs.Need.{is_over, needed_below}
use Rattle.growth_laws.specs.Steps.{IsClearFrom, IsFilled}
use Rattle.growth_laws.proofs.Contents.{content_place, whole_unit}
use Rattle.growth_laws.proofs.Counting.{count_same}
use Rattle.growth_laws.proofs.Fills.{count_after as fills_add_one, fills_keep_files, fills_keep_content, some_by_part}
use Rattle.growth_laws.proofs.Lacking.{nothing_is_lacking}
use Rattle.growth_laws.proofs.Needing.{fills_lower_need}
use Rattle.growth_laws.proofs.Parts.{not_itself, same_first, same_level, some_part}
use Rattle.growth_laws.proofs.Places.{cancelled, content_is_level_zero, part_there, size_large}
use Rattle.growth_laws.proofs.Pointing.{put_pointers_fill, rewritten_bytes, rewrites_keep_the_rest}
use Rattle.growth_drafts.specs.Taken.{HasBytes, IsContentIn, IsLeft, IsPutFor}
use Rattle.growth_drafts.proofs.Rooms.{none_in, none_some, only_in}
use Rattle.growth_drafts.proofs.Shown.{from_there}
use Rattle.file_walks.specs.New.{new_bytes}
use Rattle.file_walks.proofs.Stepping.{is_new_block}
use Rattle.file_walks.specs.Walks.{place_of, first_of, IsPlace, IsStop}
use Rattle.file_walks.specs.declared.walks.Stop.{Stop}
use Rattle.file_walks.proofs.Above.{under_above}
use Rattle.file_fills.specs.Filling.{IsRoomFor, IsSeenWay}
use Rattle.file_fills.specs.Progress.{HasCome, HasGone, IsFurther}
use Rattle.file_fills.proofs.Further.{free_taken, further_then, met_across, need_same, placed_back, room_further, way_further}
use Rattle.file_fills.specs.Headers.{KeepsHeaders}
use Rattle.file_fills.specs.Turns.{IsMetBefore}
use Rattle.file_fills.proofs.Headers.{before_pointer, same_front}
use Rattle.file_fills.proofs.Over.{over_above}
use Rattle.file_fills.proofs.Tails.{clear_along}
use Rattle.file_fills.proofs.Turns.{stand_one}

-- ---- where the bytes are

-- a block of content with bytes of the write is one before the end
pub before_end : (h : Holding) (at end i : ℕ) → IsFile h → end ≤ (dinode_in h).size → HasBytes h.size at end i → i < content_count h
before_end h at end i file within has =
    let some : 0 < h.size = omega (arith, size_large h.size file.block_size) in
    let counted : i * h.size / h.size < pieces (dinode_in h).size h.size = piece_within (i * h.size) (dinode_in h).size h.size some (omega (arith, has.begins, within)) in
    let count : pieces (dinode_in h).size h.size ≡ content_count h = ap (pieces (dinode_in h).size) (sym (whole_unit h file.regular)) in
    omega (arith, counted, count, mul-div_cancel i some)

-- the tree has its place
pub place_of_bytes : (h : Holding) (at end i : ℕ) → IsFile h → height_in h ≢ 0 → end ≤ (dinode_in h).size → HasBytes h.size at end i → IsPlace h 0 i
place_of_bytes h at end i file high within has = let place = content_place h i file high (before_end h at end i file within has) in record { low = place.0; within = place.1 }

-- ---- a hole is filled

module _ (old : FinMap nat_cmp Fate) (h : Holding) (at end i : ℕ) (stop : Stop) (block : ℕ) (left bytes : List ℕ) (low : block < 2 ^ 64) (r : IsRoomFor h at end (block ∷ left)) (has : HasBytes h.size at end i)
    (stopped : IsStop h 0 i stop) (hole : stop.block ≡ 0) (seen : bytes_at h stop.pointer.from ≡ bytes) where
  from : ℕ
  from = stop.pointer.from

  here : Contains (block ∷ left) block
  here = (0, omega arith, refl)

  large : 512 ≤ h.size
  large = size_large h.size r.file.block_size

  pointed : IsPointed h 0 stop.pointer.from stop.pointer.index stop.level (first_of h 0 i stop)
  pointed = subst (λ b. IsPointed h b stop.pointer.from stop.pointer.index stop.level (first_of h 0 i stop)) hole stopped.passed.pointed

  within : first_of h 0 i stop < content_count h
  within =
      let under = under_above h.size 0 i stop.level i large (omega arith) (omega arith) (omega arith) in
      omega (arith, under.0, before_end h at end i r.file r.within has)

  new : List ℕ
  new = new_bytes h.size stop.level

  abbrev cells : ℕ → Option Cell
  cells = filled_cells h stop.pointer.from stop.pointer.index stop.level (first_of h 0 i stop) block (new_bytes h.size stop.level)

  some : block ≢ 0
  some none = r.free.some (subst (Contains (block ∷ left)) none here)

  filled : IsFilled h cells stop.pointer.from stop.pointer.index stop.level (first_of h 0 i stop) block
  filled =
      put_pointers_fill h stop.pointer.from stop.pointer.index stop.level (first_of h 0 i stop) block (new_bytes h.size stop.level) r.file pointed within (r.free.new block here) some (r.free.inside block here) low
      (is_new_block h.size stop.level (omega (arith, large)))

  from_part : (p : Part) × (part_at h stop.pointer.from ≡ Some p)
  from_part = from_there h 0 stop.pointer.from stop.pointer.index stop.level (first_of h 0 i stop) r.file pointed

  apart : stop.pointer.from ≢ block
  apart e = let both : Some from_part.0 ≡ None = sym from_part.1 ∙ ap (part_at h) e ∙ ap cell_part (r.free.new block here) in absurd (cc)

  cell_block : cells block ≡ Some (record { part = Pointed stop.pointer.from stop.pointer.index stop.level (first_of h 0 i stop); bytes = new_bytes h.size stop.level })
  cell_block = cond-true _ _ _ (eq-eqb block block refl)

  cell_from : cells stop.pointer.from ≡ rewritten (with_pointer (start_in h stop.pointer.from) stop.pointer.index block) (h.cell stop.pointer.from)
  cell_from = cond-false _ _ _ (ne_eqb stop.pointer.from block apart) ∙ cond-true _ _ _ (eq-eqb stop.pointer.from stop.pointer.from refl)

  cell_else : (x : ℕ) → x ≢ block → x ≢ stop.pointer.from → cells x ≡ h.cell x
  cell_else x other other' = cond-false _ _ _ (ne_eqb x block other) ∙ cond-false _ _ _ (ne_eqb x stop.pointer.from other')

  some_same : (x : ℕ) → x ≢ block → is_some (cells x) ≡ is_some (h.cell x)
  some_same x other = some_by_part (h.cell x) (cells x) (filled.stays.parts x other)

  not_content : IsContentIn (with_cells h cells) stop.pointer.from → ⊥
  not_content (above, k, first, part) = each pointed (sym (filled.stays.parts stop.pointer.from apart) ∙ part)
    where
      each : IsPointed h 0 stop.pointer.from stop.pointer.index stop.level (first_of h 0 i stop) → part_at h stop.pointer.from ≡ Some (Pointed above k 0 first) → ⊥
      each (by_dinode own high near is first_is) part' = not_itself _ _ _ _ (sym r.file.own ∙ ap (part_at h) (sym own) ∙ part')
      each (by_block above' j start part'' near is first_is) part' = omega (arith, same_level (sym part'' ∙ part'))

  abbrev puts : FinMap nat_cmp Fate
  puts = insert (insert old stop.pointer.from (Put (inode_lock h.own) false (with_pointer stop.pointer.start stop.pointer.index block bytes))) block (Put (inode_lock h.own) (stop.level == 0) (new_bytes h.size stop.level))

  fate_else : (x : ℕ) → x ≢ block → x ≢ stop.pointer.from → get puts x ≡ get old x
  fate_else x other other' =
      inserted_apart nat_cmp_total nat_cmp-IsAntisymmetric (insert old stop.pointer.from (Put (inode_lock h.own) false (with_pointer stop.pointer.start stop.pointer.index block bytes))) block (Put (inode_lock h.own) (stop.level == 0) (new_bytes h.size stop.level)) x other
      ∙ inserted_apart nat_cmp_total nat_cmp-IsAntisymmetric old stop.pointer.from (Put (inode_lock h.own) false (with_pointer stop.pointer.start stop.pointer.index block bytes)) x other'

  fate_from : get puts stop.pointer.from ≡ Some (Put (inode_lock h.own) false (with_pointer stop.pointer.start stop.pointer.index block bytes))
  fate_from =
      inserted_apart nat_cmp_total nat_cmp-IsAntisymmetric (insert old stop.pointer.from (Put (inode_lock h.own) false (with_pointer stop.pointer.start stop.pointer.index block bytes))) block (Put (inode_lock h.own) (stop.level == 0) (new_bytes h.size stop.level)) stop.pointer.from apart
      ∙ inserted_at nat_cmp_total nat_cmp-IsAntisymmetric old stop.pointer.from (Put (inode_lock h.own) false (with_pointer stop.pointer.start stop.pointer.index block bytes))

  fate_block : get puts block ≡ Some (Put (inode_lock h.own) (stop.level == 0) (new_bytes h.size stop.level))
  fate_block =
      inserted_at nat_cmp_total nat_cmp-IsAntisymmetric (insert old stop.pointer.from (Put (inode_lock h.own) false (with_pointer stop.pointer.start stop.pointer.index block bytes))) block (Put (inode_lock h.own) (stop.level == 0) (new_bytes h.size stop.level))

  bytes_from : bytes_at (with_cells h cells) stop.pointer.from ≡ with_pointer stop.pointer.start stop.pointer.index block bytes
  bytes_from =
      ap cell_bytes cell_from ∙ rewritten_bytes (with_pointer (start_in h stop.pointer.from) stop.pointer.index block) (h.cell stop.pointer.from) from_part.0 from_part.1
      ∙ (λ i. with_pointer (stopped.passed.start i) stop.pointer.index block (seen i))

  put_block : IsPutFor puts (with_cells h cells) block
  put_block = record {
    plain = stop.level == 0;
    fate = fate_block ∙ ap (λ xs. Some (Put (inode_lock h.own) (stop.level == 0) xs)) (sym (ap cell_bytes cell_block));
    content = (content_there, content_back);
  }
    where
      content_there : (stop.level == 0) ≡ true → IsContentIn (with_cells h cells) block
      content_there is = (stop.pointer.from, stop.pointer.index, first_of h 0 i stop, filled.part ∙ ap (λ l. Some (Pointed stop.pointer.from stop.pointer.index l (first_of h 0 i stop))) (zero_of is))
        where
          zero_of : (stop.level == 0) ≡ true → stop.level ≡ 0
          zero_of is = elim (cases_eq stop.level 0) [
            | inl e ↦ e
            | inr other ↦ let both : true ≡ false = sym is ∙ ne_eqb stop.level 0 other in absurd (cc)
          ]

      content_back : IsContentIn (with_cells h cells) block → (stop.level == 0) ≡ true
      content_back (above, k, first, part) = eq-eqb stop.level 0 (same_level (sym filled.part ∙ part))

  put_from : IsPutFor puts (with_cells h cells) stop.pointer.from
  put_from = record {
    plain = false;
    fate = fate_from ∙ ap (λ xs. Some (Put (inode_lock h.own) false xs)) (sym bytes_from);
    content = (λ wrong. let both : false ≡ true = wrong in absurd (cc), λ is. absurd (not_content is));
  }

  left_else : (x : ℕ) → x ≢ block → x ≢ stop.pointer.from → IsSome (cells x) → IsLeft old puts h (with_cells h cells) x
  left_else x other other' there = record {
    fate = fate_else x other other';
    had = sym (some_same x other) ∙ there;
    bytes = ap cell_bytes (cell_else x other other');
    content = (
      λ is. (is.0, is.1, is.2, sym (filled.stays.parts x other) ∙ is.3),
      λ is. (is.0, is.1, is.2, filled.stays.parts x other ∙ is.3),
    );
  }

  -- it stands at the hole and nowhere else
  stands : (x level first : ℕ) → Contains (block ∷ []) x → IsPlaced (with_cells h cells) x level first → (stop.level ≡ level) × (first_of h 0 i stop ≡ first)
  stands x level first taken placed =
      let part = sym filled.part ∙ ap (part_at (with_cells h cells)) (sym (only_in block x taken)) ∙ placed.2 in
      (same_level part, same_first part)

  pub fill_above : (x level first : ℕ) → Contains (block ∷ []) x → IsPlaced (with_cells h cells) x level first → (first ≤ i) × (i < first + span h.size level)
  fill_above x level first taken placed =
      let is = stands x level first taken placed in
      let under = under_above h.size 0 i stop.level i large (omega arith) (omega arith) (omega arith) in
      let last : span h.size stop.level ≡ span h.size level = ap (span h.size) is.0 in
      (omega (arith, under.0, is.1), omega (arith, under.1, is.1, last))

  fill_over : (x level j : ℕ) → Contains (block ∷ []) x → IsPlaced (with_cells h cells) x level (j * span h.size level) → is_over h.size at end level j ≡ true
  fill_over x level j taken placed =
      let is = stands x level (j * span h.size level) taken placed in
      let j_is : place_of h 0 i stop ≡ j = cancelled (place_of h 0 i stop) j (span h.size stop.level) (span_some h.size stop.level large) (is.1 ∙ ap (λ l. j * span h.size l) (sym is.0)) in
      (λ t. is_over h.size at end (sym is.0 t) (sym j_is t)) ∙ over_above h.size at end i stop.level large has

  fill_hole_was : (x c level first : ℕ) → Contains (block ∷ []) x → IsPlaced (with_cells h cells) x level first → IsPlaced h c level first → ⊥
  fill_hole_was x c level first taken placed had =
      let is = stands x level first taken placed in
      let c_some : c ≢ 0 = some_part h c _ r.file.nobody had.2 in
      let there : IsPlaced h c stop.level (first_of h 0 i stop) = subst (IsPlaced h c stop.level) (sym is.1) (subst (λ l. IsPlaced h c l first) (sym is.0) had) in
      c_some (sym ((part_there h r.file stop.level (place_of h 0 i stop) c stopped.passed.place.low stopped.passed.place.within c_some).1 there) ∙ stopped.passed.leads ∙ hole)

  fill_clear : (upto : ℕ) → IsClearFrom h upto → IsClearFrom (with_cells h cells) upto
  fill_clear upto clear =
      clear_along h cells upto upto r.file (fills_keep_files h cells stop.pointer.from stop.pointer.index stop.level (first_of h 0 i stop) block r.file filled)
      (λ none. r.in_blocks (sym (ap (λ (d : Dinode). d.height) filled.dinode) ∙ none)) (omega arith) clear
      (λ c j placed. elim (cases_eq c block) [
        | inl e ↦
            let is = stands c 0 j (subst (Contains (block ∷ [])) (sym e) (0, omega arith, refl)) placed in
            inr (ap (bytes_at (with_cells h cells)) e ∙ filled.zeros is.0)
        | inr other ↦
            let part = sym (filled.stays.parts c other) ∙ placed.2 in
            inl ((placed.0, placed.1, part), ap (drop (upto - j * h.size)) (filled.stays.contents c placed.0 placed.1 j other part))
      ])

  -- a block that the file had keeps what stands before its pointers
  keeps_before : (n x : ℕ) → n ≤ 512 → x ≢ block → n ≤ start_in h x → take n (bytes_at (with_cells h cells) x) ≡ take n (bytes_at h x)
  keeps_before n x short other low = elim (cases_eq x stop.pointer.from) [
    | inl e ↦
        let start : n ≤ stop.pointer.start = subst (λ m. n ≤ m) stopped.passed.start (subst (λ y. n ≤ start_in h y) e low) in
        ap (λ y. take n (bytes_at (with_cells h cells) y)) e ∙ ap (take n) bytes_from
        ∙ before_pointer n stop.pointer.start stop.pointer.index block bytes start (omega (arith, short, large, ap length seen, r.file.whole stop.pointer.from from_part.0 from_part.1)) ∙ ap (take n) (sym seen) ∙ ap (λ y. take n (bytes_at h y)) (sym e)
    | inr other' ↦ ap (take n) (ap cell_bytes (cell_else x other other'))
  ]

  fill_own : take dinode_length (bytes_at (with_cells h cells) h.own) ≡ take dinode_length (bytes_at h h.own)
  fill_own =
      keeps_before dinode_length h.own (omega arith) (λ e. none_some (h.cell h.own) (ap h.cell e ∙ r.free.new block here) (is_there (h.cell h.own) _ r.file.own))
      (let same : dinode_length ≡ start_in h h.own = sym (cond-true _ _ _ (eq-eqb h.own h.own refl)) in omega (arith, same))

  fill_headers : KeepsHeaders h (with_cells h cells) (block ∷ [])
  fill_headers = record {
    pads = same_front (bytes_at h h.own) (bytes_at (with_cells h cells) h.own) fill_own;
    old = λ x level first had placed. keeps_before header_length x (omega arith) (λ e. none_some (h.cell x) (ap h.cell e ∙ r.free.new block here) had) (least (x == h.own));
    new = λ x level first taken placed.
        let is = stands x (suc level) first taken placed in
        ap (λ y. take header_length (bytes_at (with_cells h cells) y)) (only_in block x taken) ∙ ap (take header_length) (ap cell_bytes cell_block) ∙ ap (λ l. take header_length (new_bytes h.size l)) is.0;
  }
    where
      least : (b : Bool) → header_length ≤ (if b then dinode_length else header_length)
      least true = omega arith
      least false = omega arith

  pub fill_further : IsFurther old puts h cells at end (block ∷ [])
  fill_further = record {
    file = fills_keep_files h cells stop.pointer.from stop.pointer.index stop.level (first_of h 0 i stop) block r.file filled;
    dinode = filled.dinode;
    blocks = record {
      count = refl;
      blocks = λ x. (
        λ there. elim (cases_eq x block) [
          | inl e ↦ inr (subst (Contains (block ∷ [])) (sym e) (0, omega arith, refl))
          | inr other ↦ inl (sym (some_same x other) ∙ there)
        ],
        λ either. elim either [
          | inl had ↦ some_same x (λ e. none_here x e had) ∙ had
          | inr taken ↦ subst (λ y. IsSome (cells y)) (sym (only_in block x taken)) (ap is_some cell_block)
        ],
      );
    };
    counted = fills_add_one h cells stop.pointer.from stop.pointer.index stop.level (first_of h 0 i stop) block filled;
    parts = λ x had. filled.stays.parts x (λ e. none_here x e had);
    filled = record { over = fill_over; holes = fill_hole_was; turn = stand_one IsMetBefore (with_cells h cells) block };
    own = fill_own;
    headers = fill_headers;
    clear = λ upto far clear. fill_clear upto clear;
    need =
        let one = fills_lower_need h cells stop.pointer.from stop.pointer.index stop.level (first_of h 0 i stop) block at end (place_of h 0 i stop) r.file filled refl (over_above h.size at end i stop.level large has) in
        let turned : needed_below (with_cells h cells) at end (height_in h) + 1 ≡ length (block ∷ []) + needed_below (with_cells h cells) at end (height_in h) = omega arith in
        one ∙ turned;
    drafted = record {
      own = λ x there. elim (cases_eq x block) [
        | inl e ↦ inr (subst (IsPutFor puts (with_cells h cells)) (sym e) put_block)
        | inr other ↦ elim (cases_eq x stop.pointer.from) [
          | inl e ↦ inr (subst (IsPutFor puts (with_cells h cells)) (sym e) put_from)
          | inr other' ↦ inl (left_else x other other' there)
        ]
      ];
      frees = λ x none. absurd (omega (arith, none.1));
      others = λ x none not_freed.
          fate_else x (λ e. none (subst (λ y. IsSome (cells y)) (sym e) (ap is_some cell_block)))
          (λ e. none (subst (λ y. IsSome (cells y)) (sym e) (some_same stop.pointer.from apart ∙ is_there (h.cell stop.pointer.from) from_part.0 from_part.1)));
    };
    changes = λ x. elim (cases_eq x block) [
      | inl e ↦ inr (inl (subst (Contains (block ∷ [])) (sym e) (0, omega arith, refl)))
      | inr other ↦ elim (cases_eq x stop.pointer.from) [
        | inl e ↦ inr (inr (inl (block, stop.pointer.index, stop.level, first_of h 0 i stop, (0, omega arith, refl), filled.part ∙ ap (λ y. Some (Pointed y stop.pointer.index stop.level (first_of h 0 i stop))) (sym e))))
        | inr other' ↦ inl (fate_else x other other')
      ]
    ];
  }
    where
      none_here : (x : ℕ) → x ≡ block → IsSome (h.cell x) → ⊥
      none_here x e had = none_some (h.cell x) (ap h.cell e ∙ r.free.new block here) had

  pub content_further : content_of (with_cells h cells) ≡ content_of h
  content_further = fills_keep_content h cells stop.pointer.from stop.pointer.index stop.level (first_of h 0 i stop) block r.file filled

-- at a hole the room isn't empty
pub room_left : (h : Holding) (at end i : ℕ) (stop : Stop) (room : List ℕ) → IsRoomFor h at end room → HasBytes h.size at end i → IsStop h 0 i stop → stop.block ≡ 0 → 0 < length room
room_left h at end i stop room r has stopped hole = elim (cases_eq (needed_below h at end (height_in h)) 0) [
  | inl none ↦
      let large : 512 ≤ h.size = size_large h.size r.file.block_size in
      let there = nothing_is_lacking h at end (height_in h) stop.level (place_of h 0 i stop) none stopped.passed.place.low (over_above h.size at end i stop.level large has) large in
      absurd (hole_there (block_on h stop.level (place_of h 0 i stop)) _ (stopped.passed.leads ∙ hole) there)
  | inr some ↦ omega (arith, some, r.enough)
]
  where
    hole_there : (b : ℕ) (t : Bool) → b ≡ 0 → (t && not (b == 0)) ≡ true → ⊥
    hole_there b t none is = let both : (t && not true) ≡ true = (λ i. t && not (sym (eq-eqb b 0 none) i)) ∙ is in no_and t both
      where
        no_and : (t : Bool) → (t && false) ≡ true → ⊥
        no_and true e = cc
        no_and false e = cc

-- ---- bytes are put

module _ (old : FinMap nat_cmp Fate) (h : Holding) (at end i block : ℕ) (new : List ℕ) (file : IsFile h) (file' : IsFile (with_cells h (rewritten_cells h block new))) (placed : IsPlaced h block 0 i)
    (leaves : (n : ℕ) → end ≤ i * h.size + n → drop n new ≡ drop n (bytes_at h block))
    (has : HasBytes h.size at end i) where
  abbrev put_cells : ℕ → Option Cell
  put_cells = rewritten_cells h block new

  kept : ((y : ℕ) → part_at (with_cells h put_cells) y ≡ part_at h y) × (bytes_at (with_cells h put_cells) block ≡ new) × ((y : ℕ) → y ≢ block → bytes_at (with_cells h put_cells) y ≡ bytes_at h y)
  kept = rewrites_keep_the_rest h block (Pointed placed.0 placed.1 0 i) new placed.2

  put_some : (x : ℕ) → is_some (put_cells x) ≡ is_some (h.cell x)
  put_some x = some_by_part (h.cell x) (put_cells x) (kept.0 x)

  same_count : block_count (with_cells h put_cells) ≡ block_count h
  unfolding block_count
  same_count = count_same (λ x. is_some (h.cell x)) (λ x. is_some (put_cells x)) 0 h.count (λ x low high. put_some x)

  own_other : h.own ≢ block
  own_other e = not_itself _ _ _ _ (sym file.own ∙ ap (part_at h) e ∙ placed.2)

  put_dinode : dinode_in (with_cells h put_cells) ≡ dinode_in h
  unfolding dinode_in
  put_dinode = ap dinode_of (kept.2 h.own own_other)

  abbrev put_fates : FinMap nat_cmp Fate
  put_fates = insert old block (Put (inode_lock h.own) true new)

  put_else : (x : ℕ) → x ≢ block → get put_fates x ≡ get old x
  put_else x other = inserted_apart nat_cmp_total nat_cmp-IsAntisymmetric old block (Put (inode_lock h.own) true new) x other

  put_clear : (upto : ℕ) → end ≤ upto → IsClearFrom h upto → IsClearFrom (with_cells h put_cells) upto
  put_clear upto far clear =
      clear_along h put_cells upto upto file file' (λ none. omega (arith, none, file.tree.below block placed.0 placed.1 0 i placed.2, ap (λ (d : Dinode). d.height) put_dinode)) (omega arith) clear
      (λ c j at_c. elim (cases_eq c block) [
        | inl e ↦
            let part = sym (kept.0 c) ∙ at_c.2 in
            let same : j ≡ i = same_first (sym part ∙ ap (part_at h) e ∙ placed.2) in
            let rest = leaves (upto - j * h.size) (omega (arith, far, ap (λ n. n * h.size) same)) in
            inl ((at_c.0, at_c.1, part), ap (λ x. drop (upto - j * h.size) (bytes_at (with_cells h put_cells) x)) e ∙ ap (drop (upto - j * h.size)) kept.1 ∙ rest ∙ ap (λ x. drop (upto - j * h.size) (bytes_at h x)) (sym e))
        | inr other ↦ inl ((at_c.0, at_c.1, sym (kept.0 c) ∙ at_c.2), ap (drop (upto - j * h.size)) (kept.2 c other))
      ])

  not_indirect : (x level first : ℕ) → x ≡ block → IsPlaced (with_cells h put_cells) x (suc level) first → ⊥
  not_indirect x level first e at_x =
      let same : suc level ≡ 0 = same_level (sym at_x.2 ∙ kept.0 x ∙ ap (part_at h) e ∙ placed.2) in
      omega (arith, same)

  pub put_further : IsFurther old put_fates h put_cells at end []
  put_further = record {
    file = file';
    dinode = put_dinode;
    blocks = record {
      count = refl;
      blocks = λ x. (
        λ there. inl (sym (put_some x) ∙ there),
        λ either. elim either [ inl had ↦ put_some x ∙ had | inr none ↦ absurd (omega (arith, none.1)) ],
      );
    };
    counted = (let none : block_count h ≡ block_count h + 0 = omega arith in same_count ∙ none);
    parts = λ x had. kept.0 x;
    filled = record { over = λ x level j none. absurd (none_in x none); holes = λ x c level first none. absurd (none_in x none); turn = tt };
    own = ap (take dinode_length) (kept.2 h.own own_other);
    headers = record {
      pads = same_front (bytes_at h h.own) (bytes_at (with_cells h put_cells) h.own) (ap (take dinode_length) (kept.2 h.own own_other));
      old = λ x level first had at_x. ap (take header_length) (kept.2 x (λ e. not_indirect x level first e at_x));
      new = λ x level first none. absurd (none_in x none);
    };
    clear = put_clear;
    need =
        let same = need_same h put_cells at end file file' put_dinode kept.0 (height_in h) (omega arith) in
        let none : needed_below (with_cells h put_cells) at end (height_in h) ≡ 0 + needed_below (with_cells h put_cells) at end (height_in h) = omega arith in
        sym same ∙ none;
    drafted = record {
      own = λ x there. elim (cases_eq x block) [
        | inl e ↦ inr (subst (IsPutFor put_fates (with_cells h put_cells)) (sym e) (record {
          plain = true;
          fate = inserted_at nat_cmp_total nat_cmp-IsAntisymmetric old block (Put (inode_lock h.own) true new) ∙ ap (λ xs. Some (Put (inode_lock h.own) true xs)) (sym kept.1);
          content = (λ is. (placed.0, placed.1, i, kept.0 block ∙ placed.2), λ is. refl);
        }))
        | inr other ↦ inl (record {
          fate = put_else x other;
          had = sym (put_some x) ∙ there;
          bytes = kept.2 x other;
          content = (λ is. (is.0, is.1, is.2, sym (kept.0 x) ∙ is.3), λ is. (is.0, is.1, is.2, kept.0 x ∙ is.3));
        })
      ];
      frees = λ x none. absurd (omega (arith, none.1));
      others = λ x none not_freed. put_else x (λ e. none (subst (λ y. IsSome (put_cells y)) (sym e) (put_some block ∙ is_there (h.cell block) _ placed.2)));
    };
    changes = λ x. elim (cases_eq x block) [
      | inl e ↦ inr (inr (inr (i, has, (placed.0, placed.1, kept.0 x ∙ ap (part_at h) e ∙ placed.2))))
      | inr other ↦ inl (put_else x other)
    ];
  }

-- ---- one step after another

unfoldable pub come_then : (before after : Seen) (f0 f1 f2 : FinMap nat_cmp Fate) (room mid left : List ℕ) (h : Holding) (at end : ℕ) (bytes bytes' : List ℕ) (a : HasCome before f0 f1 room mid h at end bytes)
    → (b : HasCome after f1 f2 mid left (with_cells h a.cell) at end bytes')
    → ((x y level first level' first' : ℕ) → Contains a.taken x → Contains b.taken y → IsPlaced (with_cells h a.cell) x level first → IsPlaced (with_cells h b.cell) y level' first' → IsMetBefore level first level' first')
    → HasCome after f0 f2 room left h at end bytes'
come_then before after f0 f1 f2 room mid left h at end bytes bytes' a b across = record {
  cell = b.cell;
  taken = a.taken ++ b.taken;
  shown = b.shown;
  further = further_then f0 f1 f2 h a.cell b.cell at end a.taken b.taken a.further b.further across;
  from_front = a.from_front ∙ ap (λ xs. a.taken ++ xs) b.from_front ∙ sym (append_assoc a.taken b.taken left);
  content = b.content;
}

-- both on the way to the same place of content
pub across_at : (before after : Seen) (f0 f1 f2 : FinMap nat_cmp Fate) (room mid left : List ℕ) (h : Holding) (at end i : ℕ) (bytes bytes' : List ℕ) (a : HasCome before f0 f1 room mid h at end bytes)
    → (b : HasCome after f1 f2 mid left (with_cells h a.cell) at end bytes')
    → ((x level first : ℕ) → Contains a.taken x → IsPlaced (with_cells h a.cell) x level first → first ≤ i)
    → ((x level first : ℕ) → Contains b.taken x → IsPlaced (with_cells h b.cell) x level first → (first ≤ i) × (i < first + span h.size level))
    → (x y level first level' first' : ℕ) → Contains a.taken x → Contains b.taken y → IsPlaced (with_cells h a.cell) x level first → IsPlaced (with_cells h b.cell) y level' first' → IsMetBefore level first level' first'
across_at before after f0 f1 f2 room mid left h at end i bytes bytes' a b upto above = met_across f0 f1 f2 h a.cell b.cell at end a.taken b.taken a.further b.further i upto above

pub above_then : (before after : Seen) (f0 f1 f2 : FinMap nat_cmp Fate) (room mid left : List ℕ) (h : Holding) (at end i : ℕ) (bytes bytes' : List ℕ) (a : HasGone before f0 f1 room mid h at end i bytes)
    → (b : HasCome after f1 f2 mid left (with_cells h a.come.cell) at end bytes') → ((x level first : ℕ) → Contains b.taken x → IsPlaced (with_cells h b.cell) x level first → (first ≤ i) × (i < first + span h.size level))
    → (x level first : ℕ) → Contains (a.come.taken ++ b.taken) x → IsPlaced (with_cells h b.cell) x level first → (first ≤ i) × (i < first + span h.size level)
above_then before after f0 f1 f2 room mid left h at end i bytes bytes' a b above x level first taken placed = elim (Contains-append_cases a.come.taken b.taken x taken) [
  | inl early ↦ a.above x level first early (placed_back f0 f1 f2 h a.come.cell b.cell at end a.come.taken b.taken a.come.further b.further x level first early placed)
  | inr late ↦ above x level first late placed
]

pub gone_then : (before after : Seen) (f0 f1 f2 : FinMap nat_cmp Fate) (room mid left : List ℕ) (h : Holding) (at end i : ℕ) (bytes bytes' : List ℕ) (a : HasGone before f0 f1 room mid h at end i bytes)
    → HasGone after f1 f2 mid left (with_cells h a.come.cell) at end i bytes' → HasGone after f0 f2 room left h at end i bytes'
unfolding come_then
gone_then before after f0 f1 f2 room mid left h at end i bytes bytes' a b = record {
  come = come_then before after f0 f1 f2 room mid left h at end bytes bytes' a.come b.come
      (across_at before after f0 f1 f2 room mid left h at end i bytes bytes' a.come b.come (λ x level first early placed. (a.above x level first early placed).0) b.above);
  above = above_then before after f0 f1 f2 room mid left h at end i bytes bytes' a b.come b.above;
}

-- ---- as the draft tells it

pub filled_one : {V E : Type 0} (seen : V → Seen) (old now : Drafted V) (inode : ℕ) (h : Holding) (at end i : ℕ) (stop : Stop) (block : ℕ) (left bytes : List ℕ) → (seen_in seen old).block_at stop.pointer.from ≡ Some bytes → block < 2 ^ 64
    → IsShown (seen_in seen old) inode h → IsRoomFor h at end (block ∷ left) → HasBytes h.size at end i → IsStop h 0 i stop → stop.block ≡ 0 → (result : Result Unit E)
    → OnOk result (now ≡ record old { fates = insert (insert old.fates stop.pointer.from (Put (inode_lock inode) false (with_pointer stop.pointer.start stop.pointer.index block bytes))) block (Put (inode_lock inode) (stop.level == 0) (new_bytes (seen old.view).size stop.level)) })
    → ((first : ℕ) → IsFile h → IsShown (seen_in seen old) inode h → start_in h stop.pointer.from ≡ stop.pointer.start → IsPointed h 0 stop.pointer.from stop.pointer.index stop.level first → first < content_count h → h.cell block ≡ None → block ≢ 0 → block < h.count
    → OnOk result (IsShown (seen_in seen now) inode (with_cells h (filled_cells h stop.pointer.from stop.pointer.index stop.level first block (new_bytes h.size stop.level)))))
    → OnOk result (HasGone (seen_in seen now) old.fates now.fates (block ∷ left) left h at end i (content_of h))
filled_one seen old now inode h at end i stop block left bytes there low shown r has stopped hole (Err e) put show = tt
filled_one {V} seen old now inode h at end i stop block left bytes there low shown r has stopped hole (Ok u) put show = record {
  come = come;
  above = fill_above old.fates h at end i stop block left bytes low r has stopped hole bytes_are;
}
  where
    bytes_are : bytes_at h stop.pointer.from ≡ bytes
    bytes_are = shown.same stop.pointer.from bytes (is_there (h.cell stop.pointer.from) _ (from_there h stop.block stop.pointer.from stop.pointer.index stop.level (first_of h 0 i stop) r.file stopped.passed.pointed).1) there

    here_it : Contains (block ∷ left) block
    here_it = (0, omega arith, refl)

    fates_are : insert (insert old.fates stop.pointer.from (Put (inode_lock h.own) false (with_pointer stop.pointer.start stop.pointer.index block bytes))) block (Put (inode_lock h.own) (stop.level == 0) (new_bytes h.size stop.level)) ≡ now.fates
    fates_are =
        (λ t. insert (insert old.fates stop.pointer.from (Put (inode_lock (shown.own t)) false (with_pointer stop.pointer.start stop.pointer.index block bytes))) block (Put (inode_lock (shown.own t)) (stop.level == 0) (new_bytes (shown.size t) stop.level)))
        ∙ sym (ap (λ (d : Drafted V). d.fates) put)

    come : HasCome (seen_in seen now) old.fates now.fates (block ∷ left) left h at end (content_of h)
    come = record {
      cell = cells old.fates h at end i stop block left bytes low r has stopped hole bytes_are;
      taken = block ∷ [];
      shown = subst (λ a. IsShown (seen_in seen now) a (with_cells h (cells old.fates h at end i stop block left bytes low r has stopped hole bytes_are))) (sym shown.own)
          (show (first_of h 0 i stop) r.file shown stopped.passed.start (pointed old.fates h at end i stop block left bytes low r has stopped hole bytes_are) (within old.fates h at end i stop block left bytes low r has stopped hole bytes_are) (r.free.new block here_it) (some old.fates h at end i stop block left bytes low r has stopped hole bytes_are) (r.free.inside block here_it));
      further = subst (λ fates. IsFurther old.fates fates h (cells old.fates h at end i stop block left bytes low r has stopped hole bytes_are) at end (block ∷ [])) fates_are
          (fill_further old.fates h at end i stop block left bytes low r has stopped hole bytes_are);
      from_front = refl;
      content = content_further old.fates h at end i stop block left bytes low r has stopped hole bytes_are;
    }

-- what holds of the file so far

pub ready_after : {V : Type 0} (seen : V → Seen) (old now : Drafted V) (inode : ℕ) (room left : List ℕ) (h : Holding) (at end : ℕ) (bytes : List ℕ) → now.view ≡ old.view → IsShown (seen_in seen old) inode h → IsRoomFor h at end room
    → (come : HasCome (seen_in seen now) old.fates now.fates room left h at end bytes) → IsRoomFor (with_cells h come.cell) at end left × IsShown (seen_in seen now) inode (with_cells h come.cell)
    × ((i : ℕ) → IsSeenWay (seen_in seen old) h i → IsSeenWay (seen_in seen now) (with_cells h come.cell) i)
ready_after {V} seen old now inode room left h at end bytes view shown r come = (
  room_further old.fates now.fates h come.cell at end come.taken come.further room left r come.from_front,
  subst (λ a. IsShown (seen_in seen now) a (with_cells h come.cell)) shown.own come.shown,
  λ i way. subst (λ w. IsSeenWay (seen_with (seen w) now.fates) (with_cells h come.cell) i) (sym view)
      (way_further old.fates now.fates h come.cell at end come.taken come.further (seen old.view) i r.file
      (free_taken old.fates now.fates h come.cell at end come.taken come.further room left r come.from_front) way),
)

pub content_at_stop : (h : Holding) (i : ℕ) (stop : Stop) → IsStop h 0 i stop → stop.block ≢ 0 → content_block h i ≡ stop.block
content_at_stop h i stop stopped some = content_is_level_zero h i ∙ stopped.block ∙ cond-true _ _ _ (eq-eqb stop.level 0 (low stopped.ended))
  where
    low : (stop.level ≡ 0) ⊎ (stop.block ≡ 0) → stop.level ≡ 0
    low (inl e) = e
    low (inr none) = absurd (some none)
