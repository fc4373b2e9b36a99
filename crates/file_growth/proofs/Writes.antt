-- A file that was written to.
use Rattle.std.proofs.Common.{◌≡◌, ◌≢◌, ◌⊎◌, inl, inr, true, false, Option, ℕ, zero, suc, ◌+◌, ◌-◌, ◌*◌, ◌%◌, ◌^◌, ◌<◌, ◌≤◌, max, List, [], ◌++◌, length, take, drop, refl, sym, ap, ap₂, subst, ◌∙◌, arith, append_assoc, length-append, append-nil}
use Rattle.std.proofs.lemmas.Bool.{cases_eq, cases_lt}
use Rattle.std.proofs.lemmas.List.Elements.{Contains-append_cases}
use Rattle.std.proofs.lemmas.List.{length-take, length-drop, take_all}
use Rattle.std.specs.Prelude.{Bool, ◌==◌, ◌&&◌, ◌||◌, not, nat_lt, replicate, count_by, Contains, IsSome}
use Rattle.std.proofs.lemmas.List.Elements.{Contains-append_left, Contains-append_right}
use Rattle.std.specs.List.{range_with_len}
use Rattle.std.specs.FinMap.{FinMap}
use Rattle.std.specs.Ordering.{nat_cmp}
use Rattle.drafts.specs.Fates.{seen_with}
use Rattle.drafts.specs.declared.fate.Fate.{Fate}
use Rattle.file_tree.specs.Apply.{file_limit, overwritten, resized}
use Rattle.gfs2_layout.specs.Holding.{Cell, Holding, Itself, bytes_at, part_at}
use Rattle.gfs2_layout.specs.Inode.{block_count, content_of, dinode_in, header_length, height_in, span}
use Rattle.gfs2_layout.specs.Structures.{dinode_length, is_directory}
use Rattle.gfs2_layout.specs.declared.dinode.Dinode.{Dinode}
use Rattle.glock_names.specs.Views.{Seen}
use Rattle.dinode_tree.specs.Shown.{IsShown}
use Rattle.dinode_tree.proofs.Sound.{is_there as in_file}
use Rattle.dinode_tree.proofs.Spans.{span_some}
use Rattle.growth_laws.specs.Blocks.{rewritten_cells}
use Rattle.growth_laws.specs.Files.{IsFile, IsPlaced, block_on, with_cells}
use Rattle.growth_laws.specs.Need.{capacity, has_content, height_for, is_needed, is_there, needed, needed_below}
use Rattle.growth_laws.specs.Steps.{IsStuffedAs}
use Rattle.growth_laws.proofs.Bare.{content_stuffed, stuffed_content_is_put}
use Rattle.growth_laws.proofs.Bytes.{over_length, writes_grow_first}
use Rattle.growth_laws.proofs.Contents.{content_length}
use Rattle.growth_laws.proofs.Counting.{one_if, step_of}
use Rattle.growth_laws.proofs.Heights.{raised_enough}
use Rattle.growth_laws.proofs.Parts.{not_itself}
use Rattle.growth_laws.proofs.Places.{cancelled, part_of_place, size_large}
use Rattle.growth_laws.proofs.Pointing.{rewrites_keep_the_rest}
use Rattle.growth_laws.proofs.Rising.{none_above, there_false}
use Rattle.growth_drafts.proofs.Rooms.{free_before, free_left, none_in}
use Rattle.growth_steps.specs.Becoming.{Becomes}
use Rattle.growth_steps.proofs.Putting.{drafts_on}
use Rattle.file_heights.specs.Causes.{ChangesOnly, IsFilledAt}
use Rattle.file_heights.specs.Filling.{HasFilled, IsRoomFor, IsSeenWay}
use Rattle.file_heights.specs.Headers.{HaveSamePads}
use Rattle.file_heights.specs.Turns.{IsMetBefore, StandIn}
use Rattle.file_heights.proofs.Headers.{headers_then}
use Rattle.file_heights.proofs.Turns.{stand_as, stand_then}
use Rattle.file_heights.proofs.Ways.{ways_along}
use Rattle.file_heights.specs.Grown.{IsUnclear, IsLower, IsNewLevel}
use Rattle.file_heights.specs.Sized.{dinode_as}
use Rattle.file_heights.proofs.Changing.{changes_then, changes_wider}
use Rattle.file_heights.proofs.Joining.{taken_then}
use Rattle.file_heights.proofs.Rising.{reach_of}
use Rattle.file_growth.specs.Stretched.{CanStretch, HasStretched}
use Rattle.file_growth.specs.Written.{CanWrite, HasWritten, IsWrittenAt, IsTakenBefore, size_with}
use Rattle.file_growth.proofs.Lengths.{new_level_is_needed}
use Rattle.file_heights.proofs.Sized.{counts_same, no_more}

-- ---- numbers

few_of : (p : ℕ → Bool) (a n : ℕ) → count_by p (range_with_len a n) ≤ n
few_of p a zero = omega arith
few_of p a (suc n) = omega (arith, step_of p a n, few_of p (a + 1) n, one_low (p a))
  where
    one_low : (b : Bool) → one_if b ≤ 1
    one_low b = elim b as (λ x. one_if x ≤ 1) [ true ↦ omega arith | false ↦ omega arith ]

-- an inode has no more blocks than its image
few_blocks : (h : Holding) → block_count h ≤ h.count
unfolding block_count
few_blocks h = few_of _ 0 h.count

pub long_content : (h : Holding) → IsFile h → length (content_of h) ≡ (dinode_in h).size
long_content h file = elim (cases_eq (height_in h) 0) [
  | inr high ↦ content_length h file high
  | inl stuffed ↦
      ap length (content_stuffed h stuffed)
      ∙ (let fits = file.fits.stuffed stuffed in let whole = file.whole h.own _ file.own in omega (arith, fits, whole, length-take (dinode_in h).size (drop dinode_length (bytes_at h h.own)), length-drop dinode_length (bytes_at h h.own)))
]

-- a write grows the content first, where it ends past it
grown_first : (h : Holding) (at : ℕ) (new : List ℕ) → IsFile h → overwritten at new (resized (size_with h (at + length new)) (content_of h)) ≡ overwritten at new (content_of h)
grown_first h at new file = elim (cases_lt (dinode_in h).size (at + length new)) [
  | inl less ↦
      let end : size_with h (at + length new) ≡ at + length new = omega (arith, less) in
      ap (λ n. overwritten at new (resized n (content_of h))) end ∙ writes_grow_first at (at + length new) new (content_of h) (omega (arith, less, long_content h file)) refl
  | inr far ↦
      let same : size_with h (at + length new) ≡ length (content_of h) = omega (arith, far, long_content h file) in
      ap (overwritten at new) (ap (λ n. resized n (content_of h)) same ∙ whole (content_of h))
]
  where
    whole : (xs : List ℕ) → resized (length xs) xs ≡ xs
    whole xs =
        let none : length xs - length xs ≡ 0 = omega arith in
        (λ t. take (length xs) xs ++ replicate (none t) 0) ∙ ap (λ ys. ys ++ []) (take_all (length xs) xs (omega arith)) ∙ append-nil xs

-- ---- into blocks

module _ (h : Holding) (at need : ℕ) (bytes room left : List ℕ) (can : CanWrite h at (length bytes) room) (high : height_for h (size_with h (at + length bytes)) ≢ 0) (mid : Seen) (f0 f1 : FinMap nat_cmp Fate)
    (s : HasStretched mid f0 f1 room left h at (at + length bytes) need) where
  abbrev g3 : Holding
  g3 = with_cells h s.cell

  high_is : height_in (with_cells h s.cell) ≡ height_for h (size_with h (at + length bytes))
  high_is = ap (λ (d : Dinode). d.height) s.grown.dinode

  need_left : needed h at (length bytes) ≡ length s.taken + needed_below (with_cells h s.cell) at (at + length bytes) (height_in (with_cells h s.cell))
  need_left = s.less ∙ ap (λ n. length s.taken + needed_below (with_cells h s.cell) at (at + length bytes) n) (sym high_is)

  pub room_for : IsRoomFor (with_cells h s.cell) at (at + length bytes) left
  room_for = record {
    file = s.grown.file;
    in_blocks = λ none. high (sym high_is ∙ none);
    within = (let low : at + length bytes ≤ size_with h (at + length bytes) = omega arith in subst (λ (d : Dinode). at + length bytes ≤ d.size) (sym s.grown.dinode) low);
    free = free_left h s.cell s.taken room left can.free s.from_front s.grown.blocks;
    enough = omega (arith, need_left, can.enough, ap length s.from_front, length-append s.taken left);
  }

  pub way_there : (v : Seen) (i : ℕ) → IsSeenWay (seen_with v f0) h i → IsSeenWay (seen_with v f1) (with_cells h s.cell) i
  way_there v i way =
      ways_along f0 f1 v h s.cell s.taken s.grown.drafted i can.counted.file s.grown.file s.grown.blocks (free_before h s.cell s.taken room left can.free s.from_front)
      (λ b level first had placed. (s.grown.places b level first had).0 placed) way

  module _ (after : Seen) (f2 : FinMap nat_cmp Fate) (rest : List ℕ) (needs : need ≡ needed h at (length bytes)) (f : HasFilled after f1 f2 left rest (with_cells h s.cell) at bytes) where
    all_taken : length (s.taken ++ f.taken) ≡ needed h at (length bytes)
    all_taken = omega (arith, length-append s.taken f.taken, f.as_many, need_left)

    counted : block_count f.g ≡ (dinode_in h).blocks + need
    counted = omega (arith, f.counted, s.grown.counted, can.counted.blocks, f.as_many, need_left, needs)

    fits : (dinode_in h).blocks + need < 2 ^ 64
    fits = omega (arith, counted, few_blocks f.g, f.blocks.count, can.few)

    told : ((dinode_in h).blocks + need) % 2 ^ 64 ≡ (dinode_in h).blocks + need
    told = omega (arith, fits)

    says : dinode_in f.g ≡ dinode_as (dinode_in h) (size_with h (at + length bytes)) ((dinode_in h).blocks + length (s.taken ++ f.taken)) (height_for h (size_with h (at + length bytes)))
    says =
        f.dinode ∙ s.grown.dinode
        ∙ ap (λ n. dinode_as (dinode_in h) (size_with h (at + length bytes)) n (height_for h (size_with h (at + length bytes)))) (told ∙ ap (λ n. (dinode_in h).blocks + n) (needs ∙ sym all_taken))

    -- ---- which block stands where

    mid_some : (b : ℕ) → IsSome (h.cell b) → IsSome (s.cell b)
    mid_some b had = (s.grown.blocks.blocks b).1 (inl had)

    back : (b level first : ℕ) → Contains s.taken b → IsPlaced f.g b level first → IsPlaced (with_cells h s.cell) b level first
    back b level first early = (f.places b level first ((s.grown.blocks.blocks b).1 (inr early))).0

    level_needed : (b level j : ℕ) → Contains s.taken b → IsPlaced f.g b level (j * span h.size level) → is_needed h at (at + length bytes) level j ≡ true
    level_needed b level j early placed =
        let is = s.levels.only b level (j * span h.size level) early (back b level (j * span h.size level) early placed) in
        let zero_wide : 0 ≡ 0 * span h.size level = omega arith in
        let first : j ≡ 0 = cancelled j 0 (span h.size level) (span_some h.size level (size_large h.size can.counted.file.block_size)) (is.0.2 ∙ zero_wide) in
        ap (is_needed h at (at + length bytes) level) first ∙ new_level_is_needed h at (at + length bytes) level is.0.1 is.0.0

    hole_needed : (b level j : ℕ) → Contains f.taken b → IsPlaced f.g b level (j * span h.size level) → is_needed h at (at + length bytes) level j ≡ true
    hole_needed b level j late placed = ap₂ (λ (p : Bool) (q : Bool). (p || (not (nat_lt level (height_in h)) && j == 0 && has_content h)) && not q) (f.filled.over b level j late placed) (none_there (cases_lt level (height_in h)))
      where
        none_there : (level < height_in h) ⊎ (height_in h ≤ level) → is_there h level j ≡ false
        none_there (inr high) = none_above h level j high
        none_there (inl low) = there_false h level j (λ near. elim (cases_eq (block_on h level j) 0) [
          | inl none ↦ none
          | inr some ↦
              let had = part_of_place h can.counted.file level j low near some in
              absurd (f.filled.holes b (block_on h level j) level (j * span h.size level) late placed ((s.grown.places (block_on h level j) level (j * span h.size level) (in_file (h.cell (block_on h level j)) _ had.2)).1 had))
        ])

    not_new : (c level first : ℕ) → Contains f.taken c → IsPlaced f.g c level first → IsNewLevel h level first → ⊥
    not_new c level first late placed new =
        let below : level < height_in f.g = f.file.tree.below c placed.0 placed.1 level first placed.2 in
        let same : height_in f.g ≡ height_for h (size_with h (at + length bytes)) = ap (λ (d : Dinode). d.height) f.dinode ∙ high_is in
        let found = s.levels.each level (new.0, new.1, refl) (omega (arith, below, same)) in
        f.filled.holes c found.0 level first late placed (subst (IsPlaced (with_cells h s.cell) found.0 level) (sym new.2) found.2)

    in_turn : StandIn (IsTakenBefore h) f.g (s.taken ++ f.taken)
    in_turn =
        stand_then (IsTakenBefore h) f.g s.taken f.taken
        (stand_as IsLower (IsTakenBefore h) (with_cells h s.cell) f.g s.taken back (λ b c level first level' first' has has' placed placed' less. inl ((s.levels.only b level first has placed).0, λ new. less)) s.levels.turn)
        (stand_as IsMetBefore (IsTakenBefore h) f.g f.g f.taken (λ b level first has placed. placed)
        (λ b c level first level' first' has has' placed placed' met. inr (not_new c level' first' has' placed', met)) f.filled.turn)
        (λ b c level first level' first' early late placed placed'. inl ((s.levels.only b level first early (back b level first early placed)).0, λ new. absurd (not_new c level' first' late placed' new)))

    pub written_in_blocks : HasWritten after f0 f2 room rest h at bytes
    written_in_blocks = record {
      g = f.g;
      taken = s.taken ++ f.taken;
      shown = f.shown;
      written = record {
        sound = record { file = f.file; blocks = ap (λ (d : Dinode). d.blocks) (f.dinode ∙ s.grown.dinode) ∙ told ∙ sym counted };
        content = f.content ∙ ap (overwritten at bytes) s.grown.content ∙ grown_first h at bytes can.counted.file;
        dinode = says;
        head = ap (λ (d : Dinode). record { number = d.num.number; is_dir = is_directory d }) says;
        blocks = taken_then h (with_cells h s.cell) f.g s.taken f.taken s.grown.blocks f.blocks;
        places = λ b level first had. (
          λ placed. (s.grown.places b level first had).0 ((f.places b level first (mid_some b had)).0 placed),
          λ placed. (f.places b level first (mid_some b had)).1 ((s.grown.places b level first had).1 placed),
        );
        needed = λ b level j taken placed. elim (Contains-append_cases s.taken f.taken b taken) [
          | inl early ↦ level_needed b level j early placed
          | inr late ↦ hole_needed b level j late placed
        ];
        turn = in_turn;
        headers = headers_then h (with_cells h s.cell) f.g s.taken f.taken refl refl mid_some (λ x early. (s.grown.blocks.blocks x).1 (inr early)) (λ x level first mid'. (f.places x level first mid').0) s.grown.headers f.headers;
        clear = λ high' either. f.clear (size_with h (at + length bytes)) (let far : at + length bytes ≤ size_with h (at + length bytes) = omega arith in far) (s.clear either);
        behind = λ none. absurd (high (ap (λ (d : Dinode). d.height) (sym says) ∙ none));
      };
      as_many = all_taken;
      from_front = s.from_front ∙ ap (λ xs. s.taken ++ xs) f.from_front ∙ sym (append_assoc s.taken f.taken rest);
      drafted = drafts_on f0 f1 f2 h (with_cells h s.cell) f.g f.shown.own (λ x there. (f.blocks.blocks x).1 (inl there)) s.grown.drafted f.drafted;
      changes = changes_then f0 f1 f2 _ _ _ earlier later s.changes f.changes;
    }
      where
        earlier : (x : ℕ) → (x ≡ h.own) ⊎ Contains s.taken x ⊎ (((dinode_in h).size < at + length bytes) × IsUnclear h (dinode_in h).size x) → IsWrittenAt h f.g at (at + length bytes) (s.taken ++ f.taken) x
        earlier x (inl own) = inl own
        earlier x (inr (inl taken)) = inr (inl (inl (Contains-append_left s.taken f.taken x taken)))
        earlier x (inr (inr unclear)) = inr (inr unclear)

        later : (x : ℕ) → IsFilledAt f.g at (at + length bytes) f.taken x → IsWrittenAt h f.g at (at + length bytes) (s.taken ++ f.taken) x
        later x (inl taken) = inr (inl (inl (Contains-append_right s.taken f.taken x taken)))
        later x (inr (inl (c, k, level, first, taken, part))) = inr (inl (inr (inl (c, k, level, first, Contains-append_right s.taken f.taken c taken, part))))
        later x (inr (inr written)) = inr (inl (inr (inr written)))

-- what lets the file be stretched
pub can_stretch : (h : Holding) (at : ℕ) (bytes room : List ℕ) → CanWrite h at (length bytes) room → height_for h (size_with h (at + length bytes)) ≢ 0 → at + length bytes ≤ file_limit → CanStretch h at (at + length bytes) room
can_stretch h at bytes room can high short = record { file = can.counted.file; in_blocks = high; short = short; free = can.free; enough = can.enough }

-- ---- behind the dinode

module _ (h : Holding) (cell : ℕ → Option Cell) (at : ℕ) (bytes : List ℕ) (room : List ℕ) (can : CanWrite h at (length bytes) room) (fits : size_with h (at + length bytes) ≤ capacity h.size 0) (after : Seen) (f0 f1 : FinMap nat_cmp Fate)
    (inode : ℕ) (own : h.own ≡ inode) (is : IsStuffedAs h cell (overwritten at bytes (content_of h))) (becomes : Becomes after f0 f1 inode h (with_cells h cell))
    (pads : HaveSamePads (bytes_at h h.own) (bytes_at (with_cells h cell) h.own))
    (behind : drop (dinode_length + size_with h (at + length bytes)) (bytes_at (with_cells h cell) h.own) ≡ drop (dinode_length + size_with h (at + length bytes)) (bytes_at h h.own)) (changes : ChangesOnly f0 f1 (λ b. b ≡ inode)) where
  file' : IsFile (with_cells h cell) × (content_of (with_cells h cell) ≡ overwritten at bytes (content_of h))
  file' = stuffed_content_is_put h cell (overwritten at bytes (content_of h)) can.counted.file is

  stays : height_for h (size_with h (at + length bytes)) ≡ 0
  stays = raised_enough h.size (height_in h) (size_with h (at + length bytes)) (10 - height_in h) (subst (λ n. size_with h (at + length bytes) ≤ capacity h.size n) (sym is.stuffed) fits) ∙ is.stuffed

  nothing : needed h at (length bytes) ≡ 0
  nothing = ap (needed_below h at (at + length bytes)) stays

  size_is : length (overwritten at bytes (content_of h)) ≡ size_with h (at + length bytes)
  size_is = omega (arith, over_length at bytes (content_of h), long_content h can.counted.file)

  says_behind : dinode_in (with_cells h cell) ≡ dinode_as (dinode_in h) (size_with h (at + length bytes)) ((dinode_in h).blocks + 0) (height_for h (size_with h (at + length bytes)))
  says_behind =
      let none : (dinode_in h).blocks ≡ (dinode_in h).blocks + 0 = omega arith in
      is.dinode ∙ (λ t. dinode_as (dinode_in h) (size_is t) (none t) (is_high t))
    where
      is_high : height_in h ≡ height_for h (size_with h (at + length bytes))
      is_high = is.stuffed ∙ sym stays

  pub written_behind : HasWritten after f0 f1 room room h at bytes
  written_behind = record {
    g = with_cells h cell;
    taken = [];
    shown = subst (λ a. IsShown after a (with_cells h cell)) (sym own) becomes.shown;
    written = record {
      sound = record {
        file = file'.0;
        blocks = ap (λ (d : Dinode). d.blocks) is.dinode ∙ can.counted.blocks ∙ sym (counts_same h cell is.parts);
      };
      content = file'.1;
      dinode = says_behind;
      head = ap (λ (d : Dinode). record { number = d.num.number; is_dir = is_directory d }) says_behind;
      blocks = (no_more h cell is.parts).0;
      places = λ b level first had. (λ placed. (placed.0, placed.1, sym (is.parts b) ∙ placed.2), λ placed. (placed.0, placed.1, is.parts b ∙ placed.2));
      needed = λ b level j none. absurd (none_in b none);
      turn = tt;
      headers = record {
        pads = pads;
        old = λ x level first had placed. ap (take header_length) (is.others x (λ e. not_itself _ _ _ _ (sym file'.0.own ∙ ap (part_at (with_cells h cell)) (sym e) ∙ placed.2)));
        new = λ x level first none. absurd (none_in x none);
      };
      clear = λ high'. absurd (high' (ap (λ (d : Dinode). d.height) is.dinode ∙ is.stuffed));
      behind = λ stuffed. behind;
    };
    as_many = sym nothing;
    from_front = refl;
    drafted = becomes.drafted;
    changes = changes_wider f0 f1 _ _ (λ b e. inl (e ∙ sym own)) changes;
  }

-- a file whose content isn't behind its dinode, or would have no room there, is to have it in blocks
pub goes_up : (h : Holding) (end : ℕ) → IsFile h → end ≤ file_limit → (height_in h ≢ 0) ⊎ ((height_in h ≡ 0) × (size_with h end ≤ capacity h.size 0 → ⊥)) → height_for h (size_with h end) ≢ 0
goes_up h end file short either none = elim either [
  | inl high ↦ high (let low : height_in h ≡ 0 = omega (arith, reach.0, none) in low)
  | inr full ↦ full.1 (subst (λ n. size_with h end ≤ capacity h.size n) none reach.2)
]
  where
    reach : (height_in h ≤ height_for h (size_with h end)) × (height_for h (size_with h end) ≤ 10) × (size_with h end ≤ capacity h.size (height_for h (size_with h end)))
    reach = reach_of h (size_with h end) file (let low : (dinode_in h).size ≤ size_with h end = omega arith in low) (let high : size_with h end ≤ max (dinode_in h).size file_limit = omega (arith, short) in high)
