-- A file that gets further, step by step, in a draft.
use Rattle.std.proofs.Common.{◌≡◌, ◌≢◌, ◌⊎◌, inl, inr, Bool, false, Option, None, Some, ℕ, zero, suc, ◌+◌, ◌-◌, ◌*◌, ◌<◌, ◌≤◌, List, [], ◌∷◌, ◌++◌, length, refl, sym, ap, ap₂, subst, ◌∙◌, arith, length-append}
use Rattle.std.proofs.lemmas.Bool.{cases_Bool, ltb-true}
use Rattle.std.proofs.lemmas.List.Elements.{Contains-append_left, Contains-append_right, Contains-append_cases}
use Rattle.std.specs.Prelude.{◌==◌, ◌&&◌, not, nat_lt, Contains, IsSome, max}
use Rattle.std.specs.FinMap.{FinMap, get}
use Rattle.std.specs.Ordering.{nat_cmp}
use Rattle.drafts.specs.Fates.{seen_with}
use Rattle.drafts.specs.declared.fate.Fate.{Fate}
use Rattle.drafts.specs.declared.fate.Fate.TheVariants.{Put}
use Rattle.gfs2_layout.specs.Holding.{Cell, Holding, part_at, bytes_at}
use Rattle.gfs2_layout.specs.Inode.{block_count, dinode_in, fan, height_in, span, pieces}
use Rattle.gfs2_layout.specs.Structures.{dinode_length}
use Rattle.gfs2_layout.specs.declared.dinode.Dinode.{Dinode}
use Rattle.glock_names.specs.Views.{Seen}
use Rattle.dinode_tree.specs.Reading.{inode_lock}
use Rattle.dinode_tree.proofs.Sound.{is_there}
use Rattle.growth_laws.specs.Files.{IsFile, IsPlaced, block_on, places_on, with_cells}
use Rattle.growth_laws.specs.Need.{is_needed, is_there as has_there, needed_below, needed_on}
use Rattle.growth_laws.proofs.Contents.{same_place}
use Rattle.growth_laws.proofs.Counting.{count_same}
use Rattle.growth_laws.proofs.Needing.{and_false, on_way}
use Rattle.growth_laws.proofs.Places.{part_there, part_of_place, place_of_part}
use Rattle.growth_drafts.specs.Taken.{IsContentIn, IsLeft, IsPutFor}
use Rattle.growth_drafts.proofs.Rooms.{free_before, free_left, none_in, none_some}
use Rattle.file_fills.specs.Causes.{IsFilledAt}
use Rattle.file_fills.specs.Filling.{IsRoomFor, IsSeenWay}
use Rattle.file_fills.specs.Progress.{IsFurther}
use Rattle.file_fills.specs.Turns.{IsMetBefore}
use Rattle.file_fills.proofs.Headers.{headers_then}
use Rattle.file_fills.proofs.Turns.{met_before, stand_as, stand_then}
use Rattle.file_fills.proofs.Ways.{ways_along}

-- ---- the same file

pub further_none : (fates : FinMap nat_cmp Fate) (h : Holding) (at end : ℕ) → IsFile h → IsFurther fates fates h h.cell at end []
further_none fates h at end file = record {
  file = file;
  dinode = refl;
  blocks = record { count = refl; blocks = λ b. (λ some. inl some, λ either. elim either [ inl some ↦ some | inr none ↦ absurd (none_in b none) ]) };
  counted = (let same : block_count h ≡ block_count h + 0 = omega arith in same);
  parts = λ b some. refl;
  filled = record { over = λ b level j none. absurd (none_in b none); holes = λ b c level first none. absurd (none_in b none); turn = tt };
  own = refl;
  headers = record { pads = λ d behind. refl; old = λ b level first had placed. refl; new = λ b level first none. absurd (none_in b none) };
  clear = λ from far clear. clear;
  need = (let same : needed_below h at end (height_in h) ≡ 0 + needed_below h at end (height_in h) = omega arith in same);
  drafted = record {
    own = λ b some. inl (record { fate = refl; had = some; bytes = refl; content = (λ x. x, λ x. x) });
    frees = λ b none. absurd (none_in b none);
    others = λ b none not_freed. refl;
  };
  changes = λ b. inl refl;
}

-- ---- one step after another

module _ (f0 f1 f2 : FinMap nat_cmp Fate) (h : Holding) (c1 c2 : ℕ → Option Cell) (at end : ℕ) (t1 t2 : List ℕ) (a : IsFurther f0 f1 h c1 at end t1) (b : IsFurther f1 f2 (with_cells h c1) c2 at end t2) where
  both_parts : (x : ℕ) → IsSome (c1 x) → IsSome (h.cell x) → part_at (with_cells h c2) x ≡ part_at h x
  both_parts x mid some = b.parts x mid ∙ a.parts x some

  keeps : (x : ℕ) → IsSome (h.cell x) → IsSome (c1 x)
  keeps x some = (a.blocks.blocks x).1 (inl some)

  height_mid : height_in (with_cells h c1) ≡ height_in h
  height_mid = ap (λ (d : Dinode). d.height) a.dinode

  content_same : (x : ℕ) → part_at (with_cells h c2) x ≡ part_at (with_cells h c1) x → IsContentIn (with_cells h c1) x → IsContentIn (with_cells h c2) x
  content_same x same (above, k, first, part) = (above, k, first, same ∙ part)

  content_back : (x : ℕ) → part_at (with_cells h c2) x ≡ part_at (with_cells h c1) x → IsContentIn (with_cells h c2) x → IsContentIn (with_cells h c1) x
  content_back x same (above, k, first, part) = (above, k, first, sym same ∙ part)

  left_then : (x : ℕ) → IsLeft f1 f2 (with_cells h c1) (with_cells h c2) x → IsLeft f0 f1 h (with_cells h c1) x ⊎ IsPutFor f1 (with_cells h c1) x → IsLeft f0 f2 h (with_cells h c2) x ⊎ IsPutFor f2 (with_cells h c2) x
  left_then x later (inl early) = inl (record {
    fate = later.fate ∙ early.fate;
    had = early.had;
    bytes = later.bytes ∙ early.bytes;
    content = (λ is. early.content.0 (later.content.0 is), λ is. later.content.1 (early.content.1 is));
  })
  left_then x later (inr early) = inr (record {
    plain = early.plain;
    fate = later.fate ∙ early.fate ∙ ap (λ bytes. Some (Put (inode_lock h.own) early.plain bytes)) (sym later.bytes);
    content = (λ is. later.content.1 (early.content.0 is), λ is. early.content.1 (later.content.0 is));
  })

  -- a block that was taken first stands where it stood then
  took : (x : ℕ) → Contains t1 x → IsSome (c1 x)
  took x early = (a.blocks.blocks x).1 (inr early)

  pub placed_back : (x level first : ℕ) → Contains t1 x → IsPlaced (with_cells h c2) x level first → IsPlaced (with_cells h c1) x level first
  placed_back x level first early placed = (placed.0, placed.1, sym (b.parts x (took x early)) ∙ placed.2)

  placed_on : (x level first : ℕ) → IsPlaced h x level first → IsPlaced (with_cells h c1) x level first
  placed_on x level first placed = (placed.0, placed.1, a.parts x (is_there (h.cell x) _ placed.2) ∙ placed.2)

  -- where none was taken first for what is behind an index, and all others were taken on the way there, the first ones are met before the others
  pub met_across : (i : ℕ) → ((x level first : ℕ) → Contains t1 x → IsPlaced (with_cells h c1) x level first → first ≤ i)
      → ((x level first : ℕ) → Contains t2 x → IsPlaced (with_cells h c2) x level first → (first ≤ i) × (i < first + span h.size level))
      → (x y level first level' first' : ℕ) → Contains t1 x → Contains t2 y → IsPlaced (with_cells h c1) x level first → IsPlaced (with_cells h c2) y level' first' → IsMetBefore level first level' first'
  met_across i upto above x y level first level' first' early late placed placed' =
      let place = place_of_part (with_cells h c2) b.file y level' first' placed' in
      let way = above y level' first' late placed' in
      let same : height_in (with_cells h c2) ≡ height_in (with_cells h c1) = ap (λ (d : Dinode). d.height) b.dinode in
      let low : level' < height_in (with_cells h c2) = b.file.tree.below y placed'.0 placed'.1 level' first' placed'.2 in
      subst (IsMetBefore level first level') (sym place.1)
      (met_before (with_cells h c1) a.file x level first level' place.0 i placed (upto x level first early placed) (omega (arith, low, same)) (subst (λ n. place.0 < fan h.size dinode_length * span h.size (n - 1 - level')) same place.2)
      (omega (arith, way.0, place.1)) (omega (arith, way.1, place.1)) (λ c had. b.filled.holes y c level' first' late placed' (subst (IsPlaced (with_cells h c1) c level') (sym place.1) had)))

  early_cause : (x : ℕ) → IsFilledAt (with_cells h c1) at end t1 x → IsFilledAt (with_cells h c2) at end (t1 ++ t2) x
  early_cause x (inl taken) = inl (Contains-append_left t1 t2 x taken)
  early_cause x (inr (inl (c, k, level, first, taken, part))) = inr (inl (c, k, level, first, Contains-append_left t1 t2 c taken, b.parts c ((a.blocks.blocks c).1 (inr taken)) ∙ part))
  early_cause x (inr (inr (i, has, placed))) = inr (inr (i, has, (placed.0, placed.1, b.parts x (is_there (c1 x) _ placed.2) ∙ placed.2)))

  late_cause : (x : ℕ) → IsFilledAt (with_cells h c2) at end t2 x → IsFilledAt (with_cells h c2) at end (t1 ++ t2) x
  late_cause x (inl taken) = inl (Contains-append_right t1 t2 x taken)
  late_cause x (inr (inl (c, k, level, first, taken, part))) = inr (inl (c, k, level, first, Contains-append_right t1 t2 c taken, part))
  late_cause x (inr (inr written)) = inr (inr written)

  pub further_then : ((x y level first level' first' : ℕ) → Contains t1 x → Contains t2 y → IsPlaced (with_cells h c1) x level first → IsPlaced (with_cells h c2) y level' first' → IsMetBefore level first level' first')
      → IsFurther f0 f2 h c2 at end (t1 ++ t2)
  further_then across = record {
    file = b.file;
    dinode = b.dinode ∙ a.dinode;
    blocks = record {
      count = refl;
      blocks = λ x. (
        λ some. elim ((b.blocks.blocks x).0 some) [
          | inl mid ↦ elim ((a.blocks.blocks x).0 mid) [ inl had ↦ inl had | inr taken ↦ inr (Contains-append_left t1 t2 x taken) ]
          | inr taken ↦ inr (Contains-append_right t1 t2 x taken)
        ],
        λ either. elim either [
          | inl had ↦ (b.blocks.blocks x).1 (inl (keeps x had))
          | inr taken ↦ elim (Contains-append_cases t1 t2 x taken) [
            | inl early ↦ (b.blocks.blocks x).1 (inl ((a.blocks.blocks x).1 (inr early)))
            | inr late ↦ (b.blocks.blocks x).1 (inr late)
          ]
        ],
      );
    };
    counted = omega (arith, a.counted, b.counted, length-append t1 t2);
    parts = λ x some. both_parts x (keeps x some) some;
    filled = record {
      over = λ x level j taken placed. elim (Contains-append_cases t1 t2 x taken) [
        | inl early ↦ a.filled.over x level j early (placed_back x level _ early placed)
        | inr late ↦ b.filled.over x level j late placed
      ];
      holes = λ x y level first taken placed had. elim (Contains-append_cases t1 t2 x taken) [
        | inl early ↦ a.filled.holes x y level first early (placed_back x level first early placed) had
        | inr late ↦ b.filled.holes x y level first late placed (placed_on y level first had)
      ];
      turn = stand_then IsMetBefore (with_cells h c2) t1 t2
          (stand_as IsMetBefore IsMetBefore (with_cells h c1) (with_cells h c2) t1 placed_back (λ x y level first level' first' has has' placed placed' less. less) a.filled.turn) b.filled.turn
          (λ x y level first level' first' early late placed placed'. across x y level first level' first' early late (placed_back x level first early placed) placed');
    };
    own = b.own ∙ a.own;
    headers = headers_then h (with_cells h c1) (with_cells h c2) t1 t2 refl refl keeps took (λ x level first mid placed. (placed.0, placed.1, sym (b.parts x mid) ∙ placed.2)) a.headers b.headers;
    clear = λ from far clear. b.clear from far (a.clear from far clear);
    need =
        let later : needed_below (with_cells h c1) at end (height_in h) ≡ length t2 + needed_below (with_cells h c2) at end (height_in h)
        = subst (λ n. needed_below (with_cells h c1) at end n ≡ length t2 + needed_below (with_cells h c2) at end n) height_mid b.need in
        omega (arith, a.need, later, length-append t1 t2);
    drafted = record {
      own = λ x some. elim (b.drafted.own x some) [
        | inl later ↦ left_then x later (a.drafted.own x later.had)
        | inr put ↦ inr put
      ];
      frees = λ x none. absurd (none_in x none);
      others = λ x none not_freed. b.drafted.others x none (none_in x) ∙ a.drafted.others x (λ mid. none ((b.blocks.blocks x).1 (inl mid))) (none_in x);
    };
    changes = λ x. elim (b.changes x) [
      | inr cause ↦ inr (late_cause x cause)
      | inl same ↦ elim (a.changes x) [
        | inl before ↦ inl (same ∙ before)
        | inr cause ↦ inr (early_cause x cause)
      ]
    ];
  }

-- ---- what stays true

module _ (old new : FinMap nat_cmp Fate) (h : Holding) (cell : ℕ → Option Cell) (at end : ℕ) (taken : List ℕ) (f : IsFurther old new h cell at end taken) where
  height_same : height_in (with_cells h cell) ≡ height_in h
  height_same = ap (λ (d : Dinode). d.height) f.dinode

  places_same : (l j : ℕ) → j < places_on h l → j < places_on (with_cells h cell) l
  places_same l j low = subst (λ n. j < fan h.size dinode_length * span h.size (n - 1 - l)) (sym height_same) low

  -- a block that stands somewhere goes on to stand there
  pub kept_place : (l j : ℕ) → IsFile h → l < height_in h → j < places_on h l → block_on h l j ≢ 0 → block_on (with_cells h cell) l j ≡ block_on h l j
  kept_place l j file less low some =
      let placed = part_of_place h file l j less low some in
      (part_there (with_cells h cell) f.file l j (block_on h l j) (omega (arith, less, height_same)) (places_same l j low) some).1
      (placed.0, placed.1, f.parts (block_on h l j) (is_there (h.cell (block_on h l j)) _ placed.2) ∙ placed.2)

  pub way_further : (v : Seen) (i : ℕ) → IsFile h → ((b : ℕ) → Contains taken b → h.cell b ≡ None) → IsSeenWay (seen_with v old) h i → IsSeenWay (seen_with v new) (with_cells h cell) i
  way_further v i file free way =
      ways_along old new v h cell taken f.drafted i file f.file f.blocks free (λ b level first some placed. (placed.0, placed.1, sym (f.parts b some) ∙ placed.2)) way

  pub room_further : (room left : List ℕ) → IsRoomFor h at end room → room ≡ taken ++ left → IsRoomFor (with_cells h cell) at end left
  room_further room left r front = record {
    file = f.file;
    in_blocks = λ none. r.in_blocks (sym height_same ∙ none);
    within = subst (λ (d : Dinode). end ≤ d.size) (sym f.dinode) r.within;
    free = free_left h cell taken room left r.free front f.blocks;
    enough =
        let long : length room ≡ length taken + length left = ap length front ∙ length-append taken left in
        let need : needed_below h at end (height_in h) ≡ length taken + needed_below (with_cells h cell) at end (height_in (with_cells h cell))
        = subst (λ n. needed_below h at end (height_in h) ≡ length taken + needed_below (with_cells h cell) at end n) (sym height_same) f.need in
        omega (arith, long, need, r.enough);
  }

  pub free_taken : (room left : List ℕ) → IsRoomFor h at end room → room ≡ taken ++ left → (b : ℕ) → Contains taken b → h.cell b ≡ None
  free_taken room left r front = free_before h cell taken room left r.free front

-- ---- files with the same parts need the same

module _ (h : Holding) (cell : ℕ → Option Cell) (at end : ℕ) (file : IsFile h) (file' : IsFile (with_cells h cell)) (dinode : dinode_in (with_cells h cell) ≡ dinode_in h)
    (parts : (b : ℕ) → part_at (with_cells h cell) b ≡ part_at h b) where
  high_same : height_in (with_cells h cell) ≡ height_in h
  high_same = ap (λ (d : Dinode). d.height) dinode

  there_same : (l j : ℕ) → l < height_in h → has_there (with_cells h cell) l j ≡ has_there h l j
  there_same l j less = elim (cases_Bool (nat_lt j (places_on h l))) [
    | inl low ↦
        let near : j < places_on h l = ltb-true j (places_on h l) low in
        let near' : j < places_on (with_cells h cell) l = subst (λ n. j < fan h.size dinode_length * span h.size (n - 1 - l)) (sym high_same) near in
        let same : block_on (with_cells h cell) l j ≡ block_on h l j
        = same_place h (with_cells h cell) l j file file' less (omega (arith, less, high_same)) near near' (λ c placed. (placed.0, placed.1, parts c ∙ placed.2)) (λ c placed. (placed.0, placed.1, sym (parts c) ∙ placed.2)) in
        (λ i. nat_lt l (high_same i) && nat_lt j (fan h.size dinode_length * span h.size (high_same i - 1 - l)) && not (same i == 0))
    | inr far ↦
        let far' : nat_lt j (places_on (with_cells h cell) l) ≡ false = subst (λ n. nat_lt j (fan h.size dinode_length * span h.size (n - 1 - l)) ≡ false) (sym high_same) far in
        and_false (nat_lt l (height_in (with_cells h cell))) (nat_lt j (places_on (with_cells h cell) l)) (not (block_on (with_cells h cell) l j == 0)) far' ∙ sym (and_false (nat_lt l (height_in h)) (nat_lt j (places_on h l)) (not (block_on h l j == 0)) far)
  ]

  on_same : (l : ℕ) → l < height_in h → needed_on (with_cells h cell) at end l ≡ needed_on h at end l
  on_same l less =
      count_same (is_needed h at end l) (is_needed (with_cells h cell) at end l) 0 (max 1 (pieces end (span h.size l * h.size)))
      (λ x low high. ap₂ (λ (p : Bool) (q : Bool). p && not q) (on_way (with_cells h cell) at end l x (omega (arith, less, high_same)) ∙ sym (on_way h at end l x less)) (there_same l x less))

  pub need_same : (n : ℕ) → n ≤ height_in h → needed_below (with_cells h cell) at end n ≡ needed_below h at end n
  need_same zero low = refl
  need_same (suc n) low = ap₂ ◌+◌ (on_same n (omega (arith, low))) (need_same n (omega (arith, low)))
