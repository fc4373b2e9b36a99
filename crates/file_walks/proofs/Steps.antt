-- The walk down a file's tree, a step at a time.
use Rattle.std.proofs.Common.{◌≡◌, ◌≢◌, ◌⊎◌, inl, inr, Bool, false, ℕ, zero, suc, ◌+◌, ◌-◌, ◌*◌, ◌/◌, ◌%◌, ◌<◌, ◌≤◌, List, length, Some, None, Result, Ok, Err, IfOk, refl, sym, ap, subst, ◌∙◌, arith}
use Rattle.std.proofs.lemmas.Bool.{cases_eq, cond-true, cond-false, eq-eqb, ne_eqb}
use Rattle.std.proofs.lemmas.Nat.{div-mul-add}
use Rattle.std.proofs.Math.Nat.{mod-lt, div-one, div-div-eq-div-mul, div-lt_iff_lt-mul}
use Rattle.std.specs.Prelude.{◌==◌, ◌&&◌, IsErrAnd}
use Rattle.gfs2_layout.specs.Bytes.{u64_at}
use Rattle.gfs2_layout.specs.Device.{IsBlockSize}
use Rattle.gfs2_layout.specs.Headers.{HasHeader}
use Rattle.gfs2_layout.specs.Holding.{Pointed, Holding, part_at}
use Rattle.gfs2_layout.specs.Inode.{Leads, from_dinode, from_block, dinode_in, height_in, header_length, fan, span, pointer, IsPointed, by_dinode, by_block}
use Rattle.gfs2_layout.specs.Structures.{dinode_length, is_regular}
use Rattle.gfs2_layout.specs.declared.dinode.Dinode.{Dinode}
use Rattle.glock_names.specs.Steps.{IsDamage, OnlyDamaged}
use Rattle.glock_names.specs.Views.{Seen, HasBlock}
use Rattle.glock_names.specs.declared.steps.CallFault.{CallFault}
use Rattle.glock_names.specs.declared.steps.CallFault.TheVariants.{Damaged}
use Rattle.glock_names.specs.declared.steps.Missing.{Missing}
use Rattle.dinode_tree.specs.Broken.{IsBroken, no_header, of_indirect, past_end}
use Rattle.dinode_tree.specs.Reading.{IsNeeded, inode_lock, led_to}
use Rattle.dinode_tree.specs.Shown.{IsShown}
use Rattle.dinode_tree.proofs.Dinodes.{told, told_own}
use Rattle.dinode_tree.proofs.Spans.{span_some}
use Rattle.growth_laws.specs.Blocks.{start_in}
use Rattle.growth_laws.specs.Files.{IsFile, IsPlaced, places_on, block_on}
use Rattle.growth_laws.proofs.Parts.{not_itself, some_part}
use Rattle.growth_laws.proofs.Places.{size_large, cancelled, part_of_place, place_of_part, place_of_pointer, pointer_low, places_follow_pointers}
use Rattle.file_walks.specs.Going.{AreBytesOf, IsWayIn, count_in, stop_at}
use Rattle.file_walks.specs.Walks.{place_above, place_of, first_of, IsPlace, IsPassed, IsStop, IsUnder, LeadsOn}
use Rattle.file_walks.specs.declared.walks.Stop.{Stop}
use Rattle.file_walks.specs.declared.walks.Way.{Way}
use Rattle.file_walks.proofs.Above.{above_self, place_splits, first_splits, under_above}

-- a block above the level of content is no content
pub not_content : (level : ℕ) (regular : Bool) → level ≢ 0 → false ≡ (level == 0 && regular)
not_content level regular some = sym (ap (λ (b : Bool). b && regular) (ne_eqb level 0 some))

-- a pointer of the place is all that is to be told of a stop
pub passed_of : (h : Holding) (level j : ℕ) (stop : Stop) → IsFile h → level ≤ stop.level
    → IsPointed h stop.block stop.pointer.from stop.pointer.index stop.level (first_of h level j stop) → start_in h stop.pointer.from ≡ stop.pointer.start → IsPassed h level j stop
passed_of h level j stop file above pointed start = record {
  above = above;
  place = record {
    low = pointer_low h file stop.block stop.pointer.from stop.pointer.index stop.level (first_of h level j stop) pointed;
    within = subst (λ n. n < places_on h stop.level) (sym same) found.2;
  };
  pointed = pointed;
  start = start;
  leads = ap (block_on h stop.level) same ∙ found.3;
}
  where
    found : (k : ℕ) × (first_of h level j stop ≡ k * span h.size stop.level) × (k < places_on h stop.level) × (block_on h stop.level k ≡ stop.block)
    found = place_of_pointer h file stop.block stop.pointer.from stop.pointer.index stop.level (first_of h level j stop) pointed

    same : place_of h level j stop ≡ found.0
    same = cancelled (place_of h level j stop) found.0 (span h.size stop.level) (span_some h.size stop.level (size_large h.size file.block_size)) found.1

-- ---- the dinode's pointer

module _ (h : Holding) (level j top k : ℕ) (bytes : List ℕ) (o : AreBytesOf h h.own bytes) (high : height_in h ≡ suc top)
    (k_is : k ≡ place_above h.size level j top) (low : k < fan h.size dinode_length) where
  top_block : pointer h dinode_length h.own k ≡ u64_at (232 + 8 * k) bytes
  top_block = ap (u64_at (232 + 8 * k)) o.same

  top_first : k * span h.size top ≡ place_above h.size level j top * span h.size top
  top_first = ap (λ n. n * span h.size top) k_is

  pub top_leads : LeadsOn h level j (stop_at h.own 232 k top bytes)
  top_leads some =
      let leads : Leads h h.own k top (k * span h.size top) (pointer h dinode_length h.own k) = from_dinode k top high low (λ e. some (sym top_block ∙ e)) in
      subst (λ f. Leads h h.own k top f (u64_at (232 + 8 * k) bytes)) top_first (subst (Leads h h.own k top (k * span h.size top)) top_block leads)

  pub top_passed : IsFile h → level ≤ top → IsPassed h level j (stop_at h.own 232 k top bytes)
  top_passed file least =
      passed_of h level j (stop_at h.own 232 k top bytes) file least (by_dinode refl high low top_block (sym top_first)) refl_start
    where
      refl_start : start_in h h.own ≡ 232
      refl_start = cond-true _ _ _ (eq-eqb h.own h.own refl)

-- ---- the pointer of an indirect block

module _ (h : Holding) (level j low k : ℕ) (stop : Stop) (bytes : List ℕ) (o : AreBytesOf h stop.block bytes) (high : stop.level ≡ suc low) (least : level ≤ low)
    (some : stop.block ≢ 0) (large : 512 ≤ h.size) (k_is : k ≡ place_above h.size level j low % fan h.size header_length) where
  next_block : pointer h header_length stop.block k ≡ u64_at (24 + 8 * k) bytes
  next_block = ap (u64_at (24 + 8 * k)) o.same

  next_low : k < fan h.size header_length
  next_low =
      let fans : 0 < fan h.size header_length = omega arith in
      subst (λ n. n < fan h.size header_length) (sym k_is) (mod-lt (place_above h.size level j low) fans)

  pub next_leads : LeadsOn h level j stop → LeadsOn h level j (stop_at stop.block 24 k low bytes)
  next_leads leads led =
      let above : Leads h stop.pointer.from stop.pointer.index (suc low) (place_above h.size level j (suc low) * span h.size (suc low)) stop.block
      = subst (λ l. Leads h stop.pointer.from stop.pointer.index l (place_above h.size level j l * span h.size l) stop.block) high (leads some) in
      let down : Leads h stop.block k low (place_above h.size level j (suc low) * span h.size (suc low) + k * span h.size low) (pointer h header_length stop.block k)
      = from_block stop.pointer.from stop.pointer.index low (place_above h.size level j (suc low) * span h.size (suc low)) stop.block k above next_low (λ e. led (sym next_block ∙ e)) in
      let first : place_above h.size level j (suc low) * span h.size (suc low) + k * span h.size low ≡ place_above h.size level j low * span h.size low
      = ap (λ n. place_above h.size level j (suc low) * span h.size (suc low) + n * span h.size low) k_is ∙ first_splits h.size level j low least in
      subst (λ f. Leads h stop.block k low f (u64_at (24 + 8 * k) bytes)) first
      (subst (Leads h stop.block k low (place_above h.size level j (suc low) * span h.size (suc low) + k * span h.size low)) next_block down)

  pub next_passed : IsFile h → IsPassed h level j stop → IsPassed h level j (stop_at stop.block 24 k low bytes)
  next_passed file passed =
      passed_of h level j (stop_at stop.block 24 k low bytes) file least pointed start
    where
      on_high : block_on h (suc low) (place_above h.size level j (suc low)) ≡ stop.block
      on_high = subst (λ l. block_on h l (place_above h.size level j l) ≡ stop.block) high passed.leads

      place_high : IsPlace h (suc low) (place_above h.size level j (suc low))
      place_high = subst (λ l. IsPlace h l (place_above h.size level j l)) high passed.place

      split : place_above h.size level j (suc low) * fan h.size header_length + k ≡ place_above h.size level j low
      split = ap (λ n. place_above h.size level j (suc low) * fan h.size header_length + n) k_is ∙ place_splits h.size level j low least

      followed : IsPointed h (pointer h header_length stop.block k) stop.block k low ((place_above h.size level j (suc low) * fan h.size header_length + k) * span h.size low)
      followed = (places_follow_pointers h low (place_above h.size level j (suc low)) k stop.block file place_high.low place_high.within next_low on_high some).1

      pointed : IsPointed h (u64_at (24 + 8 * k) bytes) stop.block k low (place_above h.size level j low * span h.size low)
      pointed = subst (λ x. IsPointed h x stop.block k low (place_above h.size level j low * span h.size low)) next_block
          (subst (λ n. IsPointed h (pointer h header_length stop.block k) stop.block k low (n * span h.size low)) split followed)

      placed : IsPlaced h stop.block (suc low) (place_above h.size level j (suc low) * span h.size (suc low))
      placed = subst (λ x. IsPlaced h x (suc low) (place_above h.size level j (suc low) * span h.size (suc low))) on_high
          (part_of_place h file (suc low) (place_above h.size level j (suc low)) place_high.low place_high.within (λ e. some (sym on_high ∙ e)))

      other : stop.block ≢ h.own
      other e = not_itself _ _ _ _ (sym file.own ∙ ap (part_at h) (sym e) ∙ placed.2)

      start : start_in h stop.block ≡ 24
      start = cond-false _ _ _ (ne_eqb stop.block h.own other)

-- ---- the first stop of a way

module _ (h : Holding) (way : Way) (bytes : List ℕ) (k : ℕ) (w : IsWayIn h way) (o : AreBytesOf h h.own bytes) (low : way.level < way.height)
    (k_is : k ≡ way.index / span (length bytes) (way.height - 1 - way.level)) (near : k < fan (length bytes) 232) where
  high : height_in h ≡ suc (way.height - 1)
  high = omega (arith, w.height, low)

  k_above : k ≡ place_above h.size way.level way.index (way.height - 1)
  k_above = k_is ∙ ap (λ n. way.index / span n (way.height - 1 - way.level)) o.size

  k_low : k < fan h.size dinode_length
  k_low = subst (λ n. k < fan n 232) o.size near

  pub first_leads : LeadsOn h way.level way.index (stop_at way.inode 232 k (way.height - 1) bytes)
  first_leads =
      subst (λ b. LeadsOn h way.level way.index (stop_at b 232 k (way.height - 1) bytes)) (sym w.own)
      (top_leads h way.level way.index (way.height - 1) k bytes o high k_above k_low)

  pub first_led : u64_at (232 + 8 * k) bytes ≢ 0 → (x : ℕ) × Leads h way.inode x (way.height - 1) (k * span (length bytes) (way.height - 1)) (u64_at (232 + 8 * k) bytes)
  first_led some =
      let firsts : place_above h.size way.level way.index (way.height - 1) * span h.size (way.height - 1) ≡ k * span (length bytes) (way.height - 1)
      = (λ i. sym k_above i * span (sym o.size i) (way.height - 1)) in
      (k, subst (λ f. Leads h way.inode k (way.height - 1) f (u64_at (232 + 8 * k) bytes)) firsts (first_leads some))

  pub begun_at : IsFile h → IsPlace h way.level way.index × IsPassed h way.level way.index (stop_at way.inode 232 k (way.height - 1) bytes)
  begun_at file = (
    record {
      low = omega (arith, low, w.height);
      within = (div-lt_iff_lt-mul (span_some h.size (height_in h - 1 - way.level) (size_large h.size file.block_size))).0 within;
    },
    subst (λ b. IsPassed h way.level way.index (stop_at b 232 k (way.height - 1) bytes)) (sym w.own)
        (top_passed h way.level way.index (way.height - 1) k bytes o high k_above k_low file (omega (arith, low))),
  )
    where
      ups : way.height - 1 - way.level ≡ height_in h - 1 - way.level
      ups = ap (λ n. n - 1 - way.level) w.height

      within : way.index / span h.size (height_in h - 1 - way.level) < fan h.size dinode_length
      within = subst (λ n. way.index / span h.size n < fan h.size dinode_length) ups (subst (λ n. n < fan h.size dinode_length) k_above k_low)

-- no such place
pub far_place : (h : Holding) (way : Way) (bytes : List ℕ) (k : ℕ) → IsFile h → IsWayIn h way → AreBytesOf h h.own bytes
    → k ≡ way.index / span (length bytes) (way.height - 1 - way.level) → fan (length bytes) 232 ≤ k → ¬ (IsPlace h way.level way.index)
far_place h way bytes k file w o k_is far place =
    let near : way.index / span h.size (height_in h - 1 - way.level) < fan h.size dinode_length
    = (div-lt_iff_lt-mul (span_some h.size (height_in h - 1 - way.level) (size_large h.size file.block_size))).1 place.within in
    let same : k ≡ way.index / span h.size (height_in h - 1 - way.level) = k_is ∙ (λ i. way.index / span (o.size i) (w.height i - 1 - way.level)) in
    let far' : fan h.size dinode_length ≤ k = subst (λ n. fan n 232 ≤ k) o.size far in
    omega (arith, near, same, far')

-- ---- the stop below a stop

module _ (h : Holding) (way : Way) (stop : Stop) (bytes : List ℕ) (k : ℕ) (o : AreBytesOf h stop.block bytes) (above : way.level < stop.level) (some : stop.block ≢ 0)
    (large : 512 ≤ length bytes) (place : ℕ) (place_is : place ≡ way.index / span (length bytes) (stop.level - 1 - way.level)) (k_is : k ≡ place % fan (length bytes) 24) where
  next_high : stop.level ≡ suc (stop.level - 1)
  next_high = omega (arith, above)

  place_in : place ≡ place_above h.size way.level way.index (stop.level - 1)
  place_in = place_is ∙ ap (λ n. way.index / span n (stop.level - 1 - way.level)) o.size

  k_in : k ≡ place_above h.size way.level way.index (stop.level - 1) % fan h.size header_length
  k_in = k_is ∙ (λ i. place_in i % fan (o.size i) 24)

  large_in : 512 ≤ h.size
  large_in = omega (arith, large, o.size)

  pub below_leads : LeadsOn h way.level way.index stop → LeadsOn h way.level way.index (stop_at stop.block 24 k (stop.level - 1) bytes)
  below_leads leads = next_leads h way.level way.index (stop.level - 1) k stop bytes o next_high (omega (arith, above)) some large_in k_in leads

  pub below_led : LeadsOn h way.level way.index stop → u64_at (24 + 8 * k) bytes ≢ 0
      → (x : ℕ) × Leads h stop.block x (stop.level - 1) (place * span (length bytes) (stop.level - 1)) (u64_at (24 + 8 * k) bytes)
  below_led leads led =
      let firsts : place_above h.size way.level way.index (stop.level - 1) * span h.size (stop.level - 1) ≡ place * span (length bytes) (stop.level - 1)
      = (λ i. sym place_in i * span (sym o.size i) (stop.level - 1)) in
      (k, subst (λ f. Leads h stop.block k (stop.level - 1) f (u64_at (24 + 8 * k) bytes)) firsts (below_leads leads led))

  pub below_passed : IsFile h → IsPassed h way.level way.index stop → IsPassed h way.level way.index (stop_at stop.block 24 k (stop.level - 1) bytes)
  below_passed file passed = next_passed h way.level way.index (stop.level - 1) k stop bytes o next_high (omega (arith, above)) some large_in k_in file passed

-- ---- where the walk ends

-- the block above a block that is there
above_there : (h : Holding) (level j : ℕ) → IsFile h → suc level < height_in h → j < places_on h level → block_on h level j ≢ 0
    → (j / fan h.size header_length < places_on h (suc level)) × (block_on h (suc level) (j / fan h.size header_length) ≢ 0)
above_there h level j file low within some = over (part_of_place h file level j (omega (arith, low)) within some)
  where
    flattened : (q f k s : ℕ) → q * (f * s) + k * s ≡ (q * f + k) * s
    flattened q f k s = omega arith

    high_up : (from k above above_k start : ℕ) → part_at h from ≡ Some (Pointed above above_k (suc level) start) → k < fan h.size header_length → j * span h.size level ≡ start + k * span h.size level
        → (j / fan h.size header_length < places_on h (suc level)) × (block_on h (suc level) (j / fan h.size header_length) ≢ 0)
    high_up from k above above_k start part near first =
        let found = place_of_part h file from (suc level) start (above, above_k, part) in
        let sums : j * span h.size level ≡ (found.0 * fan h.size header_length + k) * span h.size level
        = first ∙ ap (λ m. m + k * span h.size level) found.1 ∙ flattened found.0 (fan h.size header_length) k (span h.size level) in
        let split : j ≡ found.0 * fan h.size header_length + k
        = cancelled j (found.0 * fan h.size header_length + k) (span h.size level) (span_some h.size level (size_large h.size file.block_size)) sums in
        let over_it : j / fan h.size header_length ≡ found.0 = ap (λ m. m / fan h.size header_length) split ∙ div-mul-add found.0 (fan h.size header_length) k near in (
          subst (λ m. m < places_on h (suc level)) (sym over_it) found.2,
          λ none. some_part h from _ file.nobody part (sym found.3 ∙ ap (block_on h (suc level)) (sym over_it) ∙ none),
        )

    over_pointed : (c from k : ℕ) → IsPointed h c from k level (j * span h.size level) → (j / fan h.size header_length < places_on h (suc level)) × (block_on h (suc level) (j / fan h.size header_length) ≢ 0)
    over_pointed c from k (by_dinode own high near is first) = absurd (omega (arith, high, low))
    over_pointed c from k (by_block above above_k start part near is first) = high_up from k above above_k start part near first

    over : IsPlaced h (block_on h level j) level (j * span h.size level) → (j / fan h.size header_length < places_on h (suc level)) × (block_on h (suc level) (j / fan h.size header_length) ≢ 0)
    over (from, k, part) = over_pointed (block_on h level j) from k (file.tree.pointed (block_on h level j) from k level (j * span h.size level) part)

-- nothing stands below a hole
pub hole_above : (h : Holding) (file : IsFile h) (n level j : ℕ) → level + n < height_in h → j < places_on h level → block_on h (level + n) (j / span h.size n) ≡ 0 → block_on h level j ≡ 0
hole_above h file zero level j low within hole =
    let same : level + 0 ≡ level = omega arith in
    (λ i. block_on h (sym same i) (sym (div-one j) i)) ∙ hole
hole_above h file (suc n) level j low within hole = elim (cases_eq (block_on h level j) 0) [
  | inl none ↦ none
  | inr some ↦
      let there = above_there h level j file (omega (arith, low)) within some in
      let higher : level + suc n ≡ suc level + n = omega arith in
      let divided : j / span h.size (suc n) ≡ j / fan h.size header_length / span h.size n = sym (div-div-eq-div-mul j (fan h.size header_length) (span h.size n)) in
      absurd (there.1 (hole_above h file n (suc level) (j / fan h.size header_length) (omega (arith, low)) there.0 ((λ i. block_on h (sym higher i) (sym divided i)) ∙ hole)))
]

pub stopped : (h : Holding) (level j : ℕ) (stop : Stop) → IsFile h → IsPlace h level j → IsPassed h level j stop → (stop.level ≡ level) ⊎ (stop.block ≡ 0) → IsStop h level j stop
stopped h level j stop file place passed ended = record {
  passed = passed;
  ended = ended;
  block = elim (cases_eq stop.level level) [
    | inl same ↦
        let here : place_of h level j stop ≡ j = ap (λ n. place_above h.size level j n) same ∙ above_self h.size level j in
        (λ i. block_on h (sym same i) (sym here i)) ∙ passed.leads ∙ sym (cond-true _ _ _ (eq-eqb stop.level level same))
    | inr other ↦ higher other ended ∙ sym (cond-false _ _ _ (ne_eqb stop.level level other))
  ];
}
  where
    higher : stop.level ≢ level → (stop.level ≡ level) ⊎ (stop.block ≡ 0) → block_on h level j ≡ 0
    higher other (inl same) = absurd (other same)
    higher other (inr none) =
        let ups : level + (stop.level - level) ≡ stop.level = omega (arith, passed.above) in
        hole_above h file (stop.level - level) level j (omega (arith, ups, passed.place.low)) place.within
        (ap (λ n. block_on h n (j / span h.size (stop.level - level))) ups ∙ passed.leads ∙ none)

-- ---- what is needed, and what is damaged

pub needed_stop : (v : Seen) (h : Holding) (a level j i : ℕ) (stop : Stop) (m : Missing) → IsShown v a h → 512 ≤ h.size → LeadsOn h level j stop → IsUnder h level j i → stop.block ≢ 0 → level < stop.level
    → v.block_at stop.block ≡ None → m ≡ record { lock = inode_lock a; block = stop.block; plain = false; from = stop.pointer.from } → IsNeeded v h (λ x. x ≡ i) (level + 1) m
needed_stop v h a level j i stop m shown large leads wanted some above absent is =
    subst (IsNeeded v h (λ x. x ≡ i) (level + 1)) (sym is) (record {
      lock = ap inode_lock (sym shown.own);
      absent = absent;
      way = led_to i stop.pointer.index stop.level (first_of h level j stop) refl (omega (arith, above)) (leads some) under.0 under.1 not_plain;
    })
  where
    under : (first_of h level j stop ≤ i) × (i < first_of h level j stop + span h.size stop.level)
    under = under_above h.size level j stop.level i large (omega (arith, above)) wanted.from wanted.until

    not_plain : false ≡ (stop.level == 0 && is_regular (dinode_in h))
    not_plain = not_content stop.level (is_regular (dinode_in h)) (λ e. omega (arith, e, above))

pub lacks_header : (v : Seen) (h : Holding) (a from k level first b : ℕ) (bytes : List ℕ) (fault : CallFault) → IsShown v a h → 1 ≤ level → Leads h from k level first b → v.block_at b ≡ Some bytes
    → fault ≡ Damaged b 1 → ¬ (HasHeader 5 500 bytes) → IsDamage (IsBroken h) fault
lacks_header v h a from k level first b bytes fault shown above leads has is lacks =
    let up : level ≡ suc (level - 1) = omega (arith, above) in
    let leads' : Leads h from k (suc (level - 1)) first b = subst (λ l. Leads h from k l first b) up leads in
    told h fault b 1 is (no_header b 5 500 (of_indirect from k (level - 1) first b leads') (λ header. lacks (subst (HasHeader 5 500) (shown.same b bytes (shown.led_to from k level first b leads) has) header)))

-- the bytes that a view has of a block to which a pointer leads
pub seen_bytes : (v : Seen) (h : Holding) (a from k level first b : ℕ) (bytes : List ℕ) → IsShown v a h → Leads h from k level first b → v.block_at b ≡ Some bytes → v.size ≡ length bytes → AreBytesOf h b bytes
seen_bytes v h a from k level first b bytes shown leads has size = record {
  size = sym (shown.size ∙ size);
  same = shown.same b bytes (shown.led_to from k level first b leads) has;
}

-- the same of its dinode
pub seen_dinode : (v : Seen) (h : Holding) (a : ℕ) (bytes : List ℕ) → IsShown v a h → v.block_at a ≡ Some bytes → v.size ≡ length bytes → AreBytesOf h h.own bytes
seen_dinode v h a bytes shown has size = record {
  size = sym (shown.size ∙ size);
  same = shown.same h.own bytes shown.dinode (ap v.block_at shown.own ∙ has);
}

pub way_in : (v : Seen) (h : Holding) (a level j size : ℕ) (d : Dinode) → IsShown v a h → d ≡ dinode_in h → v.size ≡ size
    → IsWayIn h (record { inode = a; height = d.height; count = count_in size d; level = level; index = j })
way_in v h a level j size d shown d_is same = record {
  own = sym shown.own;
  height = ap (λ (x : Dinode). x.height) d_is;
  count = (λ i. count_in (sizes i) (d_is i));
}
  where
    sizes : size ≡ h.size
    sizes = sym (shown.size ∙ same)

pub past_end_told : (h : Holding) (way : Way) (from level first b : ℕ) (fault : CallFault) → IsWayIn h way → (k : ℕ) × Leads h from k level first b → fault ≡ Damaged way.inode 8 → way.count ≤ first
    → IsDamage (IsBroken h) fault
past_end_told h way from level first b fault w led is past =
    told_own h fault way.inode 8 is (sym w.own) (past_end from led.0 level first b led.1 (omega (arith, past, w.count)))

-- ---- answers that are handed on

pub handed_only : {A : Type 0} (result : Result A CallFault) (fault : CallFault) (P : ℕ → ℕ → Type 0) → IsErrAnd result (λ f. f ≡ fault) → IsDamage P fault → OnlyDamaged result P
handed_only (Ok answer) fault P is told = tt
handed_only (Err f) fault P is told = subst (IsDamage P) (sym is) told

pub made_so : {A E : Type 0} (result : Result A E) (x : A) (P : A → Type 0) → IfOk result (λ y. y ≡ x) → P x → IfOk result P
made_so (Ok y) x P is so = subst P (sym is) so
made_so (Err e) x P is so = tt

pub needed_first : (v : Seen) (h : Holding) (a first : ℕ) (stop : Stop) (m : Missing) → IsShown v a h → IsBlockSize v.size → Leads h stop.pointer.from stop.pointer.index stop.level first stop.block → 1 ≤ stop.level
    → v.block_at stop.block ≡ None → m ≡ record { lock = inode_lock a; block = stop.block; plain = false; from = stop.pointer.from }
    → IsNeeded v h (λ i. (first ≤ i) × (i < first + span h.size stop.level)) stop.level m
needed_first v h a first stop m shown size leads above absent is =
    subst (IsNeeded v h (λ i. (first ≤ i) × (i < first + span h.size stop.level)) stop.level) (sym is) (record {
      lock = ap inode_lock (sym shown.own);
      absent = absent;
      way = led_to first stop.pointer.index stop.level first (omega arith, some) (omega arith) leads (omega arith) some (not_content stop.level (is_regular (dinode_in h)) (λ e. omega (arith, e, above)));
    })
  where
    some : first < first + span h.size stop.level
    some = omega (arith, span_some h.size stop.level (subst (λ n. 512 ≤ n) (sym shown.size) (size_large v.size size)))

-- ---- what the walk has seen

pub seen_one : (v : Seen) (h : Holding) (level j top : ℕ) (stop next : Stop) → IsPassed h level j stop → HasBlock v stop.block → next.level + 1 ≡ stop.level
    → ((l : ℕ) → stop.level < l → l ≤ top → HasBlock v (block_on h l (place_above h.size level j l)))
    → (l : ℕ) → next.level < l → l ≤ top → HasBlock v (block_on h l (place_above h.size level j l))
seen_one v h level j top stop next passed has down above l low high = elim (cases_eq stop.level l) [
  | inl here ↦ subst (λ n. HasBlock v (block_on h n (place_above h.size level j n))) here (subst (HasBlock v) (sym passed.leads) has)
  | inr other ↦ above l (omega (arith, low, other, down)) high
]
