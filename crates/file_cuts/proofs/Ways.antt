-- Which blocks of a file a draft sees as blocks of it are freed.
use Rattle.std.proofs.Common.{◌≡◌, ◌≢◌, ◌⊎◌, inl, inr, Option, None, Some, ℕ, suc, ◌+◌, ◌-◌, ◌*◌, ◌/◌, ◌<◌, ◌≤◌, List, refl, sym, ap, subst, ◌∙◌, arith}
use Rattle.std.proofs.lemmas.Bool.{cases_lt}
use Rattle.std.specs.Prelude.{IsSome, IsSomeAnd}
use Rattle.std.specs.FinMap.{FinMap}
use Rattle.std.specs.Ordering.{nat_cmp}
use Rattle.drafts.specs.Fates.{block_with, seen_with}
use Rattle.drafts.specs.declared.fate.Fate.{Fate}
use Rattle.gfs2_layout.specs.Holding.{Cell, Holding, bytes_at}
use Rattle.gfs2_layout.specs.Inode.{content_count, fan, height_in, span}
use Rattle.gfs2_layout.specs.Structures.{dinode_length}
use Rattle.glock_names.specs.Views.{Seen, HasBlock}
use Rattle.glock_names.specs.declared.steps.Missing.{Missing}
use Rattle.dinode_tree.specs.Reading.{IsNeeded, IsOnWay, the_dinode, led_to}
use Rattle.dinode_tree.proofs.Pointers.{leads_somewhere}
use Rattle.dinode_tree.proofs.Sound.{is_there, part_of_led}
use Rattle.dinode_tree.proofs.Spans.{span_some}
use Rattle.growth_laws.specs.Files.{IsFile, IsPlaced, block_on, places_on, with_cells}
use Rattle.growth_laws.proofs.Places.{cancelled, part_of_place, place_of_part, size_large}
use Rattle.growth_drafts.specs.Taken.{DraftsFile}
use Rattle.file_walks.specs.Walks.{AreSeenAbove, IsPlace, IsStop, IsUnder, IsWalk, place_above}
use Rattle.file_walks.specs.declared.walks.Stop.{Stop}
use Rattle.file_walks.proofs.Above.{above_above, span_times}
use Rattle.file_walks.proofs.Steps.{hole_above}
use Rattle.file_fills.specs.Filling.{IsSeenWay}
use Rattle.file_fills.proofs.Seeing.{place_at, place_inside}
use Rattle.file_cuts.specs.Progress.{IsSeenOver}
use Rattle.file_cuts.proofs.Past.{less_of}

module _ (old new : FinMap nat_cmp Fate) (v : Seen) (h : Holding) (cell : ℕ → Option Cell) (freed : List ℕ) (file : IsFile h) (file' : IsFile (with_cells h cell)) (drafted : DraftsFile old new h (with_cells h cell) freed) where
  -- a block that is left is seen on
  has_kept : (b : ℕ) → IsSome (cell b) → HasBlock (seen_with v old) b → HasBlock (seen_with v new) b
  has_kept b there (bytes, has) = elim (drafted.own b there) [
    | inl left ↦ (bytes, ap (λ fate. block_with fate (v.block_at b)) left.fate ∙ has)
    | inr put ↦ (bytes_at (with_cells h cell) b, ap (λ fate. block_with fate (v.block_at b)) put.fate)
  ]

  -- and so one on the way to some content, if it was seen there
  block_kept : (i l : ℕ) → ((b level first : ℕ) → IsPlaced (with_cells h cell) b level first → IsPlaced h b level first) → l < height_in (with_cells h cell) → place_above h.size 0 i l < places_on (with_cells h cell) l
      → block_on (with_cells h cell) l (place_above h.size 0 i l) ≢ 0
      → (l < height_in h → place_above h.size 0 i l < places_on h l → block_on h l (place_above h.size 0 i l) ≢ 0 → HasBlock (seen_with v old) (block_on h l (place_above h.size 0 i l)))
      → HasBlock (seen_with v new) (block_on (with_cells h cell) l (place_above h.size 0 i l))
  block_kept i l places less low some was_seen =
      let placed : IsPlaced (with_cells h cell) (block_on (with_cells h cell) l (place_above h.size 0 i l)) l (place_above h.size 0 i l * span h.size l) = part_of_place (with_cells h cell) file' l (place_above h.size 0 i l) less low some in
      let was = places (block_on (with_cells h cell) l (place_above h.size 0 i l)) l (place_above h.size 0 i l * span h.size l) placed in
      let found = place_of_part h file (block_on (with_cells h cell) l (place_above h.size 0 i l)) l (place_above h.size 0 i l * span h.size l) was in
      let same : found.0 ≡ place_above h.size 0 i l = cancelled found.0 (place_above h.size 0 i l) (span h.size l) (span_some h.size l (size_large h.size file.block_size)) (sym found.1) in
      let is : block_on h l (place_above h.size 0 i l) ≡ block_on (with_cells h cell) l (place_above h.size 0 i l) = ap (block_on h l) (sym same) ∙ found.3 in
      let low' : place_above h.size 0 i l < places_on h l = subst (λ n. n < places_on h l) same found.2 in
      has_kept (block_on (with_cells h cell) l (place_above h.size 0 i l)) (is_there (cell (block_on (with_cells h cell) l (place_above h.size 0 i l))) _ placed.2)
      (subst (HasBlock (seen_with v old)) is (was_seen (file.tree.below _ was.0 was.1 l (place_above h.size 0 i l * span h.size l) was.2) low' (λ none. some (sym is ∙ none))))

  pub seen_on : (i : ℕ) → ((b level first : ℕ) → IsPlaced (with_cells h cell) b level first → IsPlaced h b level first) → IsSeenOver (seen_with v old) h i → IsSeenOver (seen_with v new) (with_cells h cell) i
  seen_on i places way = record {
    dinode = has_kept h.own (is_there (cell h.own) _ file'.own) way.dinode;
    blocks = λ l high less low some. block_kept i l places less low some (λ less' low' some'. way.blocks l high less' low' some');
  }

  pub way_on : (i : ℕ) → ((b level first : ℕ) → IsPlaced (with_cells h cell) b level first → IsPlaced h b level first) → IsSeenWay (seen_with v old) h i → IsSeenWay (seen_with v new) (with_cells h cell) i
  way_on i places way = record {
    dinode = has_kept h.own (is_there (cell h.own) _ file'.own) way.dinode;
    blocks = λ l less low some. block_kept i l places less low some (λ less' low' some'. way.blocks l less' low' some');
  }

-- ---- a walk to a place finds its way

pub none_of : (v : Seen) (b : ℕ) → HasBlock v b → v.block_at b ≡ None → ⊥
none_of v b (bytes, has) absent = let both : Some bytes ≡ None = sym has ∙ absent in absurd (cc)

pub nothing_needed_over : (v : Seen) (h : Holding) (least i : ℕ) (m : Missing) → IsFile h → IsSeenOver v h i → 1 ≤ least → IsNeeded v h (λ x. x ≡ i) least m → ⊥
nothing_needed_over v h least i m file way some needed = each needed.way
  where
    each : IsOnWay h (λ x. x ≡ i) least m → ⊥
    each (the_dinode block from plain) = none_of v h.own way.dinode (ap v.block_at (sym block) ∙ needed.absent)
    each (led_to x k level first wanted high leads from until plain) =
        let part = part_of_led h m.from k level first m.block file.tree leads in
        let found = place_of_part h file m.block level first (m.from, k, part) in
        let same : place_above h.size 0 i level ≡ found.0 = place_at h.size i level found.0 (omega (arith, from, found.1, wanted)) (omega (arith, until, found.1, wanted)) in
        let is : block_on h level (place_above h.size 0 i level) ≡ m.block = ap (block_on h level) same ∙ found.3 in
        let within : place_above h.size 0 i level < places_on h level = subst (λ n. n < places_on h level) (sym same) found.2 in
        let low = file.tree.below m.block m.from k level first part in
        none_of v m.block (subst (HasBlock v) is (way.blocks level (omega (arith, some, high)) low within (λ none. leads_somewhere h m.from k level first m.block leads (sym is ∙ none)))) needed.absent

-- the way to the first place on a walk is seen, and so to each that stands below the same hole
pub seen_over : (v : Seen) (h : Holding) (index i : ℕ) (stop : Stop) → IsFile h → HasBlock v h.own → IsStop h 0 index stop → AreSeenAbove v h 0 index stop → i / span h.size stop.level ≡ index / span h.size stop.level → IsSeenOver v h i
seen_over v h index i stop file dinode stopped above same = record { dinode = dinode; blocks = each }
  where
    here : (l : ℕ) → stop.level ≤ l → place_above h.size 0 i l ≡ place_above h.size 0 index l
    here l high =
        let up : stop.level ≡ stop.level - 0 = omega arith in
        let below : place_above h.size 0 i stop.level ≡ place_above h.size 0 index stop.level = (λ t. i / span h.size (sym up t)) ∙ same ∙ (λ t. index / span h.size (up t)) in
        sym (above_above h.size i stop.level l high) ∙ ap (λ n. place_above h.size stop.level n l) below ∙ above_above h.size index stop.level l high

    each : (l : ℕ) → 1 ≤ l → l < height_in h → place_above h.size 0 i l < places_on h l → block_on h l (place_above h.size 0 i l) ≢ 0 → HasBlock v (block_on h l (place_above h.size 0 i l))
    each l some low within there = elim (cases_lt stop.level l) [
      | inl higher ↦ subst (λ n. HasBlock v (block_on h l n)) (sym (here l (omega (arith, higher)))) (above l higher low)
      | inr not_higher ↦ absurd (lower not_higher stopped.ended)
    ]
      where
        lower : l ≤ stop.level → (stop.level ≡ 0) ⊎ (stop.block ≡ 0) → ⊥
        lower not_higher (inl zero_level) = omega (arith, zero_level, some, not_higher)
        lower not_higher (inr none) =
            let ups : l + (stop.level - l) ≡ stop.level = omega (arith, not_higher) in
            let hole : block_on h (l + (stop.level - l)) (place_above h.size l (place_above h.size 0 i l) stop.level) ≡ 0
            = (λ t. block_on h (ups t) (above_above h.size i l stop.level (let le : l ≤ stop.level = omega (arith, not_higher) in le) t)) ∙ ap (block_on h stop.level) (here stop.level (let le : stop.level ≤ stop.level = omega arith in le)) ∙ stopped.passed.leads ∙ none in
            there (hole_above h file (stop.level - l) l (place_above h.size 0 i l) (omega (arith, ups, stopped.passed.place.low)) within hole)

-- where the tree has no such place nothing stands above it
pub seen_none : (v : Seen) (h : Holding) (index i : ℕ) → IsFile h → HasBlock v h.own → ¬ (IsPlace h 0 index) → index ≤ i → IsSeenOver v h i
seen_none v h index i file dinode nowhere past = record {
  dinode = dinode;
  blocks = λ l some low within there.
      let place = place_inside h i l file low within in
      absurd (nowhere (record { low = place.low; within = omega (arith, past, place.within) }));
}

-- a walk to a place that the tree has stops
pub stop_of_walk : (h : Holding) (level j : ℕ) (found : Option Stop) → IsPlace h level j → IsWalk h level j found → IsSomeAnd found (IsStop h level j)
stop_of_walk h level j None place nowhere = absurd (nowhere place)
stop_of_walk h level j (Some stop) place walk = walk.1

-- a place whose content begins before the end is one of the tree
pub place_there : (h : Holding) (level place : ℕ) → IsFile h → level < height_in h → place * span h.size level < content_count h → IsPlace h level place
place_there h level place file low begins = record {
  low = low;
  within =
      let up : height_in h ≡ suc (height_in h - 1) = omega (arith, low) in
      let under = file.fits.under (height_in h - 1) up in
      let sum : height_in h - 1 - level + level ≡ height_in h - 1 = omega (arith, low) in
      let spans : span h.size (height_in h - 1) ≡ span h.size (height_in h - 1 - level) * span h.size level = ap (span h.size) (sym sum) ∙ span_times h.size (height_in h - 1 - level) level in
      let grouped : fan h.size dinode_length * (span h.size (height_in h - 1 - level) * span h.size level) ≡ fan h.size dinode_length * span h.size (height_in h - 1 - level) * span h.size level = omega arith in
      let most : fan h.size dinode_length * span h.size (height_in h - 1) ≡ fan h.size dinode_length * span h.size (height_in h - 1 - level) * span h.size level = ap (λ n. fan h.size dinode_length * n) spans ∙ grouped in
      less_of place (fan h.size dinode_length * span h.size (height_in h - 1 - level)) (span h.size level) (omega (arith, begins, under, most));
}

-- an index of content past the end below a place that has some
pub some_under : (h : Holding) (end count level place : ℕ) → IsFile h → end < (place + 1) * span h.size level → place * span h.size level < count → (i : ℕ) × IsUnder h level place i × (end ≤ i) × ((i ≡ end) ⊎ (i < count))
some_under h end count level place file reach begins = elim (cases_lt end (place * span h.size level)) [
  | inl before ↦
      let some = span_some h.size level (size_large h.size file.block_size) in
      let next : (place + 1) * span h.size level ≡ place * span h.size level + span h.size level = omega arith in
      (place * span h.size level, record { from = (let low : place * span h.size level ≤ place * span h.size level = omega arith in low); until = omega (arith, next, some) }, omega (arith, before), inr begins)
  | inr past ↦ (end, record { from = past; until = reach }, (let low : end ≤ end = omega arith in low), inl refl)
]
