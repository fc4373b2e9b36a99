-- How far the code has come that frees the blocks past an end, place by place.
use Rattle.std.proofs.Common.{◌≡◌, ◌≢◌, ◌⊎◌, inl, inr, Some, ℕ, suc, ◌+◌, ◌*◌, ◌/◌, ◌<◌, ◌≤◌, List, [], ◌∷◌, ◌++◌, take, Option, refl, sym, ap, subst, ◌∙◌, arith, length-append}
use Rattle.std.proofs.lemmas.Bool.{cases_eq, cases_lt}
use Rattle.std.proofs.lemmas.List.Elements.{Contains-append_cases, Contains-append_left, Contains-append_right}
use Rattle.std.proofs.Math.Nat.{div-mul-le_self, mul-le-mul_right}
use Rattle.std.specs.Prelude.{Contains, IsSome}
use Rattle.std.specs.FinMap.{FinMap}
use Rattle.std.specs.Ordering.{nat_cmp}
use Rattle.drafts.specs.declared.fate.Fate.{Fate}
use Rattle.gfs2_layout.specs.Holding.{Pointed, Cell, Holding, bytes_at}
use Rattle.gfs2_layout.specs.Inode.{block_count, content_count, content_of, span}
use Rattle.dinode_tree.proofs.Sound.{is_there}
use Rattle.dinode_tree.proofs.Spans.{span_some}
use Rattle.growth_laws.specs.Blocks.{freed_cells, start_in}
use Rattle.growth_laws.specs.Files.{IsFile, IsPlaced, block_on, with_cells}
use Rattle.growth_laws.specs.Steps.{IsFreed}
use Rattle.growth_laws.proofs.Frees.{frees_keep_files, frees_keep_the_front, frees_take_one, indirect_frees_keep_content}
use Rattle.growth_laws.proofs.Places.{cancelled, place_of_part, size_large}
use Rattle.growth_laws.proofs.Trees.{part_within}
use Rattle.growth_drafts.specs.Taken.{DraftsFile, HasFreed, IsDistinct}
use Rattle.file_cuts.proofs.Drafting.{drafts_and_frees, freed_then}
use Rattle.growth_drafts.proofs.Rooms.{none_in, none_some, only_in}
use Rattle.growth_steps.proofs.Putting.{drafts_nothing}
use Rattle.file_walks.specs.Walks.{LeadsNowhere}
use Rattle.file_fills.specs.Causes.{ChangesOnly, LeadsToOne}
use Rattle.file_heights.proofs.Changing.{changes_then}
use Rattle.file_cuts.specs.Cut.{IsPastEnd}
use Rattle.file_cuts.specs.Progress.{IsCutTo}
use Rattle.file_cuts.proofs.Past.{less_of, past_of_nowhere, something_below}

-- ---- the end of what is before a place

-- a block past the end reaches past it itself
pub reaches_past : (h : Holding) (end b l f : ℕ) → IsFile h → IsPlaced h b l f → IsPastEnd h end l f → end < f + span h.size l
reaches_past h end b l f file placed past =
    let some = span_some h.size l (size_large h.size file.block_size) in
    past b l f placed (let low : l ≤ l = omega arith in low) (let from : f ≤ f = omega arith in from) (let until : f < f + span h.size l = omega (arith, some) in until)

-- a block before the place that has the end on its level doesn't
front_of : (h : Holding) (end b l f : ℕ) → IsFile h → IsPlaced h b l f → f < end / span h.size l * span h.size l → f + span h.size l ≤ end
front_of h end b l f file placed before =
    let at = place_of_part h file b l f placed in
    let low : at.0 < end / span h.size l = less_of at.0 (end / span h.size l) (span h.size l) (omega (arith, at.1, before)) in
    let next : (at.0 + 1) * span h.size l ≤ end / span h.size l * span h.size l = mul-le-mul_right (span h.size l) (omega (arith, low)) in
    let flat : (at.0 + 1) * span h.size l ≡ at.0 * span h.size l + span h.size l = omega arith in
    let most = div-mul-le_self end (span h.size l) in
    omega (arith, next, flat, most, at.1)

-- ---- the same file, before anything is freed

pub cut_none : (fates : FinMap nat_cmp Fate) (h : Holding) (end : ℕ) → IsFile h → IsCutTo fates fates h h.cell end 0 (end / span h.size 0) []
cut_none fates h end file = record {
  file = file;
  dinode = refl;
  blocks = record { count = refl; were = λ b freed. absurd (none_in b freed); kept = λ b. (λ there. (there, none_in b), λ both. both.0) };
  counted = (let same : block_count h ≡ block_count h + 0 = omega arith in same);
  once = tt;
  parts = λ b there. refl;
  heads = λ b there. refl;
  front = λ n low. refl;
  only = λ b freed. absurd (none_in b freed);
  stays = λ b l f placed before past. elim before [
    | inl low ↦ absurd (omega (arith, low))
    | inr here ↦
        let front = front_of h end b l f file placed (subst (λ n. f < end / span h.size n * span h.size n) (sym here.0) here.1) in
        absurd (omega (arith, front, reaches_past h end b l f file placed past))
  ];
  drafted = drafts_nothing fates h;
  contents = λ b is. refl;
  changes = λ b. inl refl;
}

-- ---- other places

module _ (old new : FinMap nat_cmp Fate) (h : Holding) (cell : ℕ → Option Cell) (end level place : ℕ) (freed : List ℕ) (file : IsFile h) (cut : IsCutTo old new h cell end level place freed) where
  -- a block that is left is as it was
  pub as_before : (b l f : ℕ) → IsPlaced (with_cells h cell) b l f → IsPlaced h b l f
  as_before b l f placed = (placed.0, placed.1, sym (cut.parts b (is_there (cell b) _ placed.2)) ∙ placed.2)

  -- of those that are gone over now none is left that stands past the end
  pub cut_on : (next : ℕ) → ((b f : ℕ) → IsPlaced (with_cells h cell) b level f → place * span h.size level ≤ f → f < next * span h.size level → IsPastEnd h end level f → ⊥) → IsCutTo old new h cell end level next freed
  cut_on next none = record {
    file = cut.file;
    dinode = cut.dinode;
    blocks = cut.blocks;
    counted = cut.counted;
    once = cut.once;
    parts = cut.parts;
    heads = cut.heads;
    front = cut.front;
    only = cut.only;
    stays = λ b l f placed before past. elim before [
      | inl low ↦ cut.stays b l f placed (inl low) past
      | inr here ↦ elim (cases_lt f (place * span h.size l)) [
        | inl earlier ↦ cut.stays b l f placed (inr (here.0, subst (λ n. f < place * span h.size n) here.0 earlier)) past
        | inr later ↦
            none b f (subst (λ n. IsPlaced (with_cells h cell) b n f) here.0 placed) (subst (λ n. place * span h.size n ≤ f) here.0 later) here.1
            (subst (λ n. IsPastEnd h end n f) here.0 past)
      ]
    ];
    drafted = cut.drafted;
    contents = cut.contents;
    changes = cut.changes;
  }

  -- the next level, from the place that has the end
  pub cut_up : content_count h ≤ place * span h.size level → IsCutTo old new h cell end (suc level) (end / span h.size (suc level)) freed
  cut_up all = record {
    file = cut.file;
    dinode = cut.dinode;
    blocks = cut.blocks;
    counted = cut.counted;
    once = cut.once;
    parts = cut.parts;
    heads = cut.heads;
    front = cut.front;
    only = cut.only;
    stays = λ b l f placed before past. elim before [
      | inl low ↦ elim (cases_eq l level) [
        | inl same ↦
            let was = as_before b l f placed in
            let within = part_within h file b was.0 was.1 l f was.2 in
            cut.stays b l f placed (inr (same, omega (arith, within, all))) past
        | inr other ↦ cut.stays b l f placed (inl (omega (arith, low, other))) past
      ]
      | inr here ↦
          let was = as_before b l f placed in
          let front = front_of h end b l f file was (subst (λ n. f < end / span h.size n * span h.size n) (sym here.0) here.1) in
          absurd (omega (arith, front, reaches_past h end b l f file was past))
    ];
    drafted = cut.drafted;
    contents = cut.contents;
    changes = cut.changes;
  }

  -- the block at the place stays
  pub cut_kept : (b low : ℕ) → level ≡ suc low → IsPlaced (with_cells h cell) b level (place * span h.size level) → (LeadsNowhere (with_cells h cell) b → ⊥) → IsPastEnd h end level (place * span h.size level) → ⊥
  cut_kept b low up placed leads past =
      something_below (with_cells h cell) cut.file h end b low (place * span h.size level) refl (subst (λ n. IsPlaced (with_cells h cell) b n (place * span h.size level)) up placed) leads
      (λ c f placed' past'. cut.stays c low f placed' (inl (omega (arith, up))) past') (subst (λ n. IsPastEnd h end n (place * span h.size level)) up past)

  -- ---- a block is freed

  module _ (next : FinMap nat_cmp Fate) (from k first b : ℕ) (f : IsFreed (with_cells h cell) (freed_cells (with_cells h cell) from k b) from k level first b) (first_is : first ≡ place * span h.size level)
      (has : HasFreed (with_cells h cell) (with_cells h (freed_cells (with_cells h cell) from k b)) (b ∷ [])) (drafted : DraftsFile new next (with_cells h cell) (with_cells h (freed_cells (with_cells h cell) from k b)) (b ∷ []))
      (fronts : (x : ℕ) → IsSome (freed_cells (with_cells h cell) from k b x) → take (start_in h x) (bytes_at (with_cells h (freed_cells (with_cells h cell) from k b)) x) ≡ take (start_in h x) (bytes_at (with_cells h cell) x))
      (changed : ChangesOnly new next (λ x. (x ≡ from) ⊎ (x ≡ b)))
      (reaches : end < first + span h.size level) (nowhere : (low : ℕ) → level ≡ suc low → LeadsNowhere (with_cells h cell) b) where
    abbrev cells : ℕ → Option Cell
    cells = freed_cells (with_cells h cell) from k b

    placed_b : IsPlaced (with_cells h cell) b level first
    placed_b = (from, k, f.part)

    past_b : IsPastEnd h end level first
    past_b = past_of_nowhere h cell end freed file cut.file cut.blocks cut.parts cut.only b level first placed_b (as_before b level first placed_b) nowhere reaches

    file_after : IsFile (with_cells h cells)
    file_after = frees_keep_files (with_cells h cell) cells from k level first b cut.file f

    other : (x : ℕ) → IsSome (cells x) → x ≢ b
    other x there e = none_some (cells x) (ap cells e ∙ f.gone) there

    still : (x l g : ℕ) → IsPlaced (with_cells h cells) x l g → IsPlaced (with_cells h cell) x l g
    still x l g placed = (placed.0, placed.1, sym (f.stays.parts x (other x (is_there (cells x) _ placed.2))) ∙ placed.2)

    front_after : (n : ℕ) → n ≤ end * h.size → take n (content_of (with_cells h cells)) ≡ take n (content_of h)
    front_after n low = elim (cases_eq level 0) [
      | inr high ↦ ap (take n) (indirect_frees_keep_content (with_cells h cell) cells from k level first b cut.file f high) ∙ cut.front n low
      | inl content ↦
          let one : span h.size level ≡ 1 = ap (span h.size) content in
          let past : end ≤ first = omega (arith, reaches, one) in
          let more : end * h.size ≤ first * h.size = mul-le-mul_right h.size past in
          frees_keep_the_front (with_cells h cell) cells from k level first b n cut.file f (omega (arith, low, more)) ∙ cut.front n low
    ]

    distinct_push : (xs : List ℕ) (x : ℕ) → IsDistinct xs → (Contains xs x → ⊥) → IsDistinct (xs ++ x ∷ [])
    distinct_push [] x once new_one = (none_in x, tt)
    distinct_push (y ∷ ys) x once new_one = (
      λ is. elim (Contains-append_cases ys (x ∷ []) y is) [
        | inl before ↦ once.0 before
        | inr last ↦ new_one (subst (λ z. Contains (y ∷ ys) z) (only_in x y last) (0, omega arith, refl))
      ],
      distinct_push ys x once.1 (λ is. new_one (Contains-append_right (y ∷ []) ys x is)),
    )

    not_yet : Contains freed b → ⊥
    not_yet is = ((cut.blocks.kept b).0 (is_there (cell b) _ f.part)).1 is

    earlier : (x : ℕ) → Contains freed x ⊎ LeadsToOne h freed x → Contains (freed ++ b ∷ []) x ⊎ LeadsToOne h (freed ++ b ∷ []) x
    earlier x (inl is) = inl (Contains-append_left freed (b ∷ []) x is)
    earlier x (inr (c, j, l, g, is, part)) = inr (c, j, l, g, Contains-append_left freed (b ∷ []) c is, part)

    last_is : Contains (freed ++ b ∷ []) b
    last_is = Contains-append_right freed (b ∷ []) b (0, omega arith, refl)

    now_too : (x : ℕ) → (x ≡ from) ⊎ (x ≡ b) → Contains (freed ++ b ∷ []) x ⊎ LeadsToOne h (freed ++ b ∷ []) x
    now_too x (inl e) = inr (b, k, level, first, last_is, sym (cut.parts b (is_there (cell b) _ f.part)) ∙ f.part ∙ ap (λ y. Some (Pointed y k level first)) (sym e))
    now_too x (inr e) = inl (subst (Contains (freed ++ b ∷ [])) (sym e) last_is)

    pub cut_freed : IsCutTo old next h (freed_cells (with_cells h cell) from k b) end level (place + 1) (freed ++ b ∷ [])
    cut_freed = record {
      file = file_after;
      dinode = f.dinode ∙ cut.dinode;
      blocks = freed_then h (with_cells h cell) (with_cells h cells) freed (b ∷ []) cut.blocks has;
      counted = omega (arith, cut.counted, frees_take_one (with_cells h cell) cells from k level first b f, length-append freed (b ∷ []));
      once = distinct_push freed b cut.once not_yet;
      parts = λ x there. f.stays.parts x (other x there) ∙ cut.parts x ((has.kept x).0 there).0;
      heads = λ x there. fronts x there ∙ cut.heads x ((has.kept x).0 there).0;
      front = front_after;
      only = λ x is. elim (Contains-append_cases freed (b ∷ []) x is) [
        | inl before ↦ cut.only x before
        | inr last ↦ subst (λ y. (l g : ℕ) × IsPlaced h y l g × IsPastEnd h end l g) (sym (only_in b x last)) (level, first, as_before b level first placed_b, past_b)
      ];
      stays = λ x l g placed before past. elim before [
        | inl low ↦ cut.stays x l g (still x l g placed) (inl low) past
        | inr here ↦ elim (cases_lt g (place * span h.size level)) [
          | inl earlier ↦ cut.stays x l g (still x l g placed) (inr (here.0, earlier)) past
          | inr later ↦
              let was = still x l g placed in
              let at = place_of_part (with_cells h cell) cut.file x l g was in
              let at_b = place_of_part (with_cells h cell) cut.file b level first placed_b in
              let spans : span h.size l ≡ span h.size level = ap (span h.size) here.0 in
              let g_is : g ≡ at.0 * span h.size level = at.1 ∙ ap (λ n. at.0 * n) spans in
              let some = span_some h.size level (size_large h.size file.block_size) in
              let next_place : (place + 1) * span h.size level ≡ place * span h.size level + span h.size level = omega arith in
              let low : at.0 < place + 1 = less_of at.0 (place + 1) (span h.size level) (omega (arith, g_is, here.1, spans)) in
              let up : at.0 * span h.size level + span h.size level ≡ (at.0 + 1) * span h.size level = omega arith in
              let high : place < at.0 + 1 = less_of place (at.0 + 1) (span h.size level) (omega (arith, g_is, later, up, some)) in
              let here_b : at_b.0 ≡ place = cancelled at_b.0 place (span h.size level) some (sym at_b.1 ∙ first_is) in
              let same : at.0 ≡ at_b.0 = omega (arith, low, high, here_b) in
              absurd (other x (is_there (cells x) _ placed.2) (sym at.3 ∙ (λ t. block_on (with_cells h cell) (here.0 t) (same t)) ∙ at_b.3))
        ]
      ];
      drafted = drafts_and_frees old new next h (with_cells h cell) (with_cells h cells) freed (b ∷ []) refl cut.blocks has cut.drafted drafted;
      contents = λ x is.
          let apart = other x (is_there (cells x) _ is.3) in
          let part = sym (f.stays.parts x apart) ∙ is.3 in
          f.stays.contents x is.0 is.1 is.2 apart part ∙ cut.contents x (is.0, is.1, is.2, part);
      changes = changes_then old new next _ _ _ earlier now_too cut.changes changed;
    }
