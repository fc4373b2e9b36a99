-- A place that is gone over: what a walk to it finds.
use Rattle.std.proofs.Common.{◌≡◌, ◌≢◌, ◌⊎◌, inl, inr, ℕ, suc, ◌+◌, ◌-◌, ◌*◌, ◌/◌, ◌<◌, ◌≤◌, List, sym, ap, subst, ◌∙◌, mul_comm, arith}
use Rattle.std.proofs.lemmas.Bool.{cond-true, eq-eqb}
use Rattle.std.proofs.Math.Nat.{lt-mul-div-succ, mul-le-mul_right}
use Rattle.std.specs.Prelude.{if◌then◌else◌}
use Rattle.std.specs.FinMap.{FinMap}
use Rattle.std.specs.Ordering.{nat_cmp}
use Rattle.drafts.specs.Fates.{Drafted, seen_in}
use Rattle.drafts.specs.declared.fate.Fate.{Fate}
use Rattle.gfs2_layout.specs.Holding.{Holding}
use Rattle.gfs2_layout.specs.Inode.{content_count, header_length, height_in, pieces, span}
use Rattle.gfs2_layout.specs.Structures.{is_directory}
use Rattle.gfs2_layout.specs.declared.dinode.Dinode.{Dinode}
use Rattle.glock_names.specs.Views.{HasBlock, Seen}
use Rattle.dinode_tree.specs.Shown.{IsShown}
use Rattle.dinode_tree.proofs.Spans.{span_some}
use Rattle.growth_laws.specs.Files.{IsFile, IsPlaced, block_on, with_cells}
use Rattle.growth_laws.proofs.Parts.{some_part}
use Rattle.growth_laws.proofs.Places.{cancelled, place_of_part, size_large}
use Rattle.file_walks.specs.Walks.{IsPlace, IsStop, IsUnder, LeadsNowhere, place_above}
use Rattle.file_walks.specs.declared.walks.Stop.{Stop}
use Rattle.file_walks.proofs.Steps.{hole_above}
use Rattle.file_fills.proofs.Seeing.{place_at}
use Rattle.file_cuts.specs.Cut.{IsPastEnd}
use Rattle.file_cuts.specs.Progress.{CanFree, HasCutTo, IsSeenOver}
use Rattle.file_cuts.proofs.Going.{cut_kept, cut_on}
use Rattle.file_cuts.proofs.Past.{less_of}
use Rattle.file_cuts.proofs.Ways.{place_there, some_under}

-- a block at a place of a level that begins between two places
between : (g : Holding) (b level f place next : ℕ) → IsFile g → IsPlaced g b level f → place * span g.size level ≤ f → f < next * span g.size level → (j : ℕ) × (f ≡ j * span g.size level) × (place ≤ j) × (j < next) × (block_on g level j ≡ b)
between g b level f place next file placed from until =
    let at = place_of_part g file b level f placed in
    let some = span_some g.size level (size_large g.size file.block_size) in
    let up : (at.0 + 1) * span g.size level ≡ at.0 * span g.size level + span g.size level = omega arith in
    let low : place < at.0 + 1 = less_of place (at.0 + 1) (span g.size level) (omega (arith, at.1, from, up, some)) in
    let high : at.0 < next = less_of at.0 next (span g.size level) (omega (arith, at.1, until)) in
    (at.0, at.1, omega (arith, low), high, at.3)

module _ {V : Type 0} (seen : V → Seen) (f0 : FinMap nat_cmp Fate) (old : Drafted V) (inode : ℕ) (h : Holding) (end level place : ℕ) (freed : List ℕ) (can : CanFree h inode) (reach : end < (place + 1) * span h.size level)
    (begins : place * span h.size level < content_count h) (low : level < height_in h) (a : HasCutTo (seen old.view) f0 old.fates h end level place freed) where
  abbrev g : Holding
  g = with_cells h a.cell

  pub shown_so : IsShown (seen_in seen old) inode (with_cells h a.cell)
  shown_so = subst (λ x. IsShown (seen_in seen old) x (with_cells h a.cell)) can.own a.shown

  high_same : height_in (with_cells h a.cell) ≡ height_in h
  high_same = ap (λ (d : Dinode). d.height) a.cut.dinode

  count_same : content_count (with_cells h a.cell) ≡ content_count h
  count_same = ap (λ (d : Dinode). pieces d.size (if is_directory d then h.size - header_length else h.size)) a.cut.dinode

  pub place_so : IsPlace (with_cells h a.cell) level place
  place_so = place_there (with_cells h a.cell) level place a.cut.file (omega (arith, low, high_same)) (omega (arith, begins, count_same))

  pub index_so : (i : ℕ) × IsUnder (with_cells h a.cell) level place i × IsSeenOver (seen_in seen old) (with_cells h a.cell) i
  index_so =
      let found = some_under h end (content_count h) level place can.file reach begins in
      (found.0, record { from = found.1.from; until = found.1.until }, a.ways found.0 found.2 found.3)

  module _ (stop : Stop) (stopped : IsStop (with_cells h a.cell) level place stop) where
    pub on_hole : stop.block ≡ 0 → (next : ℕ) → ((j : ℕ) → place ≤ j → j < next → j / span h.size (stop.level - level) ≡ place / span h.size (stop.level - level)) → HasCutTo (seen old.view) f0 old.fates h end level next freed
    on_hole none next under = record {
      cell = a.cell;
      shown = a.shown;
      cut = cut_on f0 old.fates h a.cell end level place freed can.file a.cut next (λ b f placed from until past. nothing b f placed from until);
      ways = a.ways;
    }
      where
        nothing : (b f : ℕ) → IsPlaced (with_cells h a.cell) b level f → place * span h.size level ≤ f → f < next * span h.size level → ⊥
        nothing b f placed from until =
            let at = between (with_cells h a.cell) b level f place next a.cut.file placed from until in
            let ups : level + (stop.level - level) ≡ stop.level = omega (arith, stopped.passed.above) in
            let hole : block_on (with_cells h a.cell) (level + (stop.level - level)) (at.0 / span h.size (stop.level - level)) ≡ 0
            = (λ t. block_on (with_cells h a.cell) (ups t) (under at.0 at.2 at.3 t)) ∙ stopped.passed.leads ∙ none in
            let within = place_of_part (with_cells h a.cell) a.cut.file b level f placed in
            let same : at.0 ≡ within.0 = cancelled at.0 within.0 (span h.size level) (span_some h.size level (size_large h.size can.file.block_size)) (sym at.1 ∙ within.1) in
            let gone = hole_above (with_cells h a.cell) a.cut.file (stop.level - level) level at.0 (omega (arith, ups, stopped.passed.place.low)) (omega (arith, same, within.2)) hole in
            some_part (with_cells h a.cell) b _ a.cut.file.nobody placed.2 (sym at.4 ∙ gone)

    module _ (some : stop.block ≢ 0) where
      pub same_level : stop.level ≡ level
      same_level = each stopped.ended
        where
          each : (stop.level ≡ level) ⊎ (stop.block ≡ 0) → stop.level ≡ level
          each (inl same) = same
          each (inr none) = absurd (some none)

      pub block_here : block_on (with_cells h a.cell) level place ≡ stop.block
      block_here = stopped.block ∙ cond-true _ _ _ (eq-eqb stop.level level same_level)

      -- an indirect block there is seen
      pub has_block : 1 ≤ stop.level → HasBlock (seen_in seen old) stop.block
      has_block high =
          let next : (place + 1) * span h.size level ≡ place * span h.size level + span h.size level = omega arith in
          let above : place_above h.size 0 index_so.0 level ≡ place = place_at h.size index_so.0 level place index_so.1.from (omega (arith, index_so.1.until, next)) in
          let is : block_on (with_cells h a.cell) level (place_above h.size 0 index_so.0 level) ≡ stop.block = ap (block_on (with_cells h a.cell) level) above ∙ block_here in
          subst (HasBlock (seen_in seen old)) is
          (index_so.2.blocks level (omega (arith, high, same_level)) place_so.low (omega (arith, above, place_so.within)) (λ none. some (sym is ∙ none)))

      -- and where it leads somewhere it stays
      pub on_kept : (low_ : ℕ) → level ≡ suc low_ → (LeadsNowhere (with_cells h a.cell) stop.block → ⊥) → HasCutTo (seen old.view) f0 old.fates h end level (place + 1) freed
      on_kept low_ up leads = record {
        cell = a.cell;
        shown = a.shown;
        cut = cut_on f0 old.fates h a.cell end level place freed can.file a.cut (place + 1) kept;
        ways = a.ways;
      }
        where
          kept : (b f : ℕ) → IsPlaced (with_cells h a.cell) b level f → place * span h.size level ≤ f → f < (place + 1) * span h.size level → IsPastEnd h end level f → ⊥
          kept b f placed from until past =
              let at = between (with_cells h a.cell) b level f place (place + 1) a.cut.file placed from until in
              let same : at.0 ≡ place = omega (arith, at.2, at.3) in
              let first : f ≡ place * span h.size level = at.1 ∙ ap (λ n. n * span h.size level) same in
              let is : stop.block ≡ b = sym block_here ∙ ap (block_on (with_cells h a.cell) level) (sym same) ∙ at.4 in
              cut_kept f0 old.fates h a.cell end level place freed can.file a.cut b low_ up (subst (IsPlaced (with_cells h a.cell) b level) first placed) (subst (λ x. LeadsNowhere (with_cells h a.cell) x → ⊥) is leads)
              (subst (IsPastEnd h end level) first past)

-- the place that has the end, and each later one, reaches past it
pub reach_from : (h : Holding) (end level place : ℕ) → IsFile h → end / span h.size level ≤ place → end < (place + 1) * span h.size level
reach_from h end level place file least =
    let some = span_some h.size level (size_large h.size file.block_size) in
    let until : end < span h.size level * (end / span h.size level + 1) = lt-mul-div-succ end some in
    let more : (end / span h.size level + 1) * span h.size level ≤ (place + 1) * span h.size level = mul-le-mul_right (span h.size level) (omega (arith, least)) in
    let swap : span h.size level * (end / span h.size level + 1) ≡ (end / span h.size level + 1) * span h.size level = mul_comm (span h.size level) (end / span h.size level + 1) in
    omega (arith, until, more, swap)
