-- What is left of a file when all places were gone over.
use Rattle.std.proofs.Common.{◌≡◌, ◌≢◌, inl, inr, Option, Some, ℕ, ◌+◌, ◌-◌, ◌*◌, ◌/◌, ◌<◌, ◌≤◌, List, ◌++◌, length, take, sym, ap, subst, ◌∙◌, arith, append-nil}
use Rattle.std.proofs.lemmas.Bool.{cases_lt}
use Rattle.std.proofs.lemmas.Nat.{le-div}
use Rattle.std.proofs.Math.Nat.{div-mul-le_self, lt-mul-div-succ}
use Rattle.std.specs.Prelude.{Contains, IsSome, replicate, ◌↔◌}
use Rattle.std.specs.FinMap.{FinMap}
use Rattle.std.specs.Ordering.{nat_cmp}
use Rattle.drafts.specs.declared.fate.Fate.{Fate}
use Rattle.file_tree.specs.Apply.{resized}
use Rattle.gfs2_layout.specs.Holding.{Pointed, Cell, Holding, part_at}
use Rattle.gfs2_layout.specs.Inode.{content_of, dinode_in, height_in, pieces, unit}
use Rattle.gfs2_layout.specs.declared.dinode.Dinode.{Dinode}
use Rattle.dinode_tree.proofs.Sound.{is_there}
use Rattle.dinode_tree.proofs.Spans.{span_some}
use Rattle.growth_laws.specs.Files.{IsFile, IsPlaced, with_cells}
use Rattle.growth_laws.proofs.Contents.{content_length, whole_unit}
use Rattle.growth_laws.proofs.Places.{size_large}
use Rattle.growth_steps.specs.Sizes.{CanHaveSize}
use Rattle.file_cuts.specs.Cut.{IsPastEnd, end_of}
use Rattle.file_cuts.specs.Progress.{IsCutTo}
use Rattle.file_cuts.proofs.Past.{contains_or_not, same_placed}

module _ (old new : FinMap nat_cmp Fate) (h : Holding) (cell : ℕ → Option Cell) (size place : ℕ) (freed : List ℕ) (file : IsFile h) (larger : size ≤ (dinode_in h).size) (high : height_in h ≢ 0)
    (cut : IsCutTo old new h cell (end_of h size) (height_in h) place freed) where
  some : 0 < h.size
  some = omega (arith, size_large h.size file.block_size)

  high_same : height_in (with_cells h cell) ≡ height_in h
  high_same = ap (λ (d : Dinode). d.height) cut.dinode

  size_same : (dinode_in (with_cells h cell)).size ≡ (dinode_in h).size
  size_same = ap (λ (d : Dinode). d.size) cut.dinode

  -- none that is left stands past the end
  none_past : (b l f : ℕ) → IsPlaced (with_cells h cell) b l f → IsPastEnd h (end_of h size) l f → ⊥
  none_past b l f placed past = cut.stays b l f placed (inl (let low = cut.file.tree.below b placed.0 placed.1 l f placed.2 in omega (arith, low, high_same))) past

  pub exactly : (b from k level first : ℕ) → part_at h b ≡ Some (Pointed from k level first) → Contains freed b ↔ IsPastEnd h (end_of h size) level first
  exactly b from k level first part = (
    λ is. let was = cut.only b is in past_as was.0 was.1 was.2 was.3,
    λ past. elim (contains_or_not freed b) [
      | inl is ↦ is
      | inr not ↦
          let there : IsSome (cell b) = (cut.blocks.kept b).1 (is_there (h.cell b) _ part, not) in
          absurd (none_past b level first (from, k, cut.parts b there ∙ part) past)
    ],
  )
    where
      past_as : (l f : ℕ) → IsPlaced h b l f → IsPastEnd h (end_of h size) l f → IsPastEnd h (end_of h size) level first
      past_as l f placed past =
          let same = same_placed h b l f level first placed (from, k, part) in
          subst (λ n. IsPastEnd h (end_of h size) level n) same.1 (subst (λ n. IsPastEnd h (end_of h size) n f) same.0 past)

  -- none that is left begins past it
  pub before_end : (b from k level first : ℕ) → part_at (with_cells h cell) b ≡ Some (Pointed from k level first) → first < end_of h size
  before_end b from k level first part = elim (cases_lt first (end_of h size)) [
    | inl before ↦ before
    | inr past ↦ absurd (none_past b level first (from, k, part) (λ c l f placed low from' until. let some_c = span_some h.size l (size_large h.size file.block_size) in omega (arith, past, from', some_c)))
  ]

  units : unit (with_cells h cell) ≡ h.size
  units = whole_unit (with_cells h cell) cut.file.regular

  pub can_have : CanHaveSize (with_cells h cell) size
  can_have = record {
    in_blocks = λ none. high (sym high_same ∙ none);
    reached = λ level is.
        let under = cut.file.fits.under level is in
        let count : pieces (dinode_in (with_cells h cell)).size (unit (with_cells h cell)) ≡ pieces (dinode_in h).size h.size = (λ t. pieces (size_same t) (units t)) in
        let last : pieces size (unit (with_cells h cell)) ≡ pieces size h.size = ap (pieces size) units in
        let less : pieces size h.size ≤ pieces (dinode_in h).size h.size = le-div (pieces size h.size) ((dinode_in h).size + h.size - 1) h.size some (omega (arith, div-mul-le_self (size + h.size - 1) h.size, larger)) in
        omega (arith, under, count, last, less);
    no_block = λ b from k level first part.
        let before = before_end b from k level first part in
        let last : pieces size (unit (with_cells h cell)) ≡ pieces size h.size = ap (pieces size) units in
        omega (arith, before, last);
    clear = λ less. absurd (omega (arith, less, larger, size_same));
  }

  -- the content up to the end
  pub content_cut : resized size (content_of (with_cells h cell)) ≡ take size (content_of h)
  content_cut =
      let long = content_length (with_cells h cell) cut.file (λ none. high (sym high_same ∙ none)) in
      let none : size - length (content_of (with_cells h cell)) ≡ 0 = omega (arith, long, size_same, larger) in
      let until : size + h.size - 1 < h.size * ((size + h.size - 1) / h.size + 1) = lt-mul-div-succ (size + h.size - 1) some in
      let flat : h.size * ((size + h.size - 1) / h.size + 1) ≡ (size + h.size - 1) / h.size * h.size + h.size = omega arith in
      (λ t. take size (content_of (with_cells h cell)) ++ replicate (none t) 0) ∙ append-nil (take size (content_of (with_cells h cell))) ∙ cut.front size (omega (arith, until, flat))
