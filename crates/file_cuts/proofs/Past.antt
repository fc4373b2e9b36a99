-- Blocks that stand past an end, and those below them.
use Rattle.std.proofs.Common.{◌≡◌, ◌≢◌, ◌⊎◌, inl, inr, ℕ, zero, suc, ◌+◌, ◌-◌, ◌*◌, ◌/◌, ◌<◌, ◌≤◌, List, [], ◌∷◌, Option, sym, ap, ◌∙◌, mul_comm, arith}
use Rattle.std.proofs.lemmas.Bool.{cases_eq, cases_lt}
use Rattle.std.proofs.lemmas.List.Elements.{Contains-append_cases, Contains-append_right}
use Rattle.std.proofs.Math.Nat.{mul-le-mul_right}
use Rattle.std.specs.Prelude.{Contains, IsSome}
use Rattle.gfs2_layout.specs.Holding.{Cell, Holding, part_at}
use Rattle.gfs2_layout.specs.Inode.{fan, header_length, height_in, pointer, span}
use Rattle.dinode_tree.proofs.Sound.{is_there}
use Rattle.dinode_tree.proofs.Spans.{span_some}
use Rattle.growth_laws.specs.Files.{IsFile, IsPlaced, block_on, with_cells}
use Rattle.growth_laws.proofs.Parts.{same_first, same_level, some_part}
use Rattle.growth_laws.proofs.Places.{place_of_part, places_follow_pointers, size_large}
use Rattle.growth_drafts.specs.Taken.{HasFreed}
use Rattle.growth_drafts.proofs.Rooms.{none_in, only_in}
use Rattle.file_walks.specs.Walks.{LeadsNowhere, place_above}
use Rattle.file_walks.proofs.Above.{under_above}
use Rattle.file_walks.proofs.Steps.{hole_above}
use Rattle.file_cuts.specs.Cut.{IsPastEnd}

-- ---- numbers

pub less_of : (a b s : ℕ) → a * s < b * s → a < b
less_of a b s less = elim (cases_lt a b) [
  | inl is ↦ is
  | inr far ↦ let more : b * s ≤ a * s = mul-le-mul_right s far in absurd (omega (arith, more, less))
]

pub at_most : (a s n : ℕ) → 0 < s → a * s < n → a < n
at_most a s n some less =
    let once : 1 * a ≤ s * a = mul-le-mul_right a some in
    let swap : a * s ≡ s * a = mul_comm a s in
    omega (arith, once, swap, less)

-- two places whose content begins in the same range are one
pub same_place : (p j s : ℕ) → p * s ≤ j * s → j * s < p * s + s → 0 < s → j ≡ p
same_place p j s from until some =
    let next : p * s + s ≡ (p + 1) * s = omega arith in
    let low : j < p + 1 = less_of j (p + 1) s (omega (arith, until, next)) in
    let once : j * s + s ≡ (j + 1) * s = omega arith in
    let high : p < j + 1 = less_of p (j + 1) s (omega (arith, from, once, some)) in
    omega (arith, low, high)

-- ---- what stands below a block that leads nowhere

module _ (g : Holding) (file : IsFile g) where
  large : 512 ≤ g.size
  large = size_large g.size file.block_size

  below_low : (b low first c l f : ℕ) → IsPlaced g b (suc low) first → LeadsNowhere g b → IsPlaced g c l f → l ≤ low → first ≤ f → f < first + span g.size (suc low) → ⊥
  below_low b low first c l f placed nowhere placed' less from until =
      let at_b = place_of_part g file b (suc low) first placed in
      let at_c = place_of_part g file c l f placed' in
      let p : ℕ = at_b.0 in
      let q : ℕ = place_above g.size l at_c.0 low in
      let next : at_c.0 * span g.size l + span g.size l ≡ (at_c.0 + 1) * span g.size l = omega arith in
      let some_c = span_some g.size l large in
      let under = under_above g.size l at_c.0 low f large less (omega (arith, at_c.1)) (omega (arith, at_c.1, next, some_c)) in
      let flat : at_b.0 * (fan g.size header_length * span g.size low) ≡ at_b.0 * fan g.size header_length * span g.size low = omega arith in
      let flat' : at_b.0 * fan g.size header_length * span g.size low + fan g.size header_length * span g.size low ≡ (at_b.0 * fan g.size header_length + fan g.size header_length) * span g.size low = omega arith in
      let more : place_above g.size l at_c.0 low * span g.size low + span g.size low ≡ (place_above g.size l at_c.0 low + 1) * span g.size low = omega arith in
      let least : at_b.0 * fan g.size header_length < place_above g.size l at_c.0 low + 1
      = less_of (at_b.0 * fan g.size header_length) (place_above g.size l at_c.0 low + 1) (span g.size low) (omega (arith, at_b.1, flat, from, under.1, more)) in
      let most : place_above g.size l at_c.0 low < at_b.0 * fan g.size header_length + fan g.size header_length
      = less_of (place_above g.size l at_c.0 low) (at_b.0 * fan g.size header_length + fan g.size header_length) (span g.size low) (omega (arith, at_b.1, flat, flat', until, under.0)) in
      let k : ℕ = place_above g.size l at_c.0 low - at_b.0 * fan g.size header_length in
      let near : place_above g.size l at_c.0 low - at_b.0 * fan g.size header_length < fan g.size header_length = omega (arith, least, most) in
      let low_b : suc low < height_in g = file.tree.below b placed.0 placed.1 (suc low) first placed.2 in
      let follows = places_follow_pointers g low at_b.0 (place_above g.size l at_c.0 low - at_b.0 * fan g.size header_length) b file low_b at_b.2 near at_b.3 (some_part g b _ file.nobody placed.2) in
      let index : at_b.0 * fan g.size header_length + (place_above g.size l at_c.0 low - at_b.0 * fan g.size header_length) ≡ place_above g.size l at_c.0 low = omega (arith, least) in
      let hole : block_on g low (place_above g.size l at_c.0 low) ≡ 0
      = ap (block_on g low) (sym index) ∙ follows.0 ∙ nowhere (place_above g.size l at_c.0 low - at_b.0 * fan g.size header_length) near in
      let ups : l + (low - l) ≡ low = omega (arith, less) in
      let none = hole_above g file (low - l) l at_c.0 (omega (arith, ups, low_b)) at_c.2 (ap (λ n. block_on g n (at_c.0 / span g.size (low - l))) ups ∙ hole) in
      some_part g c _ file.nobody placed'.2 (sym at_c.3 ∙ none)

  pub nothing_below : (b level first c l f : ℕ) → IsPlaced g b level first → LeadsNowhere g b → IsPlaced g c l f → l < level → first ≤ f → f < first + span g.size level → ⊥
  nothing_below b zero first c l f placed nowhere placed' less from until = omega (arith, less)
  nothing_below b (suc low) first c l f placed nowhere placed' less from until = below_low b low first c l f placed nowhere placed' (omega (arith, less)) from until

  -- a pointer that leads somewhere
  find_led : (b n : ℕ) → ((k : ℕ) × (k < n) × (pointer g header_length b k ≢ 0)) ⊎ ((k : ℕ) → k < n → pointer g header_length b k ≡ 0)
  find_led b zero = inr (λ k low. absurd (omega (arith, low)))
  find_led b (suc n) = elim (find_led b n) [
    | inl found ↦ inl (found.0, omega (arith, found.1), found.2)
    | inr none ↦ elim (cases_eq (pointer g header_length b n) 0) [
      | inl here ↦ inr (λ k low. elim (cases_eq k n) [
        | inl e ↦ ap (pointer g header_length b) e ∙ here
        | inr other ↦ none k (omega (arith, low, other))
      ])
      | inr some ↦ inl (n, omega arith, some)
    ]
  ]

  -- a block that leads somewhere leads to one that stays
  pub something_below : (h : Holding) (end b low first : ℕ) → h.size ≡ g.size → IsPlaced g b (suc low) first → (LeadsNowhere g b → ⊥) → ((c f : ℕ) → IsPlaced g c low f → IsPastEnd h end low f → ⊥) → IsPastEnd h end (suc low) first → ⊥
  something_below h end b low first sizes placed leads stays past = elim (find_led b (fan g.size header_length)) [
    | inr none ↦ leads none
    | inl found ↦
        let child = file.tree.inner b placed.0 placed.1 low first placed.2 found.0 found.1 found.2 in
        let more : (found.0 + 1) * span g.size low ≤ fan g.size header_length * span g.size low = mul-le-mul_right (span g.size low) (omega (arith, found.1)) in
        let next : (found.0 + 1) * span g.size low ≡ found.0 * span g.size low + span g.size low = omega arith in
        let spans : span h.size (suc low) ≡ fan g.size header_length * span g.size low = ap (λ n. span n (suc low)) sizes in
        let span_low : span h.size low ≡ span g.size low = ap (λ n. span n low) sizes in
        stays (pointer g header_length b found.0) (first + found.0 * span g.size low) (b, found.0, child.part)
        (λ c l f placed' less from until. past c l f placed' (omega (arith, less)) (omega (arith, from)) (omega (arith, until, more, next, spans, span_low)))
  ]

-- ---- a block that leads nowhere stands past the end

-- the same block has one place
pub same_placed : (h : Holding) (b l f l' f' : ℕ) → IsPlaced h b l f → IsPlaced h b l' f' → (l ≡ l') × (f ≡ f')
same_placed h b l f l' f' a c = (same_level (sym a.2 ∙ c.2), same_first (sym a.2 ∙ c.2))

pub contains_or_not : (xs : List ℕ) (b : ℕ) → Contains xs b ⊎ (Contains xs b → ⊥)
contains_or_not [] b = inr (none_in b)
contains_or_not (x ∷ xs) b = elim (cases_eq x b) [
  | inl e ↦ inl (0, omega arith, e)
  | inr other ↦ elim (contains_or_not xs b) [
    | inl is ↦ inl (Contains-append_right (x ∷ []) xs b is)
    | inr not ↦ inr (λ is. elim (Contains-append_cases (x ∷ []) xs b is) [ inl first ↦ other (sym (only_in x b first)) | inr rest ↦ not rest ])
  ]
]

module _ (h : Holding) (cell : ℕ → Option Cell) (end : ℕ) (freed : List ℕ) (file : IsFile h) (file' : IsFile (with_cells h cell)) (blocks : HasFreed h (with_cells h cell) freed)
    (parts : (b : ℕ) → IsSome (cell b) → part_at (with_cells h cell) b ≡ part_at h b) (only : (b : ℕ) → Contains freed b → (l f : ℕ) × IsPlaced h b l f × IsPastEnd h end l f) where
  -- a block that isn't past the end is still there
  pub still_placed : (c l f : ℕ) → IsPlaced h c l f → f + span h.size l ≤ end → IsPlaced (with_cells h cell) c l f
  still_placed c l f placed front = (placed.0, placed.1, parts c there ∙ placed.2)
    where
      not_freed : Contains freed c → ⊥
      not_freed is =
          let past = only c is in
          let same = same_placed h c past.0 past.1 l f past.2 placed in
          let own : end < past.1 + span h.size past.0 = past.3 c past.0 past.1 past.2 (let low : past.0 ≤ past.0 = omega arith in low) (let from : past.1 ≤ past.1 = omega arith in from)
          (let some = span_some h.size past.0 (size_large h.size file.block_size) in let until : past.1 < past.1 + span h.size past.0 = omega (arith, some) in until) in
          let spans : span h.size past.0 ≡ span h.size l = ap (span h.size) same.0 in
          omega (arith, own, front, same.1, spans)

      there : IsSome (cell c)
      there = (blocks.kept c).1 (is_there (h.cell c) _ placed.2, not_freed)

  pub past_of_nowhere : (b level first : ℕ) → IsPlaced (with_cells h cell) b level first → IsPlaced h b level first → ((low : ℕ) → level ≡ suc low → LeadsNowhere (with_cells h cell) b) → end < first + span h.size level → IsPastEnd h end level first
  past_of_nowhere b level first placed placed_h nowhere reaches c l f placed' low from until = elim (cases_eq l level) [
    | inl same ↦
        let at_b = place_of_part h file b level first placed_h in
        let at_c = place_of_part h file c l f placed' in
        let spans : span h.size l ≡ span h.size level = ap (span h.size) same in
        let at_same : f ≡ at_c.0 * span h.size level = at_c.1 ∙ ap (λ n. at_c.0 * n) spans in
        let one : at_c.0 ≡ at_b.0 = same_place at_b.0 at_c.0 (span h.size level) (omega (arith, from, at_b.1, at_same)) (omega (arith, until, at_b.1, at_same)) (span_some h.size level (size_large h.size file.block_size)) in
        let first_same : f ≡ first = at_same ∙ ap (λ n. n * span h.size level) one ∙ sym at_b.1 in
        omega (arith, reaches, first_same, spans)
    | inr other ↦ elim (cases_lt end (f + span h.size l)) [
      | inl is ↦ is
      | inr front ↦
          let less : l < level = omega (arith, low, other) in
          let up : level ≡ suc (level - 1) = omega (arith, less) in
          absurd (nothing_below (with_cells h cell) file' b level first c l f placed (nowhere (level - 1) up) (still_placed c l f placed' front) less from until)
    ]
  ]
