-- The height for a size.
use Rattle.std.proofs.Common.{◌≡◌, ◌≢◌, ℕ, zero, suc, ◌+◌, ◌-◌, ◌*◌, ◌/◌, ◌%◌, ◌<◌, ◌≤◌, inl, inr, true, false, refl, sym, ap, subst, ◌∙◌, arith}
use Rattle.std.proofs.lemmas.Bool.{cases_eq, cases_lt, cond-true, cond-false, lt-ltb, le-ltb}
use Rattle.std.proofs.Math.Nat.{div-lt_iff_lt-mul}
use Rattle.file_tree.specs.Apply.{file_limit}
use Rattle.gfs2_layout.specs.Device.{IsBlockSize}
use Rattle.gfs2_layout.specs.Holding.{Holding}
use Rattle.gfs2_layout.specs.Inode.{height_in, fan, span, pointer, descend, pieces}
use Rattle.gfs2_layout.specs.Structures.{dinode_length}
use Rattle.dinode_tree.proofs.Pointers.{descend_zero}
use Rattle.dinode_tree.proofs.Spans.{span_some}
use Rattle.growth_laws.specs.Files.{block_on}
use Rattle.growth_laws.specs.Need.{capacity, raised_to, has_content}
use Rattle.growth_laws.specs.Growing.{HeightsReach, LowerHeightsAreShort, CapacityReaches, BareFilesHaveNoBlock}
use Rattle.growth_laws.proofs.Contents.{whole_unit}
use Rattle.growth_laws.proofs.Parts.{some_part}
use Rattle.growth_laws.proofs.Places.{size_large, place_of_part}
use Rattle.growth_laws.proofs.Rising.{has_some}

-- ---- the least height from one on

-- one step: it stays where there is room, and else the next height is tried
pub raised_more : (size height bytes more : ℕ) → capacity size height < bytes → raised_to size height bytes (suc more) ≡ raised_to size (suc height) bytes more
raised_more size height bytes more short = cond-true _ _ _ (lt-ltb (capacity size height) bytes short)

pub raised_enough : (size height bytes more : ℕ) → bytes ≤ capacity size height → raised_to size height bytes more ≡ height
raised_enough size height bytes zero room = refl
raised_enough size height bytes (suc more) room = cond-false _ _ _ (le-ltb (capacity size height) bytes room)

pub raised_bounds : (size height bytes more : ℕ) → (height ≤ raised_to size height bytes more) × (raised_to size height bytes more ≤ height + more)
raised_bounds size height bytes zero = (omega arith, omega arith)
raised_bounds size height bytes (suc more) = elim (cases_lt (capacity size height) bytes) [
  | inl short ↦
      let next = raised_bounds size (suc height) bytes more in
      let same = raised_more size height bytes more short in
      (omega (arith, next.0, same), omega (arith, next.1, same))
  | inr room ↦ let same = raised_enough size height bytes (suc more) room in (omega (arith, same), omega (arith, same))
]

pub raised_reaches : (size height bytes more : ℕ) → bytes ≤ capacity size (height + more) → bytes ≤ capacity size (raised_to size height bytes more)
raised_reaches size height bytes zero room = subst (λ n. bytes ≤ capacity size n) (let same : height + 0 ≡ height = omega arith in same) room
raised_reaches size height bytes (suc more) room = elim (cases_lt (capacity size height) bytes) [
  | inl short ↦
      subst (λ n. bytes ≤ capacity size n) (sym (raised_more size height bytes more short))
      (raised_reaches size (suc height) bytes more (subst (λ n. bytes ≤ capacity size n) (let same : height + suc more ≡ suc height + more = omega arith in same) room))
  | inr enough ↦ subst (λ n. bytes ≤ capacity size n) (sym (raised_enough size height bytes (suc more) enough)) enough
]

pub raised_least : (size height bytes more k : ℕ) → height ≤ k → k < raised_to size height bytes more → capacity size k < bytes
raised_least size height bytes zero k low less = absurd (omega (arith, low, less))
raised_least size height bytes (suc more) k low less = elim (cases_lt (capacity size height) bytes) [
  | inl short ↦ elim (cases_eq k height) [
    | inl here ↦ subst (λ n. capacity size n < bytes) (sym here) short
    | inr apart ↦ raised_least size (suc height) bytes more k (omega (arith, low, apart)) (subst (λ n. k < n) (raised_more size height bytes more short) less)
  ]
  | inr enough ↦ absurd (omega (arith, low, less, raised_enough size height bytes (suc more) enough))
]

-- ---- the greatest height reaches every size that a file may have

most_at : (size : ℕ) → IsBlockSize size → file_limit ≤ capacity size 10
most_at size (inl e) = subst (λ n. file_limit ≤ capacity n 10) (sym e) (omega arith)
most_at size (inr (inl e)) = subst (λ n. file_limit ≤ capacity n 10) (sym e) (omega arith)
most_at size (inr (inr (inl e))) = subst (λ n. file_limit ≤ capacity n 10) (sym e) (omega arith)
most_at size (inr (inr (inr e))) = subst (λ n. file_limit ≤ capacity n 10) (sym e) (omega arith)

pub heights_reach : HeightsReach
heights_reach h size file short =
    let bounds = raised_bounds h.size (height_in h) size (10 - height_in h) in
    let whole : height_in h + (10 - height_in h) ≡ 10 = omega (arith, file.fits.low) in
    let most : size ≤ capacity h.size 10 = let limit = most_at h.size file.block_size in omega (arith, short, limit) in
    (bounds.0, omega (arith, bounds.1, whole), raised_reaches h.size (height_in h) size (10 - height_in h) (subst (λ n. size ≤ capacity h.size n) (sym whole) most))

pub lower_heights_are_short : LowerHeightsAreShort
lower_heights_are_short h size height low less = raised_least h.size (height_in h) size (10 - height_in h) height low less

pub capacity_reaches : CapacityReaches
capacity_reaches h size level file room =
    let some : 0 < h.size = omega (arith, size_large h.size file.block_size) in
    let reach = fan h.size dinode_length * span h.size level in
    let few : pieces size h.size < suc reach = (div-lt_iff_lt-mul some).1 (let short : size + h.size - 1 < suc reach * h.size = omega (arith, room, some) in short) in
    subst (λ u. pieces size u ≤ fan h.size dinode_length * span h.size level) (sym (whole_unit h file.regular)) (omega (arith, few))

-- ---- a file without content to go along

-- none of the dinode's pointers leads somewhere
pub bare_pointers : (h : Holding) (k : ℕ) → height_in h ≢ 0 → has_content h ≡ false → k < fan h.size dinode_length → pointer h dinode_length h.own k ≡ 0
bare_pointers h k high bare near = elim (cases_eq (pointer h dinode_length h.own k) 0) [
  | inl none ↦ none
  | inr some ↦ let both : true ≡ false = sym (has_some h k high near some) ∙ bare in absurd (cc)
]

pub bare_files_have_no_block : BareFilesHaveNoBlock
bare_files_have_no_block h b from k level first file bare part =
    let less : level < height_in h = file.tree.below b from k level first part in
    let high : height_in h ≢ 0 = λ e. omega (arith, less, e) in
    let found = place_of_part h file b level first (from, k, part) in
    let up = height_in h - 1 - level in
    let near : found.0 / span h.size up < fan h.size dinode_length = (div-lt_iff_lt-mul (span_some h.size up (size_large h.size file.block_size))).1 found.2 in
    let hole : block_on h level found.0 ≡ 0
    = ap (λ n. descend h up n (found.0 % span h.size up)) (bare_pointers h (found.0 / span h.size up) high bare near) ∙ descend_zero h up (found.0 % span h.size up) in
    some_part h b _ file.nobody part (sym found.3 ∙ hole)
