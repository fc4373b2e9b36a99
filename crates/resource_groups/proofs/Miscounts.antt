-- Counts of a header that aren't those of the bits.
use Rattle.std.proofs.Common.{◌≡◌, ℕ, ◌<◌, ◌≤◌, ◌==◌, cond, List, length, get_or, ap, ◌∙◌, inl, inr, ◌⊎◌, arith}
use Rattle.std.proofs.lemmas.List.Sums.{get_or-le-sum_by, count_by-le-length}
use Rattle.std.proofs.lemmas.List.FromFn.{get_or-map-range_with_len, length-map-range_with_len}
use Rattle.profile_limits.specs.Limits.{most_blocks}
use Rattle.gfs2_layout.specs.Bitmap.{state_at}
use Rattle.gfs2_layout.specs.Groups.{bitmap_of, group_header, states_in, count_of, one_if}
use Rattle.gfs2_layout.specs.declared.group_header.GroupHeader.{GroupHeader}
use Rattle.glock_names.specs.declared.views.Group.{Group}
use Rattle.resource_groups.specs.Shown.{IsBroken, wrong_free, wrong_dinodes, blocks_of}
use Rattle.resource_groups.specs.Putting.{IsMiscounted}

no_miscount : (s was n i : ℕ) (states : List ℕ) → i < length states → get_or states i 0 ≡ was → length states ≤ most_blocks → n ≡ count_of s states → IsMiscounted n (was == s) → ⊥
no_miscount s was n i states low is few count (inl less) =
    let one : one_if (get_or states i 0 == s) ≤ count_of s states = get_or-le-sum_by (λ x. cond (x == s) 1 0) states i 0 low in
    let same : one_if (get_or states i 0 == s) ≡ one_if (was == s) = ap (λ x. one_if (x == s)) is in
    omega (arith, one, same, count, less)
no_miscount s was n i states low is few count (inr full) =
    let most : count_of s states ≤ length states = count_by-le-length (λ x. x == s) states in
    omega (arith, most, few, count, full)

pub wrong_count : (at : ℕ → List ℕ) (g : Group) (h : GroupHeader) (was i : ℕ) → h ≡ group_header (blocks_of at g) → i < g.count → g.count ≤ most_blocks → state_at (bitmap_of (blocks_of at g)) i ≡ was
    → IsMiscounted h.free (was == 0) ⊎ IsMiscounted h.dinodes (was == 3) → IsBroken at g 6 g.addr
wrong_count at g h was i header low few is wrong =
    let states = states_in (blocks_of at g) g.count in
    let long : length states ≡ g.count = length-map-range_with_len (state_at (bitmap_of (blocks_of at g))) 0 g.count in
    let there : get_or states i 0 ≡ was = get_or-map-range_with_len (state_at (bitmap_of (blocks_of at g))) 0 g.count i i 0 low (omega arith) ∙ is in
    elim wrong [
      | inl free ↦ wrong_free (λ same. no_miscount 0 was h.free i states (omega (arith, low, long)) there (omega (arith, few, long)) (ap (λ (x : GroupHeader). x.free) header ∙ same) free)
      | inr dinodes ↦ wrong_dinodes (λ same. no_miscount 3 was h.dinodes i states (omega (arith, low, long)) there (omega (arith, few, long)) (ap (λ (x : GroupHeader). x.dinodes) header ∙ same) dinodes)
    ]
