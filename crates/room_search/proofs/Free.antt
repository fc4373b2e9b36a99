-- The free blocks of groups, as lists that rise.
use Rattle.std.proofs.Common.{◌≡◌, ℕ, zero, suc, ◌+◌, ◌-◌, ◌≤◌, ◌==◌, inl, inr, List, [], ◌∷◌, cond, length, map, refl, sym, ap, ap₂, ◌∙◌, arith}
use Rattle.std.specs.Prelude.{count_by}
use Rattle.std.specs.List.{range_with_len}
use Rattle.std.proofs.lemmas.Bool.{cases_lt, eq-eqb, eqb-true}
use Rattle.std.proofs.lemmas.List.Sums.{sum_by-cons, length-filter}
use Rattle.gfs2_layout.specs.Bitmap.{state_at}
use Rattle.gfs2_layout.specs.Groups.{bitmap_of, states_in, count_of}
use Rattle.glock_names.specs.Views.{Seen, IsView, HasGroup, Rise, end_of}
use Rattle.glock_names.specs.declared.views.Group.{Group}
use Rattle.resource_groups.specs.Finding.{NoneIsFree, IsLeastFree}
use Rattle.resource_groups.specs.Shown.{IsDataOf, blocks_of, said}
use Rattle.resource_groups.proofs.Fits.{fit_of}
use Rattle.image_model.proofs.Members.{IsIn, in_either, in_filter, in_range, from_filter, from_range}
use Rattle.image_model.proofs.Rising.{Rising, rising_filter, rising_range}
use Rattle.room_search.specs.Blocks.{States, free_in, free_in_all}
use Rattle.room_search.proofs.Lists.{above, all_above, next_above, none_above, rising_append}

-- ---- how many

back : (a k : ℕ) → k ≡ (a + k) - a
back a k = omega arith

next : (a k : ℕ) → a + (k + 1) ≡ a + k + 1
next a k = omega arith

counted : (f : ℕ → ℕ) (first n k : ℕ) → count_by (λ s. s == 0) (map f (range_with_len k n)) ≡ count_by (λ b. f (b - first) == 0) (range_with_len (first + k) n)
counted f first zero k = refl
counted f first (suc n) k =
    sum_by-cons (λ s. cond (s == 0) 1 0) (f k) (map f (range_with_len (k + 1) n))
    ∙ ap₂ (λ x y. x + y) (ap (λ i. cond (f i == 0) 1 0) (back first k)) (counted f first n (k + 1) ∙ ap (λ x. count_by (λ b. f (b - first) == 0) (range_with_len x n)) (next first k))
    ∙ sym (sum_by-cons (λ b. cond (f (b - first) == 0) 1 0) (first + k) (range_with_len (first + k + 1) n))

pub free_count : (at : ℕ → List ℕ) (g : Group) → count_of 0 (states_in (blocks_of at g) g.count) ≡ length (free_in (said at) g)
free_count at g =
    let first : g.first + 0 ≡ g.first = omega arith in
    counted (state_at (bitmap_of (blocks_of at g))) g.first g.count 0
    ∙ ap (λ x. count_by (λ b. said at g b == 0) (range_with_len x g.count)) first
    ∙ sym (length-filter (λ b. said at g b == 0) (range_with_len g.first g.count))

-- ---- which

pub record IsFreeOf (says : States) (g : Group) (b : ℕ) : Type 0 where
  pub data_block : IsDataOf g b
  pub free : says g b ≡ 0

pub in_free : (says : States) (g : Group) (b : ℕ) → IsFreeOf says g b → IsIn b (free_in says g)
in_free says g b is =
    in_filter (λ c. says g c == 0) b (range_with_len g.first g.count) (in_range g.first g.count b is.data_block.low is.data_block.high) (eq-eqb (says g b) 0 is.free)

pub from_free : (says : States) (g : Group) (b : ℕ) → IsIn b (free_in says g) → IsFreeOf says g b
from_free says g b there =
    let f = from_filter (λ c. says g c == 0) b (range_with_len g.first g.count) there in
    let r = from_range g.first g.count b f.0 in
    record { data_block = record { low = r.0; high = r.1 }; free = eqb-true (says g b) 0 f.1 }

pub free_rises : (says : States) (g : Group) → Rising (free_in says g)
free_rises says g = rising_filter (λ b. says g b == 0) (range_with_len g.first g.count) (rising_range g.first g.count)

-- ---- of all groups

at_least : (says : States) (size least : ℕ) (gs : List Group) (b : ℕ) → Rise size least gs → IsIn b (free_in_all says gs) → least ≤ b
at_least says size least [] b rise there = elim there [ ]
at_least says size least (g ∷ gs) b rise there = elim (in_either b (free_in says g) (free_in_all says gs) there) [
  | inl own ↦ let is = from_free says g b own in omega (arith, is.data_block.low, rise.0.first, rise.1)
  | inr later ↦ let low = at_least says size (end_of g) gs b rise.2 later in omega (arith, low, rise.0.first, rise.1)
]

pub all_rise : (says : States) (size least : ℕ) (gs : List Group) → Rise size least gs → Rising (free_in_all says gs)
all_rise says size least [] rise = tt
all_rise says size least (g ∷ gs) rise =
    rising_append (free_in says g) (free_in_all says gs) (free_rises says g) (all_rise says size (end_of g) gs rise.2)
    (λ x y own later. let is = from_free says g x own in let low = at_least says size (end_of g) gs y rise.2 later in omega (arith, is.data_block.high, low))

-- ---- above a block

module _ (v : Seen) (at : ℕ → List ℕ) (g : Group) (view : IsView v) (has : HasGroup v g) where
  pub from_first : above 0 (free_in (said at) g) ≡ free_in (said at) g
  from_first = all_above 0 (free_in (said at) g) (λ b there. let is = from_free (said at) g b there in let fit = fit_of v g view has in omega (arith, is.data_block.low, fit.first, fit.above))

  pub none_behind : (after : ℕ) → NoneIsFree at g after (end_of g) → above after (free_in (said at) g) ≡ []
  none_behind after none = none_above after (free_in (said at) g) (λ b there. low b (from_free (said at) g b there))
    where
      low : (b : ℕ) → IsFreeOf (said at) g b → b ≤ after
      low b is = elim (cases_lt after b) [
        | inl behind ↦ absurd (none b is.data_block behind is.data_block.high is.free)
        | inr before ↦ before
      ]

  pub least_behind : (after b : ℕ) → IsLeastFree at g after b → above after (free_in (said at) g) ≡ b ∷ above b (free_in (said at) g)
  least_behind after b is =
      next_above (free_in (said at) g) after b (free_rises (said at) g) (in_free (said at) g b (record { data_block = is.own; free = is.free })) is.above
      (λ c there low. let f = from_free (said at) g c there in elim (cases_lt c b) [
        | inl lower ↦ absurd (is.least c f.data_block low lower f.free)
        | inr beyond ↦ beyond
      ])
