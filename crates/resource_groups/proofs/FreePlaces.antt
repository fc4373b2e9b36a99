-- The least free place, block by block.
use Rattle.std.proofs.Common.{◌≡◌, ℕ, zero, suc, ◌+◌, ◌-◌, ◌*◌, ◌<◌, ◌≤◌, List, length, min, sym, ap, ◌∙◌, subst, inl, inr, arith}
use Rattle.std.proofs.lemmas.Bool.{cases_lt}
use Rattle.gfs2_layout.specs.Bitmap.{state_at}
use Rattle.gfs2_layout.specs.Groups.{bitmap_of}
use Rattle.glock_names.specs.Views.{Seen, IsView}
use Rattle.glock_names.specs.declared.steps.Missing.{Missing}
use Rattle.glock_names.specs.declared.views.Group.{Group}
use Rattle.resource_groups.specs.Finding.{NoneFrom, IsFirstFree, NoneIsFree, IsLeastFree, IsNeeded}
use Rattle.resource_groups.specs.Shown.{IsShown, IsMissing, HasBitsIn, blocks_of, bits_at, first_place}
use Rattle.resource_groups.proofs.Fits.{big_of}
use Rattle.resource_groups.proofs.Parts.{state_by_block, length_bits, next_place}

abbrev pub bits_of : (ℕ → List ℕ) → Group → List ℕ
bits_of at g = bitmap_of (blocks_of at g)

-- ---- in one block

-- where the bits in block k are these, and its first place is this one
pub record IsPart (v : Seen) (at : ℕ → List ℕ) (g : Group) (k base : ℕ) (bits : List ℕ) : Type 0 where
  pub low : k < g.length
  pub big : 512 ≤ v.size
  pub shown : IsShown v g at
  pub is : bits ≡ bits_at at g k
  pub base_is : base ≡ first_place v.size k

-- as the code reads them: by the view's size of a block
pub is_part : (v : Seen) (at : ℕ → List ℕ) (g : Group) (k base size : ℕ) (bits : List ℕ) → k < g.length → IsView v → IsShown v g at → bits ≡ bits_at at g k → base ≡ first_place size k → size ≡ v.size → IsPart v at g k base bits
is_part v at g k base size bits low view shown is base_is size_is = record { low = low; big = big_of v.size view.block_size; shown = shown; is = is; base_is = base_is ∙ ap (λ s. first_place s k) size_is }

-- a place's state is read in its block
pub there : (v : Seen) (at : ℕ → List ℕ) (g : Group) (k base : ℕ) (bits : List ℕ) (i : ℕ) → IsPart v at g k base bits → i < 4 * length bits → state_at (bits_of at g) (base + i) ≡ state_at bits i
there v at g k base bits i part within =
    ap (λ b. state_at (bits_of at g) (b + i)) part.base_is
    ∙ state_by_block v at g k i part.low part.big part.shown (subst (λ b. i < 4 * length b) part.is within)
    ∙ ap (λ b. state_at b i) (sym part.is)

pub ends : (v : Seen) (at : ℕ → List ℕ) (g : Group) (k base : ℕ) (bits : List ℕ) → IsPart v at g k base bits → base + 4 * length bits ≡ first_place v.size (k + 1)
ends v at g k base bits part =
    ap (λ b. b + 4 * length bits) part.base_is ∙ ap (λ b. first_place v.size k + 4 * length b) part.is ∙ length_bits v at g k part.low part.big part.shown

pub none_in_part : (v : Seen) (at : ℕ → List ℕ) (g : Group) (k base : ℕ) (bits : List ℕ) (from start end : ℕ) → IsPart v at g k base bits → base ≤ from → start ≡ from - base
    → end ≡ min (g.count - base) (4 * length bits) → NoneFrom bits start end → NoneFrom (bits_of at g) from (min (first_place v.size (k + 1)) g.count)
none_in_part v at g k base bits from start end part low start_is end_is none i first last free =
    let long = ends v at g k base bits part in
    let within : i - base < 4 * length bits = omega (arith, low, first, last, long) in
    let whole : base + (i - base) ≡ i = omega (arith, low, first) in
    none (i - base) (omega (arith, start_is, first, low)) (omega (arith, end_is, last, within, first, low))
    (sym (there v at g k base bits (i - base) part within) ∙ ap (state_at (bits_of at g)) whole ∙ free)

pub found_in_part : (v : Seen) (at : ℕ → List ℕ) (g : Group) (k base : ℕ) (bits : List ℕ) (from start end place : ℕ) → IsPart v at g k base bits → base ≤ from → start ≡ from - base
    → end ≡ min (g.count - base) (4 * length bits) → IsFirstFree bits start end place → IsFirstFree (bits_of at g) from g.count (base + place)
found_in_part v at g k base bits from start end place part low start_is end_is is = record {
  low = omega (arith, is.low, start_is, low);
  high = omega (arith, is.high, end_is);
  free = there v at g k base bits place part (omega (arith, is.high, end_is)) ∙ is.free;
  first = λ i first last free.
      let within : i - base < 4 * length bits = omega (arith, last, is.high, end_is, first, low) in
      let whole : base + (i - base) ≡ i = omega (arith, first, low) in
      is.first (i - base) (omega (arith, start_is, first, low)) (omega (arith, last, first, low)) (sym (there v at g k base bits (i - base) part within) ∙ ap (state_at (bits_of at g)) whole ∙ free);
}

-- ---- in all of them

pub first_place_le : (size m d : ℕ) → first_place size m ≤ first_place size (m + d)
first_place_le size m zero = subst (λ n. first_place size m ≤ first_place size n) (none m) (omega arith)
  where
    none : (m : ℕ) → m ≡ m + 0
    none m = omega arith
first_place_le size m (suc d) =
    let before = first_place_le size m d in
    subst (λ n. first_place size m ≤ first_place size n) (next m d) (one (m + d) before)
  where
    next : (m d : ℕ) → m + d + 1 ≡ m + suc d
    next m d = omega arith

    one : (n : ℕ) → first_place size m ≤ first_place size n → first_place size m ≤ first_place size (n + 1)
    one zero low = omega (arith, low)
    one (suc n) low = omega (arith, low, next_place size n)

pub below_next : (size k : ℕ) → 512 ≤ size → first_place size k < first_place size (k + 1)
below_next size zero big = omega (arith, big)
below_next size (suc k) big = omega (arith, big, next_place size k)

-- a place that is one of the group's has its bits in one of its blocks
pub in_group : (size count len k place : ℕ) → 1 ≤ len → count ≤ first_place size len → place < count → HasBitsIn size place k → k < len
in_group size count len k place some room low stands = elim (cases_lt k len) [
  | inl is ↦ is
  | inr far ↦ absurd (omega (arith, room, low, stands.low, subst (λ n. first_place size len ≤ first_place size n) (rest len k far) (first_place_le size len (k - len))))
]
  where
    rest : (len k : ℕ) → len ≤ k → len + (k - len) ≡ k
    rest len k far = omega (arith, far)

pub none_yet : (at : ℕ → List ℕ) (g : Group) (after place : ℕ) → place ≤ after + 1 - g.first → NoneIsFree at g after (g.first + place)
none_yet at g after place low b own above below free = absurd (omega (arith, low, own.low, above, below))

pub none_after : (at : ℕ → List ℕ) (g : Group) (after place next : ℕ) → NoneIsFree at g after (g.first + place) → NoneFrom (bits_of at g) place (min next g.count) → NoneIsFree at g after (g.first + next)
none_after at g after place next before none b own above below free = elim (cases_lt b (g.first + place)) [
  | inl early ↦ before b own above early free
  | inr late ↦ none (b - g.first) (omega (arith, late, own.low)) (omega (arith, below, own.low, own.high)) free
]

pub least_of : (at : ℕ → List ℕ) (g : Group) (after place found : ℕ) → NoneIsFree at g after (g.first + place) → after < g.first + place → IsFirstFree (bits_of at g) place g.count found
    → IsLeastFree at g after (g.first + found)
least_of at g after place found before above is = record {
  own = record { low = omega arith; high = omega (arith, is.high) };
  above = omega (arith, above, is.low);
  free = ap (state_at (bits_of at g)) (back g.first found) ∙ is.free;
  least = λ b own over below free. elim (cases_lt b (g.first + place)) [
    | inl early ↦ before b own over early free
    | inr late ↦ is.first (b - g.first) (omega (arith, late, own.low)) (omega (arith, below, own.low)) free
  ];
}
  where
    back : (f n : ℕ) → f + n - f ≡ n
    back f n = omega arith

pub needs : (v : Seen) (at : ℕ → List ℕ) (g : Group) (after place k : ℕ) (m : Missing) → IsMissing v g m → m.block ≡ g.addr + k → HasBitsIn v.size place k → place < g.count → after < g.first + place
    → NoneIsFree at g after (g.first + place) → IsNeeded v at g after m
needs v at g after place k m missing which stands inside above none = record {
  block = missing;
  some = (g.first + place, record { low = omega arith; high = omega (arith, inside) }, above, subst (λ n. HasBitsIn v.size (g.first + place - g.first) n) (sym number) (subst (λ p. HasBitsIn v.size p k) back stands));
  before = subst (λ n. NoneIsFree at g after (g.first + first_place v.size n)) (sym number) (λ b own over below. none b own over (omega (arith, below, stands.low)));
}
  where
    number : m.block - g.addr ≡ k
    number = omega (arith, which)

    back : place ≡ g.first + place - g.first
    back = omega arith
