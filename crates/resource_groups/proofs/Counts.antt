-- Free blocks counted block by block.
use Rattle.std.proofs.Common.{refl, ◌≡◌, ℕ, zero, suc, ◌+◌, ◌-◌, ◌*◌, ◌/◌, ◌^◌, ◌<◌, ◌≤◌, List, length, take, min, sym, ap, ◌∙◌, subst, arith, length-take}
use Rattle.std.specs.Prelude.{◌%◌}
use Rattle.std.proofs.lemmas.List.{get_or-take}
use Rattle.gfs2_layout.specs.Bitmap.{state_at, bitmap_room}
use Rattle.gfs2_layout.specs.Groups.{count_of, states_in}
use Rattle.glock_names.specs.Views.{Seen}
use Rattle.glock_names.specs.declared.views.Group.{Group}
use Rattle.resource_groups.specs.Counting.{states_upto}
use Rattle.resource_groups.specs.Shown.{blocks_of, first_place}
use Rattle.resource_groups.proofs.Bytes.{one_more, zero_is}
use Rattle.resource_groups.proofs.Parts.{room_is}
use Rattle.resource_groups.proofs.FreePlaces.{IsPart, bits_of, there, ends}

-- so many more places, whose states stand in other bits
count_more : (whole part : List ℕ) (base n : ℕ) → ((i : ℕ) → i < n → state_at whole (base + i) ≡ state_at part i)
    → count_of 0 (states_upto whole (base + n)) ≡ count_of 0 (states_upto whole base) + count_of 0 (states_upto part n)
count_more whole part base zero same = ap (λ m. count_of 0 (states_upto whole m)) (none base) ∙ omega arith
  where
    none : (m : ℕ) → m + 0 ≡ m
    none m = omega arith
count_more whole part base (suc n) same =
    let before = count_more whole part base n (λ i low. same i (omega (arith, low))) in
    let one = one_more whole (base + n) in
    let other = one_more part n in
    let last : zero_is (state_at whole (base + n)) ≡ zero_is (state_at part n) = ap zero_is (same n (omega arith)) in
    let to : count_of 0 (states_upto whole (base + suc n)) ≡ count_of 0 (states_upto whole (base + n + 1)) = ap (λ m. count_of 0 (states_upto whole m)) (next base n) in
    let from : count_of 0 (states_upto part (suc n)) ≡ count_of 0 (states_upto part (n + 1)) = ap (λ m. count_of 0 (states_upto part m)) (up n) in
    omega (arith, before, one, other, last, to, from)
  where
    next : (b n : ℕ) → b + suc n ≡ b + n + 1
    next b n = omega arith

    up : (n : ℕ) → suc n ≡ n + 1
    up n = omega arith

quarters : (size k : ℕ) → (q : ℕ) × (first_place size k ≡ 4 * q)
quarters size zero = (0, refl)
quarters size (suc k) = (size - 128 + (suc k - 1) * (size - 24), refl)

-- the blocks of one more block of bits
pub counted_in_part : (v : Seen) (at : ℕ → List ℕ) (g : Group) (k base whole free : ℕ) (bits : List ℕ) → IsPart v at g k base bits → g.count % 4 ≡ 0 → whole ≡ min (length bits) ((g.count - base) / 4)
    → free ≡ count_of 0 (states_upto (take whole bits) (4 * length (take whole bits)))
    → count_of 0 (states_upto (bits_of at g) (min (first_place v.size k) g.count)) + free ≡ count_of 0 (states_upto (bits_of at g) (min (first_place v.size (k + 1)) g.count))
counted_in_part v at g k base whole free bits part four whole_is free_is =
    let q = quarters v.size k in
    let long : length (take whole bits) ≡ whole = length-take whole bits ∙ omega (arith, whole_is) in
    let past : min base g.count + 4 * whole ≡ min (first_place v.size (k + 1)) g.count = omega (arith, whole_is, four, part.base_is, q.1, ends v at g k base bits part) in
    let start : min (first_place v.size k) g.count ≡ min base g.count = ap (λ b. min b g.count) (sym part.base_is) in
    let more = count_more (bits_of at g) (take whole bits) (min base g.count) (4 * whole) states in
    let long_free : free ≡ count_of 0 (states_upto (take whole bits) (4 * whole)) = free_is ∙ ap (λ n. count_of 0 (states_upto (take whole bits) (4 * n))) long in
    ap (λ n. count_of 0 (states_upto (bits_of at g) n) + free) start ∙ ap (λ n. count_of 0 (states_upto (bits_of at g) (min base g.count)) + n) long_free ∙ sym more
    ∙ ap (λ n. count_of 0 (states_upto (bits_of at g) n)) past
  where
    quarter : (i n : ℕ) → i < 4 * n → i / 4 < n
    quarter i n low = omega (arith, low)

    states : (i : ℕ) → i < 4 * whole → state_at (bits_of at g) (min base g.count + i) ≡ state_at (take whole bits) i
    states i low =
        let early : min base g.count ≡ base = omega (arith, low, whole_is) in
        ap (λ b. state_at (bits_of at g) (b + i)) early ∙ there v at g k base bits i part (omega (arith, low, whole_is)) ∙ sym (ap (λ b. b / 4 ^ (i % 4) % 4) (get_or-take whole bits (i / 4) 0 (quarter i whole low)))

-- behind the last block, all are counted
pub all_counted : (at : ℕ → List ℕ) (g : Group) (size part free : ℕ) → 1 ≤ g.length → g.count ≤ bitmap_room size g.length → part ≡ g.length
    → free ≡ count_of 0 (states_upto (bits_of at g) (min (first_place size part) g.count)) → free ≡ count_of 0 (states_in (blocks_of at g) g.count)
all_counted at g size part free some bits last is =
    let room = subst (λ n. g.count ≤ first_place size n) (sym last) (room_is size g.count g.length some bits) in
    let all : min (first_place size part) g.count ≡ g.count = omega (arith, room) in
    is ∙ ap (λ n. count_of 0 (states_upto (bits_of at g) n)) all
