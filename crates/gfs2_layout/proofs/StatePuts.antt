-- What a group's blocks say after a state is put, and after it is put at several places.
use Rattle.std.proofs.Common.{refl, ◌≡◌, ◌≢◌, ◌⊎◌, inl, inr, ℕ, zero, suc, ◌+◌, ◌-◌, ◌*◌, ◌<◌, ◌≤◌, ◌==◌, Bool, true, false, List, [], ◌∷◌, ◌++◌, length, get_or, set, sym, ap, ◌∙◌, subst, arith, cond, ap₂}
use Rattle.std.specs.Prelude.{map, filter, not, nat_lt, slice_set, slice_index_or, Contains, ◌||◌, ◌&&◌}
use Rattle.std.specs.List.{range_with_len, AllByRecursion, list_any}
use Rattle.std.proofs.lemmas.Bool.{cases_Bool, cases_eq, cases_lt, eq-eqb, ne_eqb, lt-ltb, le-ltb}
use Rattle.std.proofs.lemmas.List.{length-set, map-append}
use Rattle.std.proofs.lemmas.List.Elements.{filter-append}
use Rattle.std.proofs.lemmas.List.Sums.{sum_by-set}
use Rattle.std.proofs.lemmas.List.FromFn.{length-map-range_with_len}
use Rattle.gfs2_layout.specs.Headers.{HasHeader}
use Rattle.gfs2_layout.specs.Bitmap.{state_at, with_state}
use Rattle.gfs2_layout.specs.Groups.{bitmap_of, group_header, states_in, count_of, one_if, uncounted, IsStatePut}
use Rattle.gfs2_layout.specs.States.{AreStatesPut, is_among, places_in}
use Rattle.gfs2_layout.proofs.BitmapLaws.{state_same, state_other}

pub map_same : {X : Type 0} (f g : ℕ → X) (a n : ℕ) → ((b : ℕ) → a ≤ b → b < a + n → f b ≡ g b) → map f (range_with_len a n) ≡ map g (range_with_len a n)
map_same f g a zero each = refl
map_same f g a (suc n) each = λ i. each a (omega arith) (omega arith) i ∷ map_same f g (a + 1) n (λ b low high. each b (omega (arith, low)) (omega (arith, high))) i

-- ---- a list with one element put

from_zero : (i : ℕ) → 0 + i ≡ i
from_zero i = omega arith

set_map : {X : Type 0} (f f' : ℕ → X) (a n i : ℕ) (x : X) → i < n → f' (a + i) ≡ x → ((b : ℕ) → b ≢ a + i → f' b ≡ f b) → map f' (range_with_len a n) ≡ set (map f (range_with_len a n)) i x
set_map f f' a zero i x low here others = absurd (omega (arith, low))
set_map f f' a (suc n) zero x low here others = λ j. first j ∷ rest j
  where
    first : f' a ≡ x
    first = ap f' (omega arith) ∙ here

    rest : map f' (range_with_len (a + 1) n) ≡ map f (range_with_len (a + 1) n)
    rest = map_same f' f (a + 1) n (λ b low high. others b (λ e. absurd (omega (arith, low, e))))
set_map f f' a (suc n) (suc i) x low here others = λ j. first j ∷ set_map f f' (a + 1) n i x (omega (arith, low)) (ap f' (omega arith) ∙ here) (λ b d. others b (λ e. d (omega (arith, e)))) j
  where
    first : f' a ≡ f a
    first = others a (λ e. absurd (omega (arith, e)))

pub states_put : (bitmap bitmap' : List ℕ) (n i state : ℕ) → i < n → i < 4 * length bitmap → state < 4 → bitmap' ≡ with_state bitmap i state
    → map (state_at bitmap') (range_with_len 0 n) ≡ slice_set (map (state_at bitmap) (range_with_len 0 n)) i state
states_put bitmap bitmap' n i state low inside four put = set_map (state_at bitmap) (state_at bitmap') 0 n i state low
    (ap (state_at bitmap') (from_zero i) ∙ ap (λ b. state_at b i) put ∙ state_same bitmap i state inside four)
    (λ b d. ap (λ c. state_at c b) put ∙ state_other bitmap i state b four (λ e. d (e ∙ sym (from_zero i))))

-- ---- counts

counts_put : (x : ℕ) (states : List ℕ) (i state : ℕ) → i < length states → count_of x (slice_set states i state) + one_if (get_or states i 0 == x) ≡ count_of x states + one_if (state == x)
counts_put x states i state low = sum_by-set (λ s. cond (s == x) 1 0) states i state 0 low

pub get_map : {X : Type 0} (f : ℕ → X) (a n i : ℕ) (d : X) → i < n → get_or (map f (range_with_len a n)) i d ≡ f (a + i)
get_map f a zero i d low = absurd (omega (arith, low))
get_map f a (suc n) zero d low = ap f (omega arith)
get_map f a (suc n) (suc i) d low = get_map f (a + 1) n i d (omega (arith, low)) ∙ ap f (omega arith)

-- a count of the states that are said, which follows a state that is put
pub count_put : (bitmap bitmap' : List ℕ) (n i state x before after : ℕ) → i < n → i < 4 * length bitmap → state < 4 → bitmap' ≡ with_state bitmap i state
    → before ≡ count_of x (map (state_at bitmap) (range_with_len 0 n)) → after + one_if (state_at bitmap i == x) ≡ before + one_if (state == x)
    → after ≡ count_of x (map (state_at bitmap') (range_with_len 0 n))
count_put bitmap bitmap' n i state x before after low inside four put is follows =
    let states = map (state_at bitmap) (range_with_len 0 n) in
    let long : i < length states = subst (λ m. i < m) (sym (length-map-range_with_len (state_at bitmap) 0 n)) low in
    let was : get_or states i 0 ≡ state_at bitmap i = get_map (state_at bitmap) 0 n i 0 low ∙ ap (state_at bitmap) (from_zero i) in
    let old_is : one_if (get_or states i 0 == x) ≡ one_if (state_at bitmap i == x) = ap (λ s. one_if (s == x)) was in
    let new_is : count_of x (map (state_at bitmap') (range_with_len 0 n)) ≡ count_of x (slice_set states i state) = ap (count_of x) (states_put bitmap bitmap' n i state low inside four put) in
    omega (arith, is, follows, counts_put x states i state long, old_is, new_is)

long_put : (old new : List (List ℕ)) (i state : ℕ) → IsStatePut old new i state → length (bitmap_of new) ≡ length (bitmap_of old)
long_put old new i state put = ap length put.bits ∙ simp length-set

-- ---- at several places

pub puts_on : (old mid new : List (List ℕ)) (places more : List ℕ) (state : ℕ) → AreStatesPut old mid places state → AreStatesPut mid new more state → AreStatesPut old new (places ++ more) state
puts_on old mid new [] more state are on = subst (λ blocks. AreStatesPut blocks new more state) are on
puts_on old mid new (i ∷ places) more state are on = (are.0, are.1, puts_on are.0 mid new places more state are.2 on)

pub puts_header : (old new : List (List ℕ)) (places : List ℕ) (state : ℕ) → AreStatesPut old new places state → HasHeader 2 200 (slice_index_or old 0 []) → HasHeader 2 200 (slice_index_or new 0 [])
puts_header old new [] state are has = subst (λ blocks. HasHeader 2 200 (slice_index_or blocks 0 [])) (sym are) has
puts_header old new (i ∷ places) state are has = puts_header are.0 new places state are.2 are.1.header

pub puts_more : (old new : List (List ℕ)) (places : List ℕ) (state k : ℕ) → AreStatesPut old new places state → 0 < k → HasHeader 3 300 (slice_index_or old k []) → HasHeader 3 300 (slice_index_or new k [])
puts_more old new [] state k are some has = subst (λ blocks. HasHeader 3 300 (slice_index_or blocks k [])) (sym are) has
puts_more old new (i ∷ places) state k are some has = puts_more are.0 new places state k are.2 some (are.1.more k some has)

pub puts_others : (old new : List (List ℕ)) (places : List ℕ) (state : ℕ) → AreStatesPut old new places state → uncounted (group_header new) ≡ uncounted (group_header old)
puts_others old new [] state are = ap (λ blocks. uncounted (group_header blocks)) are
puts_others old new (i ∷ places) state are = puts_others are.0 new places state are.2 ∙ are.1.others

pub puts_free : (old new : List (List ℕ)) (places : List ℕ) (n state : ℕ) → AllByRecursion (λ i. i < n) places → n ≤ 4 * length (bitmap_of old) → state < 4 → AreStatesPut old new places state
    → (group_header old).free ≡ count_of 0 (states_in old n) → (group_header new).free ≡ count_of 0 (states_in new n)
puts_free old new [] n state low long four are is = subst (λ blocks. (group_header blocks).free ≡ count_of 0 (states_in blocks n)) (sym are) is
puts_free old new (i ∷ places) n state low long four are is =
    puts_free are.0 new places n state low.1 (omega (arith, long, long_put old are.0 i state are.1)) four are.2
    (count_put (bitmap_of old) (bitmap_of are.0) n i state 0 (group_header old).free (group_header are.0).free low.0 (omega (arith, low.0, long)) four are.1.bits is are.1.free)

pub puts_dinodes : (old new : List (List ℕ)) (places : List ℕ) (n state : ℕ) → AllByRecursion (λ i. i < n) places → n ≤ 4 * length (bitmap_of old) → state < 4 → AreStatesPut old new places state
    → (group_header old).dinodes ≡ count_of 3 (states_in old n) → (group_header new).dinodes ≡ count_of 3 (states_in new n)
puts_dinodes old new [] n state low long four are is = subst (λ blocks. (group_header blocks).dinodes ≡ count_of 3 (states_in blocks n)) (sym are) is
puts_dinodes old new (i ∷ places) n state low long four are is =
    puts_dinodes are.0 new places n state low.1 (omega (arith, long, long_put old are.0 i state are.1)) four are.2
    (count_put (bitmap_of old) (bitmap_of are.0) n i state 3 (group_header old).dinodes (group_header are.0).dinodes low.0 (omega (arith, low.0, long)) four are.1.bits is are.1.dinodes)

-- the place is one of these
abbrev pub is_one : ℕ → List ℕ → Bool
is_one i places = list_any (λ j. j == i) places

either : (t : Bool) (x : ℕ) → cond t x x ≡ x
either true x = refl
either false x = refl

pub puts_said : (old new : List (List ℕ)) (places : List ℕ) (n state i : ℕ) → AllByRecursion (λ j. j < n) places → n ≤ 4 * length (bitmap_of old) → state < 4 → AreStatesPut old new places state
    → state_at (bitmap_of new) i ≡ cond (is_one i places) state (state_at (bitmap_of old) i)
puts_said old new [] n state i low long four are = ap (λ blocks. state_at (bitmap_of blocks) i) are
puts_said old new (j ∷ places) n state i low long four are =
    puts_said are.0 new places n state i low.1 (omega (arith, long, long_put old are.0 j state are.1)) four are.2 ∙ ends (cases_Bool (is_one i places)) (cases_eq j i)
  where
    next : List (List ℕ)
    next = are.0

    ends : (is_one i places ≡ true) ⊎ (is_one i places ≡ false) → (j ≡ i) ⊎ (j ≡ i → ⊥)
        → cond (is_one i places) state (state_at (bitmap_of are.0) i) ≡ cond ((j == i) || is_one i places) state (state_at (bitmap_of old) i)
    ends rest (inl same) =
        let here : state_at (bitmap_of are.0) i ≡ state = ap (λ b. state_at b i) are.1.bits ∙ ap (state_at (with_state (bitmap_of old) j state)) (sym same) ∙ state_same (bitmap_of old) j state (omega (arith, low.0, long)) four in
        ap (cond (is_one i places) state) here ∙ either (is_one i places) state ∙ sym (ap (λ t. cond (t || is_one i places) state (state_at (bitmap_of old) i)) (eq-eqb j i same))
    ends rest (inr other) =
        ap (cond (is_one i places) state) (ap (λ b. state_at b i) are.1.bits ∙ state_other (bitmap_of old) j state i four (λ e. other (sym e)))
        ∙ sym (ap (λ t. cond (t || is_one i places) state (state_at (bitmap_of old) i)) (ne_eqb j i other))

-- ---- which places are meant

among_yes : (first count b : ℕ) → first ≤ b → b < first + count → is_among first count b ≡ true
among_yes first count b low high = ap (λ t. not t && nat_lt b (first + count)) (le-ltb b first low) ∙ lt-ltb b (first + count) high

among_no : (first count b : ℕ) → (b < first) ⊎ (first + count ≤ b) → is_among first count b ≡ false
among_no first count b (inl before) = ap (λ t. not t && nat_lt b (first + count)) (lt-ltb b first before)
among_no first count b (inr behind) = ap (λ t. not (nat_lt b first) && t) (le-ltb b (first + count) behind) ∙ never (not (nat_lt b first))
  where
    never : (t : Bool) → (t && false) ≡ false
    never true = refl
    never false = refl

pub places_with : (first count b : ℕ) (blocks : List ℕ) → first ≤ b → b < first + count → places_in first count (b ∷ blocks) ≡ (b - first) ∷ places_in first count blocks
places_with first count b blocks low high =
    ap (λ t. map (λ c. c - first) (cond t (b ∷ filter (is_among first count) blocks) (filter (is_among first count) blocks))) (among_yes first count b low high)

pub places_without : (first count b : ℕ) (blocks : List ℕ) → (b < first) ⊎ (first + count ≤ b) → places_in first count (b ∷ blocks) ≡ places_in first count blocks
places_without first count b blocks out =
    ap (λ t. map (λ c. c - first) (cond t (b ∷ filter (is_among first count) blocks) (filter (is_among first count) blocks))) (among_no first count b out)

pub places_append : (first count : ℕ) (blocks more : List ℕ) → places_in first count (blocks ++ more) ≡ places_in first count blocks ++ places_in first count more
places_append first count blocks more =
    ap (map (λ c. c - first)) (filter-append (is_among first count) blocks more) ∙ map-append (λ c. c - first) (filter (is_among first count) blocks) (filter (is_among first count) more)

-- where a block is
pub cases_among : (first count b : ℕ) → ((first ≤ b) × (b < first + count)) ⊎ ((b < first) ⊎ (first + count ≤ b))
cases_among first count b = elim (cases_lt b first) [
  | inl before ↦ inr (inl before)
  | inr low ↦ elim (cases_lt b (first + count)) [
    | inl high ↦ inl (low, high)
    | inr behind ↦ inr (inr behind)
  ]
]

pub places_low : (first count : ℕ) (blocks : List ℕ) → AllByRecursion (λ i. i < count) (places_in first count blocks)
places_low first count [] = tt
places_low first count (b ∷ blocks) = elim (cases_among first count b) [
  | inl (low, high) ↦ subst (AllByRecursion (λ i. i < count)) (sym (places_with first count b blocks low high)) (omega (arith, low, high), places_low first count blocks)
  | inr out ↦ subst (AllByRecursion (λ i. i < count)) (sym (places_without first count b blocks out)) (places_low first count blocks)
]

pub one_among : (first count i : ℕ) (blocks : List ℕ) → i < count → is_one i (places_in first count blocks) ≡ list_any (λ b. b == first + i) blocks
one_among first count i [] within = refl
one_among first count i (b ∷ blocks) within = elim (cases_among first count b) [
  | inl (low, high) ↦ ap (is_one i) (places_with first count b blocks low high)
      ∙ ap₂ (λ t r. t || r) (same low) (one_among first count i blocks within)
  | inr out ↦ ap (is_one i) (places_without first count b blocks out) ∙ one_among first count i blocks within
      ∙ sym (ap (λ t. t || list_any (λ b. b == first + i) blocks) (ne_eqb b (first + i) (λ e. other out e)))
]
  where
    same : first ≤ b → (b - first == i) ≡ (b == first + i)
    same low = elim (cases_eq b (first + i)) [
      | inl here ↦ eq-eqb (b - first) i (omega (arith, here)) ∙ sym (eq-eqb b (first + i) here)
      | inr there ↦ ne_eqb (b - first) i (λ e. there (omega (arith, e, low))) ∙ sym (ne_eqb b (first + i) there)
    ]

    other : (b < first) ⊎ (first + count ≤ b) → b ≡ first + i → ⊥
    other (inl before) e = omega (arith, before, e)
    other (inr behind) e = omega (arith, behind, e, within)

-- ---- whether a list has a number

pub has_any : (xs : List ℕ) (x : ℕ) → list_any (λ y. y == x) xs ≡ true → Contains xs x
has_any [] x is = absurd (cc)
has_any (y ∷ xs) x is = elim (cases_eq y x) [
  | inl same ↦ (0, omega arith, same)
  | inr other ↦
      let rest = has_any xs x (sym (ap (λ t. t || list_any (λ z. z == x) xs) (ne_eqb y x other)) ∙ is) in
      (suc rest.0, omega (arith, rest.1), rest.2)
]

pub any_has : (xs : List ℕ) (x : ℕ) → Contains xs x → list_any (λ y. y == x) xs ≡ true
any_has [] x has = absurd (omega (arith, has.1))
any_has (y ∷ xs) x (zero, low, is) = ap (λ t. t || list_any (λ z. z == x) xs) (eq-eqb y x is)
any_has (y ∷ xs) x (suc k, low, is) = ap (λ t. (y == x) || t) (any_has xs x (k, omega (arith, low), is)) ∙ always (y == x)
  where
    always : (t : Bool) → (t || true) ≡ true
    always true = refl
    always false = refl
