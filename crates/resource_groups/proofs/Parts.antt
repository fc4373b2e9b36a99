-- The bits of a group, by the blocks in which they stand.
use Rattle.std.proofs.Common.{refl, ◌≡◌, ◌≢◌, ℕ, zero, suc, ◌+◌, ◌-◌, ◌*◌, ◌/◌, ◌^◌, ◌<◌, ◌≤◌, List, [], ◌∷◌, ◌++◌, length, drop, take, map, get_or, sym, ap, ap₂, ◌∙◌, Option, None, Some, Ok, arith, append_assoc, take_all, length-drop}
use Rattle.std.specs.Prelude.{◌%◌, flat_map}
use Rattle.std.specs.List.{range_with_len}
use Rattle.std.proofs.lemmas.List.{length-append, get_or_append_left, get_or-append-add, map-append}
use Rattle.std.proofs.lemmas.List.Concat.{flat_map-append}
use Rattle.std.proofs.lemmas.List.FromFn.{get_or-map-range_with_len}
use Rattle.std.proofs.Math.Nat.{suc-mul}
use Rattle.gfs2_layout.specs.Bitmap.{state_at, bitmap_room}
use Rattle.gfs2_layout.specs.Groups.{bitmap_of, group_header}
use Rattle.gfs2_layout.specs.Structures.{group_of, group_read, header_fault, answer}
use Rattle.gfs2_layout.specs.declared.fault.LayoutFault.{LayoutFault}
use Rattle.gfs2_layout.specs.declared.group_header.GroupHeader.{GroupHeader}
use Rattle.glock_names.specs.Views.{Seen}
use Rattle.glock_names.specs.declared.views.Group.{Group}
use Rattle.resource_groups.specs.Shown.{IsShown, blocks_of, first_place, bits_at}
use Rattle.resource_groups.proofs.Fits.{header_block}

-- all that is behind the first so many
pub behind : {X : Type 0} (n : ℕ) (xs : List X) → take (length xs - n) (drop n xs) ≡ drop n xs
behind n xs = ap (λ k. take k (drop n xs)) (sym (length-drop n xs)) ∙ take_all (length (drop n xs)) (drop n xs) (omega arith)

-- ---- the parts of a bitmap

-- the bits of so many further blocks
abbrev pub further : (ℕ → List ℕ) → ℕ → ℕ → List ℕ
further at b n = flat_map (λ bytes. drop 24 bytes) (map at (range_with_len b n))

-- those before the bits of block k, and those behind them
abbrev pub front : (ℕ → List ℕ) → Group → ℕ → List ℕ
front at g zero = []
front at g (suc k) = drop 128 (at g.addr) ++ further at (g.addr + 1) k

abbrev pub back : (ℕ → List ℕ) → Group → ℕ → List ℕ
back at g k = further at (g.addr + k + 1) (g.length - k - 1)

range_append : (a n m : ℕ) → range_with_len a (n + m) ≡ range_with_len a n ++ range_with_len (a + n) m
range_append a zero m = ap₂ range_with_len (none a) (left m)
  where
    none : (n : ℕ) → n ≡ n + 0
    none n = omega arith

    left : (n : ℕ) → 0 + n ≡ n
    left n = omega arith
range_append a (suc n) m = ap (range_with_len a) (next n m) ∙ ap (λ (xs : List ℕ). a ∷ xs) (range_append (a + 1) n m ∙ ap (λ k. range_with_len (a + 1) n ++ range_with_len k m) (turn a n))
  where
    turn : (a n : ℕ) → a + 1 + n ≡ a + suc n
    turn a n = omega arith

    next : (n m : ℕ) → suc n + m ≡ suc (n + m)
    next n m = omega arith

further_append : (at : ℕ → List ℕ) (b n m : ℕ) → further at b (n + m) ≡ further at b n ++ further at (b + n) m
further_append at b n m = ap (λ r. flat_map (λ bytes. drop 24 bytes) (map at r)) (range_append b n m)
    ∙ ap (flat_map (λ bytes. drop 24 bytes)) (map-append at (range_with_len b n) (range_with_len (b + n) m))
    ∙ flat_map-append (λ bytes. drop 24 bytes) (map at (range_with_len b n)) (map at (range_with_len (b + n) m))

-- the bitmap is the bits of block k between those before and behind
pub parted : (at : ℕ → List ℕ) (g : Group) (k : ℕ) → k < g.length → bitmap_of (blocks_of at g) ≡ front at g k ++ (bits_at at g k ++ back at g k)
parted at g zero low = ap (λ n. bitmap_of (map at (range_with_len g.addr n))) (first low) ∙ ap (λ b. drop 128 (at g.addr) ++ further at b (g.length - 0 - 1)) (place g.addr)
  where
    first : {n : ℕ} → 0 < n → n ≡ suc (n - 0 - 1)
    first low = omega (arith, low)

    place : (a : ℕ) → a + 1 ≡ a + 0 + 1
    place a = omega arith
parted at g (suc k) low = ap (λ n. bitmap_of (map at (range_with_len g.addr n))) (split low)
    ∙ ap (λ xs. drop 128 (at g.addr) ++ xs) (further_append at (g.addr + 1) k (suc m) ∙ ap (λ b. further at (g.addr + 1) k ++ further at b (suc m)) (turn g.addr k))
    ∙ sym (append_assoc (drop 128 (at g.addr)) (further at (g.addr + 1) k) (bits_at at g (suc k) ++ further at (g.addr + suc k + 1) m))
  where
    m : ℕ
    m = g.length - suc k - 1

    split : {n : ℕ} → suc k < n → n ≡ suc (k + suc (n - suc k - 1))
    split low = omega (arith, low)

    turn : (a k : ℕ) → a + 1 + k ≡ a + suc k
    turn a k = omega arith

-- ---- how long they are

length_further : (at : ℕ → List ℕ) (size b n : ℕ) → 24 ≤ size → ((c : ℕ) → b ≤ c → c < b + n → length (at c) ≡ size) → length (further at b n) ≡ n * (size - 24)
length_further at size b zero big whole = omega arith
length_further at size b (suc n) big whole =
    let one : length (drop 24 (at b)) ≡ size - 24 = length-drop 24 (at b) ∙ ap (λ l. l - 24) (whole b (omega arith) (omega arith)) in
    let rest = length_further at size (b + 1) n big (λ c low high. whole c (omega (arith, low)) (omega (arith, high))) in
    length-append (drop 24 (at b)) (further at (b + 1) n) ∙ omega (arith, one, rest, suc-mul n (size - 24))

-- the first place of block k stands behind all bits before
pub length_front : (v : Seen) (at : ℕ → List ℕ) (g : Group) (k : ℕ) → k < g.length → 512 ≤ v.size → IsShown v g at → 4 * length (front at g k) ≡ first_place v.size k
length_front v at g zero low big shown = refl
length_front v at g (suc k) low big shown =
    let head : length (drop 128 (at g.addr)) ≡ v.size - 128 = length-drop 128 (at g.addr) ∙ ap (λ l. l - 128) (shown.whole g.addr (record { low = omega arith; high = omega (arith, low) })) in
    let rest = length_further at v.size (g.addr + 1) k (omega (arith, big)) (λ c first last. shown.whole c (record { low = omega (arith, first); high = omega (arith, last, low) })) in
    let joined = length-append (drop 128 (at g.addr)) (further at (g.addr + 1) k) in
    let less : (suc k - 1) * (v.size - 24) ≡ k * (v.size - 24) = ap (λ m. m * (v.size - 24)) (omega arith) in
    omega (arith, head, rest, joined, less)

pub next_place : (size k : ℕ) → first_place size (suc k + 1) ≡ first_place size (suc k) + 4 * (size - 24)
next_place size k =
    let less : (suc k - 1) * (size - 24) ≡ k * (size - 24) = ap (λ m. m * (size - 24)) (one k) in
    let more : (suc (suc k) - 1) * (size - 24) ≡ k * (size - 24) + (size - 24) = ap (λ m. m * (size - 24)) (two k) ∙ suc-mul k (size - 24) in
    ap (first_place size) (after k) ∙ omega (arith, less, more)
  where
    after : (k : ℕ) → suc k + 1 ≡ suc (suc k)
    after k = omega arith

    one : (k : ℕ) → suc k - 1 ≡ k
    one k = omega arith

    two : (k : ℕ) → suc (suc k) - 1 ≡ suc k
    two k = omega arith

pub length_bits : (v : Seen) (at : ℕ → List ℕ) (g : Group) (k : ℕ) → k < g.length → 512 ≤ v.size → IsShown v g at → first_place v.size k + 4 * length (bits_at at g k) ≡ first_place v.size (k + 1)
length_bits v at g zero low big shown =
    let head : length (drop 128 (at g.addr)) ≡ v.size - 128 = length-drop 128 (at g.addr) ∙ ap (λ l. l - 128) (shown.whole g.addr (record { low = omega arith; high = omega (arith, low) })) in
    omega (arith, head)
length_bits v at g (suc k) low big shown =
    let one : length (drop 24 (at (g.addr + suc k))) ≡ v.size - 24 = length-drop 24 (at (g.addr + suc k)) ∙ ap (λ l. l - 24) (shown.whole (g.addr + suc k) (record { low = omega arith; high = omega (arith, low) })) in
    omega (arith, next_place v.size k, one)

pub room_is : (size count len : ℕ) → 1 ≤ len → count ≤ bitmap_room size len → count ≤ first_place size len
room_is size count zero some low = absurd (omega (arith, some))
room_is size count (suc len) some low = low

-- ---- a state by its block

places_apart : (bits rest : List ℕ) (n i : ℕ) → 4 * length bits ≡ n → state_at (bits ++ rest) (n + i) ≡ state_at rest i
places_apart bits rest n i long =
    ap₂ (λ j k. get_or (bits ++ rest) j 0 / 4 ^ k % 4) (quarter (length bits) n i long) (left (length bits) n i long) ∙ ap (λ b. b / 4 ^ (i % 4) % 4) (get_or-append-add bits rest (i / 4) 0)
  where
    quarter : (l n i : ℕ) → 4 * l ≡ n → (n + i) / 4 ≡ l + i / 4
    quarter l n i long = omega (arith, long)

    left : (l n i : ℕ) → 4 * l ≡ n → (n + i) % 4 ≡ i % 4
    left l n i long = omega (arith, long)

places_within : (bits rest : List ℕ) (i : ℕ) → i < 4 * length bits → state_at (bits ++ rest) i ≡ state_at bits i
places_within bits rest i low = ap (λ b. b / 4 ^ (i % 4) % 4) (get_or_append_left bits rest 0 (i / 4) (quarter i (length bits) low))
  where
    quarter : (i n : ℕ) → i < 4 * n → i / 4 < n
    quarter i n low = omega (arith, low)

-- the state of a place stands in the block that has its bits
pub state_by_block : (v : Seen) (at : ℕ → List ℕ) (g : Group) (k i : ℕ) → k < g.length → 512 ≤ v.size → IsShown v g at → i < 4 * length (bits_at at g k)
    → state_at (bitmap_of (blocks_of at g)) (first_place v.size k + i) ≡ state_at (bits_at at g k) i
state_by_block v at g k i low big shown within =
    ap (λ bits. state_at bits (first_place v.size k + i)) (parted at g k low)
    ∙ places_apart (front at g k) (bits_at at g k ++ back at g k) (first_place v.size k) i (length_front v at g k low big shown)
    ∙ places_within (bits_at at g k) (back at g k) i within

-- ---- what is read of them

pub first_bits : (v : Seen) (at : ℕ → List ℕ) (g : Group) (k : ℕ) (bytes : List ℕ) → k ≡ 0 → k < g.length → IsShown v g at → v.block_at (g.addr + k) ≡ Some bytes
    → take (length bytes - 128) (drop 128 bytes) ≡ bits_at at g k
first_bits v at g zero bytes is low shown there = behind 128 bytes ∙ ap (drop 128) (sym (shown.same (g.addr + 0) bytes (header_block g 0 low) there) ∙ ap at (omega arith))
first_bits v at g (suc k) bytes is low shown there = absurd (omega (arith, is))

pub more_bits : (v : Seen) (at : ℕ → List ℕ) (g : Group) (k : ℕ) (bytes : List ℕ) → k ≢ 0 → k < g.length → IsShown v g at → v.block_at (g.addr + k) ≡ Some bytes
    → take (length bytes - 24) (drop 24 bytes) ≡ bits_at at g k
more_bits v at g zero bytes some low shown there = absurd (some refl)
more_bits v at g (suc k) bytes some low shown there = behind 24 bytes ∙ ap (drop 24) (sym (shown.same (g.addr + suc k) bytes (header_block g (suc k) low) there))

pub more_long : (size k : ℕ) (bytes : List ℕ) → k ≢ 0 → size ≡ length bytes → first_place size k + 4 * length (take (length bytes - 24) (drop 24 bytes)) ≡ first_place size (k + 1)
more_long size zero bytes some long = absurd (some refl)
more_long size (suc k) bytes some long =
    let taken : length (take (length bytes - 24) (drop 24 bytes)) ≡ length bytes - 24 = ap length (behind 24 bytes) ∙ length-drop 24 bytes in
    omega (arith, next_place size k, taken, long)

pub header_is : (v : Seen) (at : ℕ → List ℕ) (g : Group) (bytes : List ℕ) → 0 < g.length → IsShown v g at → v.block_at (g.addr + 0) ≡ Some bytes → group_of bytes ≡ group_header (blocks_of at g)
header_is v at g bytes some shown there =
    ap group_of (sym (shown.same (g.addr + 0) bytes (header_block g 0 some) there) ∙ sym (get_or-map-range_with_len at g.addr g.length 0 (g.addr + 0) [] some refl))

answered : {A : Type 0} (fault : Option LayoutFault) (x y : A) → answer fault x ≡ Ok y → y ≡ x
answered None x y e = cc
answered (Some fault) x y e = cc

pub read_is : (bytes : List ℕ) (h : GroupHeader) → group_read bytes ≡ Ok h → h ≡ group_of bytes
read_is bytes h read = answered (header_fault 128 2 200 bytes) (group_of bytes) h read
