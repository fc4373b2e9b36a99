-- A state put into the bits of one of a group's blocks, and the counts put into its header.
use Rattle.std.proofs.Common.{refl, ◌≡◌, ◌≢◌, ℕ, zero, suc, ◌+◌, ◌-◌, ◌*◌, ◌/◌, ◌<◌, ◌≤◌, ◌==◌, List, [], ◌++◌, length, drop, take, get_or, set, sym, ap, ap₂, ◌∙◌, subst, Option, None, Some, Ok, inl, inr, false, arith}
use Rattle.std.specs.Prelude.{◌%◌}
use Rattle.std.specs.FinMap.{FinMap, insert, nat_cmp-IsAntisymmetric}
use Rattle.std.specs.Ordering.{nat_cmp}
use Rattle.std.specs.Cmp.{nat_cmp_total}
use Rattle.std.proofs.lemmas.Bool.{cases_eq, cases_lt}
use Rattle.std.proofs.lemmas.List.{get_or_append_left, get_or-append-add, set-append_left, set-append_right, get_or_past, take_at, drop_at, length-take-le}
use Rattle.std.proofs.lemmas.List.FromFn.{get_or-map-range_with_len, length-map-range_with_len}
use Rattle.finite_maps.proofs.Keys.{inserted_at, inserted_apart}
use Rattle.drafts.specs.Fates.{block_with, seen_with}
use Rattle.drafts.specs.declared.fate.Fate.{Fate}
use Rattle.drafts.specs.declared.fate.Fate.TheVariants.{Put}
use Rattle.gfs2_layout.specs.Bitmap.{state_at, with_state, byte_with}
use Rattle.gfs2_layout.specs.Groups.{bitmap_of, group_header, one_if, uncounted}
use Rattle.gfs2_layout.specs.Headers.{HasHeader}
use Rattle.gfs2_layout.specs.Structures.{group_of, group_read, header_fault}
use Rattle.gfs2_layout.specs.Writing.{group_put}
use Rattle.gfs2_layout.specs.declared.group_header.GroupHeader.{GroupHeader}
use Rattle.gfs2_layout.proofs.HeaderLaws.{answer_ok, header_from}
use Rattle.gfs2_layout.proofs.Places.{number_front}
use Rattle.std.specs.Int.{w32}
use Rattle.glock_names.specs.Views.{Seen}
use Rattle.glock_names.specs.declared.LockName.{LockName}
use Rattle.glock_names.specs.declared.views.Group.{Group}
use Rattle.resource_groups.specs.Shown.{IsShown, IsHeaderOf, blocks_of, bits_at, first_place, group_lock}
use Rattle.resource_groups.specs.Putting.{IsPutIn, IsRecounted, overlaid, seen_or, head_length, bit_put}
use Rattle.resource_groups.proofs.Fits.{header_block}
use Rattle.resource_groups.proofs.Parts.{front, back, further, parted, length_front, read_is}

-- ---- a list of bytes with one put

-- a state put into the bits between others
put_between : (before bits after : List ℕ) (n i state : ℕ) → 4 * length before ≡ n → i < 4 * length bits → with_state (before ++ (bits ++ after)) (n + i) state ≡ before ++ (with_state bits i state ++ after)
put_between before bits after n i state long low =
    ap₂ (λ q byte. set (before ++ (bits ++ after)) q (byte_with byte ((n + i) % 4) state)) (quarter (length before) n i long) same
    ∙ ap (λ k. set (before ++ (bits ++ after)) (length before + i / 4) (byte_with (get_or bits (i / 4) 0) k state)) (left (length before) n i long)
    ∙ set-append_right before (bits ++ after) (length before) (length before + i / 4) new refl (omega arith)
    ∙ ap (λ k. before ++ set (bits ++ after) k new) (less (length before) (i / 4))
    ∙ ap (λ xs. before ++ xs) (set-append_left bits after (i / 4) new (under i (length bits) low))
  where
    new : ℕ
    new = byte_with (get_or bits (i / 4) 0) (i % 4) state

    quarter : (l n i : ℕ) → 4 * l ≡ n → (n + i) / 4 ≡ l + i / 4
    quarter l n i long = omega (arith, long)

    left : (l n i : ℕ) → 4 * l ≡ n → (n + i) % 4 ≡ i % 4
    left l n i long = omega (arith, long)

    less : (a b : ℕ) → a + b - a ≡ b
    less a b = omega arith

    under : (i n : ℕ) → i < 4 * n → i / 4 < n
    under i n low = omega (arith, low)

    same : get_or (before ++ (bits ++ after)) ((n + i) / 4) 0 ≡ get_or bits (i / 4) 0
    same = ap (λ q. get_or (before ++ (bits ++ after)) q 0) (quarter (length before) n i long) ∙ get_or-append-add before (bits ++ after) (i / 4) 0
        ∙ get_or_append_left bits after 0 (i / 4) (under i (length bits) low)

-- ---- a bitmap with the bits of one block changed

further_same : (at at' : ℕ → List ℕ) (b n : ℕ) → ((c : ℕ) → b ≤ c → c < b + n → drop 24 (at' c) ≡ drop 24 (at c)) → further at' b n ≡ further at b n
further_same at at' b zero same = refl
further_same at at' b (suc n) same = ap₂ (λ x y. x ++ y) (same b (omega arith) (omega arith)) (further_same at at' (b + 1) n (λ c low high. same c (omega (arith, low)) (omega (arith, high))))

-- only the bits of block k are others
pub record IsOneChanged (at at' : ℕ → List ℕ) (g : Group) (k : ℕ) : Type 0 where
  pub first : k ≢ 0 → drop 128 (at' g.addr) ≡ drop 128 (at g.addr)
  pub more : (c : ℕ) → IsHeaderOf g c → c ≢ g.addr → c ≢ g.addr + k → drop 24 (at' c) ≡ drop 24 (at c)

pub front_same : (at at' : ℕ → List ℕ) (g : Group) (k : ℕ) → k < g.length → IsOneChanged at at' g k → front at' g k ≡ front at g k
front_same at at' g zero low is = refl
front_same at at' g (suc k) low is = ap₂ (λ x y. x ++ y) (is.first (λ e. absurd (omega (arith, e)))) (further_same at at' (g.addr + 1) k
    (λ c first last. is.more c (record { low = omega (arith, first); high = omega (arith, last, low) }) (λ e. absurd (omega (arith, e, first))) (λ e. absurd (omega (arith, e, last)))))

pub back_same : (at at' : ℕ → List ℕ) (g : Group) (k : ℕ) → k < g.length → IsOneChanged at at' g k → back at' g k ≡ back at g k
back_same at at' g k low is = further_same at at' (g.addr + k + 1) (g.length - k - 1)
    (λ c first last. is.more c (record { low = omega (arith, first); high = omega (arith, last, low) }) (λ e. absurd (omega (arith, e, first))) (λ e. absurd (omega (arith, e, first))))

bits_put : (v : Seen) (at at' : ℕ → List ℕ) (g : Group) (k p state : ℕ) → k < g.length → 512 ≤ v.size → IsShown v g at → IsOneChanged at at' g k → p < 4 * length (bits_at at g k)
    → bits_at at' g k ≡ with_state (bits_at at g k) p state → bitmap_of (blocks_of at' g) ≡ with_state (bitmap_of (blocks_of at g)) (first_place v.size k + p) state
bits_put v at at' g k p state low big shown one within bits =
    parted at' g k low ∙ ap₂ (λ x y. x ++ (bits_at at' g k ++ y)) (front_same at at' g k low one) (back_same at at' g k low one) ∙ ap (λ x. front at g k ++ (x ++ back at g k)) bits
    ∙ sym (put_between (front at g k) (bits_at at g k) (back at g k) (first_place v.size k) p state (length_front v at g k low big shown) within)
    ∙ ap (λ x. with_state x (first_place v.size k + p) state) (sym (parted at g k low))

-- ---- what a draft sees of what was put

pub seen_at : (v : Seen) (m : FinMap nat_cmp Fate) (b : ℕ) (lock : LockName) (bytes : List ℕ) → (seen_with v (insert m b (Put lock false bytes))).block_at b ≡ Some bytes
seen_at v m b lock bytes = ap (λ fate. block_with fate (v.block_at b)) (inserted_at nat_cmp_total nat_cmp-IsAntisymmetric m b (Put lock false bytes))

pub seen_apart : (v : Seen) (m : FinMap nat_cmp Fate) (b c : ℕ) (lock : LockName) (bytes : List ℕ) → c ≢ b → (seen_with v (insert m b (Put lock false bytes))).block_at c ≡ (seen_with v m).block_at c
seen_apart v m b c lock bytes other = ap (λ fate. block_with fate (v.block_at c)) (inserted_apart nat_cmp_total nat_cmp-IsAntisymmetric m b (Put lock false bytes) c other)

-- a block that is seen is seen after another, or it, was put
pub still_seen : (v : Seen) (m : FinMap nat_cmp Fate) (b c : ℕ) (lock : LockName) (bytes : List ℕ) → (x : List ℕ) × ((seen_with v m).block_at c ≡ Some x)
    → (x : List ℕ) × ((seen_with v (insert m b (Put lock false bytes))).block_at c ≡ Some x)
still_seen v m b c lock bytes there = elim (cases_eq c b) [
  | inl same ↦ (bytes, ap (seen_with v (insert m b (Put lock false bytes))).block_at same ∙ seen_at v m b lock bytes)
  | inr other ↦ (there.0, seen_apart v m b c lock bytes other ∙ there.1)
]

pub as_shown : (v : Seen) (g : Group) (at : ℕ → List ℕ) (c : ℕ) (seen : Option (List ℕ)) → IsShown v g at → IsHeaderOf g c → v.block_at c ≡ seen → seen_or seen (at c) ≡ at c
as_shown v g at c None shown own is = refl
as_shown v g at c (Some bytes) shown own is = sym (shown.same c bytes own is)

-- ---- the parts of a block

bits_first : (at : ℕ → List ℕ) (g : Group) (k : ℕ) → k ≡ 0 → bits_at at g k ≡ drop 128 (at g.addr)
bits_first at g k none = ap (bits_at at g) none

bits_more : (at : ℕ → List ℕ) (g : Group) (k : ℕ) → k ≢ 0 → bits_at at g k ≡ drop 24 (at (g.addr + k))
bits_more at g zero some = absurd (some refl)
bits_more at g (suc k) some = refl

head_more : (k : ℕ) → k ≢ 0 → head_length k ≡ 24
head_more zero some = absurd (some refl)
head_more (suc k) some = refl

take_put : (n : ℕ) (bytes rest : List ℕ) → n ≤ length bytes → take n (take n bytes ++ rest) ≡ take n bytes
take_put n bytes rest long = take_at (take n bytes) rest n (length-take-le n bytes long)

drop_put : (n : ℕ) (bytes rest : List ℕ) → n ≤ length bytes → drop n (take n bytes ++ rest) ≡ rest
drop_put n bytes rest long = drop_at (take n bytes) rest n (length-take-le n bytes long)

header_kept : (kind format : ℕ) (a b : List ℕ) → take 24 a ≡ take 24 b → HasHeader kind format a → HasHeader kind format b
header_kept kind format a b same has = record {
  magic_is = sym (number_front w32 0 24 a b (omega arith) same) ∙ has.magic_is;
  kind_is = sym (number_front w32 4 24 a b (omega arith) same) ∙ has.kind_is;
  format_is = sym (number_front w32 16 24 a b (omega arith) same) ∙ has.format_is;
}

pub block_at : (at : ℕ → List ℕ) (g : Group) (j : ℕ) → j < g.length → get_or (blocks_of at g) j [] ≡ at (g.addr + j)
block_at at g j low = get_or-map-range_with_len at g.addr g.length j (g.addr + j) [] low refl

pub block_past : (at : ℕ → List ℕ) (g : Group) (j : ℕ) → g.length ≤ j → get_or (blocks_of at g) j [] ≡ []
block_past at g j past = get_or_past (blocks_of at g) j [] (subst (λ n. n ≤ j) (sym (length-map-range_with_len at g.addr g.length)) past)

-- ---- both puts

-- the bits of block k are put over what is seen there, and then a header over the first block
pub record IsBothPut (v : Seen) (m : FinMap nat_cmp Fate) (at : ℕ → List ℕ) (g : Group) (k p state : ℕ) (h : GroupHeader) (bits under : List ℕ) : Type 0 where
  pub low : k < g.length
  pub big : 512 ≤ v.size
  pub shown : IsShown (seen_with v m) g at
  pub within : p < 4 * length (bits_at at g k)
  pub bits_seen : (seen_with v m).block_at (g.addr + k) ≡ Some bits
  pub under_seen : (seen_with v (insert m (g.addr + k) (Put (group_lock g) false (bit_put k p state bits)))).block_at g.addr ≡ Some under
  pub read : group_read (group_put h under) ≡ Ok h
  pub behind : drop 128 (group_put h under) ≡ drop 128 under

module _ (v : Seen) (m : FinMap nat_cmp Fate) (at : ℕ → List ℕ) (g : Group) (k p state : ℕ) (h : GroupHeader) (old under : List ℕ) (is : IsBothPut v m at g k p state h old under) where
  abbrev pub m1 : FinMap nat_cmp Fate
  m1 = insert m (g.addr + k) (Put (group_lock g) false (bit_put k p state old))

  abbrev pub m2 : FinMap nat_cmp Fate
  m2 = insert m1 g.addr (Put (group_lock g) false (group_put h under))

  abbrev pub new : ℕ → List ℕ
  new = overlaid (seen_with v m2) at

  bits_are : old ≡ at (g.addr + k)
  bits_are = sym (is.shown.same (g.addr + k) old (header_block g k is.low) is.bits_seen)

  first_is : new g.addr ≡ group_put h under
  first_is = ap (λ o. seen_or o (at g.addr)) (seen_at v m1 g.addr (group_lock g) (group_put h under))

  bits_new : k ≢ 0 → new (g.addr + k) ≡ bit_put k p state (at (g.addr + k))
  bits_new some = ap (λ o. seen_or o (at (g.addr + k)))
      (seen_apart v m1 g.addr (g.addr + k) (group_lock g) (group_put h under) (λ e. some (none e)) ∙ seen_at v m (g.addr + k) (group_lock g) (bit_put k p state old))
      ∙ ap (bit_put k p state) bits_are
    where
      none : g.addr + k ≡ g.addr → k ≡ 0
      none e = omega (arith, e)

  rest_same : (c : ℕ) → IsHeaderOf g c → c ≢ g.addr → c ≢ g.addr + k → new c ≡ at c
  rest_same c own first other = ap (λ o. seen_or o (at c))
      (seen_apart v m1 g.addr c (group_lock g) (group_put h under) first ∙ seen_apart v m (g.addr + k) c (group_lock g) (bit_put k p state old) other)
      ∙ as_shown (seen_with v m) g at c ((seen_with v m).block_at c) is.shown own refl

  long : (c : ℕ) → IsHeaderOf g c → length (at c) ≡ v.size
  long c own = is.shown.whole c own

  own_first : IsHeaderOf g g.addr
  own_first = record { low = omega arith; high = omega (arith, is.low) }

  -- what the header is written over: the first block, with the bits put where they stand in it
  some_inj : (x y : List ℕ) → Some x ≡ Some y → x ≡ y
  some_inj x y e = cc

  under_is : (k ≡ 0 → under ≡ bit_put 0 p state (at g.addr)) × (k ≢ 0 → under ≡ at g.addr)
  under_is = (
    λ none. some_inj under (bit_put 0 p state (at g.addr)) (sym is.under_seen ∙ ap (seen_with v m1).block_at (place none) ∙ seen_at v m (g.addr + k) (group_lock g) (bit_put k p state old)
        ∙ ap₂ (λ j b. Some (bit_put j p state b)) none (bits_are ∙ ap at (sym (place none)))),
    λ some. sym (is.shown.same g.addr under own_first (sym (seen_apart v m (g.addr + k) g.addr (group_lock g) (bit_put k p state old) (λ e. some (nought e))) ∙ is.under_seen)),
  )
    where
      place : k ≡ 0 → g.addr ≡ g.addr + k
      place none = omega (arith, none)

      nought : g.addr ≡ g.addr + k → k ≡ 0
      nought e = omega (arith, e)

  -- the bits of block k have the state, and all other bits stay
  first_bits : drop 128 (new g.addr) ≡ drop 128 under
  first_bits = ap (drop 128) first_is ∙ is.behind

  one : IsOneChanged at new g k
  one = record {
    first = λ some. first_bits ∙ ap (drop 128) (under_is.1 some);
    more = λ c own first other. ap (drop 24) (rest_same c own first other);
  }

  bits : bits_at new g k ≡ with_state (bits_at at g k) p state
  bits = elim (cases_eq k 0) [
    | inl none ↦ bits_first new g k none ∙ first_bits ∙ ap (drop 128) (under_is.0 none) ∙ drop_put 128 (at g.addr) (with_state (drop 128 (at g.addr)) p state) (omega (arith, long g.addr own_first, is.big))
        ∙ ap (λ b. with_state b p state) (sym (bits_first at g k none))
    | inr some ↦ bits_more new g k some ∙ ap (drop 24) (bits_new some ∙ ap (λ n. take n (at (g.addr + k)) ++ with_state (drop n (at (g.addr + k))) p state) (head_more k some))
        ∙ drop_put 24 (at (g.addr + k)) (with_state (drop 24 (at (g.addr + k))) p state) (omega (arith, long (g.addr + k) (header_block g k is.low), is.big))
        ∙ ap (λ b. with_state b p state) (sym (bits_more at g k some))
  ]

  -- each further block keeps its header
  heads : (c : ℕ) → IsHeaderOf g c → c ≢ g.addr → take 24 (new c) ≡ take 24 (at c)
  heads c own first = elim (cases_eq c (g.addr + k)) [
    | inl here ↦
        let some : k ≢ 0 = λ none. first (omega (arith, here, none)) in
        ap (λ d. take 24 (new d)) here ∙ ap (take 24) (bits_new some ∙ ap (λ n. take n (at (g.addr + k)) ++ with_state (drop n (at (g.addr + k))) p state) (head_more k some))
        ∙ take_put 24 (at (g.addr + k)) (with_state (drop 24 (at (g.addr + k))) p state) (omega (arith, long (g.addr + k) (header_block g k is.low), is.big)) ∙ ap (λ d. take 24 (at d)) (sym here)
    | inr other ↦ ap (take 24) (rest_same c own first other)
  ]

  some_blocks : 0 < g.length
  some_blocks = omega (arith, is.low)

  nought : g.addr + 0 ≡ g.addr
  nought = omega arith

  header_is : get_or (blocks_of new g) 0 [] ≡ group_put h under
  header_is = block_at new g 0 some_blocks ∙ ap new nought ∙ first_is

  says : group_header (blocks_of new g) ≡ h
  says = ap group_of header_is ∙ sym (read_is (group_put h under) h is.read)

  kept : (j : ℕ) → 0 < j → HasHeader 3 300 (get_or (blocks_of at g) j []) → HasHeader 3 300 (get_or (blocks_of new g) j [])
  kept j some has = elim (cases_lt j g.length) [
    | inl low ↦ subst (HasHeader 3 300) (sym (block_at new g j low))
        (header_kept 3 300 (at (g.addr + j)) (new (g.addr + j)) (sym (heads (g.addr + j) (header_block g j low) (λ e. absurd (omega (arith, e, some))))) (subst (HasHeader 3 300) (block_at at g j low) has))
    | inr past ↦ subst (HasHeader 3 300) (block_past at g j past ∙ sym (block_past new g j past)) has
  ]

  -- the header is written over the old one
  old_first : take 128 under ≡ take 128 (at g.addr)
  old_first = elim (cases_eq k 0) [
    | inl none ↦ ap (take 128) (under_is.0 none) ∙ take_put 128 (at g.addr) (with_state (drop 128 (at g.addr)) p state) (omega (arith, long g.addr own_first, is.big))
    | inr some ↦ ap (take 128) (under_is.1 some)
  ]

  pub is_put_in : (b was : ℕ) (header : GroupHeader) → first_place v.size k + p ≡ b - g.first → state_at (bitmap_of (blocks_of at g)) (first_place v.size k + p) ≡ was
      → header ≡ group_header (blocks_of at g) → IsRecounted header h was state → IsPutIn at new g b state
  is_put_in b was header place there old_is counts =
      let here : state_at (bitmap_of (blocks_of at g)) (b - g.first) ≡ was = ap (state_at (bitmap_of (blocks_of at g))) (sym place) ∙ there in
      record {
        put = record {
          header = subst (HasHeader 2 200) (sym header_is) (header_from 128 2 200 (group_put h under) (answer_ok (header_fault 128 2 200 (group_put h under)) (group_of (group_put h under)) h is.read).0);
          more = kept;
          others = ap uncounted says ∙ counts.others ∙ ap uncounted old_is;
          bits = bits_put (seen_with v m) at new g k p state is.low is.big is.shown one is.within bits ∙ ap (λ i. with_state (bitmap_of (blocks_of at g)) i state) place;
          free = ap₂ (λ (x : GroupHeader) (s : ℕ). x.free + one_if (s == 0)) says here ∙ counts.free ∙ ap (λ (x : GroupHeader). x.free + one_if (state == 0)) old_is;
          dinodes = ap₂ (λ (x : GroupHeader) (s : ℕ). x.dinodes + one_if (s == 3)) says here ∙ counts.dinodes ∙ ap (λ (x : GroupHeader). x.dinodes + one_if (state == 3)) old_is;
        };
        under = under;
        old_header = old_first;
        header = first_is ∙ ap (λ x. group_put x under) (sym says);
        others = heads;
      }
