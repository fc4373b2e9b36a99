-- The bitmaps of a new image.
use Rattle.std.proofs.Common.{ℕ, zero, suc, ◌≡◌, ◌+◌, ◌-◌, ◌*◌, ◌/◌, ◌^◌, ◌<◌, ◌≤◌, inl, inr, List, [], ◌∷◌, ◌++◌, length, drop, replicate, map, get_or, refl, sym, ap, ap₂, ◌∙◌, subst, arith, append-nil}
use Rattle.std.specs.Prelude.{◌%◌, nat_lt, flat_map}
use Rattle.std.specs.List.{AllByRecursion, range_with_len}
use Rattle.std.proofs.lemmas.Bool.{cases_Bool, cond-true, cond-false, ne_eqb}
use Rattle.std.proofs.lemmas.List.{length-replicate, drop_all, map-append}
use Rattle.std.proofs.lemmas.List.FromFn.{get_or-map-range_with_len}
use Rattle.std.proofs.Math.Nat.{suc-mul}
use Rattle.gfs2_layout.specs.Bitmap.{state_at, byte_of}
use Rattle.gfs2_layout.specs.Bytes.{put_at}
use Rattle.gfs2_layout.specs.Fields.{HasItsWidth}
use Rattle.gfs2_layout.specs.Structures.{group_of, header_fault}
use Rattle.gfs2_layout.specs.Writing.{group_fields, group_put, header_put}
use Rattle.gfs2_layout.specs.declared.group_header.GroupHeader.{GroupHeader}
use Rattle.gfs2_layout.specs.declared.header.MetaHeader.{MetaHeader}
use Rattle.gfs2_layout.specs.Groups.{bitmap_of}
use Rattle.gfs2_layout.specs.Headers.{HasHeader}
use Rattle.image_model.specs.Image.{Blocks}
use Rattle.mkgfs2_tool.specs.Groups.{last_group, group_address, group_blocks, headers_of, data_blocks, data_before}
use Rattle.mkgfs2_tool.specs.Order.{taken, use_of}
use Rattle.mkgfs2_tool.specs.Blocks.{zeros, is_dinode, state, state_in, bitmap_byte, bitmap, group_header, first_header_block, further_header_block, header_block}
use Rattle.mkgfs2_tool.specs.Making.{IsFitting}
use Rattle.mkgfs2_tool.specs.declared.plan.Plan.{Plan}
use Rattle.mkgfs2_tool.proofs.StandingGiven.{Given, Known, length_put, zeros_are_bytes}
use Rattle.mkgfs2_tool.proofs.StandingBytes.{answer_ok, header_from, plain_header, take_put, drop_put}
use Rattle.mkgfs2_tool.proofs.StandingPlan.{ground, ground_is, new_header}
use Rattle.mkgfs2_tool.proofs.StandingGround.{group_ends}
use Rattle.mkgfs2_tool.proofs.StandingFiles.{large}
use Rattle.mkgfs2_tool.proofs.StandingInodes.{AreMade}
use Rattle.mkgfs2_tool.proofs.StandingWhole.{bitmap_long, group_put_long, header_put_long}

-- ---- a byte of four states

byte_state : (a b c d k : ℕ) → a < 4 → b < 4 → c < 4 → d < 4 → k < 4 → byte_of a b c d / 4 ^ k % 4 ≡ get_or (a ∷ b ∷ c ∷ d ∷ []) k 0
byte_state a b c d zero la lb lc ld low = omega (arith, la, lb, lc, ld)
byte_state a b c d (suc zero) la lb lc ld low = omega (arith, la, lb, lc, ld)
byte_state a b c d (suc (suc zero)) la lb lc ld low = omega (arith, la, lb, lc, ld)
byte_state a b c d (suc (suc (suc zero))) la lb lc ld low = omega (arith, la, lb, lc, ld)
byte_state a b c d (suc (suc (suc (suc k)))) la lb lc ld low = absurd (omega (arith, low))

pub state_low : (p : Plan) (k : ℕ) → state p k < 4
unfolding state
state_low p k = elim (cases_Bool (nat_lt k (taken p))) [
  | inr off ↦ subst (λ n. n < 4) (sym (cond-false _ _ _ off)) (omega arith)
  | inl on ↦ elim (cases_Bool (is_dinode (use_of p k))) [
    | inl so ↦ subst (λ n. n < 4) (sym (cond-true _ _ _ on ∙ cond-true _ _ _ so)) (omega arith)
    | inr non ↦ subst (λ n. n < 4) (sym (cond-true _ _ _ on ∙ cond-false _ _ _ non)) (omega arith)
  ]
]

in_low : (p : Plan) (g n : ℕ) → state_in p g n < 4
in_low p g n = elim (cases_Bool (nat_lt n (data_blocks p g))) [
  | inl on ↦ subst (λ m. m < 4) (sym (cond-true _ _ _ on)) (state_low p (data_before p g + n))
  | inr off ↦ subst (λ m. m < 4) (sym (cond-false _ (state p (data_before p g + n)) 0 off)) (omega arith)
]

byte_at : (p : Plan) (g q k : ℕ) → k < 4 → bitmap_byte p g q / 4 ^ k % 4 ≡ state_in p g (4 * q + k)
unfolding bitmap_byte
byte_at p g q k low =
    byte_state (state_in p g (4 * q)) (state_in p g (4 * q + 1)) (state_in p g (4 * q + 2)) (state_in p g (4 * q + 3)) k (in_low p g (4 * q)) (in_low p g (4 * q + 1)) (in_low p g (4 * q + 2)) (in_low p g (4 * q + 3)) low
    ∙ pick k low
  where
    none : (n : ℕ) → n ≡ n + 0
    none n = omega arith

    pick : (k : ℕ) → k < 4 → get_or (state_in p g (4 * q) ∷ state_in p g (4 * q + 1) ∷ state_in p g (4 * q + 2) ∷ state_in p g (4 * q + 3) ∷ []) k 0 ≡ state_in p g (4 * q + k)
    pick zero low = ap (state_in p g) (none (4 * q))
    pick (suc zero) low = refl
    pick (suc (suc zero)) low = refl
    pick (suc (suc (suc zero))) low = refl
    pick (suc (suc (suc (suc k)))) low = absurd (omega (arith, low))

-- the state that a bitmap has of each place in it
pub bitmap_state : (p : Plan) (g total i : ℕ) → i < 4 * total → state_at (bitmap p g 0 total) i ≡ state_in p g i
bitmap_state p g total i low =
    ap (λ b. b / 4 ^ (i % 4) % 4) (get_or-map-range_with_len (bitmap_byte p g) 0 total (i / 4) (i / 4) 0 (quarter i total low) (none (i / 4)))
    ∙ byte_at p g (i / 4) (i % 4) (omega arith) ∙ ap (state_in p g) (whole i)
  where
    quarter : (i n : ℕ) → i < 4 * n → i / 4 < n
    quarter i n low = omega (arith, low)

    none : (n : ℕ) → 0 + n ≡ n
    none n = omega arith

    whole : (i : ℕ) → 4 * (i / 4) + i % 4 ≡ i
    whole i = omega arith

-- ---- bytes joined

range_append : (a n m : ℕ) → range_with_len a n ++ range_with_len (a + n) m ≡ range_with_len a (n + m)
range_append a zero m = λ t. range_with_len (none a t) (left m t)
  where
    none : (n : ℕ) → n + 0 ≡ n
    none n = omega arith

    left : (n : ℕ) → n ≡ 0 + n
    left n = omega arith
range_append a (suc n) m = ap (λ (xs : List ℕ). a ∷ xs) (ap (λ k. range_with_len (a + 1) n ++ range_with_len k m) (turn a n) ∙ range_append (a + 1) n m) ∙ ap (range_with_len a) (next n m)
  where
    turn : (a n : ℕ) → a + suc n ≡ a + 1 + n
    turn a n = omega arith

    next : (n m : ℕ) → suc (n + m) ≡ suc n + m
    next n m = omega arith

bitmap_append : (p : Plan) (g a n m : ℕ) → bitmap p g a n ++ bitmap p g (a + n) m ≡ bitmap p g a (n + m)
bitmap_append p g a n m = sym (map-append (bitmap_byte p g) (range_with_len a n) (range_with_len (a + n) m)) ∙ ap (map (bitmap_byte p g)) (range_append a n m)

-- ---- a group's header, read back

-- the first block of a group
pub record IsFirst (h : GroupHeader) (bits bytes : List ℕ) : Type 0 where
  pub header : HasHeader 2 200 bytes
  pub is : group_of bytes ≡ h
  pub rest : drop 128 bytes ≡ bits

pub first_is : (given : Given) (size : ℕ) (h : GroupHeader) (bits : List ℕ) → 512 ≤ size → length bits ≡ size - 128 → AllByRecursion HasItsWidth (group_fields h) → IsFirst h bits (put_at 128 bits (group_put h (replicate size 0)))
first_is given size h bits big long widths =
    let law = given.structures.group in
    let clear : List ℕ = replicate size 0 in
    let base : List ℕ = group_put h clear in
    let base_long : length base ≡ size = group_put_long given size h big in
    let bytes : List ℕ = put_at 128 bits base in
    let bytes_long : length bytes ≡ size = length_put 128 bits base (omega (arith, base_long, long, big)) ∙ base_long in
    let back = answer_ok (header_fault 128 2 200 bytes) (group_of bytes) h
    (law.own bytes base (omega (arith, bytes_long, big)) (omega (arith, base_long, big)) (take_put 128 bits base (omega (arith, base_long, big)))
    ∙ law.back h clear (omega (arith, length-replicate {A = ℕ} size 0, big)) (zeros_are_bytes size) tt widths) in
    record {
      header = header_from 128 2 200 bytes back.0;
      is = back.1;
      rest = drop_put 128 bits base (omega (arith, base_long, big)) ∙ ap (λ (xs : List ℕ). bits ++ xs) (drop_all (128 + length bits) base (omega (arith, base_long, long, big))) ∙ append-nil bits;
    }

abbrev further_header : MetaHeader
further_header = record { kind = 3; format = 300; jid = 0 }

-- a further block of a group
pub record IsFurther (bits bytes : List ℕ) : Type 0 where
  pub header : HasHeader 3 300 bytes
  pub rest : drop 24 bytes ≡ bits

pub further_is : (given : Given) (size : ℕ) (bits : List ℕ) → 512 ≤ size → length bits ≡ size - 24 → IsFurther bits (put_at 24 bits (header_put further_header (replicate size 0)))
further_is given size bits big long =
    let law = given.structures.header in
    let clear : List ℕ = replicate size 0 in
    let base : List ℕ = header_put further_header clear in
    let base_long : length base ≡ size = header_put_long given size further_header big in
    let bytes : List ℕ = put_at 24 bits base in
    let bytes_long : length bytes ≡ size = length_put 24 bits base (omega (arith, base_long, long, big)) ∙ base_long in
    record {
      header = plain_header further_header bytes (law.own bytes base (omega (arith, bytes_long, big)) (omega (arith, base_long, big)) (take_put 24 bits base (omega (arith, base_long, big)))
          ∙ law.back further_header clear (omega (arith, length-replicate {A = ℕ} size 0, big)) (zeros_are_bytes size) tt (omega arith, (omega arith, (omega arith, (omega arith, tt)))));
      rest = drop_put 24 bits base (omega (arith, base_long, big)) ∙ ap (λ (xs : List ℕ). bits ++ xs) (drop_all (24 + length bits) base (omega (arith, base_long, long, big))) ∙ append-nil bits;
    }

module _ (p : Plan) (fit : IsFitting p) (known : Known p) (at : Blocks) (made : AreMade p at) (g : ℕ) (ok : g ≤ last_group p) (widths : AllByRecursion HasItsWidth (group_fields (group_header p g))) where
  header_low : (n : ℕ) → n < headers_of p g → group_address p g + n < p.count
  header_low n low = through (group_address p g) n (headers_of p g) (data_blocks p g) (group_blocks p g) p.count low ((ground_is p fit).held g ok) (group_ends (ground p) (ground_is p fit) g ok)
    where
      through : (a n h d b c : ℕ) → n < h → h + d ≤ b → a + b ≤ c → a + n < c
      through a n h d b c low held ends = omega (arith, low, held, ends)

  header_at : (n : ℕ) → n < headers_of p g → at (group_address p g + n) ≡ header_block p g n
  header_at n low = made.is (group_address p g + n) (header_low n low) ∙ new_header p fit g n ok low

  pub first_at : IsFirst (group_header p g) (bitmap p g 0 (p.size - 128)) (at (group_address p g))
  unfolding first_header_block
  first_at = subst (IsFirst (group_header p g) (bitmap p g 0 (p.size - 128))) (sym (ap at (none (group_address p g)) ∙ header_at 0 (omega arith)))
      (first_is known.given p.size (group_header p g) (bitmap p g 0 (p.size - 128)) (large p fit known) (bitmap_long p fit known g 0 (p.size - 128)) widths)
    where
      none : (n : ℕ) → n ≡ n + 0
      none n = omega arith

  pub further_at : (n : ℕ) → suc n < headers_of p g → IsFurther (bitmap p g (p.size - 128 + n * (p.size - 24)) (p.size - 24)) (at (group_address p g + suc n))
  unfolding further_header_block
  further_at n low = subst (IsFurther (bitmap p g (p.size - 128 + n * (p.size - 24)) (p.size - 24)))
      (sym (header_at (suc n) low ∙ cond-false _ _ _ (ne_eqb (suc n) 0 (λ e. absurd (omega (arith, e)))) ∙ ap (λ m. put_at 24 (bitmap p g (p.size - 128 + m * (p.size - 24)) (p.size - 24)) (header_put further_header (zeros p))) (back n)))
      (further_is known.given p.size (bitmap p g (p.size - 128 + n * (p.size - 24)) (p.size - 24)) (large p fit known) (bitmap_long p fit known g (p.size - 128 + n * (p.size - 24)) (p.size - 24)))
    where
      back : (n : ℕ) → suc n - 1 ≡ n
      back n = omega arith

  -- the further blocks joined
  joined_bits : (q m : ℕ) → suc (q + m) ≤ headers_of p g → flat_map (λ (bytes : List ℕ). drop 24 bytes) (map at (range_with_len (group_address p g + suc q) m)) ≡ bitmap p g (p.size - 128 + q * (p.size - 24)) (m * (p.size - 24))
  joined_bits q zero few = ap (bitmap p g (p.size - 128 + q * (p.size - 24))) (none (p.size - 24))
    where
      none : (n : ℕ) → 0 ≡ 0 * n
      none n = omega arith
  joined_bits q (suc m) few =
      ap₂ (λ (a b : List ℕ). a ++ b) (further_at q (few_1 q m (headers_of p g) few)).rest
      (ap (λ k. flat_map (λ (bytes : List ℕ). drop 24 bytes) (map at (range_with_len k m))) (turn (group_address p g) q)
      ∙ joined_bits (suc q) m (few_2 q m (headers_of p g) few) ∙ ap (λ n. bitmap p g n (m * (p.size - 24))) (next q (p.size - 128) (p.size - 24)))
      ∙ bitmap_append p g (p.size - 128 + q * (p.size - 24)) (p.size - 24) (m * (p.size - 24))
      ∙ ap (bitmap p g (p.size - 128 + q * (p.size - 24))) (more m (p.size - 24))
    where
      few_1 : (q m h : ℕ) → suc (q + suc m) ≤ h → suc q < h
      few_1 q m h few = omega (arith, few)

      few_2 : (q m h : ℕ) → suc (q + suc m) ≤ h → suc (suc q + m) ≤ h
      few_2 q m h few = omega (arith, few)

      turn : (a q : ℕ) → a + suc q + 1 ≡ a + suc (suc q)
      turn a q = omega arith

      next : (q s w : ℕ) → s + suc q * w ≡ s + q * w + w
      next q s w = omega (arith, suc-mul q w)

      more : (m w : ℕ) → w + m * w ≡ suc m * w
      more m w = omega (arith, suc-mul m w)

  abbrev blocks : List (List ℕ)
  blocks = map at (range_with_len (group_address p g) (headers_of p g))

  -- all the bits of a group
  pub bits_are : bitmap_of blocks ≡ bitmap p g 0 (p.size - 128 + (headers_of p g - 1) * (p.size - 24))
  bits_are =
      ap (λ n. bitmap_of (map at (range_with_len (group_address p g) n))) (one_more (headers_of p g) (omega arith))
      ∙ ap₂ (λ (a b : List ℕ). a ++ b) first_at.rest
      (ap (λ k. flat_map (λ (bytes : List ℕ). drop 24 bytes) (map at (range_with_len k (headers_of p g - 1)))) (turn (group_address p g))
      ∙ joined_bits 0 (headers_of p g - 1) (same (headers_of p g) (omega arith)) ∙ ap (λ n. bitmap p g n ((headers_of p g - 1) * (p.size - 24))) (zero_more (p.size - 128) (p.size - 24)))
      ∙ bitmap_append p g 0 (p.size - 128) ((headers_of p g - 1) * (p.size - 24))
    where
      one_more : (n : ℕ) → 1 ≤ n → n ≡ suc (n - 1)
      one_more n some = omega (arith, some)

      turn : (a : ℕ) → a + 1 ≡ a + suc 0
      turn a = omega arith

      same : (n : ℕ) → 1 ≤ n → suc (0 + (n - 1)) ≤ n
      same n some = omega (arith, some)

      zero_more : (s w : ℕ) → s + 0 * w ≡ 0 + s
      zero_more s w = omega arith
