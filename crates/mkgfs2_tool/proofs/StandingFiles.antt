-- The blocks of the files of a new image: their dinodes, and where their pointers lead.
use Rattle.std.proofs.Common.{ℕ, zero, suc, ◌≡◌, ◌+◌, ◌-◌, ◌*◌, ◌/◌, ◌^◌, ◌<◌, ◌≤◌, ◌⊎◌, inl, inr, Bool, true, false, min, List, ◌++◌, length, drop, replicate, refl, sym, ap, ◌∙◌, subst, arith}
use Rattle.std.specs.Prelude.{◌==◌, if◌then◌else◌}
use Rattle.std.specs.List.{range_with_len}
use Rattle.std.proofs.lemmas.Bool.{cases_lt, cases_eq, cond-true, cond-false, eq-eqb, ne_eqb, lt-ltb}
use Rattle.std.proofs.lemmas.Bool.Decides.{nat_tests}
use Rattle.std.proofs.lemmas.List.{length-replicate, drop-replicate}
use Rattle.std.proofs.lemmas.List.FromFn.{length-range_with_len, get_or-range_with_len}
use Rattle.std.proofs.Math.Nat.{mul-le-mul}
use Rattle.gfs2_layout.specs.Bytes.{put_at, u64_at}
use Rattle.gfs2_layout.specs.Writing.{header_put, dinode_put, rindex_put}
use Rattle.gfs2_layout.specs.declared.dinode.Dinode.{Dinode}
use Rattle.gfs2_layout.specs.declared.header.MetaHeader.{MetaHeader}
use Rattle.gfs2_layout.specs.Headers.{HasHeader}
use Rattle.gfs2_layout.specs.Inode.{span}
use Rattle.mkgfs2_tool.specs.Groups.{data_address, parts}
use Rattle.mkgfs2_tool.specs.Files.{dinode_pointers, block_pointers, content_blocks, height, level_blocks, level_start, file_blocks, fan, children, part}
use Rattle.mkgfs2_tool.specs.Order.{journal_place, group_list_place, taken}
use Rattle.mkgfs2_tool.specs.Blocks.{data_block, zeros, addresses, dinode, dinode_block, system_file, group_entry, group_entries, pointing_dinode, pointer_block, group_list_block, journal_block, used_block, new_block}
use Rattle.mkgfs2_tool.specs.Making.{IsFitting}
use Rattle.mkgfs2_tool.specs.declared.files.Part.TheVariants.{Top, Pointers, Content}
use Rattle.mkgfs2_tool.specs.declared.plan.Plan.{Plan}
use Rattle.mkgfs2_tool.proofs.StandingGiven.{Given, Known, length_put, zeros_are_bytes}
use Rattle.mkgfs2_tool.proofs.StandingBytes.{length_pieces, plain_header, spelled, read_spelled, read_zeros, u64_behind, length_spelled, take_put, behind_put}
use Rattle.mkgfs2_tool.proofs.StandingDinodes.{IsDinodeBlock, dinode_put_is, IsSmall, dinode_widths}
use Rattle.mkgfs2_tool.proofs.StandingShapes.{IsLow, IsBelow, part_here, inside_file, level_begins, height_low, span_some, start_low}
use Rattle.mkgfs2_tool.proofs.StandingPlan.{new_data, address_low}
use Rattle.mkgfs2_tool.proofs.StandingOwners.{file_place, file_shape, file_bytes, file_use, spot, file_taken, file_some, use_of_file, in_all}

abbrev IsSize : ℕ → Type 0
IsSize size = (size ≡ 512) ⊎ ((size ≡ 1024) ⊎ ((size ≡ 2048) ⊎ (size ≡ 4096)))

list_low : (size g : ℕ) → IsSize size → g ≤ 64 → parts (96 * g) size ≤ dinode_pointers size * (block_pointers size * block_pointers size)
list_low size g (inl is) few = rw is (omega (arith, few))
list_low size g (inr (inl is)) few = rw is (omega (arith, few))
list_low size g (inr (inr (inl is))) few = rw is (omega (arith, few))
list_low size g (inr (inr (inr is))) few = rw is (omega (arith, few))

journal_low : (size n : ℕ) → IsSize size → n ≤ 65536 → parts (n * size) size ≤ dinode_pointers size * (block_pointers size * block_pointers size)
journal_low size n (inl is) few = rw is (omega (arith, few))
journal_low size n (inr (inl is)) few = rw is (omega (arith, few))
journal_low size n (inr (inr (inl is))) few = rw is (omega (arith, few))
journal_low size n (inr (inr (inr is))) few = rw is (omega (arith, few))

list_blocks : (size g : ℕ) → IsSize size → g ≤ 64 → parts (96 * g) size ≤ 65536
list_blocks size g (inl is) few = rw is (omega (arith, few))
list_blocks size g (inr (inl is)) few = rw is (omega (arith, few))
list_blocks size g (inr (inr (inl is))) few = rw is (omega (arith, few))
list_blocks size g (inr (inr (inr is))) few = rw is (omega (arith, few))

pub journal_blocks : (size n : ℕ) → IsSize size → parts (n * size) size ≡ n
journal_blocks size n (inl is) = rw is (omega arith)
journal_blocks size n (inr (inl is)) = rw is (omega arith)
journal_blocks size n (inr (inr (inl is))) = rw is (omega arith)
journal_blocks size n (inr (inr (inr is))) = rw is (omega arith)

-- the number of a file's dinode
abbrev pub file_number : ℕ → ℕ
file_number zero = 3
file_number (suc j) = 5 + j

-- what stands behind a file's dinode
abbrev pub file_behind : Plan → ℕ → List ℕ
file_behind p zero = if height (file_shape p 0) == 0 then group_entries p else addresses p group_list_place (children (file_shape p 0) 0 0)
file_behind p (suc j) = addresses p (journal_place p j) (children (file_shape p (suc j)) 0 0)

abbrev pub file_dinode : Plan → ℕ → Dinode
file_dinode p i = dinode p (file_number i) (file_place p i) (system_file (file_shape p i))

-- the pointers of a block, from this byte on: so many lead to blocks of the file one after another, and the others nowhere
pub record HasPointers (p : Plan) (i : ℕ) (bytes : List ℕ) (start fan first count : ℕ) : Type 0 where
  pub there : (k : ℕ) → k < fan → k < count → u64_at (start + 8 * k) bytes ≡ spot p i (first + k)
  pub none : (k : ℕ) → k < fan → count ≤ k → u64_at (start + 8 * k) bytes ≡ 0

has_pointers : (p : Plan) (i : ℕ) (bytes : List ℕ) (start fan first count least m : ℕ) → least ≡ min fan count
    → drop start bytes ≡ spelled (spot p i) (range_with_len first least) ++ replicate m 0 → 8 * fan ≤ 8 * least + m
    → ((k : ℕ) → k < count → spot p i (first + k) < 2 ^ 64) → HasPointers p i bytes start fan first count
has_pointers p i bytes start fan first count least m is rest room low = record {
  there = λ k inside few.
      u64_behind start (8 * k) bytes ∙ ap (u64_at (8 * k)) rest
      ∙ read_spelled (spot p i) (range_with_len first least) (replicate m 0) k (omega (arith, length-range_with_len first least, is, inside, few))
      (subst (λ n. spot p i n < 2 ^ 64) (sym (get_or-range_with_len first least k 0 (omega (arith, is, inside, few)))) (low k few))
      ∙ ap (spot p i) (get_or-range_with_len first least k 0 (omega (arith, is, inside, few)));
  none = λ k inside far.
      u64_behind start (8 * k) bytes ∙ ap (u64_at (8 * k)) rest
      ∙ read_zeros (spelled (spot p i) (range_with_len first least)) m (8 * k)
      (omega (arith, length_spelled (spot p i) (range_with_len first least), length-range_with_len first least, is, far))
      (omega (arith, length_spelled (spot p i) (range_with_len first least), length-range_with_len first least, inside, room));
}

-- a block of pointers
pub record IsPointerBlock (p : Plan) (i : ℕ) (bytes : List ℕ) (first count : ℕ) : Type 0 where
  pub long : length bytes ≡ p.size
  pub header : HasHeader 5 500 bytes
  pub pointers : HasPointers p i bytes 24 (block_pointers p.size) first count

abbrev pointer_header : MetaHeader
pointer_header = record { kind = 5; format = 500; jid = 0 }

-- a block of pointers: a header, and these bytes behind it
record IsHeaded (size : ℕ) (part bytes : List ℕ) : Type 0 where
  pub long : length bytes ≡ size
  pub header : HasHeader 5 500 bytes
  pub rest : drop 24 bytes ≡ part ++ replicate (size - 24 - length part) 0

headed : (given : Given) (size : ℕ) (part : List ℕ) → 24 + length part ≤ size → IsHeaded size part (put_at 24 part (header_put pointer_header (replicate size 0)))
headed given size part fits =
    let law = given.structures.header in
    let clear : List ℕ = replicate size 0 in
    let room : 24 ≤ length clear = omega (arith, fits, length-replicate {A = ℕ} size 0) in
    let base : List ℕ = header_put pointer_header clear in
    let long : length base ≡ size = law.as_long pointer_header clear room tt ∙ length-replicate {A = ℕ} size 0 in
    let bytes : List ℕ = put_at 24 part base in
    let long_put : length bytes ≡ size = length_put 24 part base (omega (arith, long, fits)) ∙ long in
    record {
      long = long_put;
      header = plain_header pointer_header bytes (law.own bytes base (omega (arith, long_put, fits)) (omega (arith, long, fits)) (take_put 24 part base (omega (arith, long, fits)))
          ∙ law.back pointer_header clear room (zeros_are_bytes size) tt (omega arith, (omega arith, (omega arith, (omega arith, tt)))));
      rest = behind_put 24 (size - 24) part base (omega (arith, long, fits)) (law.behind pointer_header clear room tt ∙ drop-replicate {X = ℕ} 24 size 0);
    }

fits_in : (size start fan least part : ℕ) → fan ≡ (size - start) / 8 → start ≤ size → least ≤ fan → part ≡ 8 * least → start + part ≤ size
fits_in size start fan least part is inside low long = omega (arith, is, inside, low, long)

module _ (p : Plan) (fit : IsFitting p) (known : Known p) where
  pub file_low : (i : ℕ) → IsLow (file_shape p i)
  file_low zero = record { size = fit.plan.size; room = list_low p.size p.groups fit.plan.size fit.plan.groups }
  file_low (suc j) = record { size = fit.plan.size; room = journal_low p.size p.journal_blocks fit.plan.size fit.plan.journal_blocks }

  pub large : 512 ≤ p.size
  large = omega (arith, fit.plan.size)

  pub size_few : p.size ≤ 4096
  size_few = omega (arith, fit.plan.size)

  content_few : (i : ℕ) → content_blocks (file_shape p i) ≤ 65536
  content_few zero = list_blocks p.size p.groups fit.plan.size fit.plan.groups
  content_few (suc j) = omega (arith, journal_blocks p.size p.journal_blocks fit.plan.size, fit.plan.journal_blocks)

  level_few : (i l : ℕ) → level_blocks (file_shape p i) l ≤ content_blocks (file_shape p i)
  level_few i l = elim (cases_lt (content_blocks (file_shape p i)) (level_blocks (file_shape p i) l)) [
    | inr le ↦ le
    | inl less ↦ absurd (never (content_blocks (file_shape p i)) (height (file_shape p i) - l) (level_begins (file_shape p i) (file_low i) l (content_blocks (file_shape p i)) less))
  ]
    where
      never : (c n : ℕ) → c * span p.size n < c → ⊥
      never c n less = let some : c * 1 ≤ c * span p.size n = mul-le-mul {n₁ = c} {m₁ = 1} {n₂ = c} {m₂ = span p.size n} (omega arith) (span_some p.size n large) in omega (arith, less, some)

  pub blocks_few : (i : ℕ) → file_blocks (file_shape p i) ≤ 262144
  blocks_few i = few (file_blocks (file_shape p i)) (level_start (file_shape p i) 4) (level_blocks (file_shape p i) 1) (level_blocks (file_shape p i) 2) (level_blocks (file_shape p i) 3)
      all refl (through (level_few i 1)) (through (level_few i 2)) (through (level_few i 3))
    where
      through : {n : ℕ} → n ≤ content_blocks (file_shape p i) → n ≤ 65536
      through {n} le = omega (arith, le, content_few i)

      few : (b s x y z : ℕ) → b ≤ s → s ≡ 1 + x + y + z → x ≤ 65536 → y ≤ 65536 → z ≤ 65536 → b ≤ 262144
      few b s x y z le e a c d = omega (arith, le, e, a, c, d)

      all : file_blocks (file_shape p i) ≤ level_start (file_shape p i) 4
      all = start_low (file_shape p i) (file_low i) (1 + height (file_shape p i)) 4 (omega arith) (omega (arith, height_low (file_shape p i) (file_low i)))

  bytes_few : (i : ℕ) → file_bytes p i ≤ 268435456
  bytes_few zero = omega (arith, fit.plan.groups)
  bytes_few (suc j) = mul-le-mul {m₂ = 4096} fit.plan.journal_blocks size_few

  pub spot_low : (i n : ℕ) → i ≤ p.journals → n < file_blocks (file_shape p i) → spot p i n < p.count
  spot_low i n ok inside = address_low p fit (file_place p i + n) (in_all p fit (file_place p i + n) (file_taken p i n ok inside))

  spot_small : (i n : ℕ) → i ≤ p.journals → n < file_blocks (file_shape p i) → spot p i n < 2 ^ 64
  spot_small i n ok inside = through (spot p i n) p.count (spot_low i n ok inside) fit.count
    where
      through : (a b : ℕ) → a < b → b ≤ 131072 → a < 2 ^ 64
      through a b less few = omega (arith, less, few)

  -- what stands in a block of a file
  pub file_block : (i n : ℕ) → i ≤ p.journals → n < file_blocks (file_shape p i) → new_block p (spot p i n) ≡ used_block p (file_use i (part (file_shape p i) n))
  unfolding data_block
  file_block i n ok inside =
      new_data p fit (file_place p i + n) (in_all p fit (file_place p i + n) (file_taken p i n ok inside))
      ∙ cond-true _ _ _ (lt-ltb (file_place p i + n) (taken p) (file_taken p i n ok inside))
      ∙ ap (used_block p) (use_of_file p i n inside)

  -- ---- a file's dinode

  small : (i : ℕ) → IsSmall (system_file (file_shape p i))
  small i = record {
    mode = omega arith;
    nlink = omega arith;
    size = bytes_small (file_bytes p i) (bytes_few i);
    blocks = blocks_small (file_blocks (file_shape p i)) (blocks_few i);
    flags = omega arith;
    payload_format = omega arith;
    height = height_small (height (file_shape p i)) (height_low (file_shape p i) (file_low i));
    depth = omega arith;
    entries = omega arith;
  }
    where
      bytes_small : (n : ℕ) → n ≤ 268435456 → n < 2 ^ 64
      bytes_small n few = omega (arith, few)

      blocks_small : (n : ℕ) → n ≤ 262144 → n < 2 ^ 64
      blocks_small n few = omega (arith, few)

      height_small : (n : ℕ) → n ≤ 3 → n < 2 ^ 16
      height_small n few = omega (arith, few)

  pub length_entries : length (group_entries p) ≡ 96 * p.groups
  unfolding group_entries
  length_entries = length_pieces (λ g. rindex_put (group_entry p g) (replicate 96 0)) 96 (range_with_len 0 p.groups) (λ g. known.given.structures.rindex.as_long (group_entry p g) (replicate 96 0) (omega arith) tt)
      ∙ ap (λ n. n * 96) (length-range_with_len 0 p.groups) ∙ turn p.groups
    where
      turn : (n : ℕ) → n * 96 ≡ 96 * n
      turn n = omega arith

  top_children : (i : ℕ) → children (file_shape p i) 0 0 ≡ range_with_len 1 (min (dinode_pointers p.size) (level_blocks (file_shape p i) 1))
  top_children i = λ j. range_with_len (first (dinode_pointers p.size) j) (min (dinode_pointers p.size) (rest (dinode_pointers p.size) (level_blocks (file_shape p i) 1) j))
    where
      first : (d : ℕ) → 1 + 0 * d ≡ 1
      first d = omega arith

      rest : (d n : ℕ) → n - 0 * d ≡ n
      rest d n = omega arith

  abbrev pub top_least : ℕ → ℕ
  top_least i = min (dinode_pointers p.size) (level_blocks (file_shape p i) 1)

  abbrev pub top_addresses : ℕ → List ℕ
  top_addresses i = spelled (spot p i) (children (file_shape p i) 0 0)

  length_top : (i : ℕ) → length (top_addresses i) ≡ 8 * top_least i
  length_top i = ap (λ (xs : List ℕ). length (spelled (spot p i) xs)) (top_children i) ∙ length_spelled (spot p i) (range_with_len 1 (top_least i)) ∙ ap (λ n. 8 * n) (length-range_with_len 1 (top_least i))

  top_room : (i : ℕ) → 232 + length (top_addresses i) ≤ p.size
  top_room i = fits_in p.size 232 (dinode_pointers p.size) (top_least i) (length (top_addresses i)) refl (omega (arith, large)) (least (dinode_pointers p.size) (level_blocks (file_shape p i) 1)) (length_top i)
    where
      least : (a b : ℕ) → min a b ≤ a
      least a b = omega arith

  pub behind_high : (i : ℕ) → 1 ≤ height (file_shape p i) → file_behind p i ≡ top_addresses i
  behind_high zero high = cond-false _ _ _ (ne_eqb (height (file_shape p 0)) 0 (λ e. absurd (omega (arith, e, high))))
  behind_high (suc j) high = refl

  pub behind_list : height (file_shape p 0) ≡ 0 → file_behind p 0 ≡ group_entries p
  behind_list e = cond-true _ _ _ (eq-eqb (height (file_shape p 0)) 0 e)

  pub list_stuffed : height (file_shape p 0) ≡ 0 → 96 * p.groups ≤ p.size - 232
  list_stuffed e = grind (arith, nat_tests)

  behind_room : (i : ℕ) → 232 + length (file_behind p i) ≤ p.size
  behind_room zero = elim (cases_eq (height (file_shape p 0)) 0) [
    | inl e ↦ stuffed (length (file_behind p 0)) (96 * p.groups) p.size (ap length (behind_list e) ∙ length_entries) (list_stuffed e) large
    | inr d ↦ subst (λ (b : List ℕ). 232 + length b ≤ p.size) (sym (behind_high 0 (positive (height (file_shape p 0)) d))) (top_room 0)
  ]
    where
      stuffed : (n g s : ℕ) → n ≡ g → g ≤ s - 232 → 512 ≤ s → 232 + n ≤ s
      stuffed n g s is le some = omega (arith, is, le, some)

      positive : (n : ℕ) → (n ≡ 0 → ⊥) → 1 ≤ n
      positive zero d = absurd (d refl)
      positive (suc n) d = omega arith
  behind_room (suc j) = top_room (suc j)

  top_block : (i : ℕ) → used_block p (file_use i Top) ≡ put_at 232 (file_behind p i) (dinode_put (file_dinode p i) (zeros p))
  unfolding group_list_block pointing_dinode dinode_block journal_block group_entries used_block
  top_block zero = each (height (file_shape p 0) == 0) (file_dinode p 0) (group_entries p) (top_addresses 0)
    where
      each : (v : Bool) (d : Dinode) (a b : List ℕ) → (if v then dinode_block p d a else dinode_block p d b) ≡ put_at 232 (if v then a else b) (dinode_put d (zeros p))
      each true d a b = refl
      each false d a b = refl
  top_block (suc j) = refl

  number_low : (i : ℕ) → i ≤ p.journals → file_number i < 2 ^ 64
  number_low zero ok = omega arith
  number_low (suc j) ok = few j p.journals ok fit.plan.journals
    where
      few : (j n : ℕ) → suc j ≤ n → n ≤ 8 → 5 + j < 2 ^ 64
      few j n ok le = omega (arith, ok, le)

  pub file_dinode_is : (i : ℕ) → i ≤ p.journals → IsDinodeBlock p.size (file_dinode p i) (file_behind p i) (new_block p (spot p i 0))
  file_dinode_is i ok =
      subst (IsDinodeBlock p.size (file_dinode p i) (file_behind p i)) (sym (file_block i 0 ok (file_some p i) ∙ top_block i))
      (dinode_put_is known.given p.size (file_dinode p i) (file_behind p i) (behind_room i)
      (dinode_widths p (file_number i) (file_place p i) (system_file (file_shape p i)) (number_low i ok) near known.time (small i)))
    where
      same : file_place p i + 0 ≡ file_place p i
      same = none (file_place p i)
        where
          none : (n : ℕ) → n + 0 ≡ n
          none n = omega arith

      near : data_address p (file_place p i) < 2 ^ 64
      near = subst (λ n. data_address p n < 2 ^ 64) same (spot_small i 0 ok (file_some p i))

  -- ---- where pointers lead

  pub top_pointers : (i : ℕ) → i ≤ p.journals → 1 ≤ height (file_shape p i) → HasPointers p i (new_block p (spot p i 0)) 232 (dinode_pointers p.size) 1 (level_blocks (file_shape p i) 1)
  top_pointers i ok high =
      has_pointers p i (new_block p (spot p i 0)) 232 (dinode_pointers p.size) 1 (level_blocks (file_shape p i) 1) (top_least i) (p.size - 232 - length (file_behind p i)) refl
      ((file_dinode_is i ok).rest ∙ ap (λ (b : List ℕ). b ++ replicate (p.size - 232 - length (file_behind p i)) 0) (behind_high i high ∙ ap (spelled (spot p i)) (top_children i)))
      (rest p.size (dinode_pointers p.size) (top_least i) (length (file_behind p i)) refl (ap length (behind_high i high) ∙ length_top i))
      (λ k few. spot_small i (1 + k) ok (inside_file (file_shape p i) (file_low i) 1 k (record { some = omega arith; low = high; inside = few })))
    where
      rest : (s d n b : ℕ) → d ≡ (s - 232) / 8 → b ≡ 8 * n → 8 * d ≤ 8 * n + (s - 232 - b)
      rest s d n b is long = omega (arith, is, long)

  inner_children : (i l x : ℕ) → 1 ≤ l → children (file_shape p i) l x
      ≡ range_with_len (level_start (file_shape p i) (suc l) + x * block_pointers p.size) (min (block_pointers p.size) (level_blocks (file_shape p i) (suc l) - x * block_pointers p.size))
  inner_children i l x some = λ j. range_with_len (level_start (file_shape p i) (next l j) + x * wide j) (min (wide j) (level_blocks (file_shape p i) (next l j) - x * wide j))
    where
      next : (n : ℕ) → 1 + n ≡ suc n
      next n = omega arith

      wide : fan (file_shape p i) l ≡ block_pointers p.size
      wide = cond-false _ _ _ (ne_eqb l 0 (λ e. absurd (omega (arith, e, some))))

  pointer_use : (i l x : ℕ) → used_block p (file_use i (Pointers l x)) ≡ put_at 24 (spelled (spot p i) (children (file_shape p i) l x)) (header_put pointer_header (zeros p))
  unfolding used_block group_list_block journal_block pointer_block
  pointer_use zero l x = refl
  pointer_use (suc j) l x = refl

  turn : (a b k : ℕ) → a + (b + k) ≡ a + b + k
  turn a b k = omega arith

  child : (a k n : ℕ) → k < n - a → a + k < n
  child a k n few = omega (arith, few)

  rest_room : (s d n b : ℕ) → d ≡ (s - 24) / 8 → b ≡ 8 * n → 8 * d ≤ 8 * n + (s - 24 - b)
  rest_room s d n b is long = omega (arith, is, long)

  least_low : (a b : ℕ) → min a b ≤ a
  least_low a b = omega arith

  inner_is : (i l x : ℕ) → i ≤ p.journals → IsBelow (file_shape p i) l x → l < height (file_shape p i)
      → new_block p (spot p i (level_start (file_shape p i) l + x)) ≡ put_at 24 (spelled (spot p i) (children (file_shape p i) l x)) (header_put pointer_header (zeros p))
  inner_is i l x ok at high =
      file_block i (level_start (file_shape p i) l + x) ok (inside_file (file_shape p i) (file_low i) l x at)
      ∙ ap (λ q. used_block p (file_use i q)) (part_here (file_shape p i) (file_low i) l x at ∙ cond-false _ _ _ (ne_eqb l (height (file_shape p i)) (λ e. absurd (differ l (height (file_shape p i)) high e))))
      ∙ pointer_use i l x
    where
      differ : (a b : ℕ) → a < b → a ≡ b → ⊥
      differ a b less e = absurd (omega (arith, less, e))

  -- over the numbers of a row of pointers
  row : (i l x first count : ℕ) → i ≤ p.journals → children (file_shape p i) l x ≡ range_with_len first (min (block_pointers p.size) count)
      → ((k : ℕ) → k < count → first + k < file_blocks (file_shape p i))
      → IsPointerBlock p i (put_at 24 (spelled (spot p i) (children (file_shape p i) l x)) (header_put pointer_header (zeros p))) first count
  row i l x first count ok are inside =
      let least : ℕ = min (block_pointers p.size) count in
      let part_bytes : List ℕ = spelled (spot p i) (children (file_shape p i) l x) in
      let long : length part_bytes ≡ 8 * least = ap (λ (xs : List ℕ). length (spelled (spot p i) xs)) are ∙ length_spelled (spot p i) (range_with_len first least) ∙ ap (λ n. 8 * n) (length-range_with_len first least) in
      let room : 24 + length part_bytes ≤ p.size = fits_in p.size 24 (block_pointers p.size) least (length part_bytes) refl (omega (arith, large)) (least_low (block_pointers p.size) count) long in
      record {
        long = (headed known.given p.size part_bytes room).long;
        header = (headed known.given p.size part_bytes room).header;
        pointers = has_pointers p i (put_at 24 part_bytes (header_put pointer_header (zeros p))) 24 (block_pointers p.size) first count least (p.size - 24 - length part_bytes) refl
            ((headed known.given p.size part_bytes room).rest ∙ ap (λ (xs : List ℕ). spelled (spot p i) xs ++ replicate (p.size - 24 - length part_bytes) 0) are)
            (rest_room p.size (block_pointers p.size) least (length part_bytes) refl long)
            (λ k few. spot_small i (first + k) ok (inside k few));
      }

  pub inner_block : (i l x : ℕ) → i ≤ p.journals → IsBelow (file_shape p i) l x → l < height (file_shape p i)
      → IsPointerBlock p i (new_block p (spot p i (level_start (file_shape p i) l + x))) (level_start (file_shape p i) (suc l) + x * block_pointers p.size) (level_blocks (file_shape p i) (suc l) - x * block_pointers p.size)
  inner_block i l x ok at high =
      subst (λ (b : List ℕ). IsPointerBlock p i b (level_start (file_shape p i) (suc l) + x * block_pointers p.size) (level_blocks (file_shape p i) (suc l) - x * block_pointers p.size)) (sym (inner_is i l x ok at high))
      (row i l x (level_start (file_shape p i) (suc l) + x * block_pointers p.size) (level_blocks (file_shape p i) (suc l) - x * block_pointers p.size) ok (inner_children i l x at.some)
      (λ k few. subst (λ n. n < file_blocks (file_shape p i)) (turn (level_start (file_shape p i) (suc l)) (x * block_pointers p.size) k)
      (inside_file (file_shape p i) (file_low i) (suc l) (x * block_pointers p.size + k) (record { some = omega arith; low = high; inside = child (x * block_pointers p.size) k (level_blocks (file_shape p i) (suc l)) few }))))

  -- ---- the content of a file

  pub content_at : (i x : ℕ) → i ≤ p.journals → 1 ≤ height (file_shape p i) → x < level_blocks (file_shape p i) (height (file_shape p i))
      → new_block p (spot p i (level_start (file_shape p i) (height (file_shape p i)) + x)) ≡ used_block p (file_use i (Content x))
  content_at i x ok high inside =
      let at : IsBelow (file_shape p i) (height (file_shape p i)) x = record { some = high; low = same (height (file_shape p i)); inside = inside } in
      file_block i (level_start (file_shape p i) (height (file_shape p i)) + x) ok (inside_file (file_shape p i) (file_low i) (height (file_shape p i)) x at)
      ∙ ap (λ q. used_block p (file_use i q)) (part_here (file_shape p i) (file_low i) (height (file_shape p i)) x at ∙ cond-true _ _ _ (eq-eqb (height (file_shape p i)) (height (file_shape p i)) refl))
    where
      same : (n : ℕ) → n ≤ n
      same n = omega arith
