-- The directory of journals of a new image is sound where it is a hashed one.
use Rattle.std.proofs.Common.{ℕ, zero, suc, ◌≡◌, ◌+◌, ◌-◌, ◌*◌, ◌/◌, ◌^◌, ◌<◌, ◌≤◌, inl, inr, Bool, true, false, List, [], ◌++◌, length, take, drop, replicate, map, Option, None, Some, refl, sym, ap, ◌∙◌, subst, arith, append-nil}
use Rattle.std.specs.Prelude.{◌==◌, ◌&&◌, nat_lt, if◌then◌else◌, is_some, Contains, get_or}
use Rattle.std.specs.List.{AllByRecursion, flat_map, range_with_len}
use Rattle.std.proofs.lemmas.Bool.{cases_lt, cases_eq, cases_Bool, cond-true, cond-false, eq-eqb, lt-ltb, le-ltb, true≢false}
use Rattle.std.proofs.lemmas.List.{take_at}
use Rattle.std.proofs.lemmas.List.FromFn.{length-range_with_len, get_or-range_with_len}
use Rattle.gfs2_layout.specs.Bytes.{u64_at}
use Rattle.gfs2_layout.specs.Structures.{dinode_of, is_directory}
use Rattle.gfs2_layout.specs.declared.dinode.Dinode.{Dinode}
use Rattle.gfs2_layout.specs.declared.leaf.Leaf.{Leaf}
use Rattle.gfs2_layout.specs.Headers.{HasHeader}
use Rattle.crc_words.specs.Remainder.{crc32_of}
use Rattle.image_model.specs.Image.{Blocks}
use Rattle.gfs2_layout.specs.Inode.{dinode_in, height_in, has_hash_flag, is_directory_in, is_hashed_in, content_of, depth_in, table_count, entry, leaf_in, leaf_area, leaves_of, is_leaf_part, top_bits, index_bits, first_hash, records_of, IsLeaf, IsHashed, IsInode, block_count}
use Rattle.image_model.specs.Owners.{is_dinode}
use Rattle.gfs2_layout.specs.Holding.{Holding, Part, Itself, Pointed, InChain, bytes_at, part_at}
use Rattle.gfs2_layout.specs.Records.{Record, records_in, IsRecordArea}
use Rattle.mkgfs2_tool.specs.Groups.{all_data, data_address}
use Rattle.mkgfs2_tool.specs.Order.{journals_place, has_hashed_journals, is_split, journal_leaves, leaf_place, taken}
use Rattle.mkgfs2_tool.specs.Directories.{records}
use Rattle.mkgfs2_tool.specs.Hashing.{table_bytes, leaf_of_pointer, leaf_room, leaf_entries, leaf_depth, leaf_head, leaf_records}
use Rattle.mkgfs2_tool.specs.Blocks.{new_block, used_block, dinode, hashed_directory, leaf_block}
use Rattle.mkgfs2_tool.specs.Making.{IsFitting}
use Rattle.mkgfs2_tool.specs.declared.plan.Plan.{Plan}
use Rattle.mkgfs2_tool.proofs.LeafLaws.{leaves_whole, leaves_split, hashed_size}
use Rattle.mkgfs2_tool.proofs.StandingLists.{IsIn, is_in, in_range, Rising}
use Rattle.image_model.proofs.Members.{in_filter, from_filter}
use Rattle.image_model.proofs.Rising.{same_rising, rising_filter, rising_range}
use Rattle.mkgfs2_tool.proofs.StandingGiven.{Known, own_part, itself_own, pointed_owner, chained_owner, chained_part, block_same, own_block}
use Rattle.mkgfs2_tool.proofs.StandingCounts.{count_images}
use Rattle.mkgfs2_tool.proofs.StandingBytes.{read_spelled}
use Rattle.mkgfs2_tool.proofs.StandingDinodes.{IsDinodeBlock}
use Rattle.mkgfs2_tool.proofs.StandingPlan.{apart_addresses, addresses_up, address_low}
use Rattle.mkgfs2_tool.proofs.StandingOwners.{leaf_hash, owner, in_all, owner_journals, owner_leaf, use_of_leaf, journals_taken, leaf_taken}
use Rattle.mkgfs2_tool.proofs.StandingWhose.{file_apart_journals, IsLeafOf, leaf_of as leaf_owned, chained_same, IsBelowOf, below_of}
use Rattle.mkgfs2_tool.proofs.StandingInodes.{image, AreMade, held, below_1, cell_some, some_cell}
use Rattle.mkgfs2_tool.proofs.StandingDirs.{used_at}
use Rattle.mkgfs2_tool.proofs.StandingTable.{table_long, table_block_is}
use Rattle.mkgfs2_tool.proofs.StandingLeaves.{IsLeafBlock, leaf_said, leaf_area_is, leaf_block_is, leaf_hashes, said_long}

-- ---- over plain numbers: of 32 pointers the first 16 lead to leaf 1 where there are two leaves, and the others to leaf 0

abbrev to_leaf : Bool → ℕ → ℕ
to_leaf split i = if split && nat_lt i 16 then 1 else 0

abbrev hash_of : Bool → ℕ → ℕ
hash_of split n = if split then (if n == 0 then 2 ^ 31 else 0) else 0

abbrev depth_of : Bool → ℕ
depth_of split = if split then 1 else 0

pointer_low : (split : Bool) (i leaves : ℕ) → (split ≡ true → leaves ≡ 2) → (split ≡ false → leaves ≡ 1) → to_leaf split i < leaves
pointer_low true i leaves two one = elim (cases_Bool (nat_lt i 16)) [
  | inl so ↦ omega (arith, cond-true {A = ℕ} (nat_lt i 16) 1 0 so, two refl)
  | inr non ↦ omega (arith, cond-false {A = ℕ} (nat_lt i 16) 1 0 non, two refl)
]
pointer_low false i leaves two one = omega (arith, one refl)

first_index : (split : Bool) (i : ℕ) → i < 32 → i / 2 ^ (5 - depth_of split) * 2 ^ (32 - depth_of split) ≡ hash_of split (to_leaf split i)
first_index true i low = elim (cases_lt i 16) [
  | inl less ↦ omega (arith, less) ∙ ap (λ n. if n == 0 then 2 ^ 31 else 0) (sym (cond-true {A = ℕ} _ 1 0 (lt-ltb i 16 less)))
  | inr ge ↦ omega (arith, low, ge) ∙ ap (λ n. if n == 0 then 2 ^ 31 else 0) (sym (cond-false {A = ℕ} _ 1 0 (le-ltb i 16 ge)))
]
first_index false i low = omega (arith, low)

same_leaf : (split : Bool) (i j : ℕ) → i < 32 → j < 32 → j / 2 ^ (5 - depth_of split) ≡ i / 2 ^ (5 - depth_of split) → to_leaf split j ≡ to_leaf split i
same_leaf true i j low low' e = elim (cases_lt i 16) [
  | inl less ↦ cond-true {A = ℕ} _ 1 0 (lt-ltb j 16 (omega (arith, e, less, low'))) ∙ sym (cond-true {A = ℕ} _ 1 0 (lt-ltb i 16 less))
  | inr ge ↦ cond-false {A = ℕ} _ 1 0 (le-ltb j 16 (omega (arith, e, ge, low))) ∙ sym (cond-false {A = ℕ} _ 1 0 (le-ltb i 16 ge))
]
same_leaf false i j low low' e = refl

-- a pointer that leads to this leaf
pub led_by : (split : Bool) (n leaves : ℕ) → (split ≡ true → leaves ≡ 2) → (split ≡ false → leaves ≡ 1) → n < leaves → (i : ℕ) × (i < 32) × (to_leaf split i ≡ n)
led_by true n leaves two one low = elim (cases_lt n 1) [
  | inl less ↦ (16, omega arith, omega (arith, less))
  | inr ge ↦ (0, omega arith, omega (arith, ge, low, two refl))
]
led_by false n leaves two one low = (0, omega arith, omega (arith, low, one refl))

module _ (p : Plan) (fit : IsFitting p) (known : Known p) (at : Blocks) (made : AreMade p at) (hashed : has_hashed_journals p ≡ true) where
  abbrev a : ℕ
  a = data_address p (journals_place p)

  abbrev h : Holding
  h = held p at a

  abbrev d : Dinode
  d = dinode p 4 (journals_place p) (hashed_directory p)

  abbrev leaf : ℕ → ℕ
  leaf n = data_address p (leaf_place p n)

  kept : journals_place p < taken p
  kept = journals_taken p

  low_address : a < p.count
  low_address = address_low p fit (journals_place p) (in_all p fit (journals_place p) kept)

  leaf_low : (n : ℕ) → n < journal_leaves p → leaf n < p.count
  leaf_low n low = address_low p fit (leaf_place p n) (in_all p fit (leaf_place p n) (leaf_taken p n low))

  near : (b : ℕ) → b < p.count → b < 2 ^ 64
  near b low = through b p.count low fit.count
    where
      through : (a c : ℕ) → a < c → c ≤ 131072 → a < 2 ^ 64
      through a c low few = omega (arith, low, few)

  size_is_512 : p.size ≡ 512
  size_is_512 = hashed_size p hashed

  two : is_split p ≡ true → journal_leaves p ≡ 2
  two split = leaves_split p hashed split

  one : is_split p ≡ false → journal_leaves p ≡ 1
  one whole = leaves_whole p hashed whole

  -- ---- its dinode

  block_is : IsDinodeBlock p.size d (table_bytes p) (new_block p a)
  block_is = table_block_is p fit known hashed

  own_is : is_dinode (owner p a) ≡ true
  own_is = ap is_dinode (owner_journals p fit)

  own_bytes : bytes_at h a ≡ new_block p a
  own_bytes = own_block known.given (image p at) (owner p) a own_is ∙ made.is a low_address

  dinode_is : dinode_in h ≡ d
  unfolding dinode_in
  dinode_is = ap dinode_of own_bytes ∙ block_is.is

  pub hashed_dir : is_directory_in h ≡ true
  unfolding dinode
  hashed_dir = ap is_directory dinode_is

  pub hashed_form : is_hashed_in h ≡ true
  unfolding dinode
  hashed_form = ap (λ (d : Dinode). is_directory d && has_hash_flag d) dinode_is

  height_is : height_in h ≡ 0
  unfolding dinode
  height_is = ap (λ (d : Dinode). d.height) dinode_is

  depth_is : depth_in h ≡ 5
  unfolding dinode
  depth_is = ap (λ (d : Dinode). d.depth) dinode_is

  size_is : (dinode_in h).size ≡ 256
  unfolding dinode
  size_is = ap (λ (d : Dinode). d.size) dinode_is

  pub hashed_number : (dinode_in h).num.number ≡ 4
  unfolding dinode
  hashed_number = ap (λ (d : Dinode). d.num.number) dinode_is

  address_is : (dinode_in h).num.address ≡ a
  unfolding dinode
  address_is = ap (λ (d : Dinode). d.num.address) dinode_is

  pub hashed_entries : (dinode_in h).entries ≡ 2 + p.journals
  unfolding dinode
  hashed_entries = ap (λ (d : Dinode). d.entries) dinode_is

  pub hashed_links : (dinode_in h).nlink ≡ 2
  unfolding dinode
  hashed_links = ap (λ (d : Dinode). d.nlink) dinode_is

  blocks_is : (dinode_in h).blocks ≡ 1 + journal_leaves p
  unfolding dinode
  blocks_is = ap (λ (d : Dinode). d.blocks) dinode_is

  count_is : table_count h ≡ 32
  count_is = ap (λ n. 2 ^ n) depth_is

  -- ---- its table

  content_is : content_of h ≡ table_bytes p
  unfolding content_of
  content_is = from (dinode_in h).size (height_in h) (drop 232 (bytes_at h a)) _ size_is height_is (ap (drop 232) own_bytes ∙ block_is.rest)
    where
      from : (n m : ℕ) (xs ys : List ℕ) → n ≡ 256 → m ≡ 0 → xs ≡ table_bytes p ++ replicate (p.size - 232 - length (table_bytes p)) 0 → take n (if m == 0 then xs else ys) ≡ table_bytes p
      from n m xs ys long flat is = ap (λ k. take k (if m == 0 then xs else ys)) long ∙ ap (take 256) (cond-true _ xs ys (eq-eqb m 0 flat) ∙ is) ∙ take_at (table_bytes p) (replicate (p.size - 232 - length (table_bytes p)) 0) 256 (table_long p)

  pointer_leaf : (i : ℕ) → i < 32 → leaf_of_pointer p i < journal_leaves p
  pointer_leaf i low = pointer_low (is_split p) i (journal_leaves p) two one

  entry_is : (i : ℕ) → i < 32 → entry h i ≡ leaf (leaf_of_pointer p i)
  unfolding table_bytes
  entry_is i low =
      ap (u64_at (8 * i)) (content_is ∙ sym (append-nil (table_bytes p)))
      ∙ read_spelled (λ i. leaf (leaf_of_pointer p i)) (range_with_len 0 32) [] i (omega (arith, length-range_with_len 0 32, low)) (subst (λ n. leaf (leaf_of_pointer p n) < 2 ^ 64) (sym at_i) (near _ (leaf_low (leaf_of_pointer p i) (pointer_leaf i low))))
      ∙ ap (λ n. leaf (leaf_of_pointer p n)) at_i
    where
      at_i : get_or (range_with_len 0 32) i 0 ≡ i
      at_i = get_or-range_with_len 0 32 i 0 low ∙ none i
        where
          none : (n : ℕ) → 0 + n ≡ n
          none n = omega arith

  -- ---- its leaves

  leaf_part : (n : ℕ) → n < journal_leaves p → part_at h (leaf n) ≡ Some (InChain (leaf_hash p n) 0)
  leaf_part n low = chained_part known.given (image p at) (owner p) a (leaf n) (leaf_hash p n) 0 (owner_leaf p fit n low)

  record IsLeafPart (y hash place : ℕ) : Type 0 where
    pub n : ℕ
    pub low : n < journal_leaves p
    pub is : y ≡ leaf n
    pub hash_is : hash ≡ leaf_hash p n
    pub first : place ≡ 0

  part_leaf : (y hash place : ℕ) → part_at h y ≡ Some (InChain hash place) → IsLeafPart y hash place
  part_leaf y hash place e = from (leaf_owned p fit known y a hash place (chained_owner known.given (image p at) (owner p) a y hash place e))
    where
      from : IsLeafOf p fit known y a hash place → IsLeafPart y hash place
      from q = let same = chained_same p fit known _ _ _ _ _ _ q.owned in record { n = q.n; low = q.low; is = q.is; hash_is = sym same.1; first = sym same.2 }

  leaf_bytes : (n : ℕ) → n < journal_leaves p → bytes_at h (leaf n) ≡ leaf_block p n
  unfolding used_block
  leaf_bytes n low =
      block_same known.given (image p at) (owner p) a (leaf n) (InChain (leaf_hash p n) 0) (leaf_part n low) ∙ made.is (leaf n) (leaf_low n low)
      ∙ used_at p fit known (leaf_place p n) (leaf_taken p n low) ∙ ap (used_block p) (use_of_leaf p n low)

  leaf_is : (n : ℕ) → n < journal_leaves p → IsLeafBlock p.size (leaf_head p n) (records (leaf_room p) (leaf_entries p n)) (bytes_at h (leaf n))
  leaf_is n low = subst (IsLeafBlock p.size (leaf_head p n) (records (leaf_room p) (leaf_entries p n))) (sym (leaf_bytes n low)) (leaf_block_is p fit known n)

  head_is : (n : ℕ) → n < journal_leaves p → leaf_in h (leaf n) ≡ leaf_head p n
  head_is n low = (leaf_is n low).is

  area_is : (n : ℕ) → n < journal_leaves p → leaf_area h (leaf n) ≡ records (leaf_room p) (leaf_entries p n)
  area_is n low = (leaf_is n low).rest

  pub said_is : (n : ℕ) → n < journal_leaves p → records_in (leaf_area h (leaf n)) ≡ leaf_said p n
  said_is n low = ap records_in (area_is n low) ∙ (leaf_area_is p fit known n).are

  -- ---- the chains: each has one leaf

  first_is : (i : ℕ) → i < 32 → first_hash h i ≡ leaf_hash p (leaf_of_pointer p i)
  first_is i low = each (entry h i) (depth_in h) (leaf_in h (entry h i)).depth depth_is (ap (λ b. (leaf_in h b).depth) (entry_is i low) ∙ ap (λ (l : Leaf). l.depth) (head_is (leaf_of_pointer p i) (pointer_leaf i low)))
    where
      each : (b n m : ℕ) → n ≡ 5 → m ≡ leaf_depth p → i / 2 ^ (n - m) * 2 ^ (32 - m) ≡ leaf_hash p (leaf_of_pointer p i)
      each b n m five is = (λ t. i / 2 ^ (five t - is t) * 2 ^ (32 - is t)) ∙ first_index (is_split p) i low

  leads_is : (i : ℕ) → i < 32 → part_at h (entry h i) ≡ Some (InChain (first_hash h i) 0)
  leads_is i low = ap (part_at h) (entry_is i low) ∙ leaf_part (leaf_of_pointer p i) (pointer_leaf i low) ∙ ap (λ n. Some (InChain n 0)) (sym (first_is i low))

  runs_is : (i j : ℕ) → i < 32 → j < 32 → index_bits h (leaf_in h (entry h i)).depth j ≡ index_bits h (leaf_in h (entry h i)).depth i → entry h j ≡ entry h i
  runs_is i j low low' e =
      entry_is j low' ∙ ap leaf (same_leaf (is_split p) i j low low' (sym (turned j) ∙ e ∙ turned i)) ∙ sym (entry_is i low)
    where
      depth_at : (leaf_in h (entry h i)).depth ≡ leaf_depth p
      depth_at = ap (λ b. (leaf_in h b).depth) (entry_is i low) ∙ ap (λ (l : Leaf). l.depth) (head_is (leaf_of_pointer p i) (pointer_leaf i low))

      turned : (k : ℕ) → index_bits h (leaf_in h (entry h i)).depth k ≡ k / 2 ^ (5 - leaf_depth p)
      turned k = λ t. k / 2 ^ (depth_is t - depth_at t)

  next_none : (n : ℕ) → n < journal_leaves p → (leaf_in h (leaf n)).next ≡ 0
  next_none n low = ap (λ (l : Leaf). l.next) (head_is n low)

  few_bits : leaf_depth p ≤ 5
  few_bits = by_test (is_split p)
    where
      by_test : (v : Bool) → (if v then 1 else 0) ≤ 5
      by_test true = omega arith
      by_test false = omega arith

  -- so many records are in use
  leaf_counted : (n : ℕ) → leaf_records p n ≡ length (leaf_said p n)
  leaf_counted n = said_long p fit n

  leaf_right : (n : ℕ) → n < journal_leaves p → IsLeaf h (leaf_hash p n) (leaf n)
  leaf_right n low = record {
    header = (leaf_is n low).header;
    records_format = (leaf_is n low).format;
    depth = ends (leaf_in h (leaf n)).depth (leaf_depth p) (depth_in h) depth_at depth_is few_bits;
    area = subst IsRecordArea (sym (area_is n low)) (leaf_area_is p fit known n).area;
    entries = ap (λ (l : Leaf). l.entries) (head_is n low) ∙ leaf_counted n ∙ ap length (sym (said_is n low));
    hashes = λ r there. ap (λ m. top_bits m (crc32_of r.name)) depth_at ∙ leaf_hashes p fit known n r (is_in r (leaf_said p n) (subst (λ (rs : List Record). Contains rs r) (said_is n low) there)) ∙ ap (λ m. top_bits m (leaf_hash p n)) (sym depth_at);
  }
    where
      depth_at : (leaf_in h (leaf n)).depth ≡ leaf_depth p
      depth_at = ap (λ (l : Leaf). l.depth) (head_is n low)

      ends : (m k c : ℕ) → m ≡ k → c ≡ 5 → k ≤ 5 → m ≤ c
      ends m k c e f le = omega (arith, e, f, le)

  table_sound : IsHashed h
  table_sound = record {
    least = omega (arith, size_is_512, count_is);
    greatest = omega (arith, size_is_512, count_is);
    size = size_is ∙ ap (λ n. 8 * n) (sym count_is);
    leads = λ i low. leads_is i (inside i low);
    runs = λ i j low low' e. runs_is i j (inside i low) (inside j low') e;
    next = λ x hash place e some. let q = part_leaf x hash place e in absurd (some (ap (λ b. (leaf_in h b).next) q.is ∙ next_none q.n q.low));
    headed = λ x hash e. let q = part_leaf x hash 0 e in let i = led_by (is_split p) q.n (journal_leaves p) two one q.low in
        (i.0, subst (λ n. i.0 < n) (sym count_is) i.1, entry_is i.0 i.1 ∙ ap leaf i.2 ∙ sym q.is);
    chained = λ x hash place e. absurd (never (suc place) (part_leaf x hash (suc place) e).first refl);
    leaves = λ x hash place e. let q = part_leaf x hash place e in subst (λ b. IsLeaf h hash b) (sym q.is) (subst (λ n. IsLeaf h n (leaf q.n)) (sym q.hash_is) (leaf_right q.n q.low));
  }
    where
      inside : (i : ℕ) → i < table_count h → i < 32
      inside i low = subst (λ n. i < n) count_is low

      never : {place : ℕ} (n : ℕ) → n ≡ 0 → n ≡ suc place → ⊥
      never {place} n e f = absurd (omega (arith, e, f))

  -- ---- its blocks

  no_pointed : (y b k level first : ℕ) → part_at h y ≡ Some (Pointed b k level first) → ⊥
  no_pointed y b k level first e = from (below_of p fit known y a b k level first (pointed_owner known.given (image p at) (owner p) a y b k level first e))
    where
      from : IsBelowOf p fit known y a b k level first → ⊥
      from q = file_apart_journals p fit known q.file q.ok (sym (below_1 _ _ _ _ _ _ _ _ _ _ q.owned))

  flat : (level : ℕ) → height_in h ≡ suc level → ⊥
  flat level e = never (height_in h) level height_is e
    where
      never : (n level : ℕ) → n ≡ 0 → n ≡ suc level → ⊥
      never n level z e = absurd (omega (arith, z, e))

  -- block k of them: its dinode, and its leaves
  abbrev piece : ℕ → ℕ
  piece k = data_address p (journals_place p + k)

  piece_kept : (k : ℕ) → k < 1 + journal_leaves p → journals_place p + k < all_data p
  piece_kept k low = in_all p fit (journals_place p + k) (omega (arith, low))

  first_piece : a ≡ piece 0
  first_piece = ap (data_address p) (none (journals_place p))
    where
      none : (n : ℕ) → n ≡ n + 0
      none n = omega arith

  leaf_piece : (n : ℕ) → leaf n ≡ piece (suc n)
  leaf_piece n = ap (data_address p) (turn (journals_place p) n)
    where
      turn : (j n : ℕ) → j + 1 + n ≡ j + suc n
      turn j n = omega arith

  has_piece : (k : ℕ) → k < 1 + journal_leaves p → is_some (h.cell (piece k)) ≡ true
  has_piece zero low = ap (λ b. is_some (h.cell b)) (sym first_piece) ∙ cell_some (h.cell a) Itself (own_part known.given (image p at) (owner p) a own_is)
  has_piece (suc n) low = ap (λ b. is_some (h.cell b)) (sym (leaf_piece n)) ∙ cell_some (h.cell (leaf n)) (InChain (leaf_hash p n) 0) (leaf_part n (omega (arith, low)))

  only_pieces : (y : ℕ) (q : Part) → part_at h y ≡ Some q → (k : ℕ) × (k < 1 + journal_leaves p) × (y ≡ piece k)
  only_pieces y Itself e = (0, omega arith, itself_own known.given (image p at) (owner p) a y e ∙ first_piece)
  only_pieces y (Pointed b k level first) e = absurd (no_pointed y b k level first e)
  only_pieces y (InChain hash place) e = let q = part_leaf y hash place e in (suc q.n, omega (arith, q.low), q.is ∙ leaf_piece q.n)

  pieces_apart : (k n : ℕ) → k < 1 + journal_leaves p → n < 1 + journal_leaves p → piece k ≡ piece n → k ≡ n
  pieces_apart k n low low' e = cancel (journals_place p) k n (apart_addresses p fit (journals_place p + k) (journals_place p + n) (piece_kept k low) (piece_kept n low') e)
    where
      cancel : (j k n : ℕ) → j + k ≡ j + n → k ≡ n
      cancel j k n e = omega (arith, e)

  piece_low : (k : ℕ) → k < 1 + journal_leaves p → piece k < p.count
  piece_low k low = address_low p fit (journals_place p + k) (piece_kept k low)

  blocks_counted : block_count h ≡ 1 + journal_leaves p
  unfolding block_count
  blocks_counted = count_images (1 + journal_leaves p) p.count piece (λ b. is_some (h.cell b)) piece_low pieces_apart has_piece (λ b e. let c = some_cell (h.cell b) e in only_pieces b c.0 c.1)

  pub hashed_sound : IsInode h
  hashed_sound = record {
    whole = λ b q e. ap length (block_same known.given (image p at) (owner p) a b q e) ∙ made.whole b (let k = only_pieces b q e in subst (λ n. n < p.count) (sym k.2) (piece_low k.0 k.1));
    header = subst (HasHeader 4 400) (sym own_bytes) block_is.header;
    address = address_is;
    number = λ e. absurd (omega (arith, hashed_number, e));
    mode = inl hashed_dir;
    links = λ e. absurd (true≢false (sym hashed_dir ∙ e));
    fits = record {
      low = low_height (height_in h) height_is;
      stuffed = λ e. size_inside (dinode_in h).size p.size size_is size_is_512;
      under = λ level e. absurd (flat level e);
    };
    tree = record {
      top = λ level e. absurd (flat level e);
      inner = λ x b k level first e. absurd (no_pointed x b k (suc level) first e);
      pointed = λ x b k level first e. absurd (no_pointed x b k level first e);
      below = λ x b k level first e. absurd (no_pointed x b k level first e);
      indirect = λ x b k level first e. absurd (no_pointed x b k (suc level) first e);
      table = λ x b k first dir e. absurd (no_pointed x b k 0 first e);
    };
    linear = λ e g. absurd (true≢false (sym hashed_form ∙ g));
    hashed = λ e. table_sound;
    leafless = λ e. absurd (true≢false (sym hashed_form ∙ e));
    blocks = blocks_is ∙ sym blocks_counted;
  }
    where
      low_height : (n : ℕ) → n ≡ 0 → n ≤ 10
      low_height n e = omega (arith, e)

      size_inside : (n s : ℕ) → n ≡ 256 → s ≡ 512 → 232 + n ≤ s
      size_inside n s e f = omega (arith, e, f)

  -- ---- its records, in the order of the leaves' blocks

  abbrev leaves_up : ℕ → List ℕ
  leaves_up m = map leaf (range_with_len 0 m)

  leaves_are : leaves_of h ≡ leaves_up (journal_leaves p)
  leaves_are = same_rising (leaves_of h) (leaves_up (journal_leaves p)) (rising_filter test (range_with_len 0 p.count) (rising_range 0 p.count)) (up 0 (journal_leaves p) (omega arith)) to from
    where
      test : ℕ → Bool
      test x = is_leaf_part (part_at h x)

      above : (k s n : ℕ) → k < s → s + n ≤ journal_leaves p → AllByRecursion (λ y. leaf k < y) (map leaf (range_with_len s n))
      above k s zero low few = tt
      above k s (suc n) low few = (addresses_up p fit (leaf_place p k) (leaf_place p s) (omega (arith, low)) (in_all p fit (leaf_place p s) (leaf_taken p s (omega (arith, few)))), above k (s + 1) n (omega (arith, low)) (omega (arith, few)))

      up : (s n : ℕ) → s + n ≤ journal_leaves p → Rising (map leaf (range_with_len s n))
      up s zero few = tt
      up s (suc n) few = (above s (s + 1) n (omega arith) (omega (arith, few)), up (s + 1) n (omega (arith, few)))

      there : (x s n : ℕ) (k : ℕ) → s ≤ k → k < s + n → x ≡ leaf k → IsIn x (map leaf (range_with_len s n))
      there x s zero k low high e = absurd (omega (arith, low, high))
      there x s (suc n) k low high e = elim (cases_eq k s) [
        | inl same ↦ inl (e ∙ ap leaf same)
        | inr other ↦ inr (there x (s + 1) n k (omega (arith, low, other)) (omega (arith, high)) e)
      ]

      back : (x s n : ℕ) → s + n ≤ journal_leaves p → IsIn x (map leaf (range_with_len s n)) → (k : ℕ) × (k < journal_leaves p) × (x ≡ leaf k)
      back x s zero few h = elim h [ ]
      back x s (suc n) few (inl e) = (s, omega (arith, few), e)
      back x s (suc n) few (inr h) = back x (s + 1) n (omega (arith, few)) h

      of_part : (x : ℕ) (o : Option Part) → part_at h x ≡ o → is_leaf_part o ≡ true → IsIn x (leaves_up (journal_leaves p))
      of_part x (Some (InChain hash place)) e is = let q = part_leaf x hash place e in there x 0 (journal_leaves p) q.n (omega arith) (omega (arith, q.low)) q.is
      of_part x (Some Itself) e is = absurd (true≢false (sym is))
      of_part x (Some (Pointed b k level first)) e is = absurd (true≢false (sym is))
      of_part x None e is = absurd (true≢false (sym is))

      to : (x : ℕ) → IsIn x (leaves_of h) → IsIn x (leaves_up (journal_leaves p))
      to x g = of_part x (part_at h x) refl (from_filter test x (range_with_len 0 p.count) g).1

      from : (x : ℕ) → IsIn x (leaves_up (journal_leaves p)) → IsIn x (leaves_of h)
      from x g =
          let k = back x 0 (journal_leaves p) (omega arith) g in
          in_filter test x (range_with_len 0 p.count) (in_range 0 p.count x (omega arith) (subst (λ b. b < 0 + p.count) (sym k.2) (omega (arith, leaf_low k.0 k.1)))) (ap test k.2 ∙ ap is_leaf_part (leaf_part k.0 k.1))

  pub hashed_records : records_of h ≡ flat_map (leaf_said p) (range_with_len 0 (journal_leaves p))
  unfolding records_of
  hashed_records = cond-true _ _ _ hashed_form ∙ ap (flat_map (λ x. records_in (leaf_area h x))) leaves_are ∙ each 0 (journal_leaves p) (omega arith)
    where
      each : (s n : ℕ) → s + n ≤ journal_leaves p → flat_map (λ x. records_in (leaf_area h x)) (map leaf (range_with_len s n)) ≡ flat_map (leaf_said p) (range_with_len s n)
      each s zero few = refl
      each s (suc n) few = λ t. said_is s (omega (arith, few)) t ++ each (s + 1) n (omega (arith, few)) t
