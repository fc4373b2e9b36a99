-- How many blocks a name takes at most.
use Rattle.std.proofs.Common.{◌≡◌, ◌+◌, ◌-◌, ◌*◌, ◌^◌, ◌<◌, ◌≤◌, ℕ, zero, suc, inl, inr, Bool, true, false, List, length, refl, sym, ap, subst, ◌∙◌, arith}
use Rattle.std.specs.Prelude.{◌&&◌, if◌then◌else◌, nat_lt}
use Rattle.std.specs.List.{list_any}
use Rattle.std.proofs.Math.Nat.{div-lt_iff_lt-mul, div-mul-le_self, mul-le-mul, pow-le-pow_right, pow-succ'}
use Rattle.std.proofs.lemmas.Bool.{cases_lt, leb-true, ltb-true}
use Rattle.std.proofs.lemmas.Nat.{le-div}
use Rattle.crc_words.specs.Remainder.{crc32_of}
use Rattle.gfs2_layout.specs.Device.{IsBlockSize}
use Rattle.gfs2_layout.specs.Holding.{Holding}
use Rattle.gfs2_layout.specs.Inode.{header_length, is_hashed_in, pieces, span}
use Rattle.growth_laws.specs.Need.{capacity, raised_to}
use Rattle.hash_steps.specs.Leaves.{has_room_for}
use Rattle.name_inserts.specs.Need.{chain_of, first_chain, first_depth, first_leaf, has_linear_room, has_one, is_growable, most_steps, name_need, need_in_hashed, need_in_linear, need_within}
use Rattle.name_inserts.specs.Needing.{Chain, doubled, split_for}
use Rattle.name_inserts.specs.Tables.{doubling_need, table_blocks, table_height, tree_blocks}
use Rattle.image_model.proofs.Lengths.{size_large}
use Rattle.small_changes.specs.Counting.{IsSmallChain, NamesTakeFew}
use Rattle.small_changes.proofs.Need.{fan_large, raised_low, second_of, span_some}

-- ---- the blocks of a table

-- as many pieces of more
pieces_more : (n m each : ℕ) → 0 < each → n ≤ m → pieces n each ≤ pieces m each
pieces_more n m each some more =
    let low : pieces n each * each ≤ n + each - 1 = div-mul-le_self (n + each - 1) each in
    le-div (pieces n each) (m + each - 1) each some (omega (arith, low, more))

-- a table that is no larger than one may be is in at most 68 blocks
pub table_few : (size count : ℕ) → 512 ≤ size → count ≤ 8 * size → table_blocks size count ≤ 68
table_few size count wide small =
    let less : table_blocks size count < 69 = (div-lt_iff_lt-mul (let some : 0 < size - header_length = omega (arith, wide) in some)).1 (omega (arith, wide, small)) in
    omega (arith, less)

single : (n : ℕ) → pieces n 1 ≤ n
single n =
    let one : 0 < 1 = omega arith in
    let less : pieces n 1 < n + 1 = (div-lt_iff_lt-mul one).1 (omega arith) in
    omega (arith, less)

pair : (n each : ℕ) → n ≤ 68 → 61 ≤ each → pieces n each ≤ 2
pair n each few wide =
    let less : pieces n each < 3 = (div-lt_iff_lt-mul (let some : 0 < each = omega (arith, wide) in some)).1 (omega (arith, few, wide)) in
    omega (arith, less)

span_wide : (size level : ℕ) → 512 ≤ size → 61 ≤ span size (suc level)
span_wide size level wide = mul-le-mul (fan_large size wide) (span_some size level wide)

-- below the dinode its content, and at most two blocks of each level above
pub tree_few : (size height n : ℕ) → 512 ≤ size → n ≤ 68 → tree_blocks size height n ≤ 68 + 2 * height
tree_few size zero n wide few = omega arith
tree_few size (suc zero) n wide few = let one = single n in omega (arith, one, few)
tree_few size (suc (suc level)) n wide few =
    let rest = tree_few size (suc level) n wide few in
    let two = pair n (span size (suc level)) few (span_wide size level wide) in
    omega (arith, rest, two)

height_more : (size height bytes more : ℕ) → height ≤ raised_to size height bytes more
height_more size height bytes zero = omega arith
height_more size height bytes (suc more) = by (nat_lt (capacity size height) bytes) (height_more size (suc height) bytes more)
  where
    by : (t : Bool) → suc height ≤ raised_to size (suc height) bytes more → height ≤ (if t then raised_to size (suc height) bytes more else height)
    by true higher = omega (arith, higher)
    by false higher = omega arith

tree_more : (size height n m : ℕ) → 512 ≤ size → n ≤ m → tree_blocks size height n ≤ tree_blocks size height m
tree_more size zero n m wide more = omega arith
tree_more size (suc level) n m wide more =
    let rest = tree_more size level n m wide more in
    let some : 0 < span size level = (let one = span_some size level wide in omega (arith, one)) in
    let here = pieces_more n m (span size level) some more in
    omega (arith, rest, here)

tree_higher : (size low more n : ℕ) → tree_blocks size low n ≤ tree_blocks size (low + more) n
tree_higher size low zero n = let same : low ≡ low + 0 = omega arith in subst (λ k. tree_blocks size low n ≤ tree_blocks size k n) same (omega arith)
tree_higher size low (suc more) n =
    let rest = tree_higher size low more n in
    let same : suc (low + more) ≡ low + suc more = omega arith in
    subst (λ k. tree_blocks size low n ≤ tree_blocks size k n) same (omega (arith, rest))

tree_grows : (size low high n m : ℕ) → 512 ≤ size → low ≤ high → n ≤ m → tree_blocks size low n ≤ tree_blocks size high m
tree_grows size low high n m wide up more =
    let first = tree_higher size low (high - low) n in
    let same : low + (high - low) ≡ high = omega (arith, up) in
    let then_more = tree_more size high n m wide more in
    let raised : tree_blocks size low n ≤ tree_blocks size high n = subst (λ k. tree_blocks size low n ≤ tree_blocks size k n) same first in
    omega (arith, raised, then_more)

-- ---- a name

-- the blocks below the dinode of a table so deep
abbrev pub tree_of : Chain → ℕ
tree_of c = tree_blocks c.size c.height (table_blocks c.size (2 ^ c.table))

table_low : (n m : ℕ) → 2 ^ n ≤ m → m ≤ 32768 → n ≤ 15
table_low n m low most = elim (cases_lt n 16) [
  | inl less ↦ omega (arith, less)
  | inr more ↦
      let some : 0 < 2 = omega arith in
      let large : 2 ^ 16 ≤ 2 ^ n = pow-le-pow_right some more in
      absurd (omega (arith, large, low, most))
]

module _ (c : Chain) (is : IsSmallChain c) where
  its_tree : tree_of c ≤ 88
  its_tree =
      let few = tree_few c.size c.height (table_blocks c.size (2 ^ c.table)) is.wide (table_few c.size (2 ^ c.table) is.wide is.table) in
      omega (arith, few, is.height)

  its_depth : c.depth ≤ 15
  its_depth = let low = table_low c.table (8 * c.size) is.table (let n = is.narrow in omega (arith, n)) in omega (arith, low, is.depth)

  split_small : (hash : ℕ) → c.depth < c.table → IsSmallChain (split_for hash (first_leaf c) c)
  split_small hash less = record { wide = is.wide; narrow = is.narrow; table = is.table; height = is.height; depth = omega (arith, less) }

  twice : 2 ^ (c.table + 1) ≡ 2 * 2 ^ c.table
  twice = let next : c.table + 1 ≡ suc c.table = omega arith in ap (λ n. 2 ^ n) next ∙ pow-succ' 2 c.table

  doubled_small : 2 * 2 ^ c.table ≤ 8 * c.size → IsSmallChain (doubled c)
  doubled_small small = record {
    wide = is.wide;
    narrow = is.narrow;
    table = subst (λ n. n ≤ 8 * c.size) (sym twice) small;
    height = raised_low c.size c.height (table_blocks c.size (2 * 2 ^ c.table) * c.size) (10 - c.height) 10 (omega (arith, is.height));
    depth = omega (arith, is.depth);
  }

  -- what the doubling takes is what the tree grows by
  doubling_is : tree_of (doubled c) ≡ tree_of c + doubling_need c.size c.height (2 ^ c.table)
  doubling_is =
      let same : tree_of (doubled c) ≡ tree_blocks c.size (table_height c.size c.height (2 * 2 ^ c.table)) (table_blocks c.size (2 * 2 ^ c.table))
      = ap (λ n. tree_blocks c.size (table_height c.size c.height (2 * 2 ^ c.table)) (table_blocks c.size n)) twice in
      let more : table_blocks c.size (2 ^ c.table) ≤ table_blocks c.size (2 * 2 ^ c.table)
      = pieces_more (8 * 2 ^ c.table) (8 * (2 * 2 ^ c.table)) (c.size - header_length) (let w = is.wide in omega (arith, w)) (omega arith) in
      let grows = tree_grows c.size c.height (table_height c.size c.height (2 * 2 ^ c.table)) (table_blocks c.size (2 ^ c.table)) (table_blocks c.size (2 * 2 ^ c.table)) is.wide
      (height_more c.size c.height (table_blocks c.size (2 * 2 ^ c.table) * c.size) (10 - c.height)) more in
      omega (arith, same, grows)

pub need_few : (steps len hash : ℕ) (c : Chain) → IsSmallChain c → need_within steps len hash c + c.depth + tree_of c ≤ 104
unfolding need_within
need_few zero len hash c is = let d = its_depth c is in let t = its_tree c is in omega (arith, d, t)
need_few (suc steps) len hash c is =
    by (list_any (has_room_for len) c.leaves) (has_one c && nat_lt c.depth c.table) refl (has_one c && is_growable c) refl
    (λ splits. need_few steps len hash (split_for hash (first_leaf c) c) (split_small c is hash (ltb-true c.depth c.table (second_of (has_one c) (nat_lt c.depth c.table) splits))))
    (λ grows. need_few steps len hash (doubled c) (doubled_small c is (leb-true (2 * 2 ^ c.table) (8 * c.size) (second_of (has_one c) (is_growable c) grows))))
  where
    by : (a b : Bool) → (has_one c && nat_lt c.depth c.table) ≡ b → (g : Bool) → (has_one c && is_growable c) ≡ g
        → ((has_one c && nat_lt c.depth c.table) ≡ true → need_within steps len hash (split_for hash (first_leaf c) c) + (c.depth + 1) + tree_of c ≤ 104)
        → ((has_one c && is_growable c) ≡ true → need_within steps len hash (doubled c) + c.depth + tree_of (doubled c) ≤ 104)
        → (if a then 0 else if b then need_within steps len hash (split_for hash (first_leaf c) c) + 1 else if g then need_within steps len hash (doubled c) + doubling_need c.size c.height (2 ^ c.table) else 1)
        + c.depth + tree_of c ≤ 104
    by true b e g f split double = let d = its_depth c is in let t = its_tree c is in omega (arith, d, t)
    by false true e g f split double = let rest = split e in omega (arith, rest)
    by false false e true f split double = let rest = double f in let more = doubling_is c is in omega (arith, rest, more)
    by false false e false f split double = let d = its_depth c is in let t = its_tree c is in omega (arith, d, t)

-- ---- a directory

module _ (h : Holding) (sized : IsBlockSize h.size) where
  narrow : h.size ≤ 4096
  narrow = by sized
    where
      by : IsBlockSize h.size → h.size ≤ 4096
      by (inl e) = omega (arith, e)
      by (inr (inl e)) = omega (arith, e)
      by (inr (inr (inl e))) = omega (arith, e)
      by (inr (inr (inr e))) = omega (arith, e)

  first_small : IsSmallChain (first_chain h)
  first_small = record { wide = size_large h.size sized; narrow = narrow; table = table; height = omega arith; depth = omega arith }
    where
      table : 2 ^ first_depth h.size ≤ 8 * h.size
      table = by sized
        where
          by : IsBlockSize h.size → 2 ^ first_depth h.size ≤ 8 * h.size
          by (inl e) = subst (λ n. 2 ^ first_depth n ≤ 8 * n) (sym e) (omega arith)
          by (inr (inl e)) = subst (λ n. 2 ^ first_depth n ≤ 8 * n) (sym e) (omega arith)
          by (inr (inr (inl e))) = subst (λ n. 2 ^ first_depth n ≤ 8 * n) (sym e) (omega arith)
          by (inr (inr (inr e))) = subst (λ n. 2 ^ first_depth n ≤ 8 * n) (sym e) (omega arith)

  -- at most 105 blocks
  pub name_few : (name : List ℕ) → (is_hashed_in h ≡ true → IsSmallChain (chain_of h name)) → name_need h name ≤ 105
  name_few name small = by (is_hashed_in h) refl
    where
      in_linear : need_in_linear h name ≤ 105
      in_linear = each (has_linear_room h name)
        where
          each : (t : Bool) → (if t then 0 else need_within most_steps (length name) (crc32_of name) (first_chain h) + 1) ≤ 105
          each true = omega arith
          each false = let few = need_few most_steps (length name) (crc32_of name) (first_chain h) first_small in omega (arith, few)

      by : (t : Bool) → is_hashed_in h ≡ t → (if t then need_in_hashed h name else need_in_linear h name) ≤ 105
      by true e = let few = need_few most_steps (length name) (crc32_of name) (chain_of h name) (small e) in omega (arith, few)
      by false e = in_linear

pub names_take_few : NamesTakeFew
names_take_few h name sized small = name_few h sized name small
