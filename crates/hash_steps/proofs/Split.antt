-- A leaf is split: where its pointers lead, how its records are parted, and what the directory is afterwards.
use Rattle.std.proofs.Common.{◌≡◌, ◌≢◌, ℕ, suc, ◌+◌, ◌-◌, ◌*◌, ◌/◌, ◌^◌, ◌<◌, ◌≤◌, inl, inr, Bool, true, false, List, [], ◌++◌, length, drop, Some, refl, sym, ap, ◌∙◌, subst, subst₂, arith, length-drop}
use Rattle.std.specs.Prelude.{Contains, ◌&&◌, filter, flat_map, not}
use Rattle.std.specs.List.Sorted.{IsPermutation}
use Rattle.std.proofs.Math.Nat.{mul-div_cancel, mul-le-mul_right}
use Rattle.std.proofs.lemmas.Bool.{cases_eq, cond-false, cond-true, eq-eqb, eqb-true, true≢false}
use Rattle.std.proofs.lemmas.List.{take_all}
use Rattle.std.proofs.lemmas.List.Sorted.{IsPermutation-filter_both, IsPermutation-refl}
use Rattle.crc_words.specs.Remainder.{crc32_of}
use Rattle.gfs2_layout.specs.Area.{name_of, slots_of}
use Rattle.gfs2_layout.specs.Bytes.{slice}
use Rattle.gfs2_layout.specs.Exchanges.{IsExchanged}
use Rattle.gfs2_layout.specs.Holding.{Holding, Part, InChain, part_at, bytes_at}
use Rattle.gfs2_layout.specs.Inode.{IsHashed, IsLeaf, IsNextLeaf, depth_in, entry, first_hash, has_hash_flag, index_bits, is_hashed_in, is_leaf_part, leaf_area, leaf_in, leaf_length, leaves_of, records_of, table_count, top_bits}
use Rattle.gfs2_layout.specs.Records.{IsRecordArea, Record, record_of, records_in}
use Rattle.gfs2_layout.specs.Structures.{is_directory, is_in_use, leaf_of}
use Rattle.gfs2_layout.specs.declared.dinode.Dinode.{Dinode}
use Rattle.gfs2_layout.specs.declared.leaf.Leaf.{Leaf}
use Rattle.image_model.proofs.Members.{IsIn, from_filter, is_in, contained}
use Rattle.leaf_areas.specs.Laws.{HalvesHaveTheRecords}
use Rattle.leaf_areas.specs.Splitting.{bit_at, is_lower, is_lower_name, lower_half}
use Rattle.pointer_tables.specs.Tables.{is_within}
use Rattle.hash_dirs.specs.Shown.{IsSound}
use Rattle.hash_dirs.proofs.Chained.{deep, inside, rules, same_hash, some_block}
use Rattle.hash_dirs.proofs.Indexes.{bits_of_first, run_within, some_pow}
use Rattle.hash_dirs.proofs.Named.{records_are}
use Rattle.hash_dirs.proofs.Regrouped.{regrouped}
use Rattle.hash_steps.specs.Laws.{Stays}
use Rattle.hash_steps.specs.Leaves.{HasOneLeaf, first_of, leaf_depth, middle_hash, run_of}
use Rattle.hash_steps.specs.Steps.{IsSplit}
use Rattle.hash_steps.proofs.Contents.{IsTableBlock, table_block}
use Rattle.hash_steps.proofs.Halves.{count_passing, first_bits, half_bits, half_of_even, half_of_odd, half_run, odd_apart, lower_bits, lower_hash, outside_run, upper_bits, upper_hash, which_half, within_bounds, within_run}
use Rattle.hash_steps.proofs.Joins.{moved_over}
use Rattle.hash_steps.proofs.Leaves.{apart_from_new, in_a_chain, itself_or_chained, leaf_is, leaf_kept, no_later, pointed_or_chained}
use Rattle.hash_steps.proofs.Records.{one_leaf_more, told_at}
use Rattle.hash_steps.proofs.Sound.{directory_of, large_of, short_of, stays, untabled}

-- ---- how many records each half has

lower_count : (depth : ℕ) (area : List ℕ) → length (filter (is_lower depth) (slots_of area)) ≡ length (filter (λ r. is_lower_name depth r.name) (records_in area))
unfolding records_in
lower_count depth area = count_passing record_of (λ s. is_in_use s.head) (is_lower depth) (λ r. is_lower_name depth r.name) (λ s. refl) (slots_of area)

upper_count : (depth : ℕ) (area : List ℕ) → length (filter (λ s. is_in_use s.head && not (is_lower depth s)) (slots_of area)) ≡ length (filter (λ r. not (is_lower_name depth r.name)) (records_in area))
unfolding records_in
upper_count depth area =
    count_passing record_of (λ s. is_in_use s.head) (λ s. is_in_use s.head && not (is_lower depth s)) (λ r. not (is_lower_name depth r.name)) (λ s. used (is_in_use s.head) (is_lower_name depth (name_of s))) (slots_of area)
  where
    used : (a b : Bool) → (a && not (a && b)) ≡ (a && not b)
    used true b = refl
    used false b = refl

-- ---- bytes of which every stretch is the same

same_slices : (xs ys : List ℕ) → ((at n : ℕ) → slice at n xs ≡ slice at n ys) → xs ≡ ys
same_slices xs ys same =
    let n : ℕ = length xs + length ys in
    sym (take_all n xs (omega arith)) ∙ same 0 n ∙ take_all n ys (omega arith)

module _ (h g : Holding) (i b : ℕ) (sound : IsSound h) (hashed : is_hashed_in h ≡ true) (low : i < table_count h) (one_leaf : HasOneLeaf h i) (shallow : leaf_depth h i < depth_in h) (split : IsSplit h g i b) where
  was : IsHashed h
  was = rules h sound hashed

  table_low : depth_in h ≤ 15
  table_low = deep h sound hashed

  depth_low : leaf_depth h i ≤ 15
  depth_low = let a : depth_in h ≤ 15 = table_low in let b : leaf_depth h i < depth_in h = shallow in omega (arith, a, b)

  -- the top bits of an index's hashes: as many as a leaf of either half is deep, and as many as the old leaf was
  abbrev half : ℕ → ℕ
  half j = j / 2 ^ (depth_in h - (leaf_depth h i + 1))

  abbrev bits : ℕ
  bits = i / 2 ^ (depth_in h - leaf_depth h i)

  part_old : part_at h (entry h i) ≡ Some (InChain (first_hash h i) 0)
  part_old = was.leads i low

  new_apart : (x : ℕ) (p : Part) → part_at h x ≡ Some p → x ≢ b
  new_apart x p part = apart_from_new h b x p split.new part

  old_apart : entry h i ≢ b
  old_apart = new_apart (entry h i) (InChain (first_hash h i) 0) part_old

  -- ---- the pointers that lead to the old leaf

  leads_old : (j : ℕ) → j < table_count h → half j / 2 ≡ bits → entry h j ≡ entry h i
  leads_old j lowj is = was.runs i j low lowj (sym (half_bits (depth_in h) (leaf_depth h i) j shallow) ∙ is)

  of_old : (j : ℕ) → j < table_count h → entry h j ≡ entry h i → half j / 2 ≡ bits
  of_old j lowj same =
      let d : ℕ = leaf_depth h i in
      let hashes : first_hash h j ≡ first_hash h i = (same_hash (first_hash h j) (first_hash h i) 0 0 (sym (was.leads j lowj) ∙ ap (part_at h) same ∙ part_old)).0 in
      half_bits (depth_in h) d j shallow ∙ sym (bits_of_first d (index_bits h d j))
      ∙ ap (top_bits d) (ap (λ y. index_bits h (leaf_in h y).depth j * 2 ^ (32 - (leaf_in h y).depth)) (sym same) ∙ hashes) ∙ bits_of_first d (index_bits h d i)

  -- ---- where pointers lead afterwards

  run_some : 0 < run_of h (leaf_depth h i + 1)
  run_some = some_pow (depth_in h - (leaf_depth h i + 1))

  begins : first_of h i ≡ 2 * bits * run_of h (leaf_depth h i + 1)
  begins = first_bits (depth_in h) (leaf_depth h i) bits shallow

  lower_entry : (j : ℕ) → j < table_count h → half j ≡ 2 * bits → entry g j ≡ b
  lower_entry j lowj is = split.entries j lowj ∙ cond-true (is_within (first_of h i) (run_of h (leaf_depth h i + 1)) j) b (entry h j)
      (within_run (first_of h i) (run_of h (leaf_depth h i + 1)) j (2 * bits) run_some begins is)

  other_entry : (j : ℕ) → j < table_count h → half j ≢ 2 * bits → entry g j ≡ entry h j
  other_entry j lowj other = split.entries j lowj ∙ cond-false (is_within (first_of h i) (run_of h (leaf_depth h i + 1)) j) b (entry h j)
      (outside_run (first_of h i) (run_of h (leaf_depth h i + 1)) j (2 * bits) begins other)

  -- such a pointer is one of the table's
  within_low : (j : ℕ) → is_within (first_of h i) (run_of h (leaf_depth h i + 1)) j ≡ true → j < table_count h
  within_low j is =
      let run : ℕ = run_of h (leaf_depth h i + 1) in
      let most : (bits + 1) * 2 ^ (depth_in h - leaf_depth h i) ≤ table_count h = run_within i (depth_in h) (leaf_depth h i) (let s : leaf_depth h i < depth_in h = shallow in omega (arith, s)) low in
      let bounds : j < first_of h i + run = (within_bounds (first_of h i) run j is).1 in
      let twice : run_of h (leaf_depth h i) ≡ run * 2 = half_run (depth_in h) (leaf_depth h i) shallow in
      let more : (bits + 1) * run_of h (leaf_depth h i) ≡ bits * run_of h (leaf_depth h i) + run_of h (leaf_depth h i) = omega arith in
      ends (first_of h i) run (run_of h (leaf_depth h i)) ((bits + 1) * run_of h (leaf_depth h i)) (table_count h) j bounds twice more most
    where
      ends : (from run whole over all j : ℕ) → j < from + run → whole ≡ run * 2 → over ≡ from + whole → over ≤ all → j < all
      ends from run whole over all j a c d e = omega arith

  deep_same : depth_in g ≡ depth_in h
  deep_same = ap (λ (d : Dinode). d.depth) split.counts.dinode

  tables_same : table_count g ≡ table_count h
  tables_same = ap (λ n. 2 ^ n) deep_same

  before : (j : ℕ) → j < table_count g → j < table_count h
  before j lowj = subst (λ n. j < n) tables_same lowj

  -- ---- the leaves of each half, and the others

  new_depth : (leaf_in g b).depth ≡ leaf_depth h i + 1
  new_depth = ap (λ (l : Leaf). l.depth) split.new_leaf.head_is

  old_depth : (leaf_in g (entry h i)).depth ≡ leaf_depth h i + 1
  old_depth = ap (λ (l : Leaf). l.depth) split.old_leaf.head_is

  new_next : (leaf_in g b).next ≡ 0
  new_next = ap (λ (l : Leaf). l.next) split.new_leaf.head_is

  old_next : (leaf_in g (entry h i)).next ≡ 0
  old_next = ap (λ (l : Leaf). l.next) split.old_leaf.head_is

  no_table_block : (y hash place : ℕ) → part_at h y ≡ Some (InChain hash place) → IsTableBlock h y → ⊥
  no_table_block y hash place part (inl own) = itself_or_chained hash place (sym sound.placed.own ∙ ap (part_at h) (sym own) ∙ part)
  no_table_block y hash place part (inr at) = pointed_or_chained at.0 at.1 0 at.2 hash place (sym at.3 ∙ part)

  leaf_bytes : (y hash place : ℕ) → part_at h y ≡ Some (InChain hash place) → y ≢ entry h i → bytes_at g y ≡ bytes_at h y
  leaf_bytes y hash place part other =
      same_slices (bytes_at g y) (bytes_at h y) (λ at n.
      split.others y at n (new_apart y (InChain hash place) part) other (λ own. absurd (no_table_block y hash place part (inl own)))
      (λ j within is. absurd (no_table_block y hash place part (subst (IsTableBlock h) (sym is)
      (table_block h sound.inode.tree sound.inode.fits (large_of h.size sound.block_size) (directory_of h hashed) was.size j (within_low j within))))))

  -- ---- which hashes belong to a pointer

  first_by : (j n : ℕ) → (leaf_in g (entry g j)).depth ≡ n → first_hash g j ≡ j / 2 ^ (depth_in h - n) * 2 ^ (32 - n)
  first_by j n is = λ t. j / 2 ^ (deep_same t - is t) * 2 ^ (32 - is t)

  bits_by : (j k n : ℕ) → (leaf_in g (entry g j)).depth ≡ n → index_bits g (leaf_in g (entry g j)).depth k ≡ k / 2 ^ (depth_in h - n)
  bits_by j k n is = λ t. k / 2 ^ (deep_same t - is t)

  -- a pointer of the lower half, of the upper half, or of another leaf
  data Leading (j : ℕ) : Type 0 where
    lower : half j ≡ 2 * bits → entry g j ≡ b → Leading j
    upper : half j ≡ 2 * bits + 1 → entry h j ≡ entry h i → entry g j ≡ entry h i → Leading j
    elsewhere : half j / 2 ≢ bits → entry h j ≢ entry h i → entry g j ≡ entry h j → Leading j

  leading : (j : ℕ) → j < table_count h → Leading j
  leading j lowj = elim (which_half (half j) bits) [
    | inl is ↦ lower is (lower_entry j lowj is)
    | inr rest ↦ elim rest [
      | inl is ↦
          let same : entry h j ≡ entry h i = leads_old j lowj (half_of_odd (half j) bits is) in
          upper is same (other_entry j lowj (odd_apart (half j) bits is) ∙ same)
      | inr other ↦ elsewhere other (λ same. other (of_old j lowj same)) (other_entry j lowj (λ is. other (half_of_even (half j) bits is)))
    ]
  ]

  lower_first : (j : ℕ) → half j ≡ 2 * bits → entry g j ≡ b → first_hash g j ≡ first_hash h i
  lower_first j is at = first_by j (leaf_depth h i + 1) (ap (λ y. (leaf_in g y).depth) at ∙ new_depth) ∙ ap (λ n. n * 2 ^ (32 - (leaf_depth h i + 1))) is ∙ lower_hash (leaf_depth h i) bits depth_low

  upper_first : (j : ℕ) → half j ≡ 2 * bits + 1 → entry g j ≡ entry h i → first_hash g j ≡ middle_hash h i
  upper_first j is at = first_by j (leaf_depth h i + 1) (ap (λ y. (leaf_in g y).depth) at ∙ old_depth) ∙ ap (λ n. n * 2 ^ (32 - (leaf_depth h i + 1))) is ∙ upper_hash (leaf_depth h i) bits depth_low

  depth_kept : (j : ℕ) → j < table_count h → entry h j ≢ entry h i → entry g j ≡ entry h j → (leaf_in g (entry g j)).depth ≡ (leaf_in h (entry h j)).depth
  depth_kept j lowj other at = ap (λ y. (leaf_in g y).depth) at ∙ ap (λ b. (leaf_of b).depth) (leaf_bytes (entry h j) (first_hash h j) 0 (was.leads j lowj) other)

  kept_first : (j : ℕ) → j < table_count h → entry h j ≢ entry h i → entry g j ≡ entry h j → first_hash g j ≡ first_hash h j
  kept_first j lowj other at = first_by j (leaf_in h (entry h j)).depth (depth_kept j lowj other at)

  leads : (j : ℕ) → j < table_count h → Leading j → part_at g (entry g j) ≡ Some (InChain (first_hash g j) 0)
  leads j lowj (lower is at) = ap (part_at g) at ∙ split.new_part ∙ ap (λ n. Some (InChain n 0)) (sym (lower_first j is at))
  leads j lowj (upper is same at) = ap (part_at g) at ∙ split.old_part ∙ ap (λ n. Some (InChain n 0)) (sym (upper_first j is at))
  leads j lowj (elsewhere other apart at) =
      ap (part_at g) at ∙ split.parts (entry h j) (new_apart (entry h j) (InChain (first_hash h j) 0) (was.leads j lowj)) apart ∙ was.leads j lowj ∙ ap (λ n. Some (InChain n 0)) (sym (kept_first j lowj apart at))

  runs : (j k : ℕ) → j < table_count h → k < table_count h → Leading j → index_bits g (leaf_in g (entry g j)).depth k ≡ index_bits g (leaf_in g (entry g j)).depth j → entry g k ≡ entry g j
  runs j k lowj lowk (lower is at) same =
      let depth : (leaf_in g (entry g j)).depth ≡ leaf_depth h i + 1 = ap (λ y. (leaf_in g y).depth) at ∙ new_depth in
      lower_entry k lowk (sym (bits_by j k (leaf_depth h i + 1) depth) ∙ same ∙ bits_by j j (leaf_depth h i + 1) depth ∙ is) ∙ sym at
  runs j k lowj lowk (upper is _ at) same =
      let depth : (leaf_in g (entry g j)).depth ≡ leaf_depth h i + 1 = ap (λ y. (leaf_in g y).depth) at ∙ old_depth in
      by (leading k lowk) (sym (bits_by j k (leaf_depth h i + 1) depth) ∙ same ∙ bits_by j j (leaf_depth h i + 1) depth ∙ is) ∙ sym at
    where
      by : Leading k → half k ≡ 2 * bits + 1 → entry g k ≡ entry h i
      by (lower e f) e' = absurd (omega (arith, e, e'))
      by (upper e f to) e' = to
      by (elsewhere other apart to) e' = absurd (other (omega (arith, e')))
  runs j k lowj lowk (elsewhere other apart at) same =
      let d : ℕ = (leaf_in h (entry h j)).depth in
      let depth : (leaf_in g (entry g j)).depth ≡ d = depth_kept j lowj apart at in
      let led : entry h k ≡ entry h j = was.runs j k lowj lowk (sym (bits_by j k d depth) ∙ same ∙ bits_by j j d depth) in
      by led (leading k lowk) ∙ sym at
    where
      by : entry h k ≡ entry h j → Leading k → entry g k ≡ entry h j
      by led (lower e f) = absurd (apart (sym led ∙ leads_old k lowk (omega (arith, e))))
      by led (upper e f to) = absurd (apart (sym led ∙ f))
      by led (elsewhere e f to) = to ∙ led

  -- ---- chains

  part_before : (x hash place : ℕ) → x ≢ b → x ≢ entry h i → part_at g x ≡ Some (InChain hash place) → part_at h x ≡ Some (InChain hash place)
  part_before x hash place a o part = sym (split.parts x a o) ∙ part

  later_apart : (x hash place : ℕ) → part_at h x ≡ Some (InChain hash (suc place)) → x ≢ entry h i
  later_apart x hash place part is = no_later place (same_hash hash (first_hash h i) (suc place) 0 (sym part ∙ ap (part_at h) is ∙ part_old)).1

  next : (x hash place : ℕ) → part_at g x ≡ Some (InChain hash place) → (leaf_in g x).next ≢ 0 → IsNextLeaf g hash place x (leaf_in g x).next
  next x hash place part some = elim (cases_eq x b) [
    | inl is ↦ absurd (some (ap (λ y. (leaf_in g y).next) is ∙ new_next))
    | inr apart ↦ elim (cases_eq x (entry h i)) [
      | inl is ↦ absurd (some (ap (λ y. (leaf_in g y).next) is ∙ old_next))
      | inr other ↦
          let there = part_before x hash place apart other part in
          let same : bytes_at g x ≡ bytes_at h x = leaf_bytes x hash place there other in
          let to : (leaf_in g x).next ≡ (leaf_in h x).next = ap (λ b. (leaf_of b).next) same in
          let led = was.next x hash place there (λ e. some (to ∙ e)) in
          let later : part_at h (leaf_in h x).next ≡ Some (InChain hash (suc place)) = led.part ∙ ap (λ n. Some (InChain hash n)) (omega arith) in
          let y_other : (leaf_in h x).next ≢ entry h i = later_apart (leaf_in h x).next hash place later in
          subst (IsNextLeaf g hash place x) (sym to) (record {
            part = split.parts (leaf_in h x).next (new_apart (leaf_in h x).next (InChain hash (suc place)) later) y_other ∙ led.part;
            depth = ap (λ b. (leaf_of b).depth) (leaf_bytes (leaf_in h x).next hash (suc place) later y_other) ∙ led.depth ∙ sym (ap (λ b. (leaf_of b).depth) same);
          })
    ]
  ]

  -- the first pointers of the two halves
  abbrev HeadedAt : ℕ → Type 0
  HeadedAt x = (j : ℕ) × (j < table_count g) × (entry g j ≡ x)

  half_head : (n : ℕ) → n / 2 ≡ bits → half (n * 2 ^ (depth_in h - (leaf_depth h i + 1))) ≡ n
  half_head n is = mul-div_cancel n {n = 2 ^ (depth_in h - (leaf_depth h i + 1))} (some_pow (depth_in h - (leaf_depth h i + 1)))

  head_low : (n : ℕ) → n < 2 * bits + 2 → n * 2 ^ (depth_in h - (leaf_depth h i + 1)) < table_count h
  head_low n small =
      let r : ℕ = 2 ^ (depth_in h - (leaf_depth h i + 1)) in
      let some : 0 < r = some_pow (depth_in h - (leaf_depth h i + 1)) in
      let most : (bits + 1) * 2 ^ (depth_in h - leaf_depth h i) ≤ table_count h = run_within i (depth_in h) (leaf_depth h i) (let s : leaf_depth h i < depth_in h = shallow in omega (arith, s)) low in
      let as_halves : (bits + 1) * 2 ^ (depth_in h - leaf_depth h i) ≡ 2 * (bits + 1) * r = first_bits (depth_in h) (leaf_depth h i) (bits + 1) shallow in
      let le : (n + 1) * r ≤ 2 * (bits + 1) * r = mul-le-mul_right r (omega (arith, small)) in
      let more : (n + 1) * r ≡ n * r + r = omega arith in
      over (n * r) r ((n + 1) * r) (2 * (bits + 1) * r) ((bits + 1) * 2 ^ (depth_in h - leaf_depth h i)) (table_count h) some more le as_halves most
    where
      over : (a r b c d e : ℕ) → 0 < r → b ≡ a + r → b ≤ c → d ≡ c → d ≤ e → a < e
      over a r b c d e p q s t u = omega arith

  headed : (x hash : ℕ) → part_at g x ≡ Some (InChain hash 0) → HeadedAt x
  headed x hash part = elim (cases_eq x b) [
    | inl is ↦
        let small = head_low (2 * bits) (omega arith) in (
          2 * bits * 2 ^ (depth_in h - (leaf_depth h i + 1)),
          subst (λ n. 2 * bits * 2 ^ (depth_in h - (leaf_depth h i + 1)) < n) (sym tables_same) small,
          lower_entry (2 * bits * 2 ^ (depth_in h - (leaf_depth h i + 1))) small (half_head (2 * bits) (omega arith)) ∙ sym is,
        )
    | inr apart ↦ elim (cases_eq x (entry h i)) [
      | inl is ↦
          let n : ℕ = 2 * bits + 1 in
          let j : ℕ = n * 2 ^ (depth_in h - (leaf_depth h i + 1)) in
          let small : j < table_count h = head_low n (omega arith) in
          let halves : half j ≡ n = half_head n (omega arith) in
          (j, subst (λ m. j < m) (sym tables_same) small, other_entry j small (odd_apart (half j) bits halves) ∙ leads_old j small (ap (λ m. m / 2) halves ∙ omega arith) ∙ sym is)
      | inr other ↦
          let led = was.headed x hash (part_before x hash 0 apart other part) in (
            led.0,
            subst (λ n. led.0 < n) (sym tables_same) led.1,
            other_entry led.0 led.1 (λ e. other (sym led.2 ∙ leads_old led.0 led.1 (half_of_even (half led.0) bits e))) ∙ led.2,
          )
    ]
  ]

  chained : (x hash place : ℕ) → part_at g x ≡ Some (InChain hash (suc place)) → (y : ℕ) × (part_at g y ≡ Some (InChain hash place)) × ((leaf_in g y).next ≡ x)
  chained x hash place part = elim (cases_eq x b) [
    | inl is ↦ absurd (no_later place (same_hash hash (first_hash h i) (suc place) 0 (sym part ∙ ap (part_at g) is ∙ split.new_part)).1)
    | inr apart ↦ elim (cases_eq x (entry h i)) [
      | inl is ↦ absurd (no_later place (same_hash hash (middle_hash h i) (suc place) 0 (sym part ∙ ap (part_at g) is ∙ split.old_part)).1)
      | inr other ↦
          let there = part_before x hash (suc place) apart other part in
          let up = was.chained x hash place there in
          let y_other : up.0 ≢ entry h i = λ is. some_block h sound hashed x (InChain hash (suc place)) there (sym up.2 ∙ ap (λ y. (leaf_in h y).next) is ∙ one_leaf) in
          (up.0, split.parts up.0 (new_apart up.0 (InChain hash place) up.1) y_other ∙ up.1, ap (λ b. (leaf_of b).next) (leaf_bytes up.0 hash place up.1 y_other) ∙ up.2)
    ]
  ]

  -- ---- the records are parted

  module _ (law : HalvesHaveTheRecords) where
    abbrev old : List ℕ
    old = leaf_area h (entry h i)

    abbrev is_low : Record → Bool
    is_low r = is_lower_name (leaf_depth h i) r.name

    abbrev is_high : Record → Bool
    is_high r = not (is_lower_name (leaf_depth h i) r.name)

    old_length : length old ≡ h.size - leaf_length
    old_length = length-drop leaf_length (bytes_at h (entry h i)) ∙ ap (λ n. n - leaf_length) (sound.inode.whole (entry h i) (InChain (first_hash h i) 0) part_old)

    new_length : length (leaf_area g b) ≡ h.size - leaf_length
    new_length = length-drop leaf_length (bytes_at g b) ∙ ap (λ n. n - leaf_length) (split.same.tree.whole b (InChain (first_hash h i) 0) split.new_part ∙ split.same.size)

    was_leaf : IsLeaf h (first_hash h i) (entry h i)
    was_leaf = was.leaves (entry h i) (first_hash h i) 0 part_old

    halves : (IsRecordArea (leaf_area g b) × IsRecordArea (leaf_area g (entry h i))) × (told_at g b ≡ filter is_low (records_in old)) × (told_at g (entry h i) ≡ filter is_high (records_in old))
    halves = law (leaf_depth h i) old (leaf_area g b) (leaf_area g (entry h i)) was_leaf.area (new_length ∙ sym old_length) (subst (λ n. n < 2 ^ 16) (sym old_length) (short_of h.size sound.block_size))
        (split.new_leaf.slots_are ∙ ap (λ n. lower_half n (leaf_depth h i) (slots_of old)) (sym new_length)) split.new_leaf.filled split.old_leaf.slots_are split.old_leaf.filled

    -- ---- each leaf is as it has to be

    deeper : leaf_depth h i + 1 ≤ depth_in g
    deeper = let s : leaf_depth h i < depth_in h = shallow in let e : depth_in g ≡ depth_in h = deep_same in omega (arith, s, e)

    bits_of_old : (r : Record) → IsIn r (records_in old) → top_bits (leaf_depth h i) (crc32_of r.name) ≡ bits
    bits_of_old r there = was_leaf.hashes r (contained r (records_in old) there) ∙ bits_of_first (leaf_depth h i) (index_bits h (leaf_depth h i) i)

    new_is : IsLeaf g (first_hash h i) b
    new_is = leaf_is g b _ _ _ split.new_leaf (first_hash h i) deeper halves.0.0 (lower_count (leaf_depth h i) old ∙ ap length (sym halves.1))
        (λ r there.
        let has = from_filter is_low r (records_in old) (is_in r (filter is_low (records_in old)) (subst (λ rs. Contains rs r) halves.1 there)) in
        lower_bits (leaf_depth h i) (crc32_of r.name) bits depth_low (bits_of_old r has.0) (eqb-true (bit_at (leaf_depth h i) (crc32_of r.name)) 0 has.1)
        ∙ sym (bits_of_first (leaf_depth h i + 1) (2 * bits)) ∙ ap (top_bits (leaf_depth h i + 1)) (lower_hash (leaf_depth h i) bits depth_low))

    old_is : IsLeaf g (middle_hash h i) (entry h i)
    old_is = leaf_is g (entry h i) _ _ _ split.old_leaf (middle_hash h i) deeper halves.0.1 (upper_count (leaf_depth h i) old ∙ ap length (sym halves.2))
        (λ r there.
        let has = from_filter is_high r (records_in old) (is_in r (filter is_high (records_in old)) (subst (λ rs. Contains rs r) halves.2 there)) in
        upper_bits (leaf_depth h i) (crc32_of r.name) bits depth_low (bits_of_old r has.0) (λ e. true≢false (sym has.1 ∙ ap not (eq-eqb (bit_at (leaf_depth h i) (crc32_of r.name)) 0 e)))
        ∙ sym (bits_of_first (leaf_depth h i + 1) (2 * bits + 1)) ∙ ap (top_bits (leaf_depth h i + 1)) (upper_hash (leaf_depth h i) bits depth_low))

    leaves : (x hash place : ℕ) → part_at g x ≡ Some (InChain hash place) → IsLeaf g hash x
    leaves x hash place part = elim (cases_eq x b) [
      | inl is ↦ subst₂ (IsLeaf g) (same_hash (first_hash h i) hash 0 place (sym split.new_part ∙ ap (part_at g) (sym is) ∙ part)).0 (sym is) new_is
      | inr apart ↦ elim (cases_eq x (entry h i)) [
        | inl is ↦ subst₂ (IsLeaf g) (same_hash (middle_hash h i) hash 0 place (sym split.old_part ∙ ap (part_at g) (sym is) ∙ part)).0 (sym is) old_is
        | inr other ↦
            let there = part_before x hash place apart other part in
            leaf_kept h g hash x (leaf_bytes x hash place there other) (let e : depth_in g ≡ depth_in h = deep_same in omega (arith, e)) (was.leaves x hash place there)
      ]
    ]

    has : IsHashed g
    has = record {
      least = subst₂ (λ s n. s / 16 ≤ n) (sym split.same.size) (sym tables_same) was.least;
      greatest = subst₂ (λ s n. n ≤ 8 * s) (sym split.same.size) (sym tables_same) was.greatest;
      size = ap (λ (d : Dinode). d.size) split.counts.dinode ∙ was.size ∙ ap (λ n. 8 * n) (sym tables_same);
      leads = λ j lowj. let small = before j lowj in leads j small (leading j small);
      runs = λ j k lowj lowk. let small = before j lowj in runs j k small (before k lowk) (leading j small);
      next = next;
      headed = headed;
      chained = chained;
      leaves = leaves;
    }

    still_hashed : is_hashed_in g ≡ true
    still_hashed = ap (λ (d : Dinode). is_directory d && has_hash_flag d) split.counts.dinode ∙ hashed

    -- ---- the directory has the records that it had

    -- of the leaves that it had, those that the new one has are gone
    parted : IsExchanged (records_of h) (flat_map (told_at g) (leaves_of h)) (told_at g b) []
    parted =
        let here : IsExchanged (told_at h (entry h i)) (told_at g (entry h i)) (told_at g b) [] = record {
          rest = told_at g (entry h i);
          before = subst₂ (λ xs ys. IsPermutation (records_in old) (xs ++ ys)) (sym halves.1) (sym halves.2) (IsPermutation-filter_both is_low is_high (λ r. refl) (records_in old));
          after = IsPermutation-refl (told_at g (entry h i));
        } in
        let under : entry h i < h.count = inside h sound hashed (entry h i) (first_hash h i) 0 part_old in
        subst (λ a. IsExchanged a (flat_map (told_at g) (leaves_of h)) (told_at g b) []) (sym (records_are h hashed))
        (regrouped (told_at h) (told_at g) (λ y. is_leaf_part (part_at h y)) (entry h i) (ap is_leaf_part part_old) (told_at g b) [] here
        (λ y other is_leaf.
        let at = in_a_chain (part_at h y) is_leaf in
        ap (λ bytes. records_in (drop leaf_length bytes)) (leaf_bytes y at.0 at.1 at.2 other))
        0 h.count (omega arith) (omega (arith, under)))

    same_kind : (y : ℕ) → y ≢ b → is_leaf_part (part_at g y) ≡ is_leaf_part (part_at h y)
    same_kind y apart = elim (cases_eq y (entry h i)) [
      | inl is ↦ ap (λ z. is_leaf_part (part_at g z)) is ∙ ap is_leaf_part split.old_part ∙ sym (ap (λ z. is_leaf_part (part_at h z)) is ∙ ap is_leaf_part part_old)
      | inr other ↦ ap is_leaf_part (split.parts y apart other)
    ]

    pub split_stays : Stays h g
    split_stays = stays h g sound split.same.size split.same.tree split.same.placed still_hashed has (directory_of h hashed) (ap untabled split.counts.dinode)
        (moved_over (records_of h) (flat_map (told_at g) (leaves_of h)) (records_of g) (told_at g b) parted
        (one_leaf_more h g b (first_hash h i) 0 split.same.count split.same.placed still_hashed split.new split.new_part same_kind))
