-- Which leaves of a sound directory a walk over its table has passed.
use Rattle.std.proofs.Common.{◌≡◌, ◌≢◌, ℕ, zero, suc, ◌+◌, ◌-◌, ◌*◌, ◌/◌, ◌^◌, ◌<◌, ◌≤◌, ◌⊎◌, inl, inr, true, false, List, [], ◌∷◌, ◌++◌, Option, None, Some, refl, sym, ap, ◌∙◌, subst, subst₂, add-one, append_assoc, arith}
use Rattle.std.specs.Prelude.{◌==◌, ◌&&◌, ◌||◌, flat_map, nat_lt}
use Rattle.std.specs.List.{range_with_len}
use Rattle.std.specs.List.Sorted.{IsPermutation}
use Rattle.std.proofs.Math.Nat.{div-mul-le_self, lt-div-mul-add, mul-div_cancel, mul-le-mul_right, mul-lt-mul_of_pos_right}
use Rattle.std.proofs.Common.{mul_assoc}
use Rattle.std.proofs.lemmas.Bool.Decides.{nat_tests}
use Rattle.std.proofs.lemmas.List.{append-nil}
use Rattle.std.proofs.lemmas.List.Sorted.{IsPermutation-refl, IsPermutation-trans, IsPermutation-append_left, IsPermutation-sym}
use Rattle.std.proofs.lemmas.Nat.{div_below, le-div, pow-add}
use Rattle.gfs2_layout.specs.Holding.{Holding, Part, Itself, Pointed, InChain, part_at}
use Rattle.gfs2_layout.specs.Inode.{IsHashed, depth_in, entry, first_hash, index_bits, is_hashed_in, is_leaf_part, leaf_area, leaf_in, leaves_of, records_of, table_count, top_bits}
use Rattle.gfs2_layout.specs.Records.{names_of, records_in}
use Rattle.linear_dirs.proofs.Records.{names_more}
use Rattle.std.proofs.lemmas.List.Concat.{flat_map-cons}
use Rattle.hash_dirs.proofs.Named.{records_are}
use Rattle.pointer_tables.specs.Directories.{IsInChain, chain_head, chain_next}
use Rattle.hash_dirs.specs.Shown.{IsSound}
use Rattle.hash_dirs.specs.Walking.{IsChainListed, IsListed, chain_names, hash_from, is_passed, leaf_on, names_at, passed_names}
use Rattle.hash_dirs.proofs.Along.{chain_one, ended, there_before}
use Rattle.hash_dirs.proofs.Chained.{deep, headed, in_chain, rules, same_hash, inside}
use Rattle.hash_dirs.proofs.Indexes.{bits_of_first, some_pow}
use Rattle.hash_dirs.proofs.Listed.{chain_names_more}
use Rattle.hash_dirs.proofs.Permuted.{filter_none, filter_same, one_more}

-- ---- tests

at_first : (hash place : ℕ) → (nat_lt hash hash || (hash == hash && nat_lt place place)) ≡ false
at_first hash place = grind (arith, nat_tests)

one_further : (hash place : ℕ) → (nat_lt hash hash || (hash == hash && nat_lt place (place + 1))) ≡ true
one_further hash place = grind (arith, nat_tests)

elsewhere : (hash place other at : ℕ) → ((other ≡ hash) × (at ≡ place) → ⊥) → (nat_lt other hash || (other == hash && nat_lt at (place + 1))) ≡ (nat_lt other hash || (other == hash && nat_lt at place))
elsewhere hash place other at apart = elim (which other hash at place) [
  | inl same ↦ absurd (apart same)
  | inr differs ↦ elim differs [ inl hashes ↦ grind (arith, nat_tests, hashes) | inr places ↦ grind (arith, nat_tests, places) ]
]
  where
    equal_or : (a b : ℕ) → (a ≡ b) ⊎ (a ≢ b)
    equal_or a b = grind arith

    which : (a b c d : ℕ) → ((a ≡ b) × (c ≡ d)) ⊎ ((a ≢ b) ⊎ (c ≢ d))
    which a b c d = elim (equal_or a b) [ inl e ↦ elim (equal_or c d) [ inl f ↦ inl (e, f) | inr n ↦ inr (inr n) ] | inr n ↦ inr (inl n) ]

-- the same leaves are passed before a hash, and in front of the next one
both_before : (other hash next at place : ℕ) → other < hash → other < next → (nat_lt other hash || (other == hash && nat_lt at place)) ≡ (nat_lt other next || (other == next && nat_lt at 0))
both_before other hash next at place low low' = grind (arith, nat_tests)

both_here : (hash next at place : ℕ) → hash < next → at < place → (nat_lt hash hash || (hash == hash && nat_lt at place)) ≡ (nat_lt hash next || (hash == next && nat_lt at 0))
both_here hash next at place low before = grind (arith, nat_tests)

both_behind : (other hash next at place : ℕ) → hash < other → next ≤ other → (nat_lt other hash || (other == hash && nat_lt at place)) ≡ (nat_lt other next || (other == next && nat_lt at 0))
both_behind other hash next at place high high' = grind (arith, nat_tests)

none_before : (other at : ℕ) → (nat_lt other 0 || (other == 0 && nat_lt at 0)) ≡ false
none_before other at = grind (arith, nat_tests)

all_before : (other next at : ℕ) → other < next → (nat_lt other next || (other == next && nat_lt at 0)) ≡ true
all_before other next at low = grind (arith, nat_tests)

-- ---- where the chains begin

hashes_together : (depth table : ℕ) → depth ≤ table → table ≤ 32 → table - depth + (32 - table) ≡ 32 - depth
hashes_together depth table low high = omega arith

less_or_same : (a b : ℕ) → a ≤ b → (a < b) ⊎ (a ≡ b)
less_or_same a b le = grind arith

compared : (a b : ℕ) → (a < b) ⊎ ((a ≡ b) ⊎ (b < a))
compared a b = grind arith

module _ (h : Holding) (sound : IsSound h) (hashed : is_hashed_in h ≡ true) where
  own_rules : IsHashed h
  own_rules = rules h sound hashed

  depth_at : ℕ → ℕ
  depth_at i = (leaf_in h (entry h i)).depth

  depth_low : (i : ℕ) → i < table_count h → depth_at i ≤ depth_in h
  unfolding depth_at
  depth_low i low = (own_rules.leaves (entry h i) (first_hash h i) 0 (own_rules.leads i low)).depth

  -- hashes of indexes rise as they do
  pub hash_rises : (a b : ℕ) → a < b → hash_from h a < hash_from h b
  hash_rises a b low = mul-lt-mul_of_pos_right low (some_pow (32 - depth_in h))

  hash_le : (a b : ℕ) → a ≤ b → hash_from h a ≤ hash_from h b
  hash_le a b le = mul-le-mul_right (2 ^ (32 - depth_in h)) le

  hash_one : (a b : ℕ) → hash_from h a ≡ hash_from h b → a ≡ b
  hash_one a b e = elim (compared a b) [
    | inl low ↦ absurd (let l : hash_from h a < hash_from h b = hash_rises a b low in omega (arith, l, e))
    | inr rest ↦ elim rest [ inl same ↦ same | inr high ↦ absurd (let l : hash_from h b < hash_from h a = hash_rises b a high in omega (arith, l, e)) ]
  ]

  -- the first index of a pointer's chain
  pub record Start (i : ℕ) : Type 0 where
    pub begin : ℕ
    pub le : begin ≤ i
    pub same : entry h begin ≡ entry h i
    pub hash_is : first_hash h i ≡ hash_from h begin

  pub start : (i : ℕ) → i < table_count h → Start i
  start i low =
      let d = (leaf_in h (entry h i)).depth in
      let run = 2 ^ (depth_in h - d) in
      let bits = i / run in
      let deep_enough : d ≤ depth_in h = (own_rules.leaves (entry h i) (first_hash h i) 0 (own_rules.leads i low)).depth in
      let back : bits * run ≤ i = div-mul-le_self i run in
      record {
        begin = bits * run;
        le = back;
        same = own_rules.runs i (bits * run) low (let lt : i < table_count h = low in omega (arith, back, lt)) (mul-div_cancel bits {n = run} (some_pow (depth_in h - d)));
        hash_is = ap (λ n. bits * n) (ap (λ n. 2 ^ n) (sym (hashes_together d (depth_in h) deep_enough (let low : depth_in h ≤ 15 = deep h sound hashed in omega (arith, low)))) ∙ pow-add 2 (depth_in h - d) (32 - depth_in h))
            ∙ sym (mul_assoc bits run (2 ^ (32 - depth_in h)));
      }

  -- pointers to one leaf have one first hash
  same_first : (j k : ℕ) → j < table_count h → k < table_count h → entry h j ≡ entry h k → first_hash h j ≡ first_hash h k
  same_first j k lowj lowk same = (same_hash (first_hash h j) (first_hash h k) 0 0 (sym (own_rules.leads j lowj) ∙ ap (part_at h) same ∙ own_rules.leads k lowk)).0

  -- where a leaf's chain begins
  pub record Begun (x hash place : ℕ) : Type 0 where
    pub begin : ℕ
    pub low : begin < table_count h
    pub hash_is : hash ≡ hash_from h begin
    pub begins : first_hash h begin ≡ hash_from h begin
    pub chain : IsInChain h begin place x

  pub begun : (x hash place : ℕ) → part_at h x ≡ Some (InChain hash place) → Begun x hash place
  begun x hash place part =
      let up = headed h sound hashed place x hash part in
      let led = own_rules.headed up.first hash up.part in
      let s = start led.0 led.1 in
      let begin_low : s.begin < table_count h = (let le : s.begin ≤ led.0 = s.le in let lt : led.0 < table_count h = led.1 in omega (arith, le, lt)) in
      let hash_first : hash ≡ first_hash h led.0 = (same_hash hash (first_hash h led.0) 0 0 (sym up.part ∙ ap (part_at h) (sym led.2) ∙ own_rules.leads led.0 led.1)).0 in
      record { begin = s.begin; low = begin_low; hash_is = hash_first ∙ s.hash_is; begins = same_first s.begin led.0 begin_low led.1 s.same ∙ s.hash_is; chain = up.chain s.begin begin_low (s.same ∙ led.2) }

  -- one leaf stands at a place of a chain
  pub part_one : (x y hash place : ℕ) → part_at h x ≡ Some (InChain hash place) → part_at h y ≡ Some (InChain hash place) → x ≡ y
  part_one x y hash place px py =
      let bx = begun x hash place px in
      let by = begun y hash place py in
      chain_one h bx.begin place x y bx.chain (subst (λ n. IsInChain h n place y) (hash_one by.begin bx.begin (sym by.hash_is ∙ bx.hash_is)) by.chain)

  -- ---- one leaf more

  pub step : (i place x : ℕ) → IsInChain h i place x → IsPermutation (passed_names h (first_hash h i) (place + 1)) (passed_names h (first_hash h i) place ++ names_at h x)
  step i place x chain =
      let part = in_chain h sound hashed i place x chain in
      one_more (names_at h) (λ y. is_passed (first_hash h i) place (part_at h y)) (λ y. is_passed (first_hash h i) (place + 1) (part_at h y)) x
      (ap (is_passed (first_hash h i) place) part ∙ at_first (first_hash h i) place)
      (ap (is_passed (first_hash h i) (place + 1)) part ∙ one_further (first_hash h i) place)
      (λ y other. by y other (part_at h y) refl) 0 h.count (omega arith) (let low : x < h.count = inside h sound hashed x (first_hash h i) place part in omega (arith, low))
    where
      by : (y : ℕ) → y ≢ x → (o : Option Part) → part_at h y ≡ o → is_passed (first_hash h i) (place + 1) (part_at h y) ≡ is_passed (first_hash h i) place (part_at h y)
      by y other None is = ap (is_passed (first_hash h i) (place + 1)) is ∙ ap (is_passed (first_hash h i) place) (sym is)
      by y other (Some Itself) is = ap (is_passed (first_hash h i) (place + 1)) is ∙ ap (is_passed (first_hash h i) place) (sym is)
      by y other (Some (Pointed b k level first)) is = ap (is_passed (first_hash h i) (place + 1)) is ∙ ap (is_passed (first_hash h i) place) (sym is)
      by y other (Some (InChain hash at)) is =
          ap (is_passed (first_hash h i) (place + 1)) is
          ∙ elsewhere (first_hash h i) place hash at (λ same. other (part_one y x (first_hash h i) place (is ∙ subst₂ (λ a b. Some (InChain hash at) ≡ Some (InChain a b)) same.0 same.1 refl) (in_chain h sound hashed i place x chain)))
          ∙ ap (is_passed (first_hash h i) place) (sym is)

  -- a whole chain more
  pub whole_chain : (i place last n : ℕ) → IsInChain h i place last → n ≤ suc place → IsPermutation (passed_names h (first_hash h i) n) (passed_names h (first_hash h i) 0 ++ chain_names h i n)
  whole_chain i place last zero chain le = subst (IsPermutation (passed_names h (first_hash h i) 0)) (sym (append-nil (passed_names h (first_hash h i) 0))) (IsPermutation-refl (passed_names h (first_hash h i) 0))
  whole_chain i place last (suc n) chain le =
      let at = there_before h i place last chain n (omega (arith, le)) in
      let one = step i n (leaf_on h i n) at in
      let before = whole_chain i place last n chain (omega (arith, le)) in
      let two = IsPermutation-append_left (names_at h (leaf_on h i n)) (passed_names h (first_hash h i) n) (passed_names h (first_hash h i) 0 ++ chain_names h i n) before in
      let end : (passed_names h (first_hash h i) 0 ++ chain_names h i n) ++ names_at h (leaf_on h i n) ≡ passed_names h (first_hash h i) 0 ++ chain_names h i (n + 1) =
      append_assoc (passed_names h (first_hash h i) 0) (chain_names h i n) (names_at h (leaf_on h i n)) ∙ ap (λ ns. passed_names h (first_hash h i) 0 ++ ns) (sym (chain_names_more h i n (leaf_on h i n) at)) in
      let all = subst (IsPermutation (passed_names h (first_hash h i) (n + 1))) end
      (IsPermutation-trans (passed_names h (first_hash h i) (n + 1)) (passed_names h (first_hash h i) n ++ names_at h (leaf_on h i n)) ((passed_names h (first_hash h i) 0 ++ chain_names h i n) ++ names_at h (leaf_on h i n)) one two) in
      subst (λ m. IsPermutation (passed_names h (first_hash h i) m) (passed_names h (first_hash h i) 0 ++ chain_names h i m)) (add-one n) all

  -- ---- from one pointer to the next chain's

  -- all leaves of a chain are as deep as its first
  pub chain_depth : (i place x : ℕ) → IsInChain h i place x → (leaf_in h x).depth ≡ (leaf_in h (entry h i)).depth
  chain_depth i _ _ (chain_head low some) = refl
  chain_depth i _ _ (chain_next place x chain more) = (own_rules.next x (first_hash h i) place (in_chain h sound hashed i place x chain) more).depth ∙ chain_depth i place x chain

  chain_low : (i place x : ℕ) → IsInChain h i place x → i < table_count h
  chain_low i _ _ (chain_head low some) = low
  chain_low i _ _ (chain_next place x chain more) = chain_low i place x chain

  module _ (names new : List (List ℕ)) (i depth : ℕ) (listed : IsListed h names i) (more : IsChainListed h i names new depth) where
    low : i < table_count h
    low = chain_low i more.place more.last more.chain

    run : ℕ
    run = 2 ^ (depth_in h - depth)

    abbrev next : ℕ
    next = (i / 2 ^ (depth_in h - depth) + 1) * 2 ^ (depth_in h - depth)

    depth_same : depth ≡ (leaf_in h (entry h i)).depth
    depth_same = more.depth_is ∙ chain_depth i more.place more.last more.chain

    run_pos : 0 < 2 ^ (depth_in h - depth)
    run_pos = some_pow (depth_in h - depth)

    -- the chain begins at this pointer
    begins_here : first_hash h i ≡ hash_from h i
    begins_here =
        let s = start i low in
        elim (less_or_same s.begin i s.le) [
          | inl before ↦ absurd (listed.parted s.begin i before (omega arith) low s.same)
          | inr same ↦ s.hash_is ∙ ap (hash_from h) same
        ]

    back : i / 2 ^ (depth_in h - depth) * 2 ^ (depth_in h - depth) ≤ i
    back = div-mul-le_self i (2 ^ (depth_in h - depth))

    pub further : i < next
    further = let l : i < i / 2 ^ (depth_in h - depth) * 2 ^ (depth_in h - depth) + 2 ^ (depth_in h - depth) = lt-div-mul-add run_pos in
        let e : next ≡ i / 2 ^ (depth_in h - depth) * 2 ^ (depth_in h - depth) + 2 ^ (depth_in h - depth) = omega arith in omega (arith, l, e)

    -- the bits that the chain's pointers share
    same_bits : (j : ℕ) → i ≤ j → j < next → j / 2 ^ (depth_in h - depth) ≡ i / 2 ^ (depth_in h - depth)
    same_bits j le lt =
        let n = 2 ^ (depth_in h - depth) in
        let up : i / n ≤ j / n = le-div (i / n) j n run_pos (let b : i / n * n ≤ i = back in omega (arith, b, le)) in
        let down : j / n < i / n + 1 = div_below j n (i / n + 1) run_pos lt in
        omega (arith, up, down)

    leads_here : (j : ℕ) → i ≤ j → j < next → j < table_count h → entry h j ≡ entry h i
    leads_here j le lt inside_table = own_rules.runs i j low inside_table
        (subst (λ d. j / 2 ^ (depth_in h - d) ≡ i / 2 ^ (depth_in h - d)) depth_same (same_bits j le lt))

    -- and none behind leads here
    apart : (k : ℕ) → next ≤ k → k < table_count h → entry h i ≢ entry h k
    apart k le lowk same =
        let n = 2 ^ (depth_in h - depth) in
        let d = (leaf_in h (entry h i)).depth in
        let first = same_first i k low lowk same in
        let bits : index_bits h d k ≡ index_bits h d i =
        sym (bits_of_first d (index_bits h d k)) ∙ ap (top_bits d) (ap (λ y. index_bits h (leaf_in h y).depth k * 2 ^ (32 - (leaf_in h y).depth)) same ∙ sym first) ∙ bits_of_first d (index_bits h d i) in
        let mine : k / n ≡ i / n = subst (λ m. k / 2 ^ (depth_in h - m) ≡ i / 2 ^ (depth_in h - m)) (sym depth_same) bits in
        let over : k < k / n * n + n = lt-div-mul-add run_pos in
        let e : k / n * n ≡ i / n * n = ap (λ m. m * n) mine in
        let f : next ≡ i / n * n + n = omega arith in
        omega (arith, over, e, f, le)

    parted_next : (j k : ℕ) → j < next → next ≤ k → k < table_count h → entry h j ≢ entry h k
    parted_next j k ltj lek lowk same = elim (which j i) [
      | inl before ↦ listed.parted j k before (let f : i < next = further in omega (arith, f, lek)) lowk same
      | inr at ↦ apart k lek lowk (sym (leads_here j at ltj (let l : next ≤ k = lek in omega (arith, ltj, l, lowk))) ∙ same)
    ]
      where
        which : (j i : ℕ) → (j < i) ⊎ (i ≤ j)
        which j i = grind arith

    -- the leaves that are passed
    passed_same : (x : ℕ) → is_passed (first_hash h i) (more.place + 1) (part_at h x) ≡ is_passed (hash_from h next) 0 (part_at h x)
    passed_same x = by (part_at h x) refl
      where
        cases : (hash at : ℕ) → part_at h x ≡ Some (InChain hash at) → (nat_lt hash (first_hash h i) || (hash == first_hash h i && nat_lt at (more.place + 1))) ≡ (nat_lt hash (hash_from h next) || (hash == hash_from h next && nat_lt at 0))
        cases hash at is =
            let b = begun x hash at is in
            elim (compared b.begin i) [
              | inl before ↦ both_before hash (first_hash h i) (hash_from h next) at (more.place + 1)
                  (subst₂ (λ m n. m < n) (sym b.hash_is) (sym begins_here) (hash_rises b.begin i before))
                  (subst (λ m. m < hash_from h next) (sym b.hash_is) (hash_rises b.begin next (let f : i < next = further in omega (arith, before, f))))
              | inr rest ↦ elim rest [
                | inl same ↦
                    let here : hash ≡ first_hash h i = b.hash_is ∙ ap (hash_from h) same ∙ sym begins_here in
                    let chain : IsInChain h i at x = subst (λ n. IsInChain h n at x) same b.chain in
                    subst (λ m. (nat_lt m (first_hash h i) || (m == first_hash h i && nat_lt at (more.place + 1))) ≡ (nat_lt m (hash_from h next) || (m == hash_from h next && nat_lt at 0))) (sym here)
                    (both_here (first_hash h i) (hash_from h next) at (more.place + 1) (subst (λ m. m < hash_from h next) (sym begins_here) (hash_rises i next further)) (not_behind at chain))
                | inr behind ↦
                    both_behind hash (first_hash h i) (hash_from h next) at (more.place + 1)
                    (subst₂ (λ m n. m < n) (sym begins_here) (sym b.hash_is) (hash_rises i b.begin behind))
                    (subst (λ m. hash_from h next ≤ m) (sym b.hash_is) (hash_le next b.begin (from_next b.begin b.low behind b.begins)))
              ]
            ]
          where
            not_behind : (at : ℕ) → IsInChain h i at x → at < more.place + 1
            not_behind at chain = elim (which at more.place) [ inl fine ↦ fine | inr behind ↦ absurd (ended h i more.place more.last at x more.chain more.ends behind chain) ]
              where
                which : (a b : ℕ) → (a < b + 1) ⊎ (b < a)
                which a b = grind arith

            from_next : (s : ℕ) → s < table_count h → i < s → first_hash h s ≡ hash_from h s → next ≤ s
            from_next s lows behind begins = elim (which s next) [
              | inl fine ↦ fine
              | inr within ↦ absurd (let e : s ≡ i = hash_one s i (sym begins ∙ same_first s i lows low (leads_here s (omega (arith, behind)) within lows) ∙ begins_here) in omega (arith, e, behind))
            ]
              where
                which : (s n : ℕ) → (n ≤ s) ⊎ (s < n)
                which s n = grind arith

        by : (o : Option Part) → part_at h x ≡ o → is_passed (first_hash h i) (more.place + 1) (part_at h x) ≡ is_passed (hash_from h next) 0 (part_at h x)
        by None is = ap (is_passed (first_hash h i) (more.place + 1)) is ∙ ap (is_passed (hash_from h next) 0) (sym is)
        by (Some Itself) is = ap (is_passed (first_hash h i) (more.place + 1)) is ∙ ap (is_passed (hash_from h next) 0) (sym is)
        by (Some (Pointed b k level first)) is = ap (is_passed (first_hash h i) (more.place + 1)) is ∙ ap (is_passed (hash_from h next) 0) (sym is)
        by (Some (InChain hash at)) is = ap (is_passed (first_hash h i) (more.place + 1)) is ∙ cases hash at is ∙ ap (is_passed (hash_from h next) 0) (sym is)

    pub listed_next : IsListed h new next
    listed_next = record {
      all = subst₂ IsPermutation (sym more.names) (ap (flat_map (names_at h)) (filter_same (λ x. is_passed (first_hash h i) (more.place + 1) (part_at h x)) (λ x. is_passed (hash_from h next) 0 (part_at h x)) (range_with_len 0 h.count) passed_same))
          (IsPermutation-trans (names ++ chain_names h i (more.place + 1)) (passed_names h (first_hash h i) 0 ++ chain_names h i (more.place + 1)) (passed_names h (first_hash h i) (more.place + 1))
          (IsPermutation-append_left (chain_names h i (more.place + 1)) names (passed_names h (first_hash h i) 0) (subst (λ m. IsPermutation names (passed_names h m 0)) (sym begins_here) listed.all))
          (IsPermutation-sym (passed_names h (first_hash h i) (more.place + 1)) (passed_names h (first_hash h i) 0 ++ chain_names h i (more.place + 1))
          (whole_chain i more.place more.last (more.place + 1) more.chain (let e : more.place + 1 ≤ suc more.place = omega arith in e))));
      parted = parted_next;
    }

  -- ---- the begin and the end of the table

  -- no leaf lies before the first hash
  nothing_passed : (o : Option Part) → is_passed (hash_from h 0) 0 o ≡ false
  nothing_passed None = refl
  nothing_passed (Some Itself) = refl
  nothing_passed (Some (Pointed b k level first)) = refl
  nothing_passed (Some (InChain hash at)) = subst (λ m. (nat_lt hash m || (hash == m && nat_lt at 0)) ≡ false) (let e : 0 ≡ hash_from h 0 = omega arith in e) (none_before hash at)

  pub listed_none : IsListed h [] 0
  listed_none = record {
    all = subst (IsPermutation []) (ap (flat_map (names_at h)) (sym (filter_none (λ x. is_passed (hash_from h 0) 0 (part_at h x)) (range_with_len 0 h.count) (λ x. nothing_passed (part_at h x))))) (IsPermutation-refl []);
    parted = λ j k before. absurd (let no : j < 0 = before in omega arith);
  }

  -- and all before that behind the table
  all_passed : (x : ℕ) → is_passed (hash_from h (table_count h)) 0 (part_at h x) ≡ is_leaf_part (part_at h x)
  all_passed x = by (part_at h x) refl
    where
      by : (o : Option Part) → part_at h x ≡ o → is_passed (hash_from h (table_count h)) 0 (part_at h x) ≡ is_leaf_part (part_at h x)
      by None is = ap (is_passed (hash_from h (table_count h)) 0) is ∙ ap is_leaf_part (sym is)
      by (Some Itself) is = ap (is_passed (hash_from h (table_count h)) 0) is ∙ ap is_leaf_part (sym is)
      by (Some (Pointed b k level first)) is = ap (is_passed (hash_from h (table_count h)) 0) is ∙ ap is_leaf_part (sym is)
      by (Some (InChain hash at)) is =
          let b = begun x hash at is in
          ap (is_passed (hash_from h (table_count h)) 0) is
          ∙ all_before hash (hash_from h (table_count h)) at (subst (λ m. m < hash_from h (table_count h)) (sym b.hash_is) (hash_rises b.begin (table_count h) b.low)) ∙ ap is_leaf_part (sym is)

  pub listed_all : (names : List (List ℕ)) (i : ℕ) → IsListed h names i → i ≡ table_count h → IsPermutation names (names_of (records_of h))
  listed_all names i listed last =
      subst (IsPermutation names)
      (ap (λ n. passed_names h (hash_from h n) 0) last
      ∙ ap (flat_map (names_at h)) (filter_same (λ x. is_passed (hash_from h (table_count h)) 0 (part_at h x)) (λ x. is_leaf_part (part_at h x)) (range_with_len 0 h.count) all_passed)
      ∙ sym (names_flat (leaves_of h)) ∙ ap names_of (sym (records_are h hashed)))
      listed.all
    where
      names_flat : (leaves : List ℕ) → names_of (flat_map (λ x. records_in (leaf_area h x)) leaves) ≡ flat_map (names_at h) leaves
      names_flat [] = refl
      names_flat (x ∷ leaves) =
          ap names_of (flat_map-cons (λ y. records_in (leaf_area h y)) x leaves) ∙ names_more (records_in (leaf_area h x)) (flat_map (λ y. records_in (leaf_area h y)) leaves)
          ∙ ap (λ ns. names_at h x ++ ns) (names_flat leaves) ∙ sym (flat_map-cons (names_at h) x leaves)
