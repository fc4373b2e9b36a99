-- All leaves of a hashed directory, where none is beyond the device; and its records.
use Rattle.std.proofs.Common.{◌≡◌, ◌≢◌, ℕ, zero, suc, ◌+◌, ◌<◌, ◌≤◌, ◌⊎◌, inl, inr, Bool, true, false, true≢false, List, Some, refl, sym, ap, ◌∙◌, subst, arith}
use Rattle.std.proofs.lemmas.Bool.{cases_eq, cases_lt, cond-true, cond-false, eq-eqb, ne_eqb, lt-ltb, le-ltb}
use Rattle.std.specs.Prelude.{◌==◌, nat_lt, if◌then◌else◌, Contains, flat_map}
use Rattle.std.specs.List.{range_with_len}
use Rattle.gfs2_layout.specs.Holding.{Holding, Itself, InChain, part_at}
use Rattle.gfs2_layout.specs.Inode.{entry, entry_block, first_hash, is_hashed_in, is_leaf_part, leaf_area, leaf_in, leaves_of, table_count}
use Rattle.gfs2_layout.specs.Records.{Record, records_in}
use Rattle.image_model.specs.Claims.{every, Claims, first_leaf, next_leaf, HasDirectory, HasLeaf}
use Rattle.image_model.specs.Image.{Image}
use Rattle.image_model.specs.Owners.{Chained}
use Rattle.image_model.specs.Rules.{AreLeaves, HasRecords, from_leaves}
use Rattle.image_model.proofs.Members.{IsIn, contained, from_filter, from_flat_map, in_filter, in_flat_map, in_range, is_in}
use Rattle.image_model.proofs.Rising.{rising_filter, rising_range}
use Rattle.image_reader.proofs.Leaves.{unrise}
use Rattle.damage_laws.specs.Telling.{IsAstray}
use Rattle.damage_laws.proofs.Search.{seek, bare, bare_fewer, with_mark, mark_stays, mark_before}

abbrev is_open : Bool → Bool → Bool → Bool
is_open true false false = true
is_open true false true = false
is_open true true known = false
is_open false last known = false

opened : (a b c : Bool) → is_open a b c ≡ true → (a ≡ true) × (b ≡ false) × (c ≡ false)
opened true false false e = (refl, refl, refl)
opened true false true e = absurd (true≢false (sym e))
opened true true c e = absurd (true≢false (sym e))
opened false b c e = absurd (true≢false (sym e))

not_open : (a b c : Bool) → is_open a b c ≡ false → a ≡ true → b ≡ false → c ≡ true
not_open true false false e marked last = absurd (true≢false e)
not_open true false true e marked last = refl
not_open true true c e marked last = absurd (true≢false last)
not_open false b c e marked last = absurd (true≢false (sym marked))

module _ (im : Image) (a : ℕ) (has : HasDirectory im a) (hashed : is_hashed_in (every im a) ≡ true) where
  abbrev next : ℕ → ℕ
  next x = (leaf_in (every im a) x).next

  -- the marks are on leaves, and on the first of each chain
  record IsMarking (m : ℕ → Bool) : Type 0 where
    only : (x : ℕ) → m x ≡ true → HasLeaf im a x
    below : (x : ℕ) → m x ≡ true → x < im.count
    heads : (i : ℕ) → i < table_count (every im a) → entry (every im a) i ≢ 0 → m (entry (every im a) i) ≡ true

  -- on all leaves
  pub record AreMarked (m : ℕ → Bool) : Type 0 where
    pub only : (x : ℕ) → m x ≡ true → HasLeaf im a x
    pub below : (x : ℕ) → m x ≡ true → x < im.count
    pub all : (x : ℕ) → HasLeaf im a x → m x ≡ true

  abbrev Found : Type 0
  Found = ((m : ℕ → Bool) × AreMarked m) ⊎ ((x : ℕ) × IsAstray im a x)

  out : (by x hash place : ℕ) → Claims im by x (Chained a hash place) → im.count ≤ x → IsAstray im a by
  out by x hash place claimed beyond = record { directory = has; hashed = hashed; block = x; owner = Chained a hash place; claimed = claimed; within = refl; beyond = beyond }

  closed : (m : ℕ → Bool) → IsMarking m → ((x : ℕ) → m x ≡ true → next x ≢ 0 → m (next x) ≡ true) → (by x hash place : ℕ) → Claims im by x (Chained a hash place) → m x ≡ true
  closed m is on _ _ _ _ (first_leaf by d o i claimed dinode plain low some) = is.heads i low some
  closed m is on _ _ _ _ (next_leaf by x d hash place claimed more) = on x (closed m is on by x hash place claimed) more

  -- one more leaf is marked, or all are
  more_or : (m : ℕ → Bool) → IsMarking m → ((n : ℕ → Bool) → IsMarking n → bare n im.count < bare m im.count → Found) → Found
  more_or m is again = elim (seek (λ x. is_open (m x) (next x == 0) (m (next x))) im.count) [
    | inl found ↦
        let o = opened (m found.0) (next found.0 == 0) (m (next found.0)) found.2 in
        step found.0 o.0 (λ e. true≢false (sym (eq-eqb (next found.0) 0 e) ∙ o.1)) o.2
    | inr none ↦ inl (
      m,
      record {
        only = is.only;
        below = is.below;
        all = λ x leaf. closed m is (λ y marked more. not_open (m y) (next y == 0) (m (next y)) (none y (is.below y marked)) marked (ne_eqb (next y) 0 more)) leaf.0 x leaf.1 leaf.2 leaf.3;
      },
    )
  ]
    where
      step : (x : ℕ) → m x ≡ true → next x ≢ 0 → m (next x) ≡ false → Found
      step x marked more bare_next =
          let leaf = is.only x marked in
          let claimed : Claims im x (next x) (Chained a leaf.1 (leaf.2 + 1)) = next_leaf leaf.0 x a leaf.1 leaf.2 leaf.3 more in
          elim (cases_lt (next x) im.count) [
            | inr beyond ↦ inr (x, out x (next x) leaf.1 (leaf.2 + 1) claimed beyond)
            | inl low ↦ again (with_mark m (next x)) (record {
              only = λ y on. elim (mark_before m (next x) y on) [ inl e ↦ subst (HasLeaf im a) (sym e) (x, leaf.1, leaf.2 + 1, claimed) | inr old ↦ is.only y old ];
              below = λ y on. elim (mark_before m (next x) y on) [ inl e ↦ subst (λ z. z < im.count) (sym e) low | inr old ↦ is.below y old ];
              heads = λ i small some. mark_stays m (next x) (entry (every im a) i) (is.heads i small some);
            }) (bare_fewer m (next x) im.count low bare_next)
          ]

  grow : (fuel : ℕ) (m : ℕ → Bool) → IsMarking m → bare m im.count ≤ fuel → Found
  grow zero m is few = more_or m is (λ n later fewer. absurd (omega (arith, few, fewer)))
  grow (suc fuel) m is few = more_or m is (λ n later fewer. grow fuel n later (omega (arith, few, fewer)))

  -- ---- the first leaves

  abbrev is_head : ℕ → ℕ → Bool
  is_head x zero = false
  is_head x (suc n) = if x == entry (every im a) n then true else is_head x n

  head_of : (x n : ℕ) → is_head x n ≡ true → (i : ℕ) × (i < n) × (x ≡ entry (every im a) i)
  head_of x zero e = absurd (true≢false (sym e))
  head_of x (suc n) e = elim (cases_eq x (entry (every im a) n)) [
    | inl same ↦ (n, omega arith, same)
    | inr other ↦ let f = head_of x n (sym (cond-false (x == entry (every im a) n) true (is_head x n) (ne_eqb x (entry (every im a) n) other)) ∙ e) in (f.0, omega (arith, f.1), f.2)
  ]

  is_head_of : (x n i : ℕ) → i < n → x ≡ entry (every im a) i → is_head x n ≡ true
  is_head_of x zero i low same = absurd (omega (arith, low))
  is_head_of x (suc n) i low same = elim (cases_eq x (entry (every im a) n)) [
    | inl here ↦ cond-true (x == entry (every im a) n) true (is_head x n) (eq-eqb x (entry (every im a) n) here)
    | inr other ↦ elim (cases_eq i n) [
      | inl e ↦ absurd (other (same ∙ ap (entry (every im a)) e))
      | inr d ↦ cond-false (x == entry (every im a) n) true (is_head x n) (ne_eqb x (entry (every im a) n) other) ∙ is_head_of x n i (omega (arith, low, d)) same
    ]
  ]

  first_claims : (i : ℕ) → i < table_count (every im a) → entry (every im a) i ≢ 0 → Claims im (entry_block (every im a) i) (entry (every im a) i) (Chained a (first_hash (every im a) i) 0)
  first_claims i low some = first_leaf has.inode.1.by a has.inode.0 i has.inode.1.claimed has.inode.1.dinode hashed low some

  -- a pointer leads beyond the device
  abbrev is_beyond : ℕ → Bool
  is_beyond x = if x == 0 then false else if nat_lt x im.count then false else true

  beyond_is : (x : ℕ) → is_beyond x ≡ true → (x ≢ 0) × (im.count ≤ x)
  beyond_is x e = elim (cases_eq x 0) [
    | inl zero ↦ absurd (true≢false (sym e ∙ cond-true (x == 0) false _ (eq-eqb x 0 zero)))
    | inr some ↦ elim (cases_lt x im.count) [
      | inl low ↦ absurd (true≢false (sym e ∙ cond-false (x == 0) false _ (ne_eqb x 0 some) ∙ cond-true (nat_lt x im.count) false true (lt-ltb x im.count low)))
      | inr beyond ↦ (some, beyond)
    ]
  ]

  not_beyond : (x : ℕ) → is_beyond x ≡ false → x ≢ 0 → x < im.count
  not_beyond x e some = elim (cases_lt x im.count) [
    | inl low ↦ low
    | inr beyond ↦ absurd (true≢false (sym (cond-false (x == 0) false _ (ne_eqb x 0 some) ∙ cond-false (nat_lt x im.count) false true (le-ltb x im.count beyond)) ∙ e))
  ]

  -- the first leaves of chains
  abbrev is_first : ℕ → Bool
  is_first x = if x == 0 then false else is_head x (table_count (every im a))

  first_is : (x : ℕ) → is_first x ≡ true → (x ≢ 0) × ((i : ℕ) × (i < table_count (every im a)) × (x ≡ entry (every im a) i))
  first_is x e = elim (cases_eq x 0) [
    | inl zero ↦ absurd (true≢false (sym e ∙ cond-true (x == 0) false _ (eq-eqb x 0 zero)))
    | inr some ↦ (some, head_of x (table_count (every im a)) (sym (cond-false (x == 0) false _ (ne_eqb x 0 some)) ∙ e))
  ]

  -- there is a list of all leaves
  pub marked_or : Found
  marked_or = elim (seek (λ i. is_beyond (entry (every im a) i)) (table_count (every im a))) [
    | inl found ↦
        let b = beyond_is (entry (every im a) found.0) found.2 in
        inr (entry_block (every im a) found.0, out (entry_block (every im a) found.0) (entry (every im a) found.0) (first_hash (every im a) found.0) 0 (first_claims found.0 found.1 b.0) b.1)
    | inr none ↦ grow (bare is_first im.count) is_first (record {
      only = λ x on. let f = first_is x on in
          subst (HasLeaf im a) (sym f.1.2) (entry_block (every im a) f.1.0, first_hash (every im a) f.1.0, 0, first_claims f.1.0 f.1.1 (λ e. f.0 (f.1.2 ∙ e)));
      below = λ x on. let f = first_is x on in subst (λ z. z < im.count) (sym f.1.2) (not_beyond (entry (every im a) f.1.0) (none f.1.0 f.1.1) (λ e. f.0 (f.1.2 ∙ e)));
      heads = λ i low some. cond-false (entry (every im a) i == 0) false _ (ne_eqb (entry (every im a) i) 0 some) ∙ is_head_of (entry (every im a) i) (table_count (every im a)) i low refl;
    }) (omega arith)
  ]

-- ---- the list of what is marked, and its records

-- the directory with the marked blocks as its leaves
abbrev pub marked : Image → (ℕ → Bool) → ℕ → Holding
marked im m a = record { size = im.size; count = im.count; own = a; cell = λ b. Some (record { part = if m b then InChain 0 0 else Itself; bytes = im.at b }) }

module _ (im : Image) (a : ℕ) (m : ℕ → Bool) where
  pub marked_leaf : (x : ℕ) → is_leaf_part (part_at (marked im m a) x) ≡ m x
  marked_leaf x = by (m x)
    where
      by : (b : Bool) → is_leaf_part (Some (if b then InChain 0 0 else Itself)) ≡ b
      by true = refl
      by false = refl

  abbrev pub all_leaves : List ℕ
  all_leaves = leaves_of (marked im m a)

  abbrev pub all_records : List Record
  all_records = flat_map (λ x. records_in (leaf_area (every im a) x)) all_leaves

  module _ (has : HasDirectory im a) (hashed : is_hashed_in (every im a) ≡ true) (are : AreMarked im a has hashed m) where
    in_leaves : (x : ℕ) → HasLeaf im a x → IsIn x all_leaves
    in_leaves x leaf =
        let on = are.all x leaf in
        in_filter (λ y. is_leaf_part (part_at (marked im m a) y)) x (range_with_len 0 im.count)
        (in_range 0 im.count x (omega arith) (let low = are.below x on in omega (arith, low))) (marked_leaf x ∙ on)

    pub of_leaves : (x : ℕ) → IsIn x all_leaves → HasLeaf im a x
    of_leaves x there = are.only x (sym (marked_leaf x) ∙ (from_filter (λ y. is_leaf_part (part_at (marked im m a) y)) x (range_with_len 0 im.count) there).1)

    are_leaves : AreLeaves im a all_leaves
    are_leaves = record {
      rise = unrise all_leaves (rising_filter (λ y. is_leaf_part (part_at (marked im m a) y)) (range_with_len 0 im.count) (rising_range 0 im.count));
      all = λ x leaf. contained x all_leaves (in_leaves x leaf);
      only = λ x there. of_leaves x (is_in x all_leaves there);
    }

    pub has_records : HasRecords im a all_records
    has_records = from_leaves all_leaves has hashed are_leaves

    pub record_of_leaf : (x : ℕ) (r : Record) → HasLeaf im a x → Contains (records_in (leaf_area (every im a) x)) r → IsIn r all_records
    record_of_leaf x r leaf there = in_flat_map (λ y. records_in (leaf_area (every im a) y)) x r all_leaves (in_leaves x leaf) (is_in r (records_in (leaf_area (every im a) x)) there)

    -- a record of the directory is in a leaf
    pub leaf_of_record : (r : Record) → IsIn r all_records → (x : ℕ) × HasLeaf im a x × Contains (records_in (leaf_area (every im a) x)) r
    leaf_of_record r there =
        let f = from_flat_map (λ y. records_in (leaf_area (every im a) y)) r all_leaves there in
        (f.0, of_leaves f.0 f.1, contained r (records_in (leaf_area (every im a) f.0)) f.2)
