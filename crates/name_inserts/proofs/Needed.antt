-- How many blocks a name takes is one number: what the rules of an insertion tell is what is counted.
use Rattle.std.proofs.Common.{◌≡◌, ◌⊎◌, inl, inr, ℕ, zero, suc, ◌+◌, ◌*◌, ◌^◌, ◌<◌, ◌≤◌, Bool, true, false, List, [], ◌∷◌, length, map, refl, sym, ap, ap₂, ◌∙◌, subst, arith}
use Rattle.std.specs.Prelude.{◌==◌, ◌&&◌, nat_lt, slice_get, unwrap_or}
use Rattle.std.specs.List.{list_any}
use Rattle.std.proofs.lemmas.Bool.{cases_Bool, cases_eq, cond-false, cond-true, eq-eqb, eqb-false, eqb-true, false≢true, le-leb, le-ltb, leb-false, leb-true, lt-leb, lt-ltb, ltb-false, ltb-true, ne_eqb}
use Rattle.crc_words.specs.Remainder.{crc32_of}
use Rattle.gfs2_layout.specs.Area.{Slot, slots_of}
use Rattle.gfs2_layout.specs.Device.{IsBlockSize}
use Rattle.gfs2_layout.specs.Holding.{Holding, InChain}
use Rattle.gfs2_layout.specs.Inode.{entry, first_hash, is_hashed_in, leaf_area, leaf_in, table_count}
use Rattle.pointer_tables.specs.Directories.{chain_head, chain_next}
use Rattle.hash_inserts.specs.Tables.{doubling_need}
use Rattle.hash_inserts.specs.Shown.{IsInChain, IsSound, index_for}
use Rattle.hash_inserts.proofs.Along.{comes_back}
use Rattle.hash_inserts.proofs.Chained.{deep, head_some, in_chain, index_low, inside, rules, same_hash, some_block}
use Rattle.hash_inserts.specs.Leaves.{has_room_for}
use Rattle.hash_inserts.specs.Needing.{AreLeavesFrom, Chain, Needs, TakesBlocks, a_doubling, a_leaf, a_split, can_double, doubled, nothing, one_more, split_for, the_last}
use Rattle.name_inserts.specs.Need.{chain_of, first_leaf, has_one, is_growable, leaves_from, most_steps, need_in_hashed, need_within}

-- ---- the count of a chain

-- so many steps are enough for it
pub record IsBounded (steps : ℕ) (c : Chain) : Type 0 where
  pub size : c.size ≤ 4096
  pub table : c.table ≤ 15
  pub depth : c.depth ≤ c.table
  pub enough : 30 < c.depth + c.table + steps

deeper : (table size : ℕ) → size ≤ 4096 → table ≤ 15 → 2 * 2 ^ table ≤ 8 * size → table + 1 ≤ 15
deeper table size low le can = grind arith

both_false : (a b : Bool) → b ≡ false → (a && b) ≡ false
both_false true b e = e
both_false false b e = refl

first_false : (a b : Bool) → a ≡ false → (a && b) ≡ false
first_false a b e = ap (λ x. x && b) e

both_true : (a b : Bool) → a ≡ true → b ≡ true → (a && b) ≡ true
both_true a b e f = ap₂ (λ x y. x && y) e f

is_one : (c : Chain) (slots : List Slot) → c.leaves ≡ slots ∷ [] → has_one c ≡ true
is_one c slots e = ap (λ (l : List (List Slot)). length l == 1) e

has_steps : (steps : ℕ) (c : Chain) → IsBounded steps c → steps ≡ 0 → ⊥
has_steps steps c b e = omega (arith, b.table, b.depth, b.enough, e)

-- the three rules, each where those before it don't fit
module _ (s len hash : ℕ) (c : Chain) where
  abbrev fits : Bool
  fits = list_any (has_room_for len) c.leaves

  abbrev splits : Bool
  splits = has_one c && nat_lt c.depth c.table

  abbrev doubles : Bool
  doubles = has_one c && is_growable c

  abbrev after_split : ℕ
  after_split = need_within s len hash (split_for hash (first_leaf c) c) + 1

  abbrev after_doubling : ℕ
  after_doubling = need_within s len hash (doubled c) + doubling_need c.size c.height (2 ^ c.table)

  by_room : fits ≡ true → need_within (suc s) len hash c ≡ 0
  unfolding need_within
  by_room e = cond-true fits _ _ e

  by_split : fits ≡ false → splits ≡ true → need_within (suc s) len hash c ≡ after_split
  unfolding need_within
  by_split full e = cond-false fits _ _ full ∙ cond-true splits _ _ e

  by_doubling : fits ≡ false → splits ≡ false → doubles ≡ true → need_within (suc s) len hash c ≡ after_doubling
  unfolding need_within
  by_doubling full past e = cond-false fits _ _ full ∙ cond-false splits _ _ past ∙ cond-true doubles _ _ e

  by_leaf : fits ≡ false → splits ≡ false → doubles ≡ false → need_within (suc s) len hash c ≡ 1
  unfolding need_within
  by_leaf full past neither = cond-false fits _ _ full ∙ cond-false splits _ _ past ∙ cond-false doubles _ _ neither

several : (n : ℕ) → 2 ≤ n → (n == 1) ≡ false
several n le = ne_eqb n 1 (λ e. omega (arith, le, e))

pub needs_within : (len hash : ℕ) (c : Chain) (n : ℕ) → Needs len hash c n → (steps : ℕ) → IsBounded steps c → need_within steps len hash c ≡ n
needs_within len hash c n needs zero b = absurd (has_steps 0 c b refl)
needs_within len hash c _ (nothing _ fits) (suc s) b = by_room s len hash c fits
needs_within len hash c _ (a_split _ slots n full one less more) (suc s) b =
    by_split s len hash c full (both_true (has_one c) (nat_lt c.depth c.table) (is_one c slots one) (lt-ltb c.depth c.table less))
    ∙ ap (λ (l : List (List Slot)). need_within s len hash (split_for hash (unwrap_or (slice_get l 0) []) c) + 1) one
    ∙ ap (λ k. k + 1) (needs_within len hash (split_for hash slots c) n more s (record {
      size = b.size;
      table = b.table;
      depth = omega (arith, less);
      enough = omega (arith, b.enough);
    }))
needs_within len hash c _ (a_doubling _ slots n full one low can more) (suc s) b =
    by_doubling s len hash c full (both_false (has_one c) (nat_lt c.depth c.table) (le-ltb c.depth c.table low)) (both_true (has_one c) (is_growable c) (is_one c slots one) (le-leb (2 * 2 ^ c.table) (8 * c.size) can))
    ∙ ap (λ k. k + doubling_need c.size c.height (2 ^ c.table)) (needs_within len hash (doubled c) n more s (record {
      size = b.size;
      table = deeper c.table c.size b.size b.table can;
      depth = omega (arith, b.depth);
      enough = omega (arith, b.enough);
    }))
needs_within len hash c _ (a_leaf _ full (inl many)) (suc s) b =
    by_leaf s len hash c full (first_false (has_one c) (nat_lt c.depth c.table) (several (length c.leaves) many)) (first_false (has_one c) (is_growable c) (several (length c.leaves) many))
needs_within len hash c _ (a_leaf _ full (inr top)) (suc s) b =
    by_leaf s len hash c full (both_false (has_one c) (nat_lt c.depth c.table) (le-ltb c.depth c.table top.0))
    (both_false (has_one c) (is_growable c) (lt-leb (2 * 2 ^ c.table) (8 * c.size) (not_le (2 * 2 ^ c.table) (8 * c.size) top.1)))
  where
    not_le : (a b : ℕ) → (a ≤ b → ⊥) → b < a
    not_le a b other = elim (le_or_less a b) [ inl le ↦ absurd (other le) | inr less ↦ less ]
      where
        le_or_less : (a b : ℕ) → (a ≤ b) ⊎ (b < a)
        le_or_less a b = grind arith

-- and what is counted is what the rules tell

both_are : (a b : Bool) → (a && b) ≡ true → (a ≡ true) × (b ≡ true)
both_are true true e = (refl, refl)
both_are true false e = absurd (false≢true e)
both_are false b e = absurd (false≢true e)

one_isnt : (a b : Bool) → (a && b) ≡ false → (a ≡ false) ⊎ ((a ≡ true) × (b ≡ false))
one_isnt true b e = inr (refl, e)
one_isnt false b e = inl refl

one_leaf : (l : List (List Slot)) → (length l == 1) ≡ true → l ≡ unwrap_or (slice_get l 0) [] ∷ []
one_leaf [] e = absurd (let no : 0 ≡ 1 = eqb-true 0 1 e in omega (arith, no))
one_leaf (x ∷ []) e = refl
one_leaf (x ∷ y ∷ more) e = absurd (let no : length (x ∷ y ∷ more) ≡ 1 = eqb-true (length (x ∷ y ∷ more)) 1 e in omega (arith, no))

two_leaves : (n : ℕ) → 1 ≤ n → (n == 1) ≡ false → 2 ≤ n
two_leaves n some e = more n some (eqb-false n 1 e)
  where
    more : (n : ℕ) → 1 ≤ n → (n ≡ 1 → ⊥) → 2 ≤ n
    more n some other = grind arith

-- none of the first two rules fits
rest_of : (c : Chain) → 1 ≤ length c.leaves → (has_one c && nat_lt c.depth c.table) ≡ false → (has_one c && is_growable c) ≡ false → (2 ≤ length c.leaves) ⊎ ((c.table ≤ c.depth) × (can_double c → ⊥))
rest_of c some past neither = elim (one_isnt (has_one c) (nat_lt c.depth c.table) past) [
  | inl more ↦ inl (two_leaves (length c.leaves) some more)
  | inr one ↦ elim (one_isnt (has_one c) (is_growable c) neither) [
    | inl more ↦ absurd (false≢true (sym more ∙ one.0))
    | inr top ↦ inr (ltb-false c.depth c.table one.1, λ can. let less : 8 * c.size < 2 * 2 ^ c.table = leb-false (2 * 2 ^ c.table) (8 * c.size) top.1 in omega (arith, less, can))
  ]
]

pub within_needs : (len hash steps : ℕ) (c : Chain) → IsBounded steps c → 1 ≤ length c.leaves → Needs len hash c (need_within steps len hash c)
within_needs len hash zero c b some = absurd (has_steps 0 c b refl)
within_needs len hash (suc s) c b some = elim (cases_Bool (list_any (has_room_for len) c.leaves)) [
  | inl fits ↦ subst (Needs len hash c) (sym (by_room s len hash c fits)) (nothing c fits)
  | inr full ↦ elim (cases_Bool (has_one c && nat_lt c.depth c.table)) [
    | inl split ↦
        let both = both_are (has_one c) (nat_lt c.depth c.table) split in
        let less = ltb-true c.depth c.table both.1 in
        subst (Needs len hash c) (sym (by_split s len hash c full split))
        (a_split c (first_leaf c) (need_within s len hash (split_for hash (first_leaf c) c)) full (one_leaf c.leaves both.0) less
        (within_needs len hash s (split_for hash (first_leaf c) c) (record { size = b.size; table = b.table; depth = omega (arith, less); enough = omega (arith, b.enough) }) (omega arith)))
    | inr past ↦ elim (cases_Bool (has_one c && is_growable c)) [
      | inl double ↦
          let both = both_are (has_one c) (is_growable c) double in
          let can = leb-true (2 * 2 ^ c.table) (8 * c.size) both.1 in
          let low : c.table ≤ c.depth = not_less past both.0 in
          subst (Needs len hash c) (sym (by_doubling s len hash c full past double))
          (a_doubling c (first_leaf c) (need_within s len hash (doubled c)) full (one_leaf c.leaves both.0) low can
          (within_needs len hash s (doubled c) (record { size = b.size; table = deeper c.table c.size b.size b.table can; depth = omega (arith, b.depth); enough = omega (arith, b.enough) }) some))
      | inr neither ↦ subst (Needs len hash c) (sym (by_leaf s len hash c full past neither)) (a_leaf c full (rest_of c some past neither))
    ]
  ]
]
  where
    not_less : (has_one c && nat_lt c.depth c.table) ≡ false → has_one c ≡ true → c.table ≤ c.depth
    not_less past one = elim (one_isnt (has_one c) (nat_lt c.depth c.table) past) [
      | inl more ↦ absurd (false≢true (sym more ∙ one))
      | inr rest ↦ ltb-false c.depth c.table rest.1
    ]

-- ---- the leaves of a chain

module _ (h : Holding) where
  abbrev records_at : ℕ → List Slot
  records_at x = slots_of (leaf_area h x)

  leaves_are : (fuel x : ℕ) (leaves : List (List Slot)) → AreLeavesFrom h x leaves → length leaves ≤ fuel → map records_at (leaves_from fuel h x) ≡ leaves
  unfolding leaves_from
  leaves_are zero x _ (the_last _ ends) few = absurd (omega (arith, few))
  leaves_are zero x _ (one_more _ later goes rest) few = absurd (omega (arith, few))
  leaves_are (suc n) x _ (the_last _ ends) few = ap (λ r. records_at x ∷ map records_at r) (cond-true ((leaf_in h x).next == 0) _ _ (eq-eqb (leaf_in h x).next 0 ends))
  leaves_are (suc n) x _ (one_more _ later goes rest) few =
      ap (λ r. records_at x ∷ map records_at r) (cond-false ((leaf_in h x).next == 0) _ _ (ne_eqb (leaf_in h x).next 0 goes))
      ∙ ap (λ r. records_at x ∷ r) (leaves_are n (leaf_in h x).next later rest (omega (arith, few)))

  module _ (sound : IsSound h) (hashed : is_hashed_in h ≡ true) where
    -- no chain is longer than the image
    place_low : (i place x : ℕ) → IsInChain h i place x → place < h.count
    place_low i place x chain = elim (below place h.count) [
      | inl less ↦ less
      | inr le ↦
          let again = comes_back h i place x chain (λ k y low at. let part = in_chain h sound hashed i k y at in (some_block h sound hashed y (InChain (first_hash h i) k) part, (let lt : y < h.count = inside h sound hashed y (first_hash h i) k part in omega (arith, lt, le)))) in
          let same = same_hash (first_hash h i) (first_hash h i) again.0 place (sym (in_chain h sound hashed i again.0 x again.2) ∙ in_chain h sound hashed i place x chain) in
          absurd (let less : again.0 < place = again.1 in let e : again.0 ≡ place = same.1 in omega (arith, less, e))
    ]
      where
        below : (a b : ℕ) → (a < b) ⊎ (b ≤ a)
        below a b = grind arith

    few_from : (i place x : ℕ) (leaves : List (List Slot)) → IsInChain h i place x → AreLeavesFrom h x leaves → place + length leaves ≤ h.count
    few_from i place x _ chain (the_last _ ends) = let low = place_low i place x chain in omega (arith, low)
    few_from i place x _ chain (one_more _ later goes rest) =
        let more = few_from i (place + 1) (leaf_in h x).next later (chain_next place x chain goes) rest in omega (arith, more)

    pub chain_is : (i : ℕ) (leaves : List (List Slot)) → i < table_count h → AreLeavesFrom h (entry h i) leaves → map records_at (leaves_from h.count h (entry h i)) ≡ leaves
    chain_is i leaves low are = leaves_are h.count (entry h i) leaves are (let few = few_from i 0 (entry h i) leaves (chain_head low (head_some h sound hashed i low)) are in omega (arith, few))

    -- a chain's leaves are found within as many steps as the image has blocks
    are_from : (i place x fuel : ℕ) → IsInChain h i place x → h.count ≤ place + fuel → AreLeavesFrom h x (map records_at (leaves_from fuel h x))
    unfolding leaves_from
    are_from i place x zero chain enough = absurd (let low = place_low i place x chain in omega (arith, low, enough))
    are_from i place x (suc n) chain enough = elim (cases_eq (leaf_in h x).next 0) [
      | inl ends ↦ subst (AreLeavesFrom h x) (ap (λ r. records_at x ∷ map records_at r) (sym (cond-true ((leaf_in h x).next == 0) _ _ (eq-eqb (leaf_in h x).next 0 ends)))) (the_last x ends)
      | inr goes ↦ subst (AreLeavesFrom h x) (ap (λ r. records_at x ∷ map records_at r) (sym (cond-false ((leaf_in h x).next == 0) _ _ (ne_eqb (leaf_in h x).next 0 goes))))
          (one_more x (map records_at (leaves_from n h (leaf_in h x).next)) goes (are_from i (place + 1) (leaf_in h x).next n (chain_next place x chain goes) (omega (arith, enough))))
    ]

    pub are_leaves : (i : ℕ) → i < table_count h → AreLeavesFrom h (entry h i) (map records_at (leaves_from h.count h (entry h i)))
    are_leaves i low = are_from i 0 (entry h i) h.count (chain_head low (head_some h sound hashed i low)) (omega arith)

    some_leaf : (x : ℕ) (leaves : List (List Slot)) → AreLeavesFrom h x leaves → 1 ≤ length leaves
    some_leaf x _ (the_last _ ends) = omega arith
    some_leaf x _ (one_more _ later goes rest) = omega arith

-- ---- of a hashed directory

pub small_blocks : (size : ℕ) → IsBlockSize size → size ≤ 4096
small_blocks size (inl e) = omega (arith, e)
small_blocks size (inr (inl e)) = omega (arith, e)
small_blocks size (inr (inr (inl e))) = omega (arith, e)
small_blocks size (inr (inr (inr e))) = omega (arith, e)

module _ (h : Holding) (name : List ℕ) (sound : IsSound h) (hashed : is_hashed_in h ≡ true) (small : crc32_of name < 2 ^ 32) where
  low : index_for h name < table_count h
  low = index_low h sound hashed name small

  bounded : IsBounded most_steps (chain_of h name)
  bounded = record {
    size = small_blocks h.size sound.block_size;
    table = deep h sound hashed;
    depth = ((rules h sound hashed).leaves (entry h (index_for h name)) (first_hash h (index_for h name)) 0 ((rules h sound hashed).leads (index_for h name) low)).depth;
    enough = omega arith;
  }

  chain_eq : (c d : Chain) → c.size ≡ d.size → c.height ≡ d.height → c.table ≡ d.table → c.depth ≡ d.depth → c.leaves ≡ d.leaves → c ≡ d
  chain_eq c d e f g i j = λ k. record { size = e k; height = f k; table = g k; depth = i k; leaves = j k }

  -- what an insertion takes by the rules is what is counted
  pub need_is : (n : ℕ) → TakesBlocks h name n → n ≡ need_in_hashed h name
  need_is n takes =
      let leaves = sym (chain_is h sound hashed (index_for h name) takes.chain.leaves low takes.is.leaves) in
      let same = chain_eq takes.chain (chain_of h name) takes.is.size takes.is.height takes.is.table takes.is.depth leaves in
      sym (needs_within (length name) (crc32_of name) (chain_of h name) n (subst (λ c. Needs (length name) (crc32_of name) c n) same takes.needs) most_steps bounded)

  -- and it takes that
  pub takes_need : TakesBlocks h name (need_in_hashed h name)
  takes_need =
      let leaves = are_leaves h sound hashed (index_for h name) low in
      record {
        chain = chain_of h name;
        is = record { size = refl; height = refl; table = refl; depth = refl; leaves = leaves };
        needs = within_needs (length name) (crc32_of name) most_steps (chain_of h name) bounded (some_leaf h sound hashed (entry h (index_for h name)) (chain_of h name).leaves leaves);
      }
