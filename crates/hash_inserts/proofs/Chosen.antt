-- The leaf of a name after the one leaf of its chain was split, and what the name needs then.
use Rattle.std.proofs.Common.{◌≡◌, ◌≢◌, ◌⊎◌, ℕ, ◌+◌, ◌-◌, ◌*◌, ◌/◌, ◌^◌, ◌<◌, ◌≤◌, inl, inr, Bool, true, false, List, [], ◌∷◌, length, refl, sym, ap, ap₂, ◌∙◌, subst, arith}
use Rattle.std.specs.Prelude.{◌==◌, ◌||◌, if◌then◌else◌}
use Rattle.std.specs.List.{list_any}
use Rattle.std.proofs.lemmas.Bool.{cases_Bool, cond-false, cond-true, eqb-true, true≢false}
use Rattle.crc_words.specs.Remainder.{crc32_of}
use Rattle.gfs2_layout.specs.Area.{Slot, slots_of}
use Rattle.gfs2_layout.specs.Holding.{Holding}
use Rattle.gfs2_layout.specs.Inode.{depth_in, entry, is_hashed_in, leaf_area, leaf_in, leaf_length, table_count, top_bits}
use Rattle.gfs2_layout.specs.declared.dinode.Dinode.{Dinode}
use Rattle.gfs2_layout.specs.declared.leaf.Leaf.{Leaf}
use Rattle.leaf_areas.specs.Splitting.{bit_at, lower_half, upper_half}
use Rattle.pointer_tables.specs.Tables.{is_within}
use Rattle.hash_steps.specs.Shown.{IsSound, index_for}
use Rattle.hash_steps.proofs.Chained.{deep, index_low}
use Rattle.hash_steps.proofs.Indexes.{bits_of_bits, some_pow}
use Rattle.hash_steps.specs.Leaves.{HasOneLeaf, first_of, has_room_for, leaf_depth, run_of}
use Rattle.hash_steps.specs.Steps.{IsSplit}
use Rattle.hash_steps.proofs.Halves.{first_bits, lower_bits, odd_apart, outside_run, upper_bits, within_run}
use Rattle.hash_inserts.specs.Needing.{AreLeavesFrom, Chain, Needs, TakesBlocks, a_doubling, a_leaf, a_split, nothing, one_more, split_for, the_last}

-- after a split the name's index is the same, and its pointer leads to one of the two leaves
module _ (h g : Holding) (name : List ℕ) (b : ℕ) (sound : IsSound h) (hashed : is_hashed_in h ≡ true) (small : crc32_of name < 2 ^ 32) (less : leaf_depth h (index_for h name) < depth_in h) (split : IsSplit h g (index_for h name) b) where
  abbrev pub i : ℕ
  i = index_for h name

  abbrev pub d : ℕ
  d = leaf_depth h (index_for h name)

  abbrev q : ℕ
  q = index_for h name / 2 ^ (depth_in h - leaf_depth h (index_for h name))

  table_low : depth_in h ≤ 15
  table_low = deep h sound hashed

  d_low : leaf_depth h (index_for h name) ≤ 15
  d_low = omega (arith, less, table_low)

  pub depth_same : depth_in g ≡ depth_in h
  depth_same = ap (λ (x : Dinode). x.depth) split.counts.dinode

  pub index_same : index_for g name ≡ index_for h name
  index_same = ap (λ n. top_bits n (crc32_of name)) depth_same

  bits : top_bits (leaf_depth h (index_for h name)) (crc32_of name) ≡ q
  bits = sym (bits_of_bits (leaf_depth h (index_for h name)) (depth_in h) (crc32_of name) (omega (arith, less)) (omega (arith, table_low)))

  bits_more : index_for h name / 2 ^ (depth_in h - (leaf_depth h (index_for h name) + 1)) ≡ top_bits (leaf_depth h (index_for h name) + 1) (crc32_of name)
  bits_more = bits_of_bits (leaf_depth h (index_for h name) + 1) (depth_in h) (crc32_of name) (omega (arith, less)) (omega (arith, table_low))

  begins : first_of h (index_for h name) ≡ 2 * q * run_of h (leaf_depth h (index_for h name) + 1)
  begins = first_bits (depth_in h) (leaf_depth h (index_for h name)) q less

  goes_low : bit_at d (crc32_of name) ≡ 0 → is_within (first_of h i) (run_of h (d + 1)) i ≡ true
  goes_low bit = within_run (first_of h i) (run_of h (d + 1)) i (2 * q) (some_pow (depth_in h - (d + 1))) begins (bits_more ∙ lower_bits d (crc32_of name) q d_low bits bit)

  stays_high : bit_at d (crc32_of name) ≢ 0 → is_within (first_of h i) (run_of h (d + 1)) i ≡ false
  stays_high bit = outside_run (first_of h i) (run_of h (d + 1)) i (2 * q) begins (λ is. odd_apart (i / 2 ^ (depth_in h - (d + 1))) q (bits_more ∙ upper_bits d (crc32_of name) q d_low bits bit) is)

  index_in : index_for h name < table_count h
  index_in = index_low h sound hashed name small

  pub record Chosen : Type 0 where
    pub leaf : ℕ
    pub leads : entry g (index_for g name) ≡ leaf
    pub next : (leaf_in g leaf).next ≡ 0
    pub depth : (leaf_in g leaf).depth ≡ d + 1
    pub slots : slots_of (leaf_area g leaf) ≡ (if bit_at d (crc32_of name) == 0 then lower_half (h.size - leaf_length) d (slots_of (leaf_area h (entry h i))) else upper_half d (slots_of (leaf_area h (entry h i))))
    pub which : (leaf ≡ b) ⊎ (leaf ≡ entry h i)

  led : entry g (index_for g name) ≡ (if is_within (first_of h i) (run_of h (d + 1)) i then b else entry h i)
  led = ap (entry g) index_same ∙ split.entries i index_in

  pub chosen : Chosen
  chosen = elim (cases_Bool (bit_at d (crc32_of name) == 0)) [
    | inl low ↦ record {
      leaf = b;
      leads = led ∙ cond-true (is_within (first_of h i) (run_of h (d + 1)) i) b (entry h i) (goes_low (eqb-true (bit_at d (crc32_of name)) 0 low));
      next = ap (λ (l : Leaf). l.next) split.new_leaf.head_is;
      depth = ap (λ (l : Leaf). l.depth) split.new_leaf.head_is;
      slots = split.new_leaf.slots_are ∙ sym (cond-true (bit_at d (crc32_of name) == 0) _ _ low);
      which = inl refl;
    }
    | inr high ↦ record {
      leaf = entry h i;
      leads = led ∙ cond-false (is_within (first_of h i) (run_of h (d + 1)) i) b (entry h i) (stays_high (λ e. true≢false (sym (zero_test (bit_at d (crc32_of name)) e) ∙ high)));
      next = ap (λ (l : Leaf). l.next) split.old_leaf.head_is;
      depth = ap (λ (l : Leaf). l.depth) split.old_leaf.head_is;
      slots = split.old_leaf.slots_are ∙ sym (cond-false (bit_at d (crc32_of name) == 0) _ _ high);
      which = inr refl;
    }
  ]
    where
      zero_test : (n : ℕ) → n ≡ 0 → (n == 0) ≡ true
      zero_test n e = ap (λ m. m == 0) e

  -- ---- what it needs

  one_leaf : (x : ℕ) (leaves : List (List Slot)) → AreLeavesFrom h x leaves → (leaf_in h x).next ≡ 0 → leaves ≡ slots_of (leaf_area h x) ∷ []
  one_leaf _ _ (the_last x ends) one = refl
  one_leaf _ _ (one_more x later more rest) one = absurd (more one)

  by_rule : (c : Chain) (n : ℕ) → Needs (length name) (crc32_of name) c n → c.leaves ≡ slots_of (leaf_area h (entry h i)) ∷ [] → has_room_for (length name) (slots_of (leaf_area h (entry h i))) ≡ false → c.depth < c.table
      → (m : ℕ) × (n ≡ m + 1) × Needs (length name) (crc32_of name) (split_for (crc32_of name) (slots_of (leaf_area h (entry h i))) c) m
  by_rule _ _ (nothing c room) leaves full low = absurd (true≢false (sym room ∙ ap (list_any (has_room_for (length name))) leaves ∙ none (has_room_for (length name)) (slots_of (leaf_area h (entry h i))) full))
    where
      none : (test : List Slot → Bool) (x : List Slot) → test x ≡ false → list_any test (x ∷ []) ≡ false
      none test x fails = ap (λ t. t || false) fails
  by_rule _ _ (a_split c slots m full is deeper needs) leaves none low = (m, refl, subst (λ s. Needs (length name) (crc32_of name) (split_for (crc32_of name) s c) m) (same slots (slots_of (leaf_area h (entry h i))) (sym is ∙ leaves)) needs)
    where
      same : (x y : List Slot) → x ∷ [] ≡ y ∷ [] → x ≡ y
      same x y e = cc
  by_rule _ _ (a_doubling c slots m full is as_deep may needs) leaves none low = absurd (omega (arith, as_deep, low))
  by_rule _ _ (a_leaf c full (inl several)) leaves none low = absurd (omega (arith, several, ap length leaves))
  by_rule _ _ (a_leaf c full (inr other)) leaves none low = absurd (omega (arith, other.0, low))

  abbrev one_half : Chain → List Slot
  one_half c = if bit_at c.depth (crc32_of name) == 0 then lower_half (c.size - leaf_length) c.depth (slots_of (leaf_area h (entry h i))) else upper_half c.depth (slots_of (leaf_area h (entry h i)))

  pub needs_less : (n : ℕ) → HasOneLeaf h i → has_room_for (length name) (slots_of (leaf_area h (entry h i))) ≡ false → TakesBlocks h name n → (m : ℕ) × (n ≡ m + 1) × TakesBlocks g name m
  needs_less n one full takes =
      let c = takes.chain in
      let leaves = one_leaf (entry h i) c.leaves takes.is.leaves one in
      let rest = by_rule c n takes.needs leaves full (omega (arith, takes.is.depth, takes.is.table, less)) in (
        rest.0,
        rest.1,
        record {
          chain = split_for (crc32_of name) (slots_of (leaf_area h (entry h i))) c;
          is = record {
            size = takes.is.size ∙ sym split.same.size;
            height = takes.is.height ∙ sym (ap (λ (x : Dinode). x.height) split.counts.dinode);
            table = takes.is.table ∙ sym depth_same;
            depth = ap (λ k. k + 1) takes.is.depth ∙ sym chosen.depth ∙ ap (λ x. (leaf_in g x).depth) (sym chosen.leads);
            leaves = subst (λ x. AreLeavesFrom g x (one_half c ∷ [])) (sym chosen.leads) (subst (λ s. AreLeavesFrom g chosen.leaf (s ∷ [])) (chosen.slots ∙ halves c takes.is.size takes.is.depth) (the_last chosen.leaf chosen.next));
          };
          needs = rest.2;
        },
      )
    where
      halves : (c : Chain) → c.size ≡ h.size → c.depth ≡ d
          → (if bit_at d (crc32_of name) == 0 then lower_half (h.size - leaf_length) d (slots_of (leaf_area h (entry h i))) else upper_half d (slots_of (leaf_area h (entry h i)))) ≡ one_half c
      halves c size depth = ap₂ (λ s k. if bit_at k (crc32_of name) == 0 then lower_half (s - leaf_length) k (slots_of (leaf_area h (entry h i))) else upper_half k (slots_of (leaf_area h (entry h i)))) (sym size) (sym depth)
