-- The leaves of a chain in order, and what a name needs where a leaf has room, or one is to be added.
use Rattle.std.proofs.Common.{◌≡◌, ◌≢◌, ◌⊎◌, ℕ, zero, suc, ◌+◌, ◌*◌, ◌^◌, ◌<◌, ◌≤◌, inl, inr, Bool, true, false, List, [], ◌∷◌, length, refl, sym, ap, ◌∙◌, subst, arith}
use Rattle.std.specs.Prelude.{◌||◌}
use Rattle.std.specs.List.{list_any}
use Rattle.std.proofs.lemmas.Bool.{true≢false}
use Rattle.crc_words.specs.Remainder.{crc32_of}
use Rattle.gfs2_layout.specs.Area.{Slot, slots_of}
use Rattle.gfs2_layout.specs.Holding.{Holding}
use Rattle.gfs2_layout.specs.Inode.{depth_in, entry, leaf_area, leaf_in, table_count}
use Rattle.hash_steps.specs.Shown.{IsInChain, index_for}
use Rattle.hash_steps.specs.Walking.{leaf_on}
use Rattle.pointer_tables.specs.Directories.{chain_head, chain_next}
use Rattle.hash_steps.proofs.Along.{chain_is, chain_one, ended, head_there, there_before}
use Rattle.hash_steps.specs.Leaves.{has_room_for, leaf_depth}
use Rattle.hash_inserts.specs.Inserting.{HasNoRoom, HasOneLeafFor, IsDeepest}
use Rattle.hash_inserts.specs.Needing.{AreLeavesFrom, Chain, Needs, TakesBlocks, a_doubling, a_leaf, a_split, has_room_in, is_full, nothing, one_more, the_last}

either_left : (a b : Bool) → a ≡ true → (a || b) ≡ true
either_left true b e = refl
either_left false b e = cc

either_right : (a b : Bool) → b ≡ true → (a || b) ≡ true
either_right true b e = refl
either_right false b e = e

neither : (a b : Bool) → a ≡ false → b ≡ false → (a || b) ≡ false
neither a b e f = ap (λ t. t || b) e ∙ f

same_or : (k place : ℕ) → k ≤ place → (k ≡ place) ⊎ (k + 1 ≤ place)
same_or k place le = grind arith

module _ (h : Holding) (i : ℕ) (test : List Slot → Bool) where
  abbrev of : ℕ → Bool
  of x = test (slots_of (leaf_area h x))

  -- a leaf of the chain that passes a test is among its leaves
  pub some_passes : (k y : ℕ) (leaves : List (List Slot)) → AreLeavesFrom h y leaves → IsInChain h i k y → (place x : ℕ) → IsInChain h i place x → k ≤ place → of x ≡ true → list_any test leaves ≡ true
  some_passes k _ _ (the_last y ends) at place x there le passes = elim (same_or k place le) [
    | inl same ↦ either_left (of y) false (ap of (chain_one h i place y x (subst (λ n. IsInChain h i n y) same at) there) ∙ passes)
    | inr less ↦ absurd (ended h i k y place x at ends (omega (arith, less)) there)
  ]
  some_passes k _ _ (one_more y later more rest) at place x there le passes = elim (same_or k place le) [
    | inl same ↦ either_left (of y) (list_any test later) (ap of (chain_one h i place y x (subst (λ n. IsInChain h i n y) same at) there) ∙ passes)
    | inr less ↦ either_right (of y) (list_any test later) (some_passes (k + 1) ((leaf_in h y).next) later rest (chain_next k y at more) place x there less passes)
  ]

  -- where none passes, none of them does
  pub none_passes : (k y : ℕ) (leaves : List (List Slot)) → AreLeavesFrom h y leaves → IsInChain h i k y → ((place x : ℕ) → IsInChain h i place x → of x ≡ false) → list_any test leaves ≡ false
  none_passes k _ _ (the_last y ends) at none = neither (of y) false (none k y at) refl
  none_passes k _ _ (one_more y later more rest) at none = neither (of y) (list_any test later) (none k y at) (none_passes (k + 1) ((leaf_in h y).next) later rest (chain_next k y at more) none)

-- a chain with one leaf in its list has one
one_is_last : (h : Holding) (y : ℕ) (leaves : List (List Slot)) (slots : List Slot) → AreLeavesFrom h y leaves → leaves ≡ slots ∷ [] → (leaf_in h y).next ≡ 0
one_is_last h _ _ slots (the_last y ends) e = ends
one_is_last h _ _ slots (one_more y later more rest) e = absurd (some later rest (tail_of _ slots later e))
  where
    tail_of : (x y : List Slot) (xs : List (List Slot)) → x ∷ xs ≡ y ∷ [] → xs ≡ []
    tail_of x y xs e = cc

    some : {z : ℕ} (xs : List (List Slot)) → AreLeavesFrom h z xs → xs ≡ [] → ⊥
    some _ (the_last z ends) e = cc
    some _ (one_more z later more rest) e = cc

-- ---- what the name needs

no_need : (len hash : ℕ) (c : Chain) (n : ℕ) → Needs len hash c n → has_room_in len c → n ≡ 0
no_need len hash _ _ (nothing c room) has = refl
no_need len hash _ _ (a_split c slots n full is deeper needs) has = absurd (true≢false (sym has ∙ full))
no_need len hash _ _ (a_doubling c slots n full is deep may needs) has = absurd (true≢false (sym has ∙ full))
no_need len hash _ _ (a_leaf c full other) has = absurd (true≢false (sym has ∙ full))

pub needs_none : (h : Holding) (name : List ℕ) (need place x : ℕ) → TakesBlocks h name need → IsInChain h (index_for h name) place x → has_room_for (length name) (slots_of (leaf_area h x)) ≡ true → index_for h name < table_count h → need ≡ 0
needs_none h name need place x takes chain room low =
    no_need (length name) (crc32_of name) takes.chain need takes.needs
    (some_passes h (index_for h name) (has_room_for (length name)) 0 (entry h (index_for h name)) takes.chain.leaves takes.is.leaves (chain_head low (head_there h (index_for h name) place x chain)) place x chain (omega arith) room)

one_need : (len hash : ℕ) (c : Chain) (n : ℕ) → Needs len hash c n → is_full len c → ((slots : List Slot) → c.leaves ≡ slots ∷ [] → (c.depth ≡ c.table) × (8 * c.size < 2 * 2 ^ c.table)) → n ≡ 1
one_need len hash _ _ (nothing c room) full deepest = absurd (true≢false (sym room ∙ full))
one_need len hash _ _ (a_split c slots n is_full is deeper needs) full deepest = absurd (omega (arith, deeper, (deepest slots is).0))
one_need len hash _ _ (a_doubling c slots n is_full is deep may needs) full deepest = absurd (omega (arith, may, (deepest slots is).1))
one_need len hash _ _ (a_leaf c is_full other) full deepest = refl

pub needs_one : (h : Holding) (name : List ℕ) (need : ℕ) → TakesBlocks h name need → HasNoRoom h name → (HasOneLeafFor h name → IsDeepest h name) → index_for h name < table_count h → entry h (index_for h name) ≢ 0 → need ≡ 1
needs_one h name need takes full deepest low some =
    one_need (length name) (crc32_of name) takes.chain need takes.needs
    (none_passes h (index_for h name) (has_room_for (length name)) 0 (entry h (index_for h name)) takes.chain.leaves takes.is.leaves (chain_head low some) full)
    (λ slots is.
    let deep = deepest (one_is_last h (entry h (index_for h name)) takes.chain.leaves slots takes.is.leaves is) in (
      takes.is.depth ∙ deep.0 ∙ sym takes.is.table,
      subst (λ s. 8 * s < 2 * 2 ^ takes.chain.table) (sym takes.is.size) (subst (λ n. 8 * h.size < 2 * 2 ^ n) (sym takes.is.table) deep.1),
    ))

-- a leaf that is full and less deep than the table takes a block at least
some_need : (len hash : ℕ) (c : Chain) (n : ℕ) → Needs len hash c n → is_full len c → c.depth < c.table → 1 ≤ n
some_need len hash _ _ (nothing c room) full less = absurd (true≢false (sym room ∙ full))
some_need len hash _ _ (a_split c slots n is_full is deeper needs) full less = omega arith
some_need len hash _ _ (a_doubling c slots n is_full is deep may needs) full less = absurd (omega (arith, deep, less))
some_need len hash _ _ (a_leaf c is_full other) full less = omega arith

pub needs_some : (h : Holding) (name : List ℕ) (need : ℕ) → TakesBlocks h name need → HasNoRoom h name → leaf_depth h (index_for h name) < depth_in h → index_for h name < table_count h → entry h (index_for h name) ≢ 0 → 1 ≤ need
needs_some h name need takes full less low some =
    some_need (length name) (crc32_of name) takes.chain need takes.needs
    (none_passes h (index_for h name) (has_room_for (length name)) 0 (entry h (index_for h name)) takes.chain.leaves takes.is.leaves (chain_head low some) full)
    (omega (arith, less, takes.is.depth, takes.is.table))

-- ---- the leaves of a chain that ends

module _ (h : Holding) (i last_place last : ℕ) (chain : IsInChain h i last_place last) (ends : (leaf_in h last).next ≡ 0) where
  -- from a place so many before the last one on
  from_place : (before k : ℕ) → k + before ≡ last_place → (leaves : List (List Slot)) × AreLeavesFrom h (leaf_on h i k) leaves
  unfolding leaf_on
  from_place zero k is =
      let same : last ≡ leaf_on h i k = chain_is h i last_place last chain ∙ ap (leaf_on h i) (let z : last_place ≡ k = omega (arith, is) in z) in
      (slots_of (leaf_area h (leaf_on h i k)) ∷ [], the_last (leaf_on h i k) (ap (λ x. (leaf_in h x).next) (sym same) ∙ ends))
  from_place (suc before) k is =
      let at : IsInChain h i k (leaf_on h i k) = there_before h i last_place last chain k (omega (arith, is)) in
      let more : (leaf_in h (leaf_on h i k)).next ≢ 0 = λ none. ended h i k (leaf_on h i k) last_place last at none (omega (arith, is)) chain in
      let rest = from_place before (suc k) (omega (arith, is)) in
      (slots_of (leaf_area h (leaf_on h i k)) ∷ rest.0, one_more (leaf_on h i k) rest.0 more rest.1)

  pub chain_leaves : (leaves : List (List Slot)) × AreLeavesFrom h (entry h i) leaves
  unfolding leaf_on
  chain_leaves = from_place last_place 0 (omega arith)

some_leaves : (h : Holding) (y : ℕ) (leaves : List (List Slot)) → AreLeavesFrom h y leaves → 1 ≤ length leaves
some_leaves h _ _ (the_last y ends) = omega arith
some_leaves h _ _ (one_more y later more rest) = omega arith

-- where its first leaf isn't its last, there are several
pub several_leaves : (h : Holding) (y : ℕ) (leaves : List (List Slot)) → AreLeavesFrom h y leaves → (leaf_in h y).next ≢ 0 → 2 ≤ length leaves
several_leaves h _ _ (the_last y ends) more = absurd (more ends)
several_leaves h _ _ (one_more y later more rest) _ = omega (arith, some_leaves h ((leaf_in h y).next) later rest)
