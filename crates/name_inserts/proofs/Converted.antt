-- A linear directory that became a hashed one: the chain of each name is its one leaf, and what a name takes then is what was counted before.
use Rattle.std.proofs.Common.{◌≡◌, ◌⊎◌, inl, inr, ℕ, suc, zero, ◌+◌, ◌-◌, ◌^◌, ◌<◌, ◌≤◌, true, false, List, [], ◌∷◌, length, map, sym, ap, ◌∙◌, subst, arith}
use Rattle.std.specs.Prelude.{◌==◌}
use Rattle.std.proofs.lemmas.Bool.{cond-true, eq-eqb}
use Rattle.std.proofs.lemmas.Nat.{pow_below}
use Rattle.crc_words.specs.Remainder.{crc32_of}
use Rattle.gfs2_layout.specs.Area.{slots_of}
use Rattle.gfs2_layout.specs.Device.{IsBlockSize}
use Rattle.gfs2_layout.specs.Holding.{Holding}
use Rattle.gfs2_layout.specs.Inode.{depth_in, entry, is_directory_in, is_hashed_in, leaf_area, leaf_in, leaf_length, linear_area, table_count}
use Rattle.gfs2_layout.specs.declared.dinode.Dinode.{Dinode}
use Rattle.gfs2_layout.specs.declared.leaf.Leaf.{Leaf}
use Rattle.leaf_areas.specs.Moving.{in_use, packed}
use Rattle.hash_inserts.specs.Shown.{IsSound, index_for}
use Rattle.hash_inserts.proofs.Chained.{index_low, inside}
use Rattle.hash_inserts.specs.Steps.{IsConverted, first_count}
use Rattle.hash_inserts.specs.Needing.{Chain, Needs, TakesBlocksFirst}
use Rattle.name_inserts.specs.Need.{chain_of, first_chain, first_depth, leaves_from, most_steps, need_in_hashed, need_within}
use Rattle.name_inserts.proofs.Needed.{IsBounded, needs_within, small_blocks}

-- ---- numbers

pow_same : (a b : ℕ) → 2 ^ a ≡ 2 ^ b → a ≡ b
pow_same a b e = elim (three a b) [
  | inl less ↦ absurd (let lt = pow_below a b less in omega (arith, lt, e))
  | inr (inl more) ↦ absurd (let lt = pow_below b a more in omega (arith, lt, e))
  | inr (inr same) ↦ same
]
  where
    three : (a b : ℕ) → (a < b) ⊎ (b < a) ⊎ (a ≡ b)
    three a b = grind arith

-- the first table is so deep
pub depth_is : (size d : ℕ) → IsBlockSize size → 2 ^ d ≡ first_count size → d ≡ first_depth size
depth_is size d (inl e) pow = pow_same d 5 (pow ∙ ap first_count e) ∙ sym (ap first_depth e)
depth_is size d (inr (inl e)) pow = pow_same d 6 (pow ∙ ap first_count e) ∙ sym (ap first_depth e)
depth_is size d (inr (inr (inl e))) pow = pow_same d 7 (pow ∙ ap first_count e) ∙ sym (ap first_depth e)
depth_is size d (inr (inr (inr e))) pow = pow_same d 8 (pow ∙ ap first_count e) ∙ sym (ap first_depth e)

first_low : (size : ℕ) → IsBlockSize size → first_depth size ≤ 8
first_low size (inl e) = subst (λ d. d ≤ 8) (sym (ap first_depth e)) (omega arith)
first_low size (inr (inl e)) = subst (λ d. d ≤ 8) (sym (ap first_depth e)) (omega arith)
first_low size (inr (inr (inl e))) = subst (λ d. d ≤ 8) (sym (ap first_depth e)) (omega arith)
first_low size (inr (inr (inr e))) = subst (λ d. d ≤ 8) (sym (ap first_depth e)) (omega arith)

-- ---- the first chain

chain_eq : (c d : Chain) → c.size ≡ d.size → c.height ≡ d.height → c.table ≡ d.table → c.depth ≡ d.depth → c.leaves ≡ d.leaves → c ≡ d
chain_eq c d e f g i j = λ k. record { size = e k; height = f k; table = g k; depth = i k; leaves = j k }

module _ (h : Holding) (block_size : IsBlockSize h.size) where
  pub first_bounded : IsBounded most_steps (first_chain h)
  first_bounded = let low = first_low h.size block_size in record {
    size = small_blocks h.size block_size;
    table = omega (arith, low);
    depth = omega arith;
    enough = omega arith;
  }

  -- what the rules tell of the first chain is what is counted
  pub first_need : (name : List ℕ) (n : ℕ) → TakesBlocksFirst h name n → n ≡ need_within most_steps (length name) (crc32_of name) (first_chain h) + 1
  first_need name n takes =
      let same = chain_eq takes.chain (first_chain h) takes.is.size takes.is.height (depth_is h.size takes.chain.table block_size takes.is.table) takes.is.depth takes.is.leaves in
      takes.all ∙ ap (λ k. k + 1) (sym (needs_within (length name) (crc32_of name) (first_chain h) takes.more (subst (λ c. Needs (length name) (crc32_of name) c takes.more) same takes.needs) most_steps first_bounded))

-- ---- the directory that it becomes

module _ (h m : Holding) (b : ℕ) (name : List ℕ) (sound : IsSound h) (directory : is_directory_in h ≡ true) (linear : is_hashed_in h ≡ false) (is : IsConverted h m b) (sound' : IsSound m) (small : crc32_of name < 2 ^ 32) where
  low : index_for m name < table_count m
  low = index_low m sound' is.hashed name small

  leads : entry m (index_for m name) ≡ b
  leads = is.entries (index_for m name) low

  -- the leaf is the only one of each chain
  one_leaf : (n : ℕ) → 1 ≤ n → map (λ x. slots_of (leaf_area m x)) (leaves_from n m b) ≡ packed (h.size - leaf_length) (in_use (slots_of (linear_area h))) ∷ []
  unfolding leaves_from
  one_leaf zero some = absurd (omega (arith, some))
  one_leaf (suc n) some =
      ap (λ r. slots_of (leaf_area m b) ∷ map (λ x. slots_of (leaf_area m x)) r) (cond-true ((leaf_in m b).next == 0) _ _ (eq-eqb (leaf_in m b).next 0 (ap (λ (l : Leaf). l.next) is.leaf.head_is)))
      ∙ ap (λ s. s ∷ []) is.leaf.slots_are

  pub chain_after : chain_of m name ≡ first_chain h
  chain_after = chain_eq (chain_of m name) (first_chain h) is.same.size
      (ap (λ (d : Dinode). d.height) is.dinode ∙ (sound.inode.linear directory linear).stuffed)
      (depth_is h.size (depth_in m) sound.block_size is.count)
      (ap (λ x. (leaf_in m x).depth) leads ∙ ap (λ (l : Leaf). l.depth) is.leaf.head_is)
      (ap (λ x. map (λ y. slots_of (leaf_area m y)) (leaves_from m.count m x)) leads ∙ one_leaf m.count (let less = inside m sound' is.hashed b 0 0 is.new_part in omega (arith, less)))

  pub need_after : need_in_hashed m name ≡ need_within most_steps (length name) (crc32_of name) (first_chain h)
  need_after = ap (need_within most_steps (length name) (crc32_of name)) chain_after
