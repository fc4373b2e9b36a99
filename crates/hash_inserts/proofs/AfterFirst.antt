-- The one chain of a linear directory that became a hashed one.
use Rattle.std.proofs.Common.{◌≡◌, ℕ, ◌^◌, ◌<◌, ◌≤◌, inl, inr, true, false, List, [], ◌∷◌, sym, ap, ◌∙◌, subst, arith}
use Rattle.std.proofs.lemmas.Bool.{cases_lt}
use Rattle.std.proofs.lemmas.Nat.{pow_below}
use Rattle.crc_words.specs.Remainder.{crc32_of}
use Rattle.gfs2_layout.specs.Area.{Slot, slots_of}
use Rattle.gfs2_layout.specs.Device.{IsBlockSize}
use Rattle.gfs2_layout.specs.Holding.{Holding}
use Rattle.gfs2_layout.specs.Inode.{depth_in, entry, is_directory_in, is_hashed_in, leaf_area, leaf_in, table_count}
use Rattle.gfs2_layout.specs.declared.dinode.Dinode.{Dinode}
use Rattle.gfs2_layout.specs.declared.leaf.Leaf.{Leaf}
use Rattle.hash_steps.specs.Shown.{IsSound, index_for}
use Rattle.hash_steps.proofs.Indexes.{bits_low}
use Rattle.hash_steps.specs.Steps.{IsConverted, first_count}
use Rattle.hash_inserts.specs.Laws.{FirstNeedsStay}
use Rattle.hash_inserts.specs.Needing.{AreLeavesFrom, IsChainOf, TakesBlocksFirst, the_last}

same_power : (i j : ℕ) → 2 ^ i ≡ 2 ^ j → i ≡ j
same_power i j same = elim (cases_lt i j) [
  | inl less ↦ absurd (omega (arith, pow_below i j less, same))
  | inr from ↦ elim (cases_lt j i) [
    | inl more ↦ absurd (omega (arith, pow_below j i more, same))
    | inr both ↦ omega (arith, from, both)
  ]
]

few_first : (size : ℕ) → IsBlockSize size → first_count size ≤ 256
few_first size is = omega arith

not_deep : (depth : ℕ) → 2 ^ depth ≤ 256 → depth ≤ 32
not_deep depth few = elim (cases_lt 32 depth) [
  | inl deep ↦ absurd (let large : 2 ^ 32 < 2 ^ depth = pow_below 32 depth deep in omega (arith, large, few))
  | inr low ↦ low
]

module _ (h g : Holding) (b : ℕ) (name : List ℕ) (n : ℕ) (sound : IsSound h) (directory : is_directory_in h ≡ true) (linear : is_hashed_in h ≡ false) (converted : IsConverted h g b) (small : crc32_of name < 2 ^ 32)
    (takes : TakesBlocksFirst h name n) where
  low : index_for g name < table_count g
  low = bits_low (depth_in g) (crc32_of name) (not_deep (depth_in g) (omega (arith, converted.count, few_first h.size sound.block_size))) small

  leads : entry g (index_for g name) ≡ b
  leads = converted.entries (index_for g name) low

  leaf_last : (leaf_in g (entry g (index_for g name))).next ≡ 0
  leaf_last = ap (λ x. (leaf_in g x).next) leads ∙ ap (λ (l : Leaf). l.next) converted.leaf.head_is

  leaves : AreLeavesFrom g (entry g (index_for g name)) takes.chain.leaves
  leaves = subst (AreLeavesFrom g (entry g (index_for g name))) (ap (λ (s : List Slot). s ∷ []) (ap (λ x. slots_of (leaf_area g x)) leads ∙ converted.leaf.slots_are) ∙ sym takes.is.leaves) (the_last (entry g (index_for g name)) leaf_last)

  pub is_chain : IsChainOf g name takes.chain
  is_chain = record {
    size = takes.is.size ∙ sym converted.same.size;
    height = takes.is.height ∙ sym (ap (λ (d : Dinode). d.height) converted.dinode ∙ (sound.inode.linear directory linear).stuffed);
    table = same_power takes.chain.table (depth_in g) (takes.is.table ∙ sym converted.count);
    depth = takes.is.depth ∙ sym (ap (λ x. (leaf_in g x).depth) leads ∙ ap (λ (l : Leaf). l.depth) converted.leaf.head_is);
    leaves = leaves;
  }

pub first_needs_stay : FirstNeedsStay
first_needs_stay h g b name n sound directory linear converted small takes = (takes.more, record { chain = takes.chain; is = is_chain h g b name n sound directory linear converted small takes; needs = takes.needs }, takes.all)
