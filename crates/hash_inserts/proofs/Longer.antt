-- The chain to which a leaf was added: it goes on to that leaf, and no leaf before it got room.
use Rattle.std.proofs.Common.{◌≡◌, ◌≢◌, ℕ, ◌+◌, ◌-◌, ◌^◌, ◌<◌, ◌≤◌, inl, inr, true, false, [], ◌∷◌, drop, sym, ap, ◌∙◌, subst, arith}
use Rattle.std.specs.Prelude.{◌||◌, ◌*◌, ◌/◌, nat_le}
use Rattle.std.proofs.lemmas.Bool.Decides.{nat_tests}
use Rattle.leaf_areas.specs.Moving.{unused}
use Rattle.std.proofs.lemmas.Bool.{cases_eq}
use Rattle.gfs2_layout.specs.Area.{slots_of}
use Rattle.gfs2_layout.specs.Holding.{Holding, InChain, part_at}
use Rattle.gfs2_layout.specs.Inode.{entry, first_hash, is_hashed_in, leaf_area, leaf_in, leaf_length, table_count}
use Rattle.gfs2_layout.specs.Structures.{leaf_of}
use Rattle.gfs2_layout.specs.declared.dinode.Dinode.{Dinode}
use Rattle.gfs2_layout.specs.declared.leaf.Leaf.{Leaf}
use Rattle.pointer_tables.specs.Directories.{IsInChain, chain_head, chain_next}
use Rattle.hash_steps.specs.Shown.{IsSound}
use Rattle.hash_steps.proofs.Along.{chain_one, there_before}
use Rattle.hash_steps.specs.Walking.{leaf_on}
use Rattle.hash_steps.proofs.Chained.{cell_some, in_chain}
use Rattle.hash_steps.specs.Leaves.{IsFullBefore, has_room_for}
use Rattle.hash_steps.specs.Steps.{IsLengthened}
use Rattle.hash_steps.proofs.Leaves.{itself_or_chained}
use Rattle.hash_inserts.proofs.Blockwise.{free_apart}

module _ (h g : Holding) (i b : ℕ) (sound : IsSound h) (hashed : is_hashed_in h ≡ true) (some : b ≢ 0) (is : IsLengthened h g i b) (entries : (j : ℕ) → entry g j ≡ entry h j) where
  pub tables_same : table_count g ≡ table_count h
  tables_same = ap (λ (d : Dinode). 2 ^ d.depth) is.counts.dinode

  -- a leaf of the chain is neither the dinode nor the new one
  not_own : (place x : ℕ) → IsInChain h i place x → x ≢ h.own
  not_own place x chain e = itself_or_chained (first_hash h i) place (sym sound.placed.own ∙ ap (part_at h) (sym e) ∙ in_chain h sound hashed i place x chain)

  not_new : (place x : ℕ) → IsInChain h i place x → x ≢ b
  not_new place x chain = free_apart h b x is.new (cell_some (h.cell x) (InChain (first_hash h i) place) (in_chain h sound hashed i place x chain))

  -- each has the records that it had
  area_same : (place x : ℕ) → IsInChain h i place x → leaf_area g x ≡ leaf_area h x
  area_same place x chain = elim (cases_eq x is.last) [
    | inl last ↦ ap (leaf_area g) last ∙ is.area ∙ ap (leaf_area h) (sym last)
    | inr other ↦ ap (drop leaf_length) (is.others x (not_own place x chain) (not_new place x chain) other)
  ]

  pub chain_still : (place x : ℕ) → IsInChain h i place x → IsInChain g i place x
  chain_still _ _ (chain_head low some_head) = subst (IsInChain g i 0) (entries i) (chain_head (subst (λ n. i < n) (sym tables_same) low) (λ none. some_head (sym (entries i) ∙ none)))
  chain_still _ _ (chain_next place x chain more) =
      let other : x ≢ is.last = λ last. more (ap (λ y. (leaf_in h y).next) last ∙ is.ends) in
      let next : (leaf_in g x).next ≡ (leaf_in h x).next = ap (λ bytes. (leaf_of bytes).next) (is.others x (not_own place x chain) (not_new place x chain) other) in
      subst (IsInChain g i (place + 1)) next (chain_next place x (chain_still place x chain) (λ none. more (sym next ∙ none)))

  last_next : (leaf_in g is.last).next ≡ b
  last_next = ap (λ (l : Leaf). l.next) is.linked.head_is

  pub chain_on : IsInChain g i (is.at_place + 1) b
  chain_on = subst (IsInChain g i (is.at_place + 1)) last_next (chain_next is.at_place is.last (chain_still is.at_place is.last is.chain) (λ none. some (sym last_next ∙ none)))

  -- none of the others has room where none had
  pub full_still : (len : ℕ) → ((place x : ℕ) → IsInChain h i place x → has_room_for len (slots_of (leaf_area h x)) ≡ false) → IsFullBefore g i len (is.at_place + 1)
  full_still len full earlier x before chain =
      let y = leaf_on h i earlier in
      let had : IsInChain h i earlier y = there_before h i is.at_place is.last is.chain earlier (omega (arith, before)) in
      let same : x ≡ y = chain_one g i earlier x y chain (chain_still earlier y had) in
      ap (λ z. has_room_for len (slots_of (leaf_area g z))) same ∙ ap (λ a. has_room_for len (slots_of a)) (area_same earlier y had) ∙ full earlier y had

-- an area without records has room for any name
pub unused_room : (len size : ℕ) → len ≤ 255 → 512 ≤ size → has_room_for len (unused (size - leaf_length) ∷ []) ≡ true
unused_room len size short large = ap (λ t. t || false) (by (size - leaf_length) (omega (arith, large)))
  where
    by : (n : ℕ) → 408 ≤ n → nat_le (0 + (40 + len + 7) / 8 * 8) n ≡ true
    by n some = fits ((40 + len + 7) / 8 * 8) n (omega (arith, short, some))
      where
        fits : (a n : ℕ) → a ≤ n → nat_le (0 + a) n ≡ true
        fits a n low = grind (arith, nat_tests)
