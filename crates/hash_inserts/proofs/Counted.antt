-- How many blocks a name takes, as it is counted: of a chain that was gone along, and of one with one leaf.
use Rattle.std.proofs.Common.{◌≡◌, ◌≢◌, ◌⊎◌, ℕ, ◌+◌, ◌-◌, ◌*◌, ◌^◌, ◌<◌, ◌≤◌, inl, inr, Bool, true, false, List, length, None, Some, refl, sym, ap, ap₂, ◌∙◌, subst, arith}
use Rattle.std.specs.Prelude.{◌==◌, if◌then◌else◌}
use Rattle.std.proofs.lemmas.Bool.{true≢false}
use Rattle.gfs2_layout.specs.Area.{slots_of}
use Rattle.gfs2_layout.specs.Holding.{Holding}
use Rattle.gfs2_layout.specs.Inode.{depth_in, dinode_in, entry, entry_block, leaf_in, leaf_length, table_count}
use Rattle.glock_names.specs.Views.{Seen, HasBlock}
use Rattle.leaf_areas.specs.Splitting.{bit_at, lower_half, upper_half}
use Rattle.resource_groups.specs.Putting.{HasDataBlock}
use Rattle.pointer_tables.specs.Directories.{chain_head}
use Rattle.table_changes.specs.Tables.{table_height}
use Rattle.hash_steps.specs.Shown.{IsInChain, index_for}
use Rattle.hash_steps.proofs.Along.{ended, head_there}
use Rattle.hash_steps.specs.Leaves.{has_room_for, leaf_depth}
use Rattle.hash_inserts.specs.Counting.{chain_with}
use Rattle.hash_inserts.specs.Drafting.{SeesTree}
use Rattle.hash_inserts.specs.Inserting.{HasNoRoom, HasOneLeafFor}
use Rattle.hash_inserts.specs.Needing.{Chain, IsChainOf, SeesToInsert, TakesBlocks, a_leaf, doubled, nothing, split_for}
use Rattle.hash_inserts.specs.Walking.{IsRoomBefore, IsWalked}
use Rattle.hash_inserts.specs.declared.counting.OneLeaf.{OneLeaf}
use Rattle.hash_inserts.specs.declared.walking.Walked.{Walked}
use Rattle.hash_inserts.proofs.Needed.{chain_leaves, none_passes, several_leaves, some_passes}
use Rattle.hash_inserts.proofs.Past.{none_walked}

-- ---- of a chain that was gone along

module _ (v : Seen) (h : Holding) (name : List ℕ) (w : Walked) (walked : IsWalked v h (index_for h name) (length name) w) (low : index_for h name < table_count h) where
  abbrev i : ℕ
  i = index_for h name

  abbrev chain : Chain
  chain = record { size = h.size; height = (dinode_in h).height; table = depth_in h; depth = leaf_depth h (index_for h name); leaves = (chain_leaves h (index_for h name) walked.at w.last walked.chain walked.ends).0 }

  is_chain : IsChainOf h name chain
  is_chain = record { size = refl; height = refl; table = refl; depth = refl; leaves = (chain_leaves h (index_for h name) walked.at w.last walked.chain walked.ends).1 }

  pub takes_none : (x : ℕ) → w.with_room ≡ Some x → TakesBlocks h name 0
  takes_none x is =
      let first = subst (IsRoomBefore h i (length name) (walked.at + 1)) is walked.room in
      record {
        chain = chain;
        is = is_chain;
        needs = nothing chain (some_passes h i (has_room_for (length name)) 0 (entry h i) chain.leaves is_chain.leaves (chain_head low (head_there h i first.at x first.chain)) first.at x first.chain (omega arith) first.room);
      }

  pub takes_one : w.with_room ≡ None → (leaf_in h (entry h (index_for h name))).next ≢ 0 → TakesBlocks h name 1
  takes_one none more = record {
    chain = chain;
    is = is_chain;
    needs = a_leaf chain (none_passes h i (has_room_for (length name)) 0 (entry h i) chain.leaves is_chain.leaves (chain_head low (head_there h i walked.at w.last walked.chain)) (none_walked v h i (length name) w walked none)) (inl (several_leaves h (entry h i) chain.leaves is_chain.leaves more));
  }

  which : (place : ℕ) → (place < walked.at + 1) ⊎ (walked.at < place)
  which place = grind arith

  sees_leaves : (place x : ℕ) → IsInChain h (index_for h name) place x → HasBlock v x
  sees_leaves place x there = elim (which place) [
    | inl before ↦ (walked.there place x before there).0
    | inr behind ↦ absurd (ended h i walked.at w.last place x walked.chain walked.ends behind there)
  ]

  -- each is a data block of a group
  pub data_walked : (place x : ℕ) → IsInChain h (index_for h name) place x → HasDataBlock v x
  data_walked place x there = elim (which place) [
    | inl before ↦ (walked.there place x before there).1
    | inr behind ↦ absurd (ended h i walked.at w.last place x walked.chain walked.ends behind there)
  ]

  -- the view has what an insertion looks at, where some leaf has room, or there are several
  pub sees_with : HasBlock v h.own → HasBlock v (entry_block h (index_for h name)) → (HasNoRoom h name → HasOneLeafFor h name → SeesTree v h) → SeesToInsert v h name
  sees_with own pointer table = record { own = own; pointer = pointer; leaves = sees_leaves; table = table }

  pub room_or_none : (x : ℕ) → w.with_room ≡ Some x → HasNoRoom h name → ⊥
  room_or_none x is none =
      let first = subst (IsRoomBefore h i (length name) (walked.at + 1)) is walked.room in
      true≢false (sym first.room ∙ none first.at x first.chain)

-- ---- of a chain with one leaf

module _ (hash : ℕ) (one : OneLeaf) (area : List ℕ) where
  pub split_is : (half : List ℕ) → length half ≡ length area → slots_of half ≡ (if bit_at one.depth hash == 0 then lower_half (length area) one.depth (slots_of area) else upper_half one.depth (slots_of area))
      → chain_with (length half + leaf_length) (record one { depth = one.depth + 1 }) (slots_of half) ≡ split_for hash (slots_of area) (chain_with (length area + leaf_length) one (slots_of area))
  split_is half long slots =
      let back : length area ≡ length area + leaf_length - leaf_length = omega arith in
      ap₂ (λ n s. chain_with (n + leaf_length) (record one { depth = one.depth + 1 }) s) long slots
      ∙ ap (λ n. chain_with (length area + leaf_length) (record one { depth = one.depth + 1 }) (if bit_at one.depth hash == 0 then lower_half n one.depth (slots_of area) else upper_half one.depth (slots_of area))) back

  pub doubled_is : (next : OneLeaf) (size : ℕ) → size ≡ length area + leaf_length → next ≡ record one { table = one.table + 1; height = table_height size one.height (2 * 2 ^ one.table) }
      → chain_with (length area + leaf_length) next (slots_of area) ≡ doubled (chain_with (length area + leaf_length) one (slots_of area))
  doubled_is next size size_is is =
      ap (λ o. chain_with (length area + leaf_length) o (slots_of area)) is
      ∙ ap (λ n. chain_with (length area + leaf_length) (record one { table = one.table + 1; height = table_height n one.height (2 * 2 ^ one.table) }) (slots_of area)) size_is

-- a test that is below a bound or not
pub not_below : (a b : ℕ) (r : Bool) → (a ≤ b → r ≡ true) → r ≡ false → a ≤ b → ⊥
not_below a b r holds fails le = true≢false (sym (holds le) ∙ fails)
