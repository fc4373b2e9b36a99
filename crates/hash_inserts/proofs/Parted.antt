-- A directory after a leaf of it was split.
use Rattle.std.proofs.Common.{◌≡◌, ◌≢◌, ◌⊎◌, ℕ, ◌+◌, ◌-◌, ◌*◌, ◌/◌, ◌<◌, ◌≤◌, inl, inr, true, List, [], ◌∷◌, ◌++◌, length, take, drop, replicate, Some, refl, sym, ap, ap₂, ◌∙◌, subst, subst₂, arith}
use Rattle.std.specs.Prelude.{IsSome, filter, if◌then◌else◌, option_map}
use Rattle.std.specs.FinMap.{FinMap, get}
use Rattle.std.specs.Ordering.{nat_cmp}
use Rattle.std.proofs.lemmas.Bool.{cases_eq}
use Rattle.std.proofs.lemmas.Bool.Decides.{nat_tests}
use Rattle.std.proofs.lemmas.List.{length-replicate}
use Rattle.drafts.specs.Fates.{seen_with}
use Rattle.drafts.specs.declared.fate.Fate.{Fate}
use Rattle.gfs2_layout.specs.Area.{slots_of}
use Rattle.gfs2_layout.specs.Bytes.{slice}
use Rattle.gfs2_layout.specs.Holding.{Holding, Part, InChain, part_at, bytes_at}
use Rattle.gfs2_layout.specs.Inode.{content_count, depth_in, dinode_in, entry, entry_block, first_hash, is_directory_in, is_hashed_in, leaf_area, leaf_length, table_count, unit}
use Rattle.gfs2_layout.specs.Structures.{dinode_length, dinode_of, is_directory}
use Rattle.gfs2_layout.specs.Writing.{dinode_put}
use Rattle.leaf_areas.specs.Splitting.{is_lower, lower_half}
use Rattle.gfs2_layout.specs.declared.leaf.Leaf.{Leaf}
use Rattle.gfs2_layout.specs.declared.dinode.Dinode.{Dinode}
use Rattle.glock_names.specs.Views.{Seen}
use Rattle.dinode_tree.proofs.Ranges.{piece_within}
use Rattle.dinode_tree.specs.Pads.{KeepsPads, dinode_over}
use Rattle.linear_dirs.specs.Shown.{bytes_over, holding_over}
use Rattle.linear_dirs.proofs.Over.{parts_stay}
use Rattle.linear_dirs.proofs.Rewritten.{over_there}
use Rattle.growth_drafts.specs.Taken.{HasTaken}
use Rattle.pointer_tables.specs.Directories.{IsTreeSound, IsPlaced, chain_head}
use Rattle.table_changes.specs.Pointers.{HasPointerOf}
use Rattle.pointer_tables.specs.Tables.{is_within}
use Rattle.hash_steps.specs.Shown.{IsInChain, IsSound}
use Rattle.hash_steps.proofs.Chained.{cell_some, head_some, rules}
use Rattle.hash_steps.specs.Leaves.{HasOneLeaf, blank, first_of, leaf_depth, middle_hash, run_of}
use Rattle.hash_steps.specs.Steps.{IsSplit}
use Rattle.hash_steps.proofs.Sound.{tree_of}
use Rattle.hash_inserts.specs.Drafting.{IsFree, SetsPointers, SplitsLeaf}
use Rattle.hash_inserts.specs.Inserting.{IsSplitAt, its_dinode, of_pointers, the_leaf, the_new_one}
use Rattle.hash_inserts.specs.Writing.{IsDinodeWritten, IsHalved, IsLeafWritten, counting}
use Rattle.hash_inserts.proofs.Blocks.{puts_then}
use Rattle.hash_inserts.proofs.Blockwise.{size_bounds}
use Rattle.hash_inserts.proofs.LeafBytes.{leaf_put_of}
use Rattle.hash_inserts.proofs.Lengthened.{one_block}
use Rattle.hash_inserts.proofs.Seen.{puts_set}
use Rattle.hash_inserts.proofs.Pointing.{directory_of, slice_behind, unit_some}
use Rattle.hash_inserts.proofs.Trees.{depth_same, entry_block_same, in_tree}
use Rattle.hash_inserts.proofs.TwoLeaves.{AreLeaves, behind_grown, changed_bytes, changed_part, dinode_grown, entry_grown, grown, grown_fates, has_taken, keeps_grown, new_bytes, new_part, only_grown, other_bytes, other_parts, pads_grown, placed_grown, puts_grown, sound_grown}

-- pads are kept over a dinode whose first bytes are the same
pub pads_over : (old mid new : List ℕ) → take dinode_length mid ≡ take dinode_length old → KeepsPads mid new → KeepsPads old new
unfolding KeepsPads dinode_over
pads_over old mid new same keeps = keeps ∙ ap (λ (front : List ℕ). dinode_put (dinode_of new) (front ++ drop dinode_length new)) same

module _ (v : Seen) (fates set_fates : FinMap nat_cmp Fate) (h : Holding) (i b from count : ℕ) (low high dinode : List ℕ) (sound : IsSound h) (hashed : is_hashed_in h ≡ true) (small : i < table_count h) (one : HasOneLeaf h i)
    (deep : leaf_depth h i < depth_in h) (free : IsFree h b) (from_is : from ≡ first_of h i) (count_is : count ≡ run_of h (leaf_depth h i + 1)) (within : from + count ≤ table_count h)
    (set : SetsPointers v fates set_fates h from count b)
    (halved : IsHalved (bytes_at h (entry h i)) high low (leaf_depth h i))
    (written : IsDinodeWritten (bytes_at (holding_over (seen_with v set_fates) h) h.own) dinode (counting (dinode_in (holding_over (seen_with v set_fates) h)) 0 0 1)) where
  abbrev pub m : Holding
  m = holding_over (seen_with v set_fates) h

  abbrev x : ℕ
  x = entry h i

  part_x : part_at h (entry h i) ≡ Some (InChain (first_hash h i) 0)
  part_x = (rules h sound hashed).leads i small

  pub some_x : IsSome (h.cell (entry h i))
  some_x = cell_some (h.cell (entry h i)) (InChain (first_hash h i) 0) part_x

  pub cell_x : m.cell (entry h i) ≡ h.cell (entry h i)
  cell_x = set.set.stays.leaves (entry h i) (first_hash h i) 0 part_x

  abbrev pub part_b : Part
  part_b = InChain (first_hash h i) 0

  abbrev pub part_old : Part
  part_old = InChain (middle_hash h i) 0

  long_x : length (bytes_at h (entry h i)) ≡ h.size
  long_x = sound.inode.whole (entry h i) (InChain (first_hash h i) 0) part_x

  pub are : AreLeaves m b (entry h i) part_b part_old low high
  are = record {
    fresh = ap (option_map (bytes_over ((seen_with v set_fates).block_at b))) free.new;
    some = free.some;
    inside = free.inside;
    there = subst IsSome (sym cell_x) some_x;
    a_leaf = ap in_tree (parts_stay (seen_with v set_fates) h (entry h i) ∙ part_x);
    in_chain = refl;
    in_chain' = refl;
    long = halved.low.long ∙ (let z : ℕ = 0 in length-replicate (length (bytes_at h (entry h i))) z) ∙ long_x;
    long' = halved.high.long ∙ long_x;
  }

  pub tree_m : IsTreeSound m
  tree_m = set.set.sound (tree_of h sound.inode)

  pub placed_m : IsPlaced m
  placed_m = set.set.placed sound.placed

  abbrev pub after : Holding
  after = grown m b (entry h i) part_b part_old low high dinode tree_m placed_m are written

  large : 512 ≤ h.size
  large = (size_bounds h.size sound.block_size).0

  new_at : bytes_at after b ≡ low
  new_at = new_bytes m b (entry h i) part_b part_old low high dinode tree_m placed_m are written

  old_at : bytes_at after (entry h i) ≡ high
  old_at = changed_bytes m b (entry h i) part_b part_old low high dinode tree_m placed_m are written

  abbrev lower_head : Leaf
  lower_head = record { depth = leaf_depth h i + 1; entries = length (filter (is_lower (leaf_depth h i)) (slots_of (leaf_area h (entry h i)))); next = 0 }

  -- what stands behind the dinode stays, and so do the other blocks
  grown_bytes : (y at n : ℕ) → y ≢ b → y ≢ entry h i → (y ≡ h.own → dinode_length ≤ at) → slice at n (bytes_at after y) ≡ slice at n (bytes_at m y)
  grown_bytes y at n c d behind = elim (cases_eq y h.own) [
    | inl own ↦
        ap (λ z. slice at n (bytes_at after z)) own ∙ slice_behind (bytes_at after h.own) (bytes_at m h.own) dinode_length at n (behind own) (behind_grown m b (entry h i) part_b part_old low high dinode tree_m placed_m are written)
        ∙ ap (λ z. slice at n (bytes_at m z)) (sym own)
    | inr a ↦ ap (slice at n) (other_bytes m b (entry h i) part_b part_old low high dinode tree_m placed_m are written y a c d)
  ]

  tested : (start run j : ℕ) → start ≤ j → j < start + run → is_within start run j ≡ true
  tested start run j more less = grind (arith, nat_tests)

  pub split : IsSplit h after i b
  split = record {
    same = record {
      size = refl;
      count = refl;
      own = refl;
      tree = sound_grown m b (entry h i) part_b part_old low high dinode tree_m placed_m are written;
      placed = placed_grown m b (entry h i) part_b part_old low high dinode tree_m placed_m are written;
    };
    counts = record {
      dinode = dinode_grown m b (entry h i) part_b part_old low high dinode tree_m placed_m are written ∙ one_block (dinode_in m) ∙ ap (λ (d : Dinode). record d { blocks = d.blocks + 1 }) set.set.dinode;
      pads = pads_over (bytes_at h h.own) (bytes_at m h.own) (bytes_at after h.own) set.set.front (pads_grown m b (entry h i) part_b part_old low high dinode tree_m placed_m are written);
    };
    new = free.new;
    new_part = new_part m b (entry h i) part_b part_old low high dinode tree_m placed_m are written;
    old_part = changed_part m b (entry h i) part_b part_old low high dinode tree_m placed_m are written;
    parts = λ y c d. other_parts m b (entry h i) part_b part_old low high dinode tree_m placed_m are written y c d ∙ parts_stay (seen_with v set_fates) h y;
    new_leaf = leaf_put_of after b (blank h) low _ _ new_at (subst (λ n. IsLeafWritten (replicate n 0) low lower_head (lower_half (n - leaf_length) (leaf_depth h i) (slots_of (leaf_area h (entry h i))))) long_x halved.low);
    old_leaf = leaf_put_of after (entry h i) (bytes_at h (entry h i)) high _ _ old_at halved.high;
    entries = λ j low_j. entry_grown m b (entry h i) part_b part_old low high dinode tree_m placed_m are written large j ∙ set.set.entries j low_j
        ∙ ap₂ (λ f n. if is_within f n j then b else entry h j) from_is count_is;
    others = λ y at n c d behind none. grown_bytes y at n c d behind ∙ set.set.others y at n (λ j inside is. none j (ap₂ (λ f k. is_within f k j) (sym from_is) (sym count_is) ∙ tested from count j inside.low inside.high) is);
  }

  -- ---- in a draft

  of_pointer : (y : ℕ) → HasPointerOf h from count y → IsSplitAt h i b y
  of_pointer y pointer = of_pointers (subst₂ (λ f n. HasPointerOf h f n y) from_is count_is pointer)

  -- each pointer stands where it stood
  blocks : (j : ℕ) → j < table_count h → entry_block after j ≡ entry_block h j
  blocks j low_j =
      let size_m : (dinode_in m).size ≡ 8 * table_count h = ap (λ (d : Dinode). d.size) set.set.dinode ∙ (rules h sound hashed).size in
      let directory_m : is_directory_in m ≡ true = ap is_directory set.set.dinode ∙ directory_of h hashed in
      let some : 0 < unit m = unit_some m directory_m large in
      let near : 8 * j / unit m < content_count m = piece_within (8 * j) (dinode_in m).size (unit m) some (omega (arith, size_m, low_j)) in
      entry_block_same m after.cell (keeps_grown m b (entry h i) part_b part_old low high dinode tree_m placed_m are written) tree_m large j near ∙ set.set.blocks j low_j

  only : (y : ℕ) → (get (grown_fates m b (entry h i) part_b part_old low high dinode tree_m placed_m are written set_fates) y ≡ get fates y) ⊎ IsSplitAt h i b y
  only y = elim (only_grown m b (entry h i) part_b part_old low high dinode tree_m placed_m are written set_fates y) [
    | inl same ↦ elim (set.only y) [
      | inl before ↦ inl (same ∙ before)
      | inr pointer ↦ inr (of_pointer y pointer)
    ]
    | inr (inl own) ↦ inr (its_dinode own)
    | inr (inr (inl here)) ↦ inr (the_leaf (subst (IsInChain h i 0) (sym here) (chain_head small (head_some h sound hashed i small))))
    | inr (inr (inr taken)) ↦ inr (the_new_one taken)
  ]

  some_m : (y : ℕ) → IsSome (m.cell y) → IsSome (h.cell y)
  some_m y some = sym (over_there ((seen_with v set_fates).block_at y) (h.cell y)) ∙ some

  has : HasTaken h after (b ∷ [])
  has =
      let taken = has_taken m b (entry h i) part_b part_old low high dinode tree_m placed_m are written in
      record {
        count = refl;
        blocks = λ y. (
          λ some. elim ((taken.blocks y).0 some) [ inl was ↦ inl (some_m y was) | inr new ↦ inr new ],
          λ which. (taken.blocks y).1 (elim which [ inl was ↦ inl (over_there ((seen_with v set_fates).block_at y) (h.cell y) ∙ was) | inr new ↦ inr new ]),
        );
      }

  pub split_in : SplitsLeaf v fates (grown_fates m b (entry h i) part_b part_old low high dinode tree_m placed_m are written set_fates) h after i b
  split_in = record {
    puts = puts_then v fates set_fates (grown_fates m b (entry h i) part_b part_old low high dinode tree_m placed_m are written set_fates) h m after
        (puts_set v fates set_fates h from count b set) (puts_grown m b (entry h i) part_b part_old low high dinode tree_m placed_m are written v set_fates);
    is = split;
    blocks = blocks;
    only = only;
    has = has;
  }

  pub depth_kept : depth_in after ≡ depth_in m
  depth_kept = depth_same m after.cell (keeps_grown m b (entry h i) part_b part_old low high dinode tree_m placed_m are written)
