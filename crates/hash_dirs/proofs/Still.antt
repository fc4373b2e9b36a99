-- A hashed directory with other bytes in its blocks that lead where they led, and leaves that are as they have to be: it is sound as before.
use Rattle.std.proofs.Common.{◌≡◌, ◌≢◌, ℕ, suc, ◌+◌, ◌-◌, ◌*◌, ◌/◌, ◌^◌, ◌<◌, ◌≤◌, inl, Bool, true, false, length, Option, None, Some, refl, sym, ap, ◌∙◌, subst, arith}
use Rattle.std.specs.Prelude.{◌&&◌, count_by, is_some}
use Rattle.std.specs.List.{range_with_len}
use Rattle.gfs2_layout.specs.Bytes.{u64_at}
use Rattle.gfs2_layout.specs.Headers.{HasHeader}
use Rattle.gfs2_layout.specs.Holding.{Holding, Cell, Part, InChain, cell_part, part_at, bytes_at}
use Rattle.gfs2_layout.specs.Inode.{IsInode, IsHashed, IsLeaf, IsNextLeaf, block_count, depth_in, entry, fan, first_hash, has_hash_flag, head_of, index_bits, is_directory_in, is_hashed_in, leaf_in, span, table_count}
use Rattle.gfs2_layout.specs.Structures.{dinode_length, is_directory}
use Rattle.gfs2_layout.specs.declared.dinode.Dinode.{Dinode}
use Rattle.growth_drafts.specs.Files.{with_cells}
use Rattle.hash_dirs.proofs.Anew.{KeepsTree, content_after, count_after, directory_after, height_after, size_after, tree_after}

pub record KeepsLeaves (h : Holding) (cell : ℕ → Option Cell) : Type 0 where
  pub header : HasHeader 4 400 (bytes_at (with_cells h cell) h.own)
  pub whole : (b : ℕ) (p : Part) → part_at h b ≡ Some p → length (bytes_at (with_cells h cell) b) ≡ h.size
  pub depths : (x hash place : ℕ) → part_at h x ≡ Some (InChain hash place) → (leaf_in (with_cells h cell) x).depth ≡ (leaf_in h x).depth
  pub nexts : (x hash place : ℕ) → part_at h x ≡ Some (InChain hash place) → (leaf_in (with_cells h cell) x).next ≡ (leaf_in h x).next
  pub leaves : (x hash place : ℕ) → part_at h x ≡ Some (InChain hash place) → IsLeaf h hash x → IsLeaf (with_cells h cell) hash x

some_by_part : (c d : Option Cell) → cell_part c ≡ cell_part d → is_some c ≡ is_some d
some_by_part None None e = refl
some_by_part (Some c) (Some d) e = refl
some_by_part None (Some d) e = absurd (no e)
  where
    no : {p : Part} → ◌≡◌ {A = Option Part} None (Some p) → ⊥
    no e = cc
some_by_part (Some c) None e = absurd (no e)
  where
    no : {p : Part} → ◌≡◌ {A = Option Part} (Some p) None → ⊥
    no e = cc

module _ (h : Holding) (cell : ℕ → Option Cell) (keeps : KeepsTree h cell) (leaves : KeepsLeaves h cell) where
  abbrev g : Holding
  g = with_cells h cell

  pub depth_same : depth_in g ≡ depth_in h
  depth_same = ap (λ (d : Dinode). d.depth) keeps.dinode

  pub hashed_same : is_hashed_in g ≡ is_hashed_in h
  hashed_same = ap (λ (d : Dinode). is_directory d && has_hash_flag d) keeps.dinode

  pub head_same : head_of g ≡ head_of h
  head_same = ap (λ (d : Dinode). record { number = d.num.number; is_dir = is_directory d }) keeps.dinode

  tables_same : table_count g ≡ table_count h
  tables_same = ap (λ n. 2 ^ n) depth_same

  part_before : (x : ℕ) (p : Part) → part_at g x ≡ Some p → part_at h x ≡ Some p
  part_before x p at = sym (keeps.parts x) ∙ at

  pub count_same : block_count g ≡ block_count h
  unfolding block_count
  count_same = ap (λ (test : ℕ → Bool). count_by test (range_with_len 0 h.count)) (λ t x. some_by_part (cell x) (h.cell x) (keeps.parts x) t)

  module _ (sound : IsInode h) (large : 512 ≤ h.size) (has : IsHashed h) where
    pub entry_same : (i : ℕ) → entry g i ≡ entry h i
    entry_same i = ap (u64_at (8 * i)) (content_after h cell keeps sound.tree sound.fits large)

    entry_depth : (i : ℕ) → i < table_count h → (leaf_in g (entry g i)).depth ≡ (leaf_in h (entry h i)).depth
    entry_depth i low = ap (λ x. (leaf_in g x).depth) (entry_same i) ∙ leaves.depths (entry h i) (first_hash h i) 0 (has.leads i low)

    first_hash_same : (i : ℕ) → i < table_count h → first_hash g i ≡ first_hash h i
    first_hash_same i low = λ t. i / 2 ^ (depth_same t - entry_depth i low t) * 2 ^ (32 - entry_depth i low t)

    bits_same : (i j : ℕ) → i < table_count h → index_bits g (leaf_in g (entry g i)).depth j ≡ index_bits h (leaf_in h (entry h i)).depth j
    bits_same i j low = λ t. j / 2 ^ (depth_same t - entry_depth i low t)

    before : (i : ℕ) → i < table_count g → i < table_count h
    before i low = omega (arith, low, tables_same)

    next_after : (x hash place : ℕ) → part_at h x ≡ Some (InChain hash place) → (leaf_in g x).next ≢ 0 → IsNextLeaf g hash place x (leaf_in g x).next
    next_after x hash place at some =
        let to = leaves.nexts x hash place at in
        let next = has.next x hash place at (λ e. some (to ∙ e)) in
        subst (IsNextLeaf g hash place x) (sym to) (record {
          part = keeps.parts (leaf_in h x).next ∙ next.part;
          depth = leaves.depths (leaf_in h x).next hash (place + 1) next.part ∙ next.depth ∙ sym (leaves.depths x hash place at);
        })

    pub has_after : IsHashed g
    has_after = record {
      least = subst (λ n. h.size / 16 ≤ n) (sym tables_same) has.least;
      greatest = subst (λ n. n ≤ 8 * h.size) (sym tables_same) has.greatest;
      size = size_after h cell keeps ∙ has.size ∙ ap (λ n. 8 * n) (sym tables_same);
      leads = λ i low. ap (part_at g) (entry_same i) ∙ keeps.parts (entry h i) ∙ has.leads i (before i low) ∙ ap (λ n. Some (InChain n 0)) (sym (first_hash_same i (before i low)));
      runs = λ i j low low' e.
          entry_same j ∙ has.runs i j (before i low) (before j low') (sym (bits_same i j (before i low)) ∙ e ∙ bits_same i i (before i low)) ∙ sym (entry_same i);
      next = λ x hash place at some. next_after x hash place (part_before x (InChain hash place) at) some;
      headed = λ x hash at.
          let head = has.headed x hash (part_before x (InChain hash 0) at) in
          (head.0, omega (arith, head.1, tables_same), entry_same head.0 ∙ head.2);
      chained = λ x hash place at.
          let above = has.chained x hash place (part_before x (InChain hash (suc place)) at) in
          (above.0, keeps.parts above.0 ∙ above.1, leaves.nexts above.0 hash place above.1 ∙ above.2);
      leaves = λ x hash place at. leaves.leaves x hash place (part_before x (InChain hash place) at) (has.leaves x hash place (part_before x (InChain hash place) at));
    }

  pub sound_after : 512 ≤ h.size → is_hashed_in h ≡ true → is_directory_in h ≡ true → IsInode h → IsInode g
  sound_after large hashed dir sound =
      let directory = directory_after h cell keeps in
      let height = height_after h cell keeps in
      let size = size_after h cell keeps in
      record {
        whole = λ b p at. leaves.whole b p (part_before b p at);
        header = leaves.header;
        address = ap (λ (d : Dinode). d.num.address) keeps.dinode ∙ sound.address;
        number = λ none. sound.number (ap (λ (d : Dinode). d.num.number) (sym keeps.dinode) ∙ none);
        mode = inl (directory ∙ dir);
        links = λ file. absurd (no (sym dir ∙ sym directory ∙ file));
        fits = record {
          low = subst (λ n. n ≤ 10) (sym height) sound.fits.low;
          stuffed = λ none. omega (arith, sound.fits.stuffed (sym height ∙ none), size);
          under = λ level high. subst (λ n. n ≤ fan h.size dinode_length * span h.size level) (sym (count_after h cell keeps)) (sound.fits.under level (sym height ∙ high));
        };
        tree = tree_after h cell keeps sound.tree;
        linear = λ _ unhashed. absurd (no (sym hashed ∙ sym hashed_same ∙ unhashed));
        hashed = λ _. has_after sound large (sound.hashed hashed);
        leafless = λ unhashed. absurd (no (sym hashed ∙ sym hashed_same ∙ unhashed));
        blocks = ap (λ (d : Dinode). d.blocks) keeps.dinode ∙ sound.blocks ∙ sym count_same;
      }
    where
      no : true ≡ false → ⊥
      no e = cc
