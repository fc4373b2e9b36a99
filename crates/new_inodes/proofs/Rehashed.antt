-- An inode whose dinode has other times: its records are what they were, and it is sound as before.
use Rattle.std.proofs.Common.{◌≡◌, ◌≢◌, ◌⊎◌, ℕ, suc, ◌+◌, ◌-◌, ◌*◌, ◌/◌, ◌^◌, ◌<◌, ◌≤◌, inl, inr, Bool, true, List, [], ◌∷◌, ◌++◌, length, drop, Option, None, Some, refl, sym, ap, ap₂, ◌∙◌, subst, arith}
use Rattle.std.specs.Prelude.{◌&&◌, flat_map, filter, Contains}
use Rattle.std.specs.List.{range_with_len}
use Rattle.std.proofs.lemmas.Bool.{cases_eq, cases_Bool, cond-true, cond-false}
use Rattle.crc_words.specs.Remainder.{crc32_of}
use Rattle.gfs2_layout.specs.Bytes.{u32_at, u64_at}
use Rattle.gfs2_layout.specs.Headers.{HasHeader}
use Rattle.gfs2_layout.specs.Holding.{Holding, Part, Itself, Pointed, InChain, part_at, bytes_at}
use Rattle.gfs2_layout.specs.Inode.{IsInode, IsHashed, IsLeaf, IsNextLeaf, depth_in, has_hash_flag, is_hashed_in, fan, span, leaf_length, leaf_area, leaf_in, is_leaf_part, records_of, table_count, entry, top_bits, index_bits, first_hash}
use Rattle.gfs2_layout.specs.Records.{Record, IsRecordArea, records_in}
use Rattle.gfs2_layout.specs.Structures.{dinode_length, is_directory, is_regular, leaf_of}
use Rattle.gfs2_layout.specs.declared.dinode.Dinode.{Dinode}
use Rattle.gfs2_layout.specs.declared.leaf.Leaf.{Leaf}
use Rattle.glock_names.specs.Views.{Seen}
use Rattle.linear_dirs.proofs.Rewritten.{IsRewritten, part_same, bytes_new, bytes_same, count_same}
use Rattle.new_inodes.proofs.Retimed.{IsRetimed, h', dinode_after, behind_after, height_after, directory_after, count_after, chain_bytes, tree_after, content_after}

-- what those of a list that pass a test give is the same, and so is all
passed_same : (p : ℕ → Bool) (f g : ℕ → List Record) (xs : List ℕ) → ((x : ℕ) → p x ≡ true → f x ≡ g x) → flat_map f (filter p xs) ≡ flat_map g (filter p xs)
passed_same p f g [] same = refl
passed_same p f g (x ∷ xs) same = elim (cases_Bool (p x)) [
  | inl passes ↦ rw passes (ap₂ (λ a b. a ++ b) (same x passes) (passed_same p f g xs same))
  | inr fails ↦ rw fails (passed_same p f g xs same)
]

chain_of : (o : Option Part) → is_leaf_part o ≡ true → (hash place : ℕ) × (o ≡ Some (InChain hash place))
chain_of (Some (InChain hash place)) is = (hash, place, refl)
chain_of (Some Itself) is = cc
chain_of (Some (Pointed b k level first)) is = cc
chain_of None is = cc

module _ (v : Seen) (h : Holding) (new : List ℕ) (is : IsRewritten v h new) (time : ℕ) (re : IsRetimed h new time) (own : part_at h h.own ≡ Some Itself) where
  abbrev h'' : Holding
  h'' = h' v h new is time re

  depth_after : depth_in h'' ≡ depth_in h
  depth_after = ap (λ (d : Dinode). d.depth) (dinode_after v h new is time re)

  hashed_after : is_hashed_in h'' ≡ is_hashed_in h
  hashed_after = ap (λ (d : Dinode). is_directory d && has_hash_flag d) (dinode_after v h new is time re)

  tables_after : table_count h'' ≡ table_count h
  tables_after = ap (λ n. 2 ^ n) depth_after

  part_before : (x : ℕ) (p : Part) → part_at h'' x ≡ Some p → part_at h x ≡ Some p
  part_before x p at = sym (part_same v h new is x) ∙ at

  leaf_bytes : (x hash place : ℕ) → part_at h x ≡ Some (InChain hash place) → bytes_at h'' x ≡ bytes_at h x
  leaf_bytes = chain_bytes v h new is time re own

  leaf_after : (x hash place : ℕ) → part_at h x ≡ Some (InChain hash place) → leaf_in h'' x ≡ leaf_in h x
  leaf_after x hash place at = ap leaf_of (leaf_bytes x hash place at)

  -- ---- records

  pub records_after : records_of h'' ≡ records_of h
  unfolding records_of
  records_after = elim (cases_Bool (is_hashed_in h)) [
    | inr linear ↦ cond-false _ _ _ (hashed_after ∙ linear) ∙ ap records_in (behind_after v h new is time re) ∙ sym (cond-false _ _ _ linear)
    | inl hashed ↦
        cond-true _ _ _ (hashed_after ∙ hashed)
        ∙ ap (λ (parts : ℕ → Option Part). flat_map (λ x. records_in (leaf_area h'' x)) (filter (λ x. is_leaf_part (parts x)) (range_with_len 0 h.count))) (λ i x. part_same v h new is x i)
        ∙ passed_same (λ x. is_leaf_part (part_at h x)) (λ x. records_in (leaf_area h'' x)) (λ x. records_in (leaf_area h x)) (range_with_len 0 h.count)
        (λ x leaf. let chain = chain_of (part_at h x) leaf in ap (λ b. records_in (drop leaf_length b)) (leaf_bytes x chain.0 chain.1 chain.2))
        ∙ sym (cond-true _ _ _ hashed)
  ]

  -- ---- a hashed directory

  module _ (sound : IsInode h) (large : 512 ≤ h.size) (has : IsHashed h) where
    entry_after : (i : ℕ) → entry h'' i ≡ entry h i
    entry_after i = ap (u64_at (8 * i)) (content_after v h new is time re own sound.tree sound.fits large)

    entry_leaf : (i : ℕ) → i < table_count h → leaf_in h'' (entry h'' i) ≡ leaf_in h (entry h i)
    entry_leaf i low = ap (leaf_in h'') (entry_after i) ∙ leaf_after (entry h i) (first_hash h i) 0 (has.leads i low)

    first_hash_after : (i : ℕ) → i < table_count h → first_hash h'' i ≡ first_hash h i
    first_hash_after i low = λ t. i / 2 ^ (depth_after t - (entry_leaf i low t).depth) * 2 ^ (32 - (entry_leaf i low t).depth)

    bits_after : (i j : ℕ) → i < table_count h → index_bits h'' (leaf_in h'' (entry h'' i)).depth j ≡ index_bits h (leaf_in h (entry h i)).depth j
    bits_after i j low = λ t. j / 2 ^ (depth_after t - (entry_leaf i low t).depth)

    before : (i : ℕ) → i < table_count h'' → i < table_count h
    before i low = omega (arith, low, tables_after)

    next_after : (x hash place : ℕ) → part_at h x ≡ Some (InChain hash place) → (leaf_in h'' x).next ≢ 0 → IsNextLeaf h'' hash place x (leaf_in h'' x).next
    next_after x hash place at some =
        let same = leaf_after x hash place at in
        let to : (leaf_in h'' x).next ≡ (leaf_in h x).next = ap (λ (l : Leaf). l.next) same in
        let next = has.next x hash place at (λ e. some (to ∙ e)) in
        subst (IsNextLeaf h'' hash place x) (sym to) (record {
          part = part_same v h new is (leaf_in h x).next ∙ next.part;
          depth = ap (λ (l : Leaf). l.depth) (leaf_after (leaf_in h x).next hash (place + 1) next.part) ∙ next.depth ∙ sym (ap (λ (l : Leaf). l.depth) same);
        })

    is_leaf_after : (x hash place : ℕ) → part_at h x ≡ Some (InChain hash place) → IsLeaf h'' hash x
    is_leaf_after x hash place at =
        let same = leaf_bytes x hash place at in
        let leaf = has.leaves x hash place at in
        record {
          header = subst (HasHeader 6 600) (sym same) leaf.header;
          records_format = ap (u32_at 28) same ∙ leaf.records_format;
          depth = omega (arith, leaf.depth, ap (λ b. (leaf_of b).depth) same, depth_after);
          area = subst (λ b. IsRecordArea (drop leaf_length b)) (sym same) leaf.area;
          entries = ap (λ b. (leaf_of b).entries) same ∙ leaf.entries ∙ sym (ap (λ b. length (records_in (drop leaf_length b))) same);
          hashes = subst (λ b. (r : Record) → Contains (records_in (drop leaf_length b)) r → top_bits (leaf_of b).depth (crc32_of r.name) ≡ top_bits (leaf_of b).depth hash) (sym same) leaf.hashes;
        }

    has_after : IsHashed h''
    has_after = record {
      least = subst (λ n. h.size / 16 ≤ n) (sym tables_after) has.least;
      greatest = subst (λ n. n ≤ 8 * h.size) (sym tables_after) has.greatest;
      size = ap (λ (d : Dinode). d.size) (dinode_after v h new is time re) ∙ has.size ∙ ap (λ n. 8 * n) (sym tables_after);
      leads = λ i low. ap (part_at h'') (entry_after i) ∙ part_same v h new is (entry h i) ∙ has.leads i (before i low) ∙ ap (λ n. Some (InChain n 0)) (sym (first_hash_after i (before i low)));
      runs = λ i j low low' e.
          entry_after j ∙ has.runs i j (before i low) (before j low') (sym (bits_after i j (before i low)) ∙ e ∙ bits_after i i (before i low)) ∙ sym (entry_after i);
      next = λ x hash place at some. next_after x hash place (part_before x (InChain hash place) at) some;
      headed = λ x hash at.
          let head = has.headed x hash (part_before x (InChain hash 0) at) in
          (head.0, omega (arith, head.1, tables_after), entry_after head.0 ∙ head.2);
      chained = λ x hash place at.
          let above = has.chained x hash place (part_before x (InChain hash (suc place)) at) in
          (above.0, part_same v h new is above.0 ∙ above.1, ap (λ (l : Leaf). l.next) (leaf_after above.0 hash place above.1) ∙ above.2);
      leaves = λ x hash place at. is_leaf_after x hash place (part_before x (InChain hash place) at);
    }

  -- ---- the inode

  whole_after : IsInode h → (b : ℕ) (p : Part) → part_at h'' b ≡ Some p → length (bytes_at h'' b) ≡ h.size
  whole_after sound b p at = elim (cases_eq b h.own) [
    | inl same ↦ ap (λ x. length (bytes_at h'' x)) same ∙ ap length (bytes_new v h new is) ∙ re.long
    | inr other ↦ ap length (bytes_same v h new is b other) ∙ sound.whole b p (part_before b p at)
  ]

  pub sound_after : 512 ≤ h.size → IsInode h → IsInode h''
  sound_after large sound =
      let dinode = dinode_after v h new is time re in
      let directory = directory_after v h new is time re in
      let height = height_after v h new is time re in
      record {
        whole = whole_after sound;
        header = subst (HasHeader 4 400) (sym (bytes_new v h new is)) re.header;
        address = ap (λ (d : Dinode). d.num.address) dinode ∙ sound.address;
        number = λ none. sound.number (ap (λ (d : Dinode). d.num.number) (sym dinode) ∙ none);
        mode = subst (λ (d : Dinode). (is_directory d ≡ true) ⊎ (is_regular d ≡ true)) (sym dinode) sound.mode;
        links = λ file. ap (λ (d : Dinode). d.nlink) dinode ∙ sound.links (sym directory ∙ file);
        fits = record {
          low = subst (λ n. n ≤ 10) (sym height) sound.fits.low;
          stuffed = λ none. omega (arith, sound.fits.stuffed (sym height ∙ none), ap (λ (d : Dinode). d.size) dinode);
          under = λ level high. subst (λ n. n ≤ fan h.size dinode_length * span h.size level) (sym (count_after v h new is time re)) (sound.fits.under level (sym height ∙ high));
        };
        tree = tree_after v h new is time re own sound.tree;
        linear = λ dir unhashed.
            let linear = sound.linear (sym directory ∙ dir) (sym hashed_after ∙ unhashed) in
            record {
              stuffed = height ∙ linear.stuffed;
              size = omega (arith, linear.size, ap (λ (d : Dinode). d.size) dinode);
              area = subst IsRecordArea (sym (behind_after v h new is time re)) linear.area;
            };
        hashed = λ hashed. has_after sound large (sound.hashed (sym hashed_after ∙ hashed));
        leafless = λ unhashed x hash place at. sound.leafless (sym hashed_after ∙ unhashed) x hash place (part_before x (InChain hash place) at);
        blocks = ap (λ (d : Dinode). d.blocks) dinode ∙ sound.blocks ∙ sym (count_same v h new is);
      }
