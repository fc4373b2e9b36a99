-- A directory of the system as an inode, and the pointers of its table where it is a hashed one.
use Rattle.std.proofs.Common.{◌≡◌, ◌≢◌, inl, inr, ℕ, zero, suc, cond, ◌+◌, ◌-◌, ◌*◌, ◌/◌, ◌%◌, ◌^◌, ◌<◌, ◌≤◌, ◌==◌, true, None, Some, refl, sym, ap, subst, ◌∙◌, arith}
use Rattle.std.specs.Prelude.{nat_lt}
use Rattle.std.proofs.lemmas.Bool.{cases_Bool, cond-true, cond-false, eq-eqb, ne_eqb}
use Rattle.std.proofs.Math.Nat.{div-add-mod', div-lt_iff_lt-mul}
use Rattle.std.proofs.Math.Path.{transport}
use Rattle.std.proofs.Math.Pow.{pow_mono}
use Rattle.dinode_tree.specs.Reading.{IsRightDinode, reach, block_at}
use Rattle.gfs2_layout.specs.Bytes.{u64_at}
use Rattle.gfs2_layout.specs.Holding.{Holding}
use Rattle.gfs2_layout.specs.Inode.{dinode_in, depth_in, is_directory_in, is_hashed_in, height_in, unit, content_block, content_count, content_of, pieces, table_count, entry, entry_block, index_bits, first_hash, leaf_in}
use Rattle.gfs2_layout.specs.Structures.{is_directory, leaf_of}
use Rattle.gfs2_layout.specs.declared.dinode.Dinode.{Dinode}
use Rattle.gfs2_layout.specs.declared.leaf.Leaf.{Leaf}
use Rattle.image_model.specs.Claims.{every, Claims, HasInode, HasDirectory, IsLeafBehind, first_leaf, same_leaf}
use Rattle.image_model.specs.Image.{Image}
use Rattle.image_model.specs.Owners.{Chained, Master}
use Rattle.image_model.specs.Rules.{IsHashedAt, no_leaf, pointer_missing}
use Rattle.image_reader.specs.declared.hash_table.HashTable.{HashTable}
use Rattle.image_reader.proofs.Chains.{same_bits, run_some, run_start}
use Rattle.image_reader.proofs.Pieces.{pieces_cover}
use Rattle.image_mount.specs.Found.{IsInChain, chain_head, IsReached}
use Rattle.image_mount.specs.Leaves.{IsMasterIn, IsSystemDirectory, IsTableOf, IsLeafHead, IsLeafIn}
use Rattle.image_mount.specs.Looks.{HasHeadedContent, IsInRun, IsTableSized, LeadsToLeaf}
use Rattle.image_mount.specs.Refusals.{RefusesRightly}
use Rattle.image_mount.specs.Searching.{IsListingFile}
use Rattle.image_mount.specs.System.{IsJindexOf}
use Rattle.image_mount.specs.declared.fault.MountFault.{MountFault}
use Rattle.image_mount.specs.declared.fault.MountFault.TheVariants as fault
use Rattle.image_mount.specs.declared.inodes.Inode.{Inode}
use Rattle.image_mount.specs.declared.leaf.LeafAt.{LeafAt}
use Rattle.image_mount.proofs.Causes.{super_reached, told}
use Rattle.image_mount.proofs.Places.{found_block, hole_block}
use Rattle.image_mount.proofs.SystemFiles.{is_master}

-- the master directory is one of the system's
pub master_directory_of : (im : Image) (inode : Inode) → IsMasterIn im inode → IsSystemDirectory im inode
master_directory_of im inode is = record {
  format = is.format;
  owner = Master;
  claimed = is_master im inode.from inode.block is.from is.block;
  is_inode = refl;
  read = inr (inl is.block);
  from_reached = subst (IsReached im) (sym is.from) (super_reached im is.format);
  dinode = is.dinode;
  right = is.right;
  reached = is.reached;
  directory = is.directory;
}

-- so is that of journals
pub jindex_directory_of : (im : Image) (master : ℕ) (inode : Inode) → IsJindexOf im master inode → IsSystemDirectory im inode
jindex_directory_of im master inode is = record {
  format = is.directory.format;
  owner = is.directory.owner;
  claimed = is.directory.claimed;
  is_inode = is.directory.is_inode;
  read = inr (inr is.is);
  from_reached = is.directory.from_reached;
  dinode = is.directory.dinode;
  right = is.right;
  reached = is.directory.reached;
  directory = sym (ap is_directory is.directory.dinode) ∙ is.directory.directory;
}

module _ (im : Image) (inode : Inode) (is : IsSystemDirectory im inode) where
  pub file_inode : HasInode im inode.block
  file_inode = (is.owner, record { by = inode.from; claimed = is.claimed; dinode = is.is_inode })

  pub file_has : HasDirectory im inode.block
  file_has = record { inode = file_inode; dir = is.directory }

-- the dinode that is kept is read once more
pub kept_file : (im : Image) (inode kept : Inode) → IsSystemDirectory im inode → kept.block ≡ inode.block → kept.from ≡ inode.from → kept.dinode ≡ dinode_in (every im inode.block) → IsSystemDirectory im kept
kept_file im inode kept is block from dinode = record {
  format = is.format;
  owner = is.owner;
  claimed = subst (λ a. Claims im kept.from a is.owner) (sym block) (subst (λ b. Claims im b inode.block is.owner) (sym from) is.claimed);
  is_inode = is.is_inode;
  read = subst (IsListingFile im) (sym block) is.read;
  from_reached = subst (IsReached im) (sym from) is.from_reached;
  dinode = dinode ∙ ap (λ a. dinode_in (every im a)) (sym block);
  right = subst (λ a. IsRightDinode (every im a)) (sym block) is.right;
  reached = subst (IsReached im) (sym block) is.reached;
  directory = ap (λ a. is_directory_in (every im a)) block ∙ is.directory;
}

-- ---- the table

-- its bytes are few
pub table_short : (depth : ℕ) → depth ≤ 15 → 8 * 2 ^ depth % 4294967296 ≡ 8 * 2 ^ depth
table_short depth low =
    let p : 2 ^ depth ≤ 2 ^ 15 = pow_mono {i = depth} {j = 15} low in
    omega (arith, p)

pub table_is : (im : Image) (inode kept : Inode) (table : HashTable) → IsSystemDirectory im inode → kept.block ≡ inode.block → is_hashed_in (every im inode.block) ≡ true → IsSystemDirectory im kept → table.depth ≡ kept.dinode.depth
    → (dinode_in (every im kept.block)).size ≡ 8 * 2 ^ table.depth → table.bytes.items ≡ content_of (every im kept.block) → IsTableSized im kept.block → HasHeadedContent im kept.block → IsTableOf im inode table
table_is im inode kept table is block hashed again depth size content sized headed = record {
  file = is;
  hashed = hashed;
  depth = depth ∙ ap (λ (d : Dinode). d.depth) again.dinode ∙ ap (λ a. depth_in (every im a)) block;
  content = content ∙ ap (λ a. content_of (every im a)) block;
  size = ap (λ a. (dinode_in (every im a)).size) (sym block) ∙ size;
  sized = subst (IsTableSized im) block sized;
  headed = subst (HasHeadedContent im) block headed;
}

-- what has the same bits stands in the same run
bits_within : (i j run : ℕ) → 0 < run → j / run ≡ i / run → (i - i % run ≤ j) × (j < i - i % run + run)
bits_within i j run some same =
    let split_i : i / run * run + i % run ≡ i = div-add-mod' i run in
    let split_j : j / run * run + j % run ≡ j = div-add-mod' j run in
    let one : j / run * run ≡ i / run * run = ap (λ q. q * run) same in
    let rest : j % run < run = omega (arith, some) in
    (omega (arith, split_i, split_j, one), omega (arith, split_i, split_j, one, rest))

module _ (im : Image) (inode : Inode) (table : HashTable) (of : IsTableOf im inode table) where
  pub table_hashed : IsHashedAt im inode.block
  table_hashed = (file_inode im inode of.file, of.hashed)

  pub entry_is : (j : ℕ) → u64_at (8 * j) table.bytes.items ≡ entry (every im inode.block) j
  entry_is j = ap (u64_at (8 * j)) of.content

  pub in_table : (i : ℕ) → i < 2 ^ table.depth → i < table_count (every im inode.block)
  in_table i low = subst (λ d. i < 2 ^ d) of.depth low

  pub no_leaf_told : (i by number : ℕ) (f : MountFault) → i < 2 ^ table.depth → by ≡ entry_block (every im inode.block) i → number ≡ u64_at (8 * i) table.bytes.items → number ≡ 0 → IsReached im by → f ≡ fault.Damaged by 14
      → RefusesRightly im f
  no_leaf_told i by number f low by_is number_is none inside is =
      told im f (entry_block (every im inode.block) i) 14 (is ∙ ap (λ n. fault.Damaged n 14) by_is) of.file.format (subst (IsReached im) by_is inside)
      (no_leaf inode.block i table_hashed (in_table i low) (sym (entry_is i) ∙ sym number_is ∙ none))

  pub first_claim : (i by number : ℕ) → i < 2 ^ table.depth → by ≡ entry_block (every im inode.block) i → number ≡ u64_at (8 * i) table.bytes.items → number ≢ 0
      → Claims im by number (Chained inode.block (first_hash (every im inode.block) i) 0)
  first_claim i by number low by_is number_is some =
      let at : number ≡ entry (every im inode.block) i = number_is ∙ entry_is i in
      let plain = first_leaf inode.from inode.block of.file.owner i of.file.claimed of.file.is_inode of.hashed (in_table i low) (λ e. some (at ∙ e)) in
      subst (λ n. Claims im by n (Chained inode.block (first_hash (every im inode.block) i) 0)) (sym at)
      (subst (λ n. Claims im n (entry (every im inode.block) i) (Chained inode.block (first_hash (every im inode.block) i) 0)) (sym by_is) plain)

  module _ (i number run : ℕ) (head : Leaf) (low : i < 2 ^ table.depth) (number_is : number ≡ u64_at (8 * i) table.bytes.items) (head_is : head ≡ leaf_of (im.at number))
      (run_is : run ≡ 2 ^ (table.depth - head.depth)) where
    depth_of : (j : ℕ) → number ≡ entry (every im inode.block) j → head.depth ≡ (leaf_in (every im inode.block) (entry (every im inode.block) j)).depth
    depth_of j at = ap (λ (l : Leaf). l.depth) (head_is ∙ ap (λ n. leaf_of (im.at n)) at)

    at_pointer : number ≡ entry (every im inode.block) i
    at_pointer = number_is ∙ entry_is i

    pub hash_by_run : (j : ℕ) → number ≡ entry (every im inode.block) j → j / run * 2 ^ (32 - head.depth) ≡ first_hash (every im inode.block) j
    hash_by_run j at = λ k. j / (run_is ∙ (λ m. 2 ^ (of.depth m - depth_of j at m))) k * 2 ^ (32 - depth_of j at k)

    pub missing_told : (j : ℕ) (f : MountFault) → j < 2 ^ table.depth → i - i % run ≤ j → j < i - i % run + run → u64_at (8 * j) table.bytes.items ≢ number → number ≢ 0 → IsReached im number → f ≡ fault.Damaged number 14 → RefusesRightly im f
    missing_told j f below start end other some inside is =
        let h = every im inode.block in
        let bits = same_bits i j run (run_some run (table.depth - head.depth) run_is) start end in
        let here : run ≡ 2 ^ (depth_in h - (leaf_in h (entry h i)).depth) = run_is ∙ (λ k. 2 ^ (of.depth k - depth_of i at_pointer k)) in
        let same : index_bits h (leaf_in h (entry h i)).depth j ≡ index_bits h (leaf_in h (entry h i)).depth i = subst (λ r. j / r ≡ i / r) here bits in
        told im f (entry h i) 14 (is ∙ ap (λ n. fault.Damaged n 14) at_pointer) of.file.format (subst (IsReached im) at_pointer inside)
        (pointer_missing inode.block i j table_hashed (in_table i low) (λ e. some (at_pointer ∙ e)) (in_table j below) same (λ e. other (entry_is j ∙ e ∙ sym at_pointer)))

    -- the leaf of a pointer, where its whole run leads to it
    pub leaf_is : (at : LeafAt) (by hash : ℕ) → IsLeafHead im inode.block number → number ≢ 0 → IsReached im number → by ≡ entry_block (every im inode.block) i → hash ≡ i / run * 2 ^ (32 - head.depth) → at.block ≡ number → at.head ≡ head → at.hash ≡ hash → at.place ≡ 0 → at.pointer ≡ i
        → at.behind ≡ i - i % run + run → i < at.behind → at.behind ≤ 2 ^ table.depth
        → ((j : ℕ) → i - i % run ≤ j → j < i - i % run + run → u64_at (8 * j) table.bytes.items ≡ number) → IsLeafIn im inode.block at
    leaf_is at by hash well some_number inside by_is hash_is block head_same hash_same place pointer behind some within all =
        let h = every im inode.block in
        let mine : at.hash ≡ first_hash h i = hash_same ∙ hash_is ∙ hash_by_run i at_pointer in
        let some_run = run_some run (table.depth - head.depth) run_is in
        let run_there : run ≡ 2 ^ (depth_in h - (leaf_in h (entry h i)).depth) = run_is ∙ (λ k. 2 ^ (of.depth k - depth_of i at_pointer k)) in
        let depth_is : head.depth ≡ (leaf_in h number).depth = ap (λ (l : Leaf). l.depth) head_is in
        let shallow : head.depth ≤ table.depth = omega (arith, well.depth, depth_is, of.depth) in
        let start : at.hash / 2 ^ (32 - depth_in h) ≡ i - i % run
        = subst (λ d. at.hash / 2 ^ (32 - d) ≡ i - i % run) of.depth (run_start i head.depth table.depth run at.hash shallow table.deep run_is (hash_same ∙ hash_is)) in
        let begins : entry h (at.hash / 2 ^ (32 - depth_in h)) ≡ at.block
        = ap (entry h) start ∙ sym (entry_is (i - i % run)) ∙ all (i - i % run) (omega arith) (omega (arith, some_run)) ∙ sym block in
        record {
          reached = subst (IsReached im) (sym block) inside;
          head = head_same ∙ head_is ∙ ap (λ n. leaf_of (im.at n)) (sym block);
          well = subst (IsLeafHead im inode.block) (sym block) well;
          claimed = (by, transport (λ k. Claims im by (sym block k) (Chained inode.block (sym mine k) (sym place k))) (first_claim i by number low by_is number_is some_number));
          placed = transport (λ k. IsLeafBehind im inode.block (entry h (at.hash / 2 ^ (32 - depth_in h))) (sym place k) (begins k)) same_leaf;
          chain = transport (λ k. IsInChain h (sym pointer k) (sym place k) ((sym at_pointer ∙ sym block) k)) (chain_head (in_table i low) (λ e. some_number (at_pointer ∙ e)));
          hash = mine ∙ ap (first_hash h) (sym pointer);
          some = omega (arith, pointer, some);
          within = subst (λ d. at.behind ≤ 2 ^ d) of.depth within;
          run = λ j from to.
              let rest : i % run < run = omega (arith, some_run) in
              let start : i - i % run ≤ j = omega (arith, from, pointer) in
              let end : j < i - i % run + run = omega (arith, to, behind) in
              let there : number ≡ entry h j = sym (all j start end) ∙ entry_is j in
              let bits = same_bits i j run some_run start end in (
                sym there ∙ at_pointer ∙ ap (entry h) (sym pointer),
                sym (hash_by_run j there) ∙ ap (λ n. n * 2 ^ (32 - head.depth)) bits ∙ sym hash_is ∙ sym hash_same,
                subst (λ p. IsInRun h p j) (sym pointer) (subst (λ r. j / r ≡ i / r) run_there bits),
              );
          pointed = subst (LeadsToLeaf h) (sym pointer) (record {
            some = λ e. some_number (at_pointer ∙ e);
            run = λ j below in_run.
                let ends = bits_within i j run some_run (subst (λ r. j / r ≡ i / r) (sym run_there) in_run) in
                sym (entry_is j) ∙ all j ends.0 ends.1 ∙ at_pointer;
          });
        }

-- ---- the block that has a pointer

not_hole : (h : Holding) (i b : ℕ) → Some b ≡ block_at h i → content_block h i ≢ 0
not_hole h i b at none = elim (cases_Bool (nat_lt i (reach h.size (height_in h)))) [
  | inr past ↦ no_some b (sym (cond-false _ _ _ past) ∙ sym at)
  | inl low ↦ no_some b (sym (cond-true _ _ _ (eq-eqb (content_block h i) 0 none)) ∙ sym (cond-true _ _ _ low) ∙ sym at)
]
  where
    no_some : (x : ℕ) → None ≡ Some x → ⊥
    no_some x e = cc

module _ (im : Image) (inode : Inode) (table : HashTable) (of : IsTableOf im inode table) (i : ℕ) (low : i < 2 ^ table.depth) where
  height_is : inode.dinode.height ≡ height_in (every im inode.block)
  height_is = ap (λ (d : Dinode). d.height) of.file.dinode

  pub stuffed_block : inode.dinode.height ≡ 0 → inode.block ≡ entry_block (every im inode.block) i
  stuffed_block none = sym (cond-true _ _ _ (eq-eqb (height_in (every im inode.block)) 0 (sym height_is ∙ none)))

  module _ (size : ℕ) (same : size ≡ im.size) (large : 512 ≤ size) where
    unit_is : size - 24 ≡ unit (every im inode.block)
    unit_is = ap (λ n. n - 24) same ∙ sym (cond-true _ _ _ of.file.directory)

    index_same : 8 * i / (size - 24) ≡ 8 * i / unit (every im inode.block)
    index_same = ap (λ n. 8 * i / n) unit_is

    pub index_within : 8 * i / (size - 24) < content_count (every im inode.block)
    index_within =
        let u = unit (every im inode.block) in
        let some : 0 < u = omega (arith, unit_is, large) in
        let cover = pieces_cover (dinode_in (every im inode.block)).size u some in
        let below : 8 * i / u < pieces (dinode_in (every im inode.block)).size u = (div-lt_iff_lt-mul some).1 (omega (arith, cover, of.size, low)) in
        omega (arith, below, index_same)

    index_reached : inode.dinode.height ≢ 0 → 8 * i / (size - 24) < reach im.size (height_in (every im inode.block))
    index_reached some = each (height_in (every im inode.block)) refl
      where
        each : (n : ℕ) → height_in (every im inode.block) ≡ n → 8 * i / (size - 24) < reach im.size n
        each zero is = absurd (some (height_is ∙ is))
        each (suc level) is = omega (arith, index_within, of.file.right.fits.under level is)

    -- the block of the table with this index, or none
    pub block_there : (b : ℕ) → inode.dinode.height ≢ 0 → Some b ≡ block_at (every im inode.block) (8 * i / (size - 24)) → b ≡ entry_block (every im inode.block) i
    block_there b some at =
        let h = every im inode.block in
        let is = found_block h (8 * i / (size - 24)) b at in
        let there : b ≡ content_block h (8 * i / unit h) = is ∙ ap (content_block h) index_same in
        let pointed : b ≢ 0 = λ e. not_hole h (8 * i / (size - 24)) b at (sym is ∙ e) in
        let first = cond-false (height_in h == 0) h.own (cond (content_block h (8 * i / unit h) == 0) h.own (content_block h (8 * i / unit h))) (ne_eqb (height_in h) 0 (λ e. some (height_is ∙ e))) in
        let second = cond-false (content_block h (8 * i / unit h) == 0) h.own (content_block h (8 * i / unit h)) (ne_eqb (content_block h (8 * i / unit h)) 0 (λ e. pointed (there ∙ e))) in
        there ∙ sym (first ∙ second)

    pub hole_there : inode.dinode.height ≢ 0 → None ≡ block_at (every im inode.block) (8 * i / (size - 24)) → inode.block ≡ entry_block (every im inode.block) i
    hole_there some at =
        let h = every im inode.block in
        let none : content_block h (8 * i / unit h) ≡ 0 = ap (content_block h) (sym index_same) ∙ hole_block h (8 * i / (size - 24)) at (index_reached some) in
        let first = cond-false (height_in h == 0) h.own (cond (content_block h (8 * i / unit h) == 0) h.own (content_block h (8 * i / unit h))) (ne_eqb (height_in h) 0 (λ e. some (height_is ∙ e))) in
        let second = cond-true (content_block h (8 * i / unit h) == 0) h.own (content_block h (8 * i / unit h)) (eq-eqb (content_block h (8 * i / unit h)) 0 none) in
        sym (first ∙ second)
