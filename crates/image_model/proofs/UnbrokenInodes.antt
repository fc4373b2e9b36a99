-- An image that stands breaks none of the rules on single inodes, tables and chains.
use Rattle.std.proofs.Common.{◌≡◌, ◌≢◌, ℕ, suc, ◌+◌, ◌-◌, ◌*◌, ◌/◌, ◌^◌, ◌<◌, ◌≤◌, inl, inr, true, false, length, drop, Some, sym, ap, ap₂, ◌∙◌, subst, arith}
use Rattle.std.proofs.lemmas.Bool.{both_ways}
use Rattle.std.specs.Prelude.{Contains}
use Rattle.crc_words.specs.Remainder.{crc32_of}
use Rattle.gfs2_layout.specs.Bytes.{u32_at}
use Rattle.gfs2_layout.specs.Structures.{dinode_length, is_regular}
use Rattle.gfs2_layout.specs.declared.dinode.Dinode.{Dinode}
use Rattle.gfs2_layout.specs.declared.leaf.Leaf.{Leaf}
use Rattle.image_model.specs.Image.{Image, superblock_in}
use Rattle.image_model.specs.Owners.{Owners, Chained, is_dinode, IsUsed, holding}
use Rattle.gfs2_layout.specs.Holding.{InChain, bytes_at, part_at}
use Rattle.gfs2_layout.specs.Records.{Record, records_in}
use Rattle.gfs2_layout.specs.Inode.{dinode_in, height_in, is_directory_in, is_hashed_in, fan, span, content_count, table_count, depth_in, entry, index_bits, first_hash, leaf_in, leaf_area, top_bits, IsLeaf, IsLinear, IsHashed, Leads}
use Rattle.image_model.specs.Stands.{Layout, IsLaid}
use Rattle.image_model.specs.Claims.{every, Claims, HasInode, HasDirectory, HasLeaf}
use Rattle.image_model.specs.Rules.{IsHashedAt}
use Rattle.image_model.proofs.Held.{block_same, chained_owner, chained_part}
use Rattle.image_model.proofs.Same.{count_same, entry_same, leaf_same}
use Rattle.image_model.proofs.Rows.{sound, dinode_is, directory_is, hashed_is, count_is, leads_child, entry_part, first_leaf_is, claim_row, leaf_row, leaf_hashed}
use Rattle.image_model.proofs.Reach.{used_some}
use Rattle.image_model.proofs.Facts.{has_dinode, has_directory, has_leaf_row}

module _ (im : Image) (owners : Owners) (l : Layout) (laid : IsLaid im owners l) where
  module _ (a : ℕ) (has : HasInode im a) where
    row : is_dinode (owners a) ≡ true
    row = has_dinode im owners l laid a has

    same : dinode_in (holding im owners a) ≡ dinode_in (every im a)
    same = dinode_is im owners l laid a row

    counts : content_count (holding im owners a) ≡ content_count (every im a)
    counts = count_same im owners a row (sound im owners l laid a row)

    height : height_in (holding im owners a) ≡ height_in (every im a)
    height = ap (λ (d : Dinode). d.height) same

    pub address_is : (dinode_in (every im a)).num.address ≡ a
    address_is = ap (λ (d : Dinode). d.num.address) (sym same) ∙ (sound im owners l laid a row).address

    pub number_is : (dinode_in (every im a)).num.number ≢ 0
    number_is e = (sound im owners l laid a row).number (ap (λ (d : Dinode). d.num.number) same ∙ e)

    pub mode_is : is_directory_in (every im a) ≡ false → is_regular (dinode_in (every im a)) ≡ false → ⊥
    mode_is no_dir no_file = elim (sound im owners l laid a row).mode [
      | inl dir ↦ both_ways _ (directory_is im owners l laid a row ∙ no_dir) dir
      | inr file ↦ both_ways _ (ap is_regular same ∙ no_file) file
    ]

    pub height_low : height_in (every im a) ≤ 10
    height_low = omega (arith, height, (sound im owners l laid a row).fits.low)

    pub stuffed_fits : height_in (every im a) ≡ 0 → dinode_length + (dinode_in (every im a)).size ≤ im.size
    stuffed_fits e = subst (λ (d : Dinode). dinode_length + d.size ≤ im.size) same ((sound im owners l laid a row).fits.stuffed (height ∙ e))

    pub under_fits : (level : ℕ) → height_in (every im a) ≡ suc level → content_count (every im a) ≤ fan im.size dinode_length * span im.size level
    under_fits level e = subst (λ n. n ≤ fan im.size dinode_length * span im.size level) counts ((sound im owners l laid a row).fits.under level (height ∙ e))

    pub within_end : (b k level first c : ℕ) → Leads (every im a) b k level first c → first < content_count (every im a)
    within_end b k level first c leads = subst (λ n. first < n) counts (leads_child im owners l laid a row b k level first c leads).within

    pub file_linked : is_directory_in (every im a) ≡ false → (dinode_in (every im a)).nlink ≡ 1
    file_linked e = ap (λ (d : Dinode). d.nlink) (sym same) ∙ (sound im owners l laid a row).links (directory_is im owners l laid a row ∙ e)

  pub root_directory : is_directory_in (every im (superblock_in im).root.address) ≡ true
  root_directory = subst (λ a. is_directory_in (every im a) ≡ true) (sym laid.super.root) (sym (directory_is im owners l laid l.root (ap is_dinode laid.root.0)) ∙ laid.root.1)

  module _ (a : ℕ) (has : HasDirectory im a) (plain : is_hashed_in (every im a) ≡ false) where
    linear : IsLinear (holding im owners a)
    linear = (sound im owners l laid a (row a has.inode)).linear (has_directory im owners l laid a has) (hashed_is im owners l laid a (row a has.inode) ∙ plain)

    pub linear_stuffed : height_in (every im a) ≡ 0
    linear_stuffed = sym (height a has.inode) ∙ linear.stuffed

    pub linear_sized : dinode_length + (dinode_in (every im a)).size ≡ im.size
    linear_sized = ap (λ (d : Dinode). dinode_length + d.size) (sym (same a has.inode)) ∙ linear.size

  -- ---- tables

  module _ (a : ℕ) (at : IsHashedAt im a) where
    hashed_row : is_hashed_in (holding im owners a) ≡ true
    hashed_row = hashed_is im owners l laid a (row a at.0) ∙ at.1

    table : IsHashed (holding im owners a)
    table = (sound im owners l laid a (row a at.0)).hashed hashed_row

    counted : table_count (holding im owners a) ≡ table_count (every im a)
    counted = count_is im owners l laid a (row a at.0)

    pub table_least : im.size / 16 ≤ table_count (every im a)
    table_least = subst (λ n. im.size / 16 ≤ n) counted table.least

    pub table_greatest : table_count (every im a) ≤ 8 * im.size
    table_greatest = subst (λ n. n ≤ 8 * im.size) counted table.greatest

    pub table_sized : (dinode_in (every im a)).size ≡ 8 * table_count (every im a)
    table_sized = ap (λ (d : Dinode). d.size) (sym (same a at.0)) ∙ table.size ∙ ap (λ n. 8 * n) counted

    entry_is : (i : ℕ) → entry (holding im owners a) i ≡ entry (every im a) i
    entry_is = entry_same im owners a (row a at.0) (sound im owners l laid a (row a at.0))

    module _ (i : ℕ) (low : i < table_count (every im a)) where
      part : part_at (holding im owners a) (entry (holding im owners a) i) ≡ Some (InChain (first_hash (holding im owners a) i) 0)
      part = entry_part im owners l laid a (row a at.0) hashed_row i low

      pub entry_some : entry (every im a) i ≢ 0
      entry_some e = used_some im owners l laid (entry (holding im owners a) i)
          (subst IsUsed (sym (chained_owner im owners a (entry (holding im owners a) i) (first_hash (holding im owners a) i) 0 part)) tt) (entry_is i ∙ e)

      depth_is : (leaf_in (holding im owners a) (entry (holding im owners a) i)).depth ≡ (leaf_in (every im a) (entry (every im a) i)).depth
      depth_is = ap (λ (x : Leaf). x.depth) (first_leaf_is im owners l laid a (row a at.0) hashed_row i low)

      bits_is : (j : ℕ) → index_bits (holding im owners a) (leaf_in (holding im owners a) (entry (holding im owners a) i)).depth j
          ≡ index_bits (every im a) (leaf_in (every im a) (entry (every im a) i)).depth j
      bits_is j = ap₂ (λ d n. j / 2 ^ (d - n)) (ap (λ (d : Dinode). d.depth) (same a at.0)) depth_is

      -- all pointers for a leaf's hashes lead to it
      pub pointer_there : (j : ℕ) → j < table_count (every im a)
          → index_bits (every im a) (leaf_in (every im a) (entry (every im a) i)).depth j ≡ index_bits (every im a) (leaf_in (every im a) (entry (every im a) i)).depth i
          → entry (every im a) j ≡ entry (every im a) i
      pointer_there j low' e =
          sym (entry_is j) ∙ table.runs i j (subst (λ n. i < n) (sym counted) low) (subst (λ n. j < n) (sym counted) low') (bits_is j ∙ e ∙ sym (bits_is i)) ∙ entry_is i

  -- ---- leaves and chains

  module _ (a x : ℕ) (has : HasLeaf im a x) where
    chained : owners x ≡ Chained a has.1 has.2
    chained = has_leaf_row im owners l laid a x has

    directory_row : is_dinode (owners a) ≡ true
    directory_row = leaf_row im owners l laid x a has.1 has.2 chained

    chain_part : part_at (holding im owners a) x ≡ Some (InChain has.1 has.2)
    chain_part = chained_part im owners a x has.1 has.2 chained

    directory_hashed : IsHashed (holding im owners a)
    directory_hashed = (sound im owners l laid a directory_row).hashed (leaf_hashed im owners l laid x a has.1 has.2 chained)

    leaf_sound : IsLeaf (holding im owners a) has.1 x
    leaf_sound = directory_hashed.leaves x has.1 has.2 chain_part

    block_is : bytes_at (holding im owners a) x ≡ im.at x
    block_is = block_same im owners a x (InChain has.1 has.2) chain_part

    leaf_is : leaf_in (holding im owners a) x ≡ leaf_in (every im a) x
    leaf_is = leaf_same im owners a directory_row (sound im owners l laid a directory_row) x has.1 has.2 chain_part

    pub format_is : u32_at 28 (im.at x) ≡ 1200
    format_is = ap (u32_at 28) (sym block_is) ∙ leaf_sound.records_format

    pub leaf_shallow : (leaf_in (every im a) x).depth ≤ depth_in (every im a)
    leaf_shallow = omega (arith, leaf_sound.depth, ap (λ (y : Leaf). y.depth) leaf_is, ap (λ (d : Dinode). d.depth) (dinode_is im owners l laid a directory_row))

    pub leaf_counted : (leaf_in (every im a) x).entries ≡ length (records_in (leaf_area (every im a) x))
    leaf_counted = ap (λ (y : Leaf). y.entries) (sym leaf_is) ∙ leaf_sound.entries ∙ ap (λ bytes. length (records_in (drop 104 bytes))) block_is

    pub leaf_hashes : (r : Record) → Contains (records_in (leaf_area (every im a) x)) r
        → top_bits (leaf_in (every im a) x).depth (crc32_of r.name) ≡ top_bits (leaf_in (every im a) x).depth has.1
    leaf_hashes r there = subst (λ (y : Leaf). top_bits y.depth (crc32_of r.name) ≡ top_bits y.depth has.1) leaf_is
        (leaf_sound.hashes r (subst (λ bytes. Contains (records_in (drop 104 bytes)) r) (sym block_is) there))

    pub chain_deep : (leaf_in (every im a) x).next ≢ 0 → (leaf_in (every im a) (leaf_in (every im a) x).next).depth ≡ (leaf_in (every im a) x).depth
    chain_deep more =
        let next = directory_hashed.next x has.1 has.2 chain_part (λ e. more (ap (λ (y : Leaf). y.next) (sym leaf_is) ∙ e)) in
        ap (λ (y : Leaf). y.depth)
        (ap (λ (y : Leaf). leaf_in (every im a) y.next) (sym leaf_is)
        ∙ sym (leaf_same im owners a directory_row (sound im owners l laid a directory_row) (leaf_in (holding im owners a) x).next has.1 (has.2 + 1) next.part))
        ∙ next.depth ∙ ap (λ (y : Leaf). y.depth) leaf_is

  pub chain_once : (a hash x by by' place later : ℕ) → Claims im by x (Chained a hash place) → Claims im by' x (Chained a hash later) → place ≡ later
  chain_once a hash x by by' place later claim other = inside (sym (claim_row im owners l laid by x (Chained a hash place) claim) ∙ claim_row im owners l laid by' x (Chained a hash later) other)
    where
      inside : Chained a hash place ≡ Chained a hash later → place ≡ later
      inside e = cc
