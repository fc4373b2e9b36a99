-- A look over the image comes to each block that breaks a rule.
use Rattle.std.proofs.Common.{◌≢◌, ◌≡◌, ◌==◌, ℕ, suc, ◌+◌, ◌*◌, ◌/◌, ◌<◌, if◌then◌else◌, inl, inr, true, List, refl, sym, ◌∙◌, subst, arith}
use Rattle.std.proofs.lemmas.Bool.{cases_Bool, cond-true, cond-false}
use Rattle.gfs2_layout.specs.Inode.{Leads, from_dinode, from_block, content_block, entry, entry_block, first_hash, height_in, table_count, unit}
use Rattle.gfs2_layout.specs.declared.rindex.Rindex.{Rindex}
use Rattle.image_model.specs.Claims.{every, Claims, root, master, below, first_leaf, next_leaf, in_dinode, in_leaf, HasInode, HasDirectory, HasLeaf, HasArea, behind_dinode, of_leaf, LeadsTo, IsUnder, itself, by_name}
use Rattle.image_model.specs.Image.{Image, superblock_in}
use Rattle.image_model.specs.Owners.{Owner, Below, Chained, Master, Named, Root, is_dinode}
use Rattle.image_model.specs.Rules
use Rattle.image_model.specs.Rules.{Breaks, HasRecords, HasRecordIn, from_dinode_block, from_leaves, IsHashedAt, Needs, of_superblock, of_group, of_bitmap, of_dinode, of_indirect, of_table, HasSoundGroup, IsReached, the_superblock, by_claim, of_content, in_group, left_out}

module _ (im : Image) where
  inode : (a : ℕ) → HasInode im a → IsReached im a
  inode a has = by_claim has.1.by a has.0 has.1.claimed

  directory : (a : ℕ) → HasDirectory im a → IsReached im a
  directory a has = inode a has.inode

  leaf : (a x : ℕ) → HasLeaf im a x → IsReached im x
  leaf a x has = by_claim has.0 x (Chained a has.1 has.2) has.3

  area : (a x : ℕ) (records : List ℕ) → HasArea im a x records → IsReached im x
  area a _ _ (behind_dinode dir plain) = directory a dir
  area a _ _ (of_leaf x has) = leaf a x has

  record_in : (a x : ℕ) (r : _) → HasRecordIn im a x r → IsReached im x
  record_in a x r has = area a x has.0 has.1

  records_of : (a : ℕ) (rs : _) → HasRecords im a rs → IsReached im a
  records_of a _ (from_dinode_block dir plain) = directory a dir
  records_of a _ (from_leaves leaves dir hashed are) = directory a dir

  named : (a d : ℕ) (name : List ℕ) → LeadsTo im a name d → IsReached im d
  named a d name way = by_claim way.0 d (Named a name) way.1

  under_root : (a : ℕ) → IsUnder im (superblock_in im).root.address a → IsReached im a
  under_root _ itself = by_claim _ _ Root root
  under_root _ (by_name a b name way leads) = named a b name leads

  -- the block that has a pointer of a table
  entry_place : (a i : ℕ) → HasInode im a → IsReached im (entry_block (every im a) i)
  entry_place a i has = at_place (content_block (every im a) (8 * i / unit (every im a))) (of_content a (8 * i / unit (every im a)) has)
    where
      at_place : (b : ℕ) → IsReached im b → IsReached im (if height_in (every im a) == 0 then a else (if b == 0 then a else b))
      at_place b here = elim (cases_Bool (height_in (every im a) == 0)) [
        | inl low ↦ subst (IsReached im) (sym (cond-true _ _ _ low)) (inode a has)
        | inr high ↦ elim (cases_Bool (b == 0)) [
          | inl hole ↦ subst (IsReached im) (sym (cond-false _ _ _ high ∙ cond-true _ _ _ hole)) (inode a has)
          | inr there ↦ subst (IsReached im) (sym (cond-false _ _ _ high ∙ cond-false _ _ _ there)) here
        ]
      ]

  -- a block that has a pointer of an inode is its dinode, or one to which a pointer leads
  pointing : (by a : ℕ) (o : Owner) (b k level first c : ℕ) (claim : Claims im by a o) → is_dinode o ≡ true → Leads (every im a) b k level first c → IsReached im b
  pointing by a o _ _ _ _ _ claim dinode (from_dinode j above high low some) = by_claim by a o claim
  pointing by a o _ _ _ _ _ claim dinode (from_block b k level first c j leads low some) =
      by_claim b c (Below a b k (suc level) first) (below by a o b k (suc level) first c claim dinode leads)

  -- a block that claims another
  claimer : (b c : ℕ) (o : Owner) → Claims im b c o → IsReached im b
  claimer _ _ _ root = the_superblock
  claimer _ _ _ master = the_superblock
  claimer _ _ _ (below by a o b k level first c claim dinode leads) = pointing by a o b k level first c claim dinode leads
  claimer _ _ _ (first_leaf by a o i claim dinode hashed low some) = entry_place a i (o, record { by = by; claimed = claim; dinode = dinode })
  claimer _ _ _ (next_leaf by x a hash place claim more) = by_claim by x (Chained a hash place) claim
  claimer _ _ _ (in_dinode by a o r claim dinode dir plain there name) = by_claim by a o claim
  claimer _ _ _ (in_leaf by x a hash place r claim there name) = by_claim by x (Chained a hash place) claim

  header_of : (g : Rindex) → HasSoundGroup im g → IsReached im g.address
  header_of g has = in_group g g.address has (inl refl)

  needs : (b kind format : ℕ) → Needs im b kind format → IsReached im b
  needs _ _ _ of_superblock = the_superblock
  needs _ _ _ (of_group g has) = header_of g has
  needs _ _ _ (of_bitmap g k has some low) = in_group g (g.address + k) has (inr (inl (record { low = omega arith; high = omega (arith, low) })))
  needs _ _ _ (of_dinode a has) = inode a has
  needs _ _ _ (of_indirect by a x b k level first claim) = by_claim by x (Below a b k (suc level) first) claim
  needs _ _ _ (of_table by a x b k first claim dir) = by_claim by x (Below a b k 0 first) claim
  needs _ _ _ (Rules.of_leaf a x has) = leaf a x has

  first_of : (a i : ℕ) → IsHashedAt im a → i < table_count (every im a) → entry (every im a) i ≢ 0 → IsReached im (entry (every im a) i)
  first_of a i at low some =
      by_claim (entry_block (every im a) i) (entry (every im a) i) (Chained a (first_hash (every im a) i) 0) (first_leaf at.0.1.by a at.0.0 i at.0.1.claimed at.0.1.dinode at.1 low some)

  pub broken_reached : (rule b : ℕ) → Breaks im rule b → IsReached im b
  broken_reached _ _ (Rules.no_superblock low) = the_superblock
  broken_reached _ _ (Rules.no_header b kind format is lacks) = needs b kind format is
  broken_reached _ _ (Rules.beyond_device b c o claim high) = claimer b c o claim
  broken_reached _ _ (Rules.beyond_groups b c o claim out) = claimer b c o claim
  broken_reached _ _ (Rules.two_owners b by by' o p claim other d apart) = by_claim by b o claim
  broken_reached _ _ (Rules.other_data0 g has d) = header_of g has
  broken_reached _ _ (Rules.other_data_blocks g has d) = header_of g has
  broken_reached _ _ (Rules.other_bitbytes g has d) = header_of g has
  broken_reached _ _ (Rules.wrong_bits g b has of wrong) = in_group g b has (inr (inr of))
  broken_reached _ _ (Rules.free_count g has d) = header_of g has
  broken_reached _ _ (Rules.dinode_count g has d) = header_of g has
  broken_reached _ _ (Rules.other_address a has d) = inode a has
  broken_reached _ _ (Rules.no_number a has e) = inode a has
  broken_reached _ _ (Rules.no_mode a has no_dir no_file) = inode a has
  broken_reached _ _ (Rules.root_is_file e) = by_claim _ _ Root root
  broken_reached _ _ (Rules.too_high a has high) = inode a has
  broken_reached _ _ (Rules.too_large_for_dinode a has e large) = inode a has
  broken_reached _ _ (Rules.too_large_for_height a level has e large) = inode a has
  broken_reached _ _ (Rules.too_long a under file long) = under_root a under
  broken_reached _ _ (Rules.linear_height a has plain d) = directory a has
  broken_reached _ _ (Rules.linear_size a has plain d) = directory a has
  broken_reached _ _ (Rules.past_end a b k level first c has leads high) = inode a has
  broken_reached _ _ (Rules.journal_hole j d p has low e) = named has.0 d _ has.2
  broken_reached _ _ (Rules.journal_part j d has e) = named has.0 d _ has.2
  broken_reached _ _ (Rules.unfilled a x records has not) = area a x records has
  broken_reached _ _ (Rules.no_name a x r has plain not) = record_in a x r has
  broken_reached _ _ (Rules.other_hash a x records s has there used d) = area a x records has
  broken_reached _ _ (Rules.twice_in_area a x i j records r s has at at' d e) = area a x records has
  broken_reached _ _ (Rules.twice a x y r s has has' d e) = record_in a x r has
  broken_reached _ _ (Rules.no_dot a has none) = directory a has
  broken_reached _ _ (Rules.no_dots a has none) = directory a has
  broken_reached _ _ (Rules.other_dot a x r has e d) = inode_of a x r has
    where
      inode_of : (a x : ℕ) (r : _) → HasRecordIn im a x r → IsReached im a
      inode_of a x r has = of_area a x has.0 has.1
        where
          of_area : (a x : ℕ) (records : List ℕ) → HasArea im a x records → IsReached im a
          of_area a _ _ (behind_dinode dir plain) = directory a dir
          of_area a _ _ (of_leaf x has) = leaf_directory has.0 x a has.1 has.2 has.3
            where
              leaf_directory : (by x a hash place : ℕ) → Claims im by x (Chained a hash place) → IsReached im a
              leaf_directory _ _ _ _ _ (first_leaf by a o i claim dinode hashed low some) = by_claim by a o claim
              leaf_directory _ _ _ _ _ (next_leaf by x a hash place claim more) = leaf_directory by x a hash place claim
  broken_reached _ _ (Rules.other_dots a x o r at has e d) = by_claim at.by a o at.claimed
  broken_reached _ _ (Rules.other_kind a x r has d) = record_in a x r has
  broken_reached _ _ (Rules.other_number a x r has d) = record_in a x r has
  broken_reached _ _ (Rules.file_links a has plain d) = inode a has
  broken_reached _ _ (Rules.directory_links a rs has d) = records_of a rs has
  broken_reached _ _ (Rules.entry_count a rs has d) = records_of a rs has
  broken_reached _ _ (Rules.table_too_small a at low) = inode a at.0
  broken_reached _ _ (Rules.table_too_large a at high) = inode a at.0
  broken_reached _ _ (Rules.table_size a at d) = inode a at.0
  broken_reached _ _ (Rules.records_format a x has d) = leaf a x has
  broken_reached _ _ (Rules.leaf_too_deep a x has deep) = leaf a x has
  broken_reached _ _ (Rules.chain_depth a x has more d) = by_claim x _ (Chained a has.1 (has.2 + 1)) (next_leaf has.0 x a has.1 has.2 has.3 more)
  broken_reached _ _ (Rules.no_leaf a i at low e) = entry_place a i at.0
  broken_reached _ _ (Rules.pointer_missing a i j at low some low' e d) = first_of a i at low some
  broken_reached _ _ (Rules.pointer_astray a i j at low some low' e d) = first_of a i at low some
  broken_reached _ _ (Rules.leaf_entries a x has d) = leaf a x has
  broken_reached _ _ (Rules.leaf_hash a x by hash place r claim there d) = by_claim by x (Chained a hash place) claim
  broken_reached _ _ (Rules.comes_again a x n has behind some) = leaf a x has
  broken_reached _ _ (Rules.no_jindex none) = by_claim _ _ Master master
  broken_reached _ _ (Rules.headless j d has none) = named has.0 d _ has.2
  broken_reached _ _ (Rules.bad_chunk j d p head has headed bad there) = of_content d p (_, record { by = has.2.0; claimed = has.2.1; dinode = refl })
  broken_reached _ _ (Rules.no_rindex none) = by_claim _ _ Master master
  broken_reached _ _ (Rules.part_of_entry d is e) = named _ d _ is
  broken_reached _ _ (Rules.too_many d is many) = named _ d _ is
  broken_reached _ _ (Rules.unfit d g is at not) = named _ d _ is
  broken_reached _ _ (Rules.not_rising d i j g h is at at' low high) = named _ d _ is
  broken_reached _ _ (Rules.bare b groups list bare) = left_out b groups list bare.above bare.bare
  broken_reached _ _ (Rules.blocks_count a blocks has are d) = inode a has
