-- An image that stands breaks none of the rules on system files, and none on long files and stray pointers.
use Rattle.std.proofs.Common.{List, ◌≡◌, ◌≢◌, ℕ, ◌-◌, ◌*◌, ◌/◌, ◌%◌, ◌^◌, ◌<◌, ◌≤◌, true, length, None, Some, Result, Ok, Err, sym, ap, ◌∙◌, subst, arith}
use Rattle.std.proofs.lemmas.Nat.{pow_pos}
use Rattle.std.proofs.Math.Nat.{mul-div_cancel}
use Rattle.file_tree.specs.Apply.{file_limit}
use Rattle.gfs2_layout.specs.Structures.{is_regular}
use Rattle.gfs2_layout.specs.declared.rindex.Rindex.{Rindex}
use Rattle.gfs2_layout.specs.declared.dinode.Dinode.{Dinode}
use Rattle.image_model.specs.Image.{Image, superblock_in}
use Rattle.image_model.specs.Owners.{Owners, is_dinode, holding}
use Rattle.image_model.specs.Groups.{IsListed, IsGroupAt, groups_in, entry_length, end_of, GroupFits}
use Rattle.gfs2_layout.specs.Holding.{InChain, part_at}
use Rattle.gfs2_layout.specs.Inode.{dinode_in, is_hashed_in, content_block, content_of, table_count, entry, index_bits, first_hash, leaf_in}
use Rattle.log_layout.specs.Journal.{ring_of, head_in}
use Rattle.log_layout.specs.Transactions.{transactions_of}
use Rattle.log_layout.specs.declared.log_header.LogHeader.{LogHeader}
use Rattle.image_model.specs.Stands.{Layout, IsLaid}
use Rattle.image_model.specs.Claims.{every, IsUnder, itself, by_name, IsRindex, HasJournal}
use Rattle.image_model.specs.Rules.{IsFirstBare, IsHashedAt, IsSoundList}
use Rattle.image_model.proofs.Held.{none_some, some_same}
use Rattle.image_model.proofs.Listing.{rising, few_groups, groups_count}
use Rattle.image_model.proofs.Same.{entry_same}
use Rattle.image_model.proofs.Rows.{sound, dinode_is, hashed_is, entry_part, first_hash_is}
use Rattle.image_model.proofs.Facts.{has_dinode, under_path, leads_row, rindex_is, rindex_dinode, rindex_file, list_of, journal_is}
use Rattle.image_model.proofs.Lengths.{size_large, length_content, place_is, places_same, head_same, rings_say_the_same}

module _ (im : Image) (owners : Owners) (l : Layout) (laid : IsLaid im owners l) where
  large : 512 ≤ im.size
  large = size_large im.size laid.image.block_size

  -- ---- files of the root's tree

  under_dinode : (top a : ℕ) → is_dinode (owners top) ≡ true → IsUnder im top a → is_dinode (owners a) ≡ true
  under_dinode top _ dinode itself = dinode
  under_dinode top _ dinode (by_name a b name way leads) = ap is_dinode (leads_row im owners l laid a name b leads)

  pub short_file : (a : ℕ) → IsUnder im (superblock_in im).root.address a → is_regular (dinode_in (every im a)) ≡ true → (dinode_in (every im a)).size ≤ file_limit
  short_file a under file =
      let under' : IsUnder im l.root a = subst (λ top. IsUnder im top a) laid.super.root under in
      let d = under_dinode l.root a (ap is_dinode laid.root.0) under' in
      let same = dinode_is im owners l laid a d in
      let way = under_path im owners l laid l.root a under' in
      subst (λ (x : Dinode). x.size ≤ file_limit) same (laid.short way.0 a way.1 (ap is_regular same ∙ file))

  -- ---- journals

  module _ (j d : ℕ) (has : HasJournal im j d) where
    pub place_filled : (p : ℕ) → p < (ring_of (every im d)).places → content_block (every im d) p ≢ 0
    place_filled p low e =
        let is = journal_is im owners l laid j d has in
        let same = places_same im owners large d is.0 (sound im owners l laid d is.0) is.1 in
        let low' : p < (ring_of (holding im owners d)).places = subst (λ n. p < n) (sym same) low in
        is.1.filled p low' ((place_is im owners large d is.0 (sound im owners l laid d is.0) is.1 p low').0 ∙ e)

    pub journal_whole : (dinode_in (every im d)).size % im.size ≡ 0
    journal_whole =
        let is = journal_is im owners l laid j d has in
        ap (λ (x : Dinode). x.size % im.size) (sym (dinode_is im owners l laid d is.0)) ∙ is.1.whole

    pub journal_headed : head_in (ring_of (every im d)) ≡ None → ⊥
    journal_headed none =
        let is = journal_is im owners l laid j d has in
        none_some (sym none ∙ sym (head_same im owners large d is.0 (sound im owners l laid d is.0) is.1) ∙ is.1.readable.headed)

    -- the journal is read to its head
    pub no_bad_chunk : (p : ℕ) (head : LogHeader) → head_in (ring_of (every im d)) ≡ Some head → transactions_of (ring_of (every im d)) head ≡ Err p → ⊥
    no_bad_chunk p head headed bad =
        let is = journal_is im owners l laid j d has in
        let read = (rings_say_the_same im owners large d is.0 (sound im owners l laid d is.0) is.1).readable is.1.readable in
        let same : read.head ≡ head = some_same (sym read.headed ∙ headed) in
        ok_err (sym read.read ∙ ap (transactions_of (ring_of (every im d))) same ∙ bad)
      where
        ok_err : {A B : Type 0} {x : A} {y : B} → ◌≡◌ {A = Result A B} (Ok x) (Err y) → ⊥
        ok_err e = cc

  -- ---- the list of groups

  list_size : (d : ℕ) → IsRindex im d → (dinode_in (every im d)).size ≡ length laid.system.groups.0
  list_size d is =
      let dinode = rindex_dinode im owners l laid in
      ap (λ a. (dinode_in (every im a)).size) (rindex_is im owners l laid d is)
      ∙ ap (λ (x : Dinode). x.size) (sym (dinode_is im owners l laid l.rindex dinode))
      ∙ sym (length_content im owners large l.rindex dinode (sound im owners l laid l.rindex dinode))
      ∙ ap length (rindex_file im owners l laid).1

  pub list_whole : (d : ℕ) → IsRindex im d → (dinode_in (every im d)).size % entry_length ≡ 0
  list_whole d is = ap (λ n. n % entry_length) (list_size d is) ∙ laid.system.groups.2.whole

  -- groups that rise are no more than the device has blocks
  pub list_short : (d : ℕ) → IsRindex im d → (dinode_in (every im d)).size ≤ entry_length * im.count
  list_short d is =
      let listed = laid.system.groups.2 in
      let rise = rising im 0 l.groups laid.fit.each laid.fit.rise (λ g at. omega arith) in
      omega (
        arith,
        list_size d is,
        listed.whole,
        groups_count laid.system.groups.0,
        ap length listed.listed,
        few_groups im 0 l.groups rise (omega arith),
      )

  pub groups_fit : (d : ℕ) (g : Rindex) → IsRindex im d → IsListed (groups_in (content_of (every im d))) g → GroupFits im g
  groups_fit d g is at = laid.fit.each g (subst (λ gs. IsListed gs g) (list_of im owners l laid d is) at)

  pub groups_rise : (d i j : ℕ) (g h : Rindex) → IsRindex im d → IsGroupAt (groups_in (content_of (every im d))) i g → IsGroupAt (groups_in (content_of (every im d))) j h
      → i < j → end_of g ≤ h.address
  groups_rise d i j g h is at at' low =
      let same = list_of im owners l laid d is in
      laid.fit.rise i j g h (subst (λ gs. IsGroupAt gs i g) same at) (subst (λ gs. IsGroupAt gs j h) same at') low

  pub none_bare : (b : ℕ) (groups : List Rindex) → IsSoundList im groups → IsFirstBare im groups b → ⊥
  none_bare b groups list bare =
      let g = laid.fit.rest b bare.above bare.inside in
      bare.bare g.0 (subst (λ gs. IsListed gs g.0) (sym (list_of im owners l laid list.inode list.rindex) ∙ list.listed) g.1) g.2

  -- ---- pointers of a table

  -- only the pointers for its hashes lead to a leaf
  pub pointer_right : (a i j : ℕ) → IsHashedAt im a → i < table_count (every im a) → j < table_count (every im a) → entry (every im a) j ≡ entry (every im a) i
      → index_bits (every im a) (leaf_in (every im a) (entry (every im a) i)).depth j ≡ index_bits (every im a) (leaf_in (every im a) (entry (every im a) i)).depth i
  pointer_right a i j at low low' e =
      sym (mul-div_cancel (index_bits (every im a) depth j) (pow_pos (32 - depth))) ∙ ap (λ n. n / 2 ^ (32 - depth)) hashes ∙ mul-div_cancel (index_bits (every im a) depth i) (pow_pos (32 - depth))
    where
      row : is_dinode (owners a) ≡ true
      row = has_dinode im owners l laid a at.0

      hashed : is_hashed_in (holding im owners a) ≡ true
      hashed = hashed_is im owners l laid a row ∙ at.1

      depth : ℕ
      depth = (leaf_in (every im a) (entry (every im a) i)).depth

      entry_is : (k : ℕ) → entry (holding im owners a) k ≡ entry (every im a) k
      entry_is = entry_same im owners a row (sound im owners l laid a row)

      first_same : first_hash (every im a) j ≡ first_hash (every im a) i
      first_same =
          sym (first_hash_is im owners l laid a row hashed j low')
          ∙ one_hash (first_hash (holding im owners a) j) (first_hash (holding im owners a) i)
          (sym (entry_part im owners l laid a row hashed j low') ∙ ap (part_at (holding im owners a)) (entry_is j ∙ e ∙ sym (entry_is i)) ∙ entry_part im owners l laid a row hashed i low)
          ∙ first_hash_is im owners l laid a row hashed i low
        where
          one_hash : (n m : ℕ) → Some (InChain n 0) ≡ Some (InChain m 0) → n ≡ m
          one_hash n m e = cc

      hashes : index_bits (every im a) depth j * 2 ^ (32 - depth) ≡ index_bits (every im a) depth i * 2 ^ (32 - depth)
      hashes = ap (λ x. index_bits (every im a) (leaf_in (every im a) x).depth j * 2 ^ (32 - (leaf_in (every im a) x).depth)) (sym e) ∙ first_same
