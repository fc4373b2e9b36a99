-- What a directory of one image says in another that has its blocks alike.
use Rattle.std.proofs.Common.{◌≡◌, ◌≢◌, ℕ, ◌+◌, ◌-◌, ◌*◌, ◌/◌, ◌^◌, ◌≤◌, ◌<◌, true, List, drop, length, refl, sym, ap, ap₂, subst, ◌∙◌}
use Rattle.std.specs.Prelude.{◌&&◌, flat_map, Contains}
use Rattle.crc_words.specs.Remainder.{crc32_of}
use Rattle.gfs2_layout.specs.Bytes.{u32_at, u64_at}
use Rattle.gfs2_layout.specs.Headers.{HasHeader}
use Rattle.gfs2_layout.specs.Holding.{Holding}
use Rattle.gfs2_layout.specs.Inode.{Fits, IsLeaf, depth_in, dinode_in, entry, entry_block, first_hash, has_hash_flag, index_bits, is_directory_in, is_hashed_in, leaf_area, leaf_in, linear_area, table_count, top_bits}
use Rattle.gfs2_layout.specs.Records.{IsRecordArea, Record, records_in}
use Rattle.gfs2_layout.specs.Structures.{dinode_of, dinode_length, is_directory, leaf_of}
use Rattle.gfs2_layout.specs.declared.dinode.Dinode.{Dinode}
use Rattle.gfs2_layout.specs.declared.leaf.Leaf.{Leaf}
use Rattle.image_model.specs.Claims.{every, Claims, HasArea, HasDirectory, HasInode, HasLeaf, behind_dinode, first_leaf, next_leaf, of_leaf}
use Rattle.image_model.specs.Image.{Blocks, Image}
use Rattle.image_model.specs.Owners.{Chained}
use Rattle.image_model.specs.Rules.{AreLeaves, HasRecordIn, HasRecords, from_dinode_block, from_leaves}
use Rattle.image_model.proofs.Members.{contained}
use Rattle.image_model.proofs.Same.{flat_map_same}
use Rattle.image_mount.specs.Looks.{HasDot, IsInRun, IsSoundDirectory, LeadsToLeaf}
use Rattle.image_recovery.proofs.Alike.{content_is_same, leaf_back, leaf_there}
use Rattle.image_recovery.proofs.Names.{AreAlike, leaf, led, own, with_blocks}

module _ (im : Image) (g : Blocks) (d : ℕ) (fits : Fits (every im d)) (alike : AreAlike im g d) (here : HasInode im d) (there : HasInode (with_blocks im g) d) where
  abbrev other : Image
  other = with_blocks im g

  abbrev a : Holding
  a = every im d

  abbrev b : Holding
  b = every other d

  bytes_same : im.at d ≡ g d
  bytes_same = alike d (own refl)

  pub dinode_is : dinode_in a ≡ dinode_in b
  unfolding dinode_in
  dinode_is = ap dinode_of bytes_same

  pub hashed_is : is_hashed_in a ≡ is_hashed_in b
  hashed_is = ap (λ (x : Dinode). is_directory x && has_hash_flag x) dinode_is

  directory_is : is_directory_in a ≡ is_directory_in b
  directory_is = ap is_directory dinode_is

  leaf_bytes : (by x hash place : ℕ) → Claims im by x (Chained d hash place) → im.at x ≡ g x
  leaf_bytes by x hash place claim = alike x (leaf by hash place claim)

  pub leaf_forth : (by x hash place : ℕ) → Claims im by x (Chained d hash place) → (by' : ℕ) × Claims other by' x (Chained d hash place)
  leaf_forth = leaf_there im.size im.count im.at g d fits bytes_same (λ p k level first x leads within. alike x (led p k level first leads within)) leaf_bytes there

  pub leaf_home : (by x hash place : ℕ) → Claims other by x (Chained d hash place) → (by' : ℕ) × Claims im by' x (Chained d hash place)
  leaf_home = leaf_back im.size im.count im.at g d fits bytes_same (λ p k level first x leads within. alike x (led p k level first leads within)) leaf_bytes here

  has_leaf_forth : (x : ℕ) → HasLeaf im d x → HasLeaf other d x
  has_leaf_forth x has = let it = leaf_forth has.0 x has.1 has.2 has.3 in (it.0, has.1, has.2, it.1)

  has_leaf_home : (x : ℕ) → HasLeaf other d x → HasLeaf im d x
  has_leaf_home x has = let it = leaf_home has.0 x has.1 has.2 has.3 in (it.0, has.1, has.2, it.1)

  leaf_same : (x : ℕ) → HasLeaf im d x → im.at x ≡ g x
  leaf_same x has = leaf_bytes has.0 x has.1 has.2 has.3

  directory_forth : HasDirectory im d → HasDirectory other d
  directory_forth is = record { inode = there; dir = sym directory_is ∙ is.dir }

  directory_home : HasDirectory other d → HasDirectory im d
  directory_home is = record { inode = here; dir = directory_is ∙ is.dir }

  -- ---- records

  linear_is : linear_area a ≡ linear_area b
  linear_is = ap (drop dinode_length) bytes_same

  area_of_leaf : (x : ℕ) → HasLeaf im d x → leaf_area a x ≡ leaf_area b x
  area_of_leaf x has = ap (drop 104) (leaf_same x has)

  area_forth : (x : ℕ) (area : List ℕ) → HasArea im d x area → HasArea other d x area
  area_forth _ _ (behind_dinode is plain) = subst (HasArea other d d) (sym linear_is) (behind_dinode (directory_forth is) (sym hashed_is ∙ plain))
  area_forth _ _ (of_leaf x has) = subst (HasArea other d x) (sym (area_of_leaf x has)) (of_leaf x (has_leaf_forth x has))

  pub area_home : (x : ℕ) (area : List ℕ) → HasArea other d x area → HasArea im d x area
  area_home _ _ (behind_dinode is plain) = subst (HasArea im d d) linear_is (behind_dinode (directory_home is) (hashed_is ∙ plain))
  area_home _ _ (of_leaf x has) = let was = has_leaf_home x has in subst (HasArea im d x) (area_of_leaf x was) (of_leaf x was)

  pub record_forth : (x : ℕ) (r : Record) → HasRecordIn im d x r → HasRecordIn other d x r
  record_forth x r has = (has.0, area_forth x has.0 has.1, has.2)

  pub record_home : (x : ℕ) (r : Record) → HasRecordIn other d x r → HasRecordIn im d x r
  record_home x r has = (has.0, area_home x has.0 has.1, has.2)

  leaves_same : (leaves : List ℕ) → AreLeaves im d leaves → flat_map (λ x. records_in (leaf_area a x)) leaves ≡ flat_map (λ x. records_in (leaf_area b x)) leaves
  leaves_same leaves are = flat_map_same (λ x. records_in (leaf_area a x)) (λ x. records_in (leaf_area b x)) leaves (λ x in_list. ap records_in (area_of_leaf x (are.only x (contained x leaves in_list))))

  leaves_forth : (leaves : List ℕ) → AreLeaves im d leaves → AreLeaves other d leaves
  leaves_forth leaves are = record { rise = are.rise; all = λ x has. are.all x (has_leaf_home x has); only = λ x has. has_leaf_forth x (are.only x has) }

  leaves_home : (leaves : List ℕ) → AreLeaves other d leaves → AreLeaves im d leaves
  leaves_home leaves are = record { rise = are.rise; all = λ x has. are.all x (has_leaf_forth x has); only = λ x has. has_leaf_home x (are.only x has) }

  pub records_forth : (rs : List Record) → HasRecords im d rs → HasRecords other d rs
  records_forth _ (from_dinode_block is plain) = subst (λ area. HasRecords other d (records_in area)) (sym linear_is) (from_dinode_block (directory_forth is) (sym hashed_is ∙ plain))
  records_forth _ (from_leaves leaves is hashed are) = subst (HasRecords other d) (sym (leaves_same leaves are)) (from_leaves leaves (directory_forth is) (sym hashed_is ∙ hashed) (leaves_forth leaves are))

  pub records_home : (rs : List Record) → HasRecords other d rs → HasRecords im d rs
  records_home _ (from_dinode_block is plain) = subst (λ area. HasRecords im d (records_in area)) linear_is (from_dinode_block (directory_home is) (hashed_is ∙ plain))
  records_home _ (from_leaves leaves is hashed are) = let was = leaves_home leaves are in subst (HasRecords im d) (leaves_same leaves was) (from_leaves leaves (directory_home is) (hashed_is ∙ hashed) was)

  dot_forth : (name : List ℕ) (to : ℕ) → HasDot im d name to → HasDot other d name to
  dot_forth name to has = record { block = has.block; row = has.row; there = record_forth has.block has.row has.there; named = has.named; leads = has.leads }

  pub sound_forth : (parent : ℕ) → IsSoundDirectory im d parent → IsSoundDirectory other d parent
  sound_forth parent is = record {
    areas = λ x area has. is.areas x area (area_home x area has);
    once = λ x y r t has has' same. is.once x y r t (record_home x r has) (record_home y t has') same;
    dot = dot_forth _ d is.dot;
    dots = dot_forth _ parent is.dots;
    counts = record {
      records = is.counts.records;
      are = records_forth is.counts.records is.counts.are;
      entries = ap (λ (x : Dinode). x.entries) (sym dinode_is) ∙ is.counts.entries;
      links = ap (λ (x : Dinode). x.nlink) (sym dinode_is) ∙ is.counts.links;
    };
  }

  -- ---- the leaves of a hashed one

  depth_is : depth_in a ≡ depth_in b
  depth_is = ap (λ (x : Dinode). x.depth) dinode_is

  content_is : (i : ℕ) → entry a i ≡ entry b i
  content_is i = ap (u64_at (8 * i)) (content_is_same im.size im.count im.at g d fits bytes_same (λ p k level first x leads within. alike x (led p k level first leads within)))

  module _ (hashed : is_hashed_in a ≡ true) where
    entry_has : (i : ℕ) → i < table_count a → entry a i ≢ 0 → HasLeaf im d (entry a i)
    entry_has i low some = (entry_block a i, first_hash a i, 0, first_leaf here.1.by d here.0 i here.1.claimed here.1.dinode hashed low some)

    leaf_at_entry : (i : ℕ) → i < table_count a → entry a i ≢ 0 → leaf_in a (entry a i) ≡ leaf_in b (entry b i)
    leaf_at_entry i low some = ap leaf_of (leaf_same (entry a i) (entry_has i low some)) ∙ ap (λ x. leaf_of (g x)) (content_is i)

    low_home : (i : ℕ) → i < table_count b → i < table_count a
    low_home i low = subst (λ n. i < 2 ^ n) (sym depth_is) low

    in_run_home : (i j : ℕ) → i < table_count a → entry a i ≢ 0 → IsInRun b i j → IsInRun a i j
    in_run_home i j low some run =
        let depth : (leaf_in a (entry a i)).depth ≡ (leaf_in b (entry b i)).depth = ap (λ (x : Leaf). x.depth) (leaf_at_entry i low some) in
        let to : (k : ℕ) → index_bits a (leaf_in a (entry a i)).depth k ≡ index_bits b (leaf_in b (entry b i)).depth k = λ k. ap₂ (λ (n m : ℕ). k / 2 ^ (n - m)) depth_is depth in
        to j ∙ run ∙ sym (to i)

    pointers_forth : (i : ℕ) → LeadsToLeaf a i → i < table_count a → LeadsToLeaf b i
    pointers_forth i is low = record {
      some = λ none. is.some (content_is i ∙ none);
      run = λ j low' run. sym (content_is j) ∙ is.run j (low_home j low') (in_run_home i j low is.some run) ∙ content_is i;
    }

    is_leaf_forth : (hash x : ℕ) → im.at x ≡ g x → IsLeaf a hash x → IsLeaf b hash x
    is_leaf_forth hash x same is = record {
      header = subst (HasHeader 6 600) same is.header;
      records_format = ap (u32_at 28) (sym same) ∙ is.records_format;
      depth = subst (λ n. (leaf_in b x).depth ≤ n) depth_is (subst (λ bytes. (leaf_of bytes).depth ≤ depth_in a) same is.depth);
      area = subst (λ bytes. IsRecordArea (drop 104 bytes)) same is.area;
      entries = subst (λ bytes. (leaf_of bytes).entries ≡ length (records_in (drop 104 bytes))) same is.entries;
      hashes = subst (λ bytes. (r : Record) → Contains (records_in (drop 104 bytes)) r → top_bits (leaf_of bytes).depth (crc32_of r.name) ≡ top_bits (leaf_of bytes).depth hash) same is.hashes;
    }

    next_home : (by x hash place : ℕ) → Claims im by x (Chained d hash place) → (leaf_in b x).next ≢ 0 → (leaf_in a x).next ≢ 0
    next_home by x hash place claim more none = more (ap (λ bytes. (leaf_of bytes).next) (sym (leaf_bytes by x hash place claim)) ∙ none)

    pub depths_forth : (by x hash place : ℕ) → Claims other by x (Chained d hash place) → ((by x hash place : ℕ) → Claims im by x (Chained d hash place) → (leaf_in a x).next ≢ 0 → (leaf_in a (leaf_in a x).next).depth ≡ (leaf_in a x).depth)
        → (leaf_in b x).next ≢ 0 → (leaf_in b (leaf_in b x).next).depth ≡ (leaf_in b x).depth
    depths_forth by x hash place claim is more =
        let was = leaf_home by x hash place claim in
        let more' = next_home was.0 x hash place was.1 more in
        let same = leaf_bytes was.0 x hash place was.1 in
        let next_same = leaf_bytes x (leaf_in a x).next hash (place + 1) (next_leaf was.0 x d hash place was.1 more') in
        let to : (leaf_in a x).next ≡ (leaf_in b x).next = ap (λ bytes. (leaf_of bytes).next) same in
        ap (λ y. (leaf_of (g y)).depth) (sym to) ∙ ap (λ bytes. (leaf_of bytes).depth) (sym next_same) ∙ is was.0 x hash place was.1 more' ∙ ap (λ bytes. (leaf_of bytes).depth) same

    pub once_forth : ((by by' x hash hash' place place' : ℕ) → Claims im by x (Chained d hash place) → Claims im by' x (Chained d hash' place') → (hash ≡ hash') × (place ≡ place'))
        → (by by' x hash hash' place place' : ℕ) → Claims other by x (Chained d hash place) → Claims other by' x (Chained d hash' place') → (hash ≡ hash') × (place ≡ place')
    once_forth is by by' x hash hash' place place' claim claim' =
        let one = leaf_home by x hash place claim in
        let two = leaf_home by' x hash' place' claim' in
        is one.0 two.0 x hash hash' place place' one.1 two.1

    pub leaves_are : ((by x hash place : ℕ) → Claims im by x (Chained d hash place) → IsLeaf a hash x) → (by x hash place : ℕ) → Claims other by x (Chained d hash place) → IsLeaf b hash x
    leaves_are is by x hash place claim = let was = leaf_home by x hash place claim in is_leaf_forth hash x (leaf_bytes was.0 x hash place was.1) (is was.0 x hash place was.1)

    pub pointers_are : ((i : ℕ) → i < table_count a → LeadsToLeaf a i) → (i : ℕ) → i < table_count b → LeadsToLeaf b i
    pointers_are is i low = let low' = low_home i low in pointers_forth i (is i low') low'
