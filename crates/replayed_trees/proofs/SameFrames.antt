-- An image that has the frame of one that stands finds that one's journals and groups, and has the same system files.
use Rattle.std.proofs.Common.{◌≡◌, ◌≢◌, ℕ, suc, ◌+◌, ◌-◌, ◌*◌, ◌/◌, ◌<◌, ◌≤◌, true, Bool, List, refl, sym, ap, ap₂, subst, ◌∙◌, arith}
use Rattle.std.specs.Prelude.{◌↔◌, ◌&&◌, codes, if◌then◌else◌}
use Rattle.gfs2_layout.specs.Bytes.{u64_at}
use Rattle.gfs2_layout.specs.Device.{superblock_place}
use Rattle.gfs2_layout.specs.Holding.{Holding, InChain, Part, Pointed}
use Rattle.gfs2_layout.specs.Inode.{Fits, Leads, from_block, from_dinode, content_block, content_count, content_of, dinode_in, has_hash_flag, header_length, is_hashed_in, pieces, pointer, span}
use Rattle.gfs2_layout.specs.Structures.{dinode_length, dinode_of, is_directory, superblock_of}
use Rattle.gfs2_layout.specs.declared.dinode.Dinode.{Dinode}
use Rattle.gfs2_layout.specs.declared.rindex.Rindex.{Rindex}
use Rattle.image_journals.specs.Frames.{HasSameFrame, IsPlace}
use Rattle.image_journals.specs.Shown.{IsIndex, jindex, master, rindex}
use Rattle.image_journals.proofs.Frames.{dinode_off, index_off, part_off, super_off}
use Rattle.image_journals.proofs.Held.{directory_index, index_file}
use Rattle.image_model.specs.Claims.{every, Claims, below, first_leaf, next_leaf, HasGroup, HasJournal, IsJindex, IsRindex, LeadsTo, master_of}
use Rattle.image_model.specs.Groups.{IsListed, groups_in}
use Rattle.image_model.specs.Image.{Blocks, Image}
use Rattle.image_model.specs.Journals.{journal_name}
use Rattle.image_model.specs.Owners.{Below, Chained, Owners, is_dinode}
use Rattle.image_model.specs.Stands.{IsJournalAt, IsLaid, Layout}
use Rattle.image_model.specs.SystemFiles.{IsSystemBlock, IsSystemFile, is_jindex, is_journal, is_master, is_rindex, of_content, of_dinode, of_leaf, of_superblock}
use Rattle.image_model.proofs.Facts.{has_dinode, has_jindex, has_rindex, jindex_is, list_is, master_is, rindex_is}
use Rattle.image_model.proofs.Held.{chained_part, pointed_part}
use Rattle.image_model.proofs.Lengths.{place_high, place_low, size_large}
use Rattle.image_model.proofs.Replaying.{journals_of_standing}
use Rattle.image_model.proofs.Rows.{and_left, claim_row, dinode_is, directory_is, sound}
use Rattle.image_model.proofs.Same.{count_same as count_held}
use Rattle.image_model.proofs.SystemStays.{file_inode}
use Rattle.image_outcomes.proofs.SameFiles.{HasSameFiles, fits, its_inode, low_held}
use Rattle.image_recovery.proofs.Alike.{content_is_same, leaf_back, leaf_there, place_same}
use Rattle.image_recovery.proofs.Names.{AreAlike, IsBlockOf, leaf, led, led_back, led_there, own, system_block, with_blocks}
use Rattle.journal_outcomes.specs.Images.{ring_at}

-- a directory with a leaf is a hashed one
chained_hashed : (im : Image) (by x d hash place : ℕ) → Claims im by x (Chained d hash place) → is_hashed_in (every im d) ≡ true
chained_hashed im _ _ _ _ _ (first_leaf by a o i claim dinode hashed low some) = hashed
chained_hashed im _ _ _ _ _ (next_leaf by x a hash place claim more) = chained_hashed im by x a hash place claim

hash_test : Dinode → Bool
hash_test x = is_directory x && has_hash_flag x

level_of : Part → ℕ
level_of (Pointed b k level first) = level
level_of _ = 0

above_content : (p k level first above j start : ℕ) → Pointed p k (suc level) first ≢ Pointed above j 0 start
unfolding level_of
above_content p k level first above j start e = let zero_level : suc level ≡ 0 = ap level_of e in absurd (omega (arith, zero_level))

module _ (im : Image) (o : Owners) (m : Layout) (laid : IsLaid im o m) (g : Blocks) (same : (b : ℕ) → IsSystemBlock im b → ¬ (IsPlace im b) → im.at b ≡ g b) where
  abbrev other : Image
  other = with_blocks im g

  dinode : (d : ℕ) → IsSystemFile im d → is_dinode (o d) ≡ true
  dinode d file = has_dinode im o m laid d (file_inode im d file)

  below_row : (d : ℕ) → IsSystemFile im d → (p k level first c : ℕ) → Leads (every im d) p k level first c → o c ≡ Below d p k level first
  below_row d file p k level first c leads =
      let inode = file_inode im d file in
      claim_row im o m laid p c (Below d p k level first) (below inode.1.by d inode.0 p k level first c inode.1.claimed inode.1.dinode leads)

  -- ---- what is alike: a dinode, what stands above content, and each block of the files by which journals and groups are found

  own_same : (d : ℕ) → IsSystemFile im d → im.at d ≡ g d
  own_same d file = same d (of_dinode file) (dinode_off im o m laid d (dinode d file))

  above_same : (d : ℕ) → IsSystemFile im d → (p k level first c : ℕ) → Leads (every im d) p k (suc level) first c → first < content_count (every im d) → im.at c ≡ g c
  above_same d file p k level first c leads low =
      same c (of_content d p k (suc level) first file leads low)
      (part_off im o m laid d c (Pointed p k (suc level) first) (dinode d file) (above_content p k level first) (pointed_part im o d c p k (suc level) first (below_row d file p k (suc level) first c leads)))

  file_of : (d : ℕ) → IsIndex m d → IsSystemFile im d
  file_of d index = index_file im o m laid d index

  alike : (d : ℕ) → IsIndex m d → AreAlike im g d
  alike d index b of = same b (system_block im d (file_of d index) b of) (off of)
    where
      off : IsBlockOf im d b → ¬ (IsPlace im b)
      off (own e) = λ is. dinode_off im o m laid d (dinode d (file_of d index)) (subst (IsPlace im) e is)
      off (led p k level first leads low) = index_off im o m laid d b (Pointed p k level first) (dinode d (file_of d index)) index (pointed_part im o d b p k level first (below_row d (file_of d index) p k level first b leads))
      off (leaf by hash place claim) = index_off im o m laid d b (InChain hash place) (dinode d (file_of d index)) index (chained_part im o d b hash place (claim_row im o m laid by b (Chained d hash place) claim))

  -- ---- the files

  master_same : master_of other ≡ m.master
  master_same = ap (λ bs. (superblock_of bs).master.address) (sym (same (superblock_place im.size) (of_superblock refl) (super_off im o m laid (superblock_place im.size) refl))) ∙ master_is im o m laid

  fitting : (d : ℕ) → IsIndex m d → Fits (every im d)
  fitting d index = fits im o m laid d (file_of d index)

  from_master : (name : List ℕ) (d : ℕ) → LeadsTo im (master_of im) name d → LeadsTo other (master_of other) name d
  from_master name d way =
      subst (λ a. LeadsTo other a name d) (sym master_same)
      (led_there im g m.master (fitting m.master (master refl)) (alike m.master (master refl)) (file_inode other m.master (is_master (sym master_same))) name d (subst (λ a. LeadsTo im a name d) (master_is im o m laid) way))

  to_master : (name : List ℕ) (d : ℕ) → LeadsTo other (master_of other) name d → LeadsTo im (master_of im) name d
  to_master name d way =
      subst (λ a. LeadsTo im a name d) (sym (master_is im o m laid))
      (led_back im g m.master (fitting m.master (master refl)) (alike m.master (master refl)) (file_inode im m.master (file_of m.master (master refl))) name d (subst (λ a. LeadsTo other a name d) master_same way))

  jindex_there : IsJindex other m.jindex
  jindex_there = from_master (codes "jindex") m.jindex (has_jindex im o m laid)

  rindex_there : IsRindex other m.rindex
  rindex_there = from_master (codes "rindex") m.rindex (has_rindex im o m laid)

  jindex_one : (d : ℕ) → IsJindex other d → d ≡ m.jindex
  jindex_one d way = jindex_is im o m laid d (to_master (codes "jindex") d way)

  rindex_one : (d : ℕ) → IsRindex other d → d ≡ m.rindex
  rindex_one d way = rindex_is im o m laid d (to_master (codes "rindex") d way)

  journal_there : (j d : ℕ) → HasJournal im j d → HasJournal other j d
  journal_there j d has = (
    m.jindex,
    jindex_there,
    led_there im g m.jindex (fitting m.jindex (jindex refl)) (alike m.jindex (jindex refl)) (file_inode other m.jindex (is_jindex jindex_there)) (journal_name j) d
        (subst (λ a. LeadsTo im a (journal_name j) d) (jindex_is im o m laid has.0 has.1) has.2),
  )

  journal_back : (j d : ℕ) → HasJournal other j d → HasJournal im j d
  journal_back j d has = (
    m.jindex,
    has_jindex im o m laid,
    led_back im g m.jindex (fitting m.jindex (jindex refl)) (alike m.jindex (jindex refl)) (file_inode im m.jindex (file_of m.jindex (jindex refl))) (journal_name j) d
        (subst (λ a. LeadsTo other a (journal_name j) d) (jindex_one has.0 has.1) has.2),
  )

  file_there : (d : ℕ) → IsSystemFile im d → IsSystemFile other d
  file_there d (is_master e) = is_master (e ∙ master_is im o m laid ∙ sym master_same)
  file_there d (is_rindex way) = subst (IsSystemFile other) (sym (rindex_is im o m laid d way)) (is_rindex rindex_there)
  file_there d (is_jindex way) = subst (IsSystemFile other) (sym (jindex_is im o m laid d way)) (is_jindex jindex_there)
  file_there d (is_journal j has) = is_journal j (journal_there j d has)

  file_back : (d : ℕ) → IsSystemFile other d → IsSystemFile im d
  file_back d (is_master e) = is_master (e ∙ master_same ∙ sym (master_is im o m laid))
  file_back d (is_rindex way) = subst (IsSystemFile im) (sym (rindex_one d way)) (is_rindex (has_rindex im o m laid))
  file_back d (is_jindex way) = subst (IsSystemFile im) (sym (jindex_one d way)) (is_jindex (has_jindex im o m laid))
  file_back d (is_journal j has) = is_journal j (journal_back j d has)

  -- ---- the groups

  list_same : groups_in (content_of (every other m.rindex)) ≡ m.groups
  list_same =
      ap groups_in (sym (content_is_same im.size im.count im.at g m.rindex (fitting m.rindex (rindex refl)) (own_same m.rindex (file_of m.rindex (rindex refl)))
      (λ p k level first c leads low. alike m.rindex (rindex refl) c (led p k level first leads low))))
      ∙ list_is im o m laid

  groups_same : (r : Rindex) → HasGroup other r ↔ IsListed m.groups r
  groups_same r = (
    λ has. subst (λ gs. IsListed gs r) (ap (λ d. groups_in (content_of (every other d))) (rindex_one has.0 has.1) ∙ list_same) has.2,
    λ at. (m.rindex, rindex_there, subst (λ gs. IsListed gs r) (sym list_same) at),
  )

  -- ---- the blocks of a file

  module _ (d : ℕ) (file : IsSystemFile im d) where
    abbrev a : Holding
    a = every im d

    abbrev b : Holding
    b = every other d

    dinode_same : dinode_in a ≡ dinode_in b
    unfolding dinode_in
    dinode_same = ap dinode_of (own_same d file)

    count_same : content_count a ≡ content_count b
    count_same = ap₂ pieces (ap (λ (x : Dinode). x.size) dinode_same) (ap (λ x. if is_directory x then im.size - header_length else im.size) dinode_same)

    leads_there : (p k level first c : ℕ) → Leads a p k level first c → first < content_count a → Leads b p k level first c
    leads_there _ _ _ _ _ (from_dinode k level height low some) less =
        let to : pointer a dinode_length d k ≡ pointer b dinode_length d k = ap (u64_at (dinode_length + 8 * k)) (own_same d file) in
        subst (Leads b d k level (k * span im.size level)) (sym to) (from_dinode k level (ap (λ (x : Dinode). x.height) (sym dinode_same) ∙ height) low (λ e. some (to ∙ e)))
    leads_there _ _ _ _ _ (from_block p k level first c j leads low some) less =
        let before : first < content_count a = omega (arith, less) in
        let to : pointer a header_length c j ≡ pointer b header_length c j = ap (u64_at (header_length + 8 * j)) (above_same d file p k level first c leads before) in
        subst (Leads b c j level (first + j * span im.size level)) (sym to) (from_block p k level first c j (leads_there p k (suc level) first c leads before) low (λ e. some (to ∙ e)))

    leads_back : (p k level first c : ℕ) → Leads b p k level first c → first < content_count a → Leads a p k level first c
    leads_back _ _ _ _ _ (from_dinode k level height low some) less =
        let to : pointer a dinode_length d k ≡ pointer b dinode_length d k = ap (u64_at (dinode_length + 8 * k)) (own_same d file) in
        subst (Leads a d k level (k * span im.size level)) to (from_dinode k level (ap (λ (x : Dinode). x.height) dinode_same ∙ height) low (λ e. some (sym to ∙ e)))
    leads_back _ _ _ _ _ (from_block p k level first c j leads low some) less =
        let before : first < content_count a = omega (arith, less) in
        let above = leads_back p k (suc level) first c leads before in
        let to : pointer a header_length c j ≡ pointer b header_length c j = ap (u64_at (header_length + 8 * j)) (above_same d file p k level first c above before) in
        subst (Leads a c j level (first + j * span im.size level)) to (from_block p k level first c j above low (λ e. some (sym to ∙ e)))

    -- one with leaves is a directory
    hashed_index : is_hashed_in a ≡ true → IsIndex m d
    hashed_index hashed = directory_index im o m laid d file (directory_is im o m laid d (dinode d file) ∙ and_left (is_directory (dinode_in a)) (has_hash_flag (dinode_in a)) hashed)

    hashed_back : is_hashed_in b ≡ true → is_hashed_in a ≡ true
    unfolding hash_test
    hashed_back hashed = ap hash_test dinode_same ∙ hashed

    chain_there : (by x hash place : ℕ) → Claims im by x (Chained d hash place) → (by' : ℕ) × Claims other by' x (Chained d hash place)
    chain_there by x hash place claim =
        let index = hashed_index (chained_hashed im by x d hash place claim) in
        leaf_there im.size im.count im.at g d (fitting d index) (own_same d file) (λ p k level first c leads low. alike d index c (led p k level first leads low)) (λ y c h n of. alike d index c (leaf y h n of))
        (file_inode other d (file_there d file)) by x hash place claim

    chain_back : (by x hash place : ℕ) → Claims other by x (Chained d hash place) → (by' : ℕ) × Claims im by' x (Chained d hash place)
    chain_back by x hash place claim =
        let index = hashed_index (hashed_back (chained_hashed other by x d hash place claim)) in
        leaf_back im.size im.count im.at g d (fitting d index) (own_same d file) (λ p k level first c leads low. alike d index c (led p k level first leads low)) (λ y c h n of. alike d index c (leaf y h n of))
        (file_inode im d file) by x hash place claim

  block_there : (c : ℕ) → IsSystemBlock im c → IsSystemBlock other c
  block_there c (of_superblock e) = of_superblock e
  block_there c (of_dinode file) = of_dinode (file_there c file)
  block_there c (of_content d p k level first file leads low) = of_content d p k level first (file_there d file) (leads_there d file p k level first c leads low) (subst (λ n. first < n) (count_same d file) low)
  block_there c (of_leaf d by hash place file claim) = let way = chain_there d file by c hash place claim in of_leaf d way.0 hash place (file_there d file) way.1

  block_back : (c : ℕ) → IsSystemBlock other c → IsSystemBlock im c
  block_back c (of_superblock e) = of_superblock e
  block_back c (of_dinode file) = of_dinode (file_back c file)
  block_back c (of_content d p k level first file leads low) =
      let mine = file_back d file in
      let less = subst (λ n. first < n) (sym (count_same d mine)) low in
      of_content d p k level first mine (leads_back d mine p k level first c leads less) less
  block_back c (of_leaf d by hash place file claim) = let mine = file_back d file in let way = chain_back d mine by c hash place claim in of_leaf d way.0 hash place mine way.1

  -- ---- the places of journals

  module _ (j d : ℕ) (at : IsJournalAt m j d) where
    file : IsSystemFile im d
    file = is_journal j ((journals_of_standing im o m laid).there j d at)

    held : is_dinode (o d) ≡ true
    held = (its_inode im o m laid j d at).0

    wide : 512 ≤ im.size
    wide = size_large im.size laid.image.block_size

    many_same : (ring_at other d).places ≡ (ring_at im d).places
    many_same = ap (λ (x : Dinode). x.size / im.size) (sym (dinode_same d file))

    place_there : (p : ℕ) → p < (ring_at im d).places → content_block (every other d) p ≡ content_block (every im d) p
    place_there p low =
        let inode = sound im o m laid d held in
        let ring = (its_inode im o m laid j d at).1 in
        let inside = low_held im o m laid j d at p low in
        let up = place_high im o wide d held inode ring p inside in
        sym (place_same im.size im.count im.at g d (fits im o m laid d file) (own_same d file) (λ level c i. Unit {0}) (λ level c i off. tt) (λ q k level first c i leads less off. above_same d file q k level first c leads less)
        up.0 (ap (λ (x : Dinode). x.height) (sym (dinode_is im o m laid d held)) ∙ up.1) p
        (subst (λ n. p < n) (count_held im o d held inode) (place_low im o wide d held inode ring p inside)) tt).0

  pub files_same : HasSameFiles im m other
  files_same = record {
    size = refl;
    count = refl;
    journals = record { there = λ j d at. journal_there j d ((journals_of_standing im o m laid).there j d at); all = λ j d has most. (journals_of_standing im o m laid).all j d (journal_back j d has) most };
    groups = groups_same;
    system = λ c. (block_back c, block_there c);
    many = many_same;
    place = λ j d p at low. place_there j d at p low;
  }

-- so it is with each image that has the frame
pub same_frames : (im : Image) (o : Owners) (m : Layout) → IsLaid im o m → (other : Image) → HasSameFrame im other → HasSameFiles im m other
same_frames im o m laid other has =
    subst (HasSameFiles im m) (λ i. record { size = sym has.size i; count = sym has.count i; at = other.at }) (files_same im o m laid other.at (λ b of off. sym (has.same b of off)))
