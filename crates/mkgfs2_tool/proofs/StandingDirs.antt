-- The directories of a new image are sound.
use Rattle.std.proofs.Common.{ℕ, zero, suc, ◌≡◌, ◌≢◌, ◌+◌, ◌-◌, ◌^◌, ◌<◌, ◌≤◌, ◌⊎◌, inl, inr, true, false, List, ◌++◌, length, drop, replicate, map, Some, refl, sym, ap, ◌∙◌, subst, arith, append-nil}
use Rattle.std.specs.Prelude.{◌&&◌, is_some}
use Rattle.std.specs.List.{AllByRecursion, range_with_len}
use Rattle.std.proofs.lemmas.Bool.{cond-true, cond-false, lt-ltb, true≢false}
use Rattle.gfs2_layout.specs.Bytes.{put_at}
use Rattle.gfs2_layout.specs.Structures.{dinode_of, is_directory}
use Rattle.gfs2_layout.specs.Writing.{dinode_put}
use Rattle.gfs2_layout.specs.declared.dinode.Dinode.{Dinode}
use Rattle.gfs2_layout.specs.Headers.{HasHeader}
use Rattle.image_model.specs.Image.{Blocks}
use Rattle.gfs2_layout.specs.Inode.{dinode_in, height_in, has_hash_flag, is_directory_in, is_hashed_in, linear_area, records_of, IsInode, block_count}
use Rattle.image_model.specs.Owners.{is_dinode}
use Rattle.gfs2_layout.specs.Holding.{Holding, Part, Itself, Pointed, InChain, bytes_at, part_at}
use Rattle.gfs2_layout.specs.Records.{records_in, IsRecordArea}
use Rattle.mkgfs2_tool.proofs.StandingGiven.{own_part, itself_own, pointed_owner, chained_owner, block_same, own_block}
use Rattle.mkgfs2_tool.specs.Groups.{super_block, data_address}
use Rattle.mkgfs2_tool.specs.Order.{master_place, root_place, group_list_place, journals_place, has_hashed_journals, journal_leaves, journal_place, taken, use_of}
use Rattle.mkgfs2_tool.specs.Directories.{records, Fit, name_of as name_in, entry, journal_entry, master_entries, root_entries, journals_entries}
use Rattle.mkgfs2_tool.specs.Blocks.{data_block, zeros, new_block, used_block, dinode, dinode_block, directory, area_length, master_block, root_block, journals_block}
use Rattle.mkgfs2_tool.specs.Making.{IsFitting}
use Rattle.mkgfs2_tool.specs.declared.directory.Entry.{Entry}
use Rattle.mkgfs2_tool.specs.declared.directory.Name.{Name}
use Rattle.mkgfs2_tool.specs.declared.directory.Name.TheVariants as name
use Rattle.mkgfs2_tool.specs.declared.plan.Plan.{Plan}
use Rattle.mkgfs2_tool.proofs.RecordLaws.{AreAll, journals_first}
use Rattle.mkgfs2_tool.proofs.LeafLaws.{leaves_none}
use Rattle.mkgfs2_tool.proofs.StandingGiven.{Known}
use Rattle.mkgfs2_tool.proofs.StandingCounts.{count_images}
use Rattle.mkgfs2_tool.proofs.StandingDinodes.{IsDinodeBlock, dinode_put_is, IsSmall, dinode_widths}
use Rattle.mkgfs2_tool.proofs.StandingPlan.{apart_addresses, address_low, address_high, new_data}
use Rattle.mkgfs2_tool.proofs.StandingOwners.{file_place, spot, owner, file_some, file_taken, file_not_journals, in_all, owner_master, owner_root, owner_journals, use_of_journals, some_taken, two_taken, journals_taken}
use Rattle.mkgfs2_tool.proofs.StandingFiles.{large, size_few}
use Rattle.mkgfs2_tool.proofs.StandingWhose.{not_chained, IsBelowOf, below_of}
use Rattle.mkgfs2_tool.proofs.StandingInodes.{image, AreMade, held, below_1, cell_some, some_cell}
use Rattle.mkgfs2_tool.proofs.StandingRecords.{IsEntry, AreEntries, entry_record, AreRecords, records_are}

-- at this place is a directory's dinode with these entries behind it
pub record IsDirectoryAt (p : Plan) (place number count links : ℕ) (es : List Entry) : Type 0 where
  pub kept : place < taken p
  pub block : new_block p (data_address p place) ≡ put_at 232 (records (area_length p) es) (dinode_put (dinode p number place (directory p count links)) (zeros p))
  pub own : is_dinode (owner p (data_address p place)) ≡ true
  pub no_file : (i : ℕ) → i ≤ p.journals → spot p i 0 ≡ data_address p place → ⊥
  pub no_leaf : data_address p (journals_place p) ≡ data_address p place → journal_leaves p ≡ 0
  pub entries : AreEntries es
  pub fit : Fit (area_length p) es
  pub some : number ≢ 0
  pub number_low : number < 2 ^ 64
  pub count_low : count < 2 ^ 32
  pub links_low : links < 2 ^ 32

module _ (p : Plan) (fit : IsFitting p) (known : Known p) (at : Blocks) (made : AreMade p at) (place number count links : ℕ) (es : List Entry) (is : IsDirectoryAt p place number count links es) where
  abbrev a : ℕ
  a = data_address p place

  abbrev h : Holding
  h = held p at a

  abbrev d : Dinode
  d = dinode p number place (directory p count links)

  low_address : a < p.count
  low_address = address_low p fit place (in_all p fit place is.kept)

  records_made : AreRecords (area_length p) es (records (area_length p) es)
  records_made = records_are known.given (area_length p) es is.entries is.fit (short p.size (size_few p fit known))
    where
      short : (s : ℕ) → s ≤ 4096 → s - 232 < 2 ^ 16
      short s few = omega (arith, few)

  room : 232 + length (records (area_length p) es) ≤ p.size
  room = all (length (records (area_length p) es)) p.size records_made.long (large p fit known)
    where
      all : (n s : ℕ) → n ≡ s - 232 → 512 ≤ s → 232 + n ≤ s
      all n s e large = omega (arith, e, large)

  small : IsSmall (directory p count links)
  small = record {
    mode = omega arith;
    nlink = is.links_low;
    size = size_low p.size (size_few p fit known);
    blocks = omega arith;
    flags = omega arith;
    payload_format = omega arith;
    height = omega arith;
    depth = omega arith;
    entries = is.count_low;
  }
    where
      size_low : (s : ℕ) → s ≤ 4096 → s - 232 < 2 ^ 64
      size_low s few = omega (arith, few)

  block_is : IsDinodeBlock p.size d (records (area_length p) es) (new_block p a)
  block_is = subst (IsDinodeBlock p.size d (records (area_length p) es)) (sym is.block)
      (dinode_put_is known.given p.size d (records (area_length p) es) room (dinode_widths p number place (directory p count links) is.number_low (near a p.count low_address fit.count) known.time small))
    where
      near : (a c : ℕ) → a < c → c ≤ 131072 → a < 2 ^ 64
      near a c low few = omega (arith, low, few)

  own_bytes : bytes_at h a ≡ new_block p a
  own_bytes = own_block known.given (image p at) (owner p) a is.own ∙ made.is a low_address

  dinode_is : dinode_in h ≡ d
  unfolding dinode_in
  dinode_is = ap dinode_of own_bytes ∙ block_is.is

  pub dir_is : is_directory_in h ≡ true
  unfolding dinode
  dir_is = ap is_directory dinode_is

  pub dir_linear : is_hashed_in h ≡ false
  unfolding dinode
  dir_linear = ap (λ (d : Dinode). is_directory d && has_hash_flag d) dinode_is

  height_is : height_in h ≡ 0
  unfolding dinode
  height_is = ap (λ (d : Dinode). d.height) dinode_is

  size_is : (dinode_in h).size ≡ p.size - 232
  unfolding dinode
  size_is = ap (λ (d : Dinode). d.size) dinode_is

  pub dir_number : (dinode_in h).num.number ≡ number
  unfolding dinode
  dir_number = ap (λ (d : Dinode). d.num.number) dinode_is

  address_is : (dinode_in h).num.address ≡ a
  unfolding dinode
  address_is = ap (λ (d : Dinode). d.num.address) dinode_is

  pub dir_entries : (dinode_in h).entries ≡ count
  unfolding dinode
  dir_entries = ap (λ (d : Dinode). d.entries) dinode_is

  pub dir_links : (dinode_in h).nlink ≡ links
  unfolding dinode
  dir_links = ap (λ (d : Dinode). d.nlink) dinode_is

  blocks_is : (dinode_in h).blocks ≡ 1
  unfolding dinode
  blocks_is = ap (λ (d : Dinode). d.blocks) dinode_is

  area_is : linear_area h ≡ records (area_length p) es
  area_is = ap (drop 232) own_bytes ∙ block_is.rest ∙ ap (λ n. records (area_length p) es ++ replicate n 0) (none (length (records (area_length p) es)) p.size records_made.long) ∙ append-nil (records (area_length p) es)
    where
      none : (n s : ℕ) → n ≡ s - 232 → s - 232 - n ≡ 0
      none n s e = omega (arith, e)

  pub dir_records : records_of h ≡ map entry_record es
  unfolding records_of
  dir_records = cond-false _ _ _ dir_linear ∙ ap records_in area_is ∙ records_made.are

  no_pointed : (y b k level first : ℕ) → part_at h y ≡ Some (Pointed b k level first) → ⊥
  no_pointed y b k level first e = from (below_of p fit known y a b k level first (pointed_owner known.given (image p at) (owner p) a y b k level first e))
    where
      from : IsBelowOf p fit known y a b k level first → ⊥
      from q = is.no_file q.file q.ok (below_1 _ _ _ _ _ _ _ _ _ _ q.owned)

  no_chain : (y hash place : ℕ) → part_at h y ≡ Some (InChain hash place) → ⊥
  no_chain y hash place e = not_chained p fit known y a hash place is.no_leaf (chained_owner known.given (image p at) (owner p) a y hash place e)

  only_own : (y : ℕ) (q : Part) → part_at h y ≡ Some q → y ≡ a
  only_own y Itself e = itself_own known.given (image p at) (owner p) a y e
  only_own y (Pointed b k level first) e = absurd (no_pointed y b k level first e)
  only_own y (InChain hash place) e = absurd (no_chain y hash place e)

  flat : (level : ℕ) → height_in h ≡ suc level → ⊥
  flat level e = never (height_in h) level height_is e
    where
      never : (n level : ℕ) → n ≡ 0 → n ≡ suc level → ⊥
      never n level z e = absurd (omega (arith, z, e))

  blocks_counted : block_count h ≡ 1
  unfolding block_count
  blocks_counted = count_images 1 p.count (λ n. a) (λ b. is_some (h.cell b)) (λ n low. low_address) (λ n k low low' e. omega (arith, low, low'))
      (λ n low. cell_some (h.cell a) Itself (own_part known.given (image p at) (owner p) a is.own))
      (λ b e. let c = some_cell (h.cell b) e in (0, omega arith, only_own b c.0 c.1))

  pub dir_sound : IsInode h
  dir_sound = record {
    whole = λ b q e. ap length (block_same known.given (image p at) (owner p) a b q e) ∙ made.whole b (subst (λ n. n < p.count) (sym (only_own b q e)) low_address);
    header = subst (HasHeader 4 400) (sym own_bytes) block_is.header;
    address = address_is;
    number = λ e. is.some (sym dir_number ∙ e);
    mode = inl dir_is;
    links = λ e. absurd (true≢false (sym dir_is ∙ e));
    fits = record {
      low = low_height (height_in h) height_is;
      stuffed = λ e. size_inside (dinode_in h).size p.size size_is (large p fit known);
      under = λ level e. absurd (flat level e);
    };
    tree = record {
      top = λ level e. absurd (flat level e);
      inner = λ x b k level first e. absurd (no_pointed x b k (suc level) first e);
      pointed = λ x b k level first e. absurd (no_pointed x b k level first e);
      below = λ x b k level first e. absurd (no_pointed x b k level first e);
      indirect = λ x b k level first e. absurd (no_pointed x b k (suc level) first e);
      table = λ x b k first dir e. absurd (no_pointed x b k 0 first e);
    };
    linear = λ e g. record {
      stuffed = height_is;
      size = size_whole (dinode_in h).size p.size size_is (large p fit known);
      area = subst IsRecordArea (sym area_is) records_made.area;
    };
    hashed = λ e. absurd (true≢false (sym e ∙ dir_linear));
    leafless = λ e. no_chain;
    blocks = blocks_is ∙ sym blocks_counted;
  }
    where
      low_height : (n : ℕ) → n ≡ 0 → n ≤ 10
      low_height n e = omega (arith, e)

      size_inside : (n s : ℕ) → n ≡ s - 232 → 512 ≤ s → 232 + n ≤ s
      size_inside n s e large = omega (arith, e, large)

      size_whole : (n s : ℕ) → n ≡ s - 232 → 512 ≤ s → 232 + n ≡ s
      size_whole n s e large = omega (arith, e, large)

-- ---- the three directories

module _ (p : Plan) (fit : IsFitting p) (known : Known p) where
  entry_is : (n : Name) (number place kind : ℕ) → length (name_in (entry p n number place kind)) ≤ 16 → AllByRecursion (λ b. b < 256) (name_in (entry p n number place kind))
      → 1 ≤ number → number ≤ 12 → place < taken p → (kind ≡ 4) ⊎ (kind ≡ 8) → IsEntry (entry p n number place kind)
  entry_is n number place kind short bytes some few kept kind_is = record {
    plain = record {
      name = short;
      bytes = bytes;
      number_low = omega (arith, few);
      address_low = near (data_address p place) p.count (address_low p fit place (in_all p fit place kept)) fit.count;
      kind = kind_is;
    };
    number = λ e. absurd (omega (arith, some, e));
    address = λ e. never (super_block p) (data_address p place) (address_high p fit place (in_all p fit place kept)) e;
    reach = refl;
  }
    where
      never : (s n : ℕ) → s < n → n ≡ 0 → ⊥
      never s n less e = absurd (omega (arith, less, e))

      near : (a c : ℕ) → a < c → c ≤ 131072 → a < 2 ^ 64
      near a c low few = omega (arith, low, few)

  list_taken : group_list_place < taken p
  list_taken = omega arith

  pub this_is : (number place : ℕ) → 1 ≤ number → number ≤ 12 → place < taken p → IsEntry (entry p name.This number place 4)
  this_is number place some few kept = entry_is name.This number place 4 (omega arith) (omega arith, tt) some few kept (inl refl)

  pub parent_is : (number place : ℕ) → 1 ≤ number → number ≤ 12 → place < taken p → IsEntry (entry p name.Parent number place 4)
  parent_is number place some few kept = entry_is name.Parent number place 4 (omega arith) (omega arith, (omega arith, tt)) some few kept (inl refl)

  no_file_at : (place : ℕ) → place < taken p → ((i : ℕ) → file_place p i ≡ place → ⊥) → (i : ℕ) → i ≤ p.journals → spot p i 0 ≡ data_address p place → ⊥
  no_file_at place kept none i ok e = none i (drop_zero (file_place p i) place (apart_addresses p fit (file_place p i + 0) place (in_all p fit (file_place p i + 0) (file_taken p i 0 ok (file_some p i))) (in_all p fit place kept) e))
    where
      drop_zero : (a b : ℕ) → a + 0 ≡ b → a ≡ b
      drop_zero a b e = omega (arith, e)

  pub used_at : (place : ℕ) → place < taken p → new_block p (data_address p place) ≡ used_block p (use_of p place)
  unfolding data_block
  used_at place kept = new_data p fit place (in_all p fit place kept) ∙ cond-true _ _ _ (lt-ltb place (taken p) kept)

  pub master_at : IsDirectoryAt p master_place 1 4 3 (master_entries p)
  unfolding master_block dinode_block used_block
  master_at = record {
    kept = some_taken p;
    block = used_at master_place (some_taken p);
    own = ap is_dinode (owner_master p fit);
    no_file = no_file_at master_place (some_taken p) none;
    no_leaf = λ e. absurd (omega (arith, apart_addresses p fit (journals_place p) master_place (in_all p fit (journals_place p) (journals_taken p)) (in_all p fit master_place (some_taken p)) e));
    entries = (
      this_is 1 master_place (omega arith) (omega arith) (some_taken p),
      (
        parent_is 1 master_place (omega arith) (omega arith) (some_taken p),
        (
          entry_is name.Jindex 4 (journals_place p) 4 (omega arith) (omega arith, (omega arith, (omega arith, (omega arith, (omega arith, (omega arith, tt)))))) (omega arith) (omega arith) (journals_taken p) (inl refl),
          (entry_is name.Rindex 3 group_list_place 8 (omega arith) (omega arith, (omega arith, (omega arith, (omega arith, (omega arith, (omega arith, tt)))))) (omega arith) (omega arith) list_taken (inr refl), tt),
        ),
      ),
    );
    fit = fits (area_length p) (room p.size (large p fit known));
    some = λ e. absurd (omega (arith, e));
    number_low = omega arith;
    count_low = omega arith;
    links_low = omega arith;
  }
    where
      none : (i : ℕ) → file_place p i ≡ master_place → ⊥
      none zero e = absurd (omega (arith, e))
      none (suc j) e = absurd (omega (arith, e))

      room : (s : ℕ) → 512 ≤ s → 280 ≤ s - 232
      room s large = omega (arith, large)

      fits : (n : ℕ) → 280 ≤ n → Fit n (master_entries p)
      fits n large = (omega (arith, large), (omega (arith, large), (omega (arith, large), omega (arith, large))))

  pub root_at : IsDirectoryAt p root_place 2 2 2 (root_entries p)
  unfolding root_block dinode_block used_block
  root_at = record {
    kept = two_taken p;
    block = used_at root_place (two_taken p);
    own = ap is_dinode (owner_root p fit);
    no_file = no_file_at root_place (two_taken p) none;
    no_leaf = λ e. absurd (omega (arith, apart_addresses p fit (journals_place p) root_place (in_all p fit (journals_place p) (journals_taken p)) (in_all p fit root_place (two_taken p)) e));
    entries = (this_is 2 root_place (omega arith) (omega arith) (two_taken p), (parent_is 2 root_place (omega arith) (omega arith) (two_taken p), tt));
    fit = fits (area_length p) (room p.size (large p fit known));
    some = λ e. absurd (omega (arith, e));
    number_low = omega arith;
    count_low = omega arith;
    links_low = omega arith;
  }
    where
      none : (i : ℕ) → file_place p i ≡ root_place → ⊥
      none zero e = absurd (omega (arith, e))
      none (suc j) e = absurd (omega (arith, e))

      room : (s : ℕ) → 512 ≤ s → 280 ≤ s - 232
      room s large = omega (arith, large)

      fits : (n : ℕ) → 280 ≤ n → Fit n (root_entries p)
      fits n large = (omega (arith, large), omega (arith, large))

  pub journal_is : (j : ℕ) → suc j ≤ p.journals → IsEntry (journal_entry p j)
  journal_is j ok = entry_is (name.Journal j) (5 + j) (journal_place p j) 8 (omega arith)
      (omega arith, (omega arith, (omega arith, (omega arith, (omega arith, (omega arith, (omega arith, (digit j p.journals ok fit.plan.journals, tt)))))))) (omega arith) (few j p.journals ok fit.plan.journals)
      (at_first (journal_place p j) (taken p) (file_taken p (suc j) 0 ok (file_some p (suc j)))) (inr refl)
    where
      digit : (j n : ℕ) → suc j ≤ n → n ≤ 8 → 48 + j < 256
      digit j n a b = omega (arith, a, b)

      few : (j n : ℕ) → suc j ≤ n → n ≤ 8 → 5 + j ≤ 12
      few j n a b = omega (arith, a, b)

      at_first : (k t : ℕ) → k + 0 < t → k < t
      at_first k t low = omega (arith, low)

  pub journals_are : (start n : ℕ) → start + n ≤ p.journals → AreEntries (map (journal_entry p) (range_with_len start n))
  journals_are start zero ok = tt
  journals_are start (suc n) ok = (journal_is start (omega (arith, ok)), journals_are (start + 1) n (omega (arith, ok)))

  pub all_are : AreEntries (journals_entries p)
  all_are = (this_is 4 (journals_place p) (omega arith) (omega arith) (journals_taken p), (parent_is 1 master_place (omega arith) (omega arith) (some_taken p), journals_are 0 p.journals (omega arith)))

  pub journals_at : has_hashed_journals p ≡ false → IsDirectoryAt p (journals_place p) 4 (2 + p.journals) 2 (journals_entries p)
  unfolding journals_block dinode_block used_block
  journals_at linear = record {
    kept = journals_taken p;
    block = used_at (journals_place p) (journals_taken p) ∙ ap (used_block p) (use_of_journals p) ∙ cond-false _ _ _ linear;
    own = ap is_dinode (owner_journals p fit);
    no_file = no_file_at (journals_place p) (journals_taken p) (file_not_journals p);
    no_leaf = λ e. leaves_none p linear;
    entries = all_are;
    fit = fits (journals_first p fit linear);
    some = λ e. absurd (omega (arith, e));
    number_low = omega arith;
    count_low = few p.journals fit.plan.journals;
    links_low = omega arith;
  }
    where
      few : (n : ℕ) → n ≤ 8 → 2 + n < 2 ^ 32
      few n le = omega (arith, le)

      fits : {es : List Entry} → AreAll (area_length p) (journals_entries p) es → Fit (area_length p) (journals_entries p)
      fits {es} is = subst (Fit (area_length p)) is.are is.fit
