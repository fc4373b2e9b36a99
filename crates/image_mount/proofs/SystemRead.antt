-- What was read of an image that is mounted is the blocks of its system files.
use Rattle.std.proofs.Common.{◌≡◌, inl, inr, ℕ, zero, suc, ◌+◌, ◌-◌, ◌*◌, ◌/◌, ◌%◌, ◌^◌, ◌<◌, ◌≤◌, ◌⊎◌, true, false, Bool, List, length, Option, None, Some, IsTrue, refl, sym, ap, subst, ◌∙◌, arith}
use Rattle.std.specs.Prelude.{slice_get}
use Rattle.std.specs.List.{All}
use Rattle.std.proofs.lemmas.Bool.{cases_Bool, cases_lt, cond-false}
use Rattle.std.proofs.lemmas.List.FromFn.{length-map-range_with_len}
use Rattle.std.proofs.lemmas.Nat.{div-add-mod'}
use Rattle.std.proofs.Math.Nat.{div-mul-le_self, mul-le-mul_right, pow-suc}
use Rattle.gfs2_layout.specs.Inode.{Fits, Leads, content_block, content_count, depth_in, dinode_in, fan, height_in, is_directory_in, is_hashed_in, pieces, span}
use Rattle.gfs2_layout.specs.Records.{Record}
use Rattle.gfs2_layout.specs.Structures.{dinode_length}
use Rattle.gfs2_layout.specs.declared.superblock.SuperBlock.{SuperBlock}
use Rattle.image_model.specs.Claims.{every, Claims, HasDirectory, LeadsTo, master_of}
use Rattle.image_model.specs.Image.{Image, image_of}
use Rattle.image_model.specs.Journals.{journal_name}
use Rattle.image_model.specs.Owners.{Chained, Owners}
use Rattle.image_model.specs.Stands.{IsLaid, Layout}
use Rattle.image_model.specs.Rules.{Breaks, HasRecords, from_dinode_block, from_leaves, too_high, too_large_for_dinode, too_large_for_height}
use Rattle.image_model.specs.SystemFiles.{HasSameSystem, IsSystemBlock, IsSystemFile, is_jindex, is_journal, is_master, is_rindex, of_content, of_dinode, of_leaf, of_superblock}
use Rattle.image_model.proofs.Nothing.{laid_breaks_nothing}
use Rattle.image_model.proofs.SystemStays.{file_inode, system_back}
use Rattle.image_reader.proofs.Directories.{leaf_is_hashed}
use Rattle.log_layout.specs.Journal.{ring_of}
use Rattle.shared_disk.specs.Disk.{DiskState}
use Rattle.image_mount.specs.Kept.{Kept, seen_of}
use Rattle.image_mount.specs.Leaves.{HasReadDirectory}
use Rattle.image_mount.specs.Looks.{IsListing, IsListingBlock, IsLookedAt, IsSoundDirectory, a_leaf, led_to, the_jindex, the_master, the_rindex}
use Rattle.image_mount.specs.Marked.{AreMarked, IsKept, IsTaken, marks_of, of_kept, of_leaf as read_as_leaf, of_place, one_if}
use Rattle.image_mount.specs.Mounted.{HasSameBlocks, IsMounted, MountedValue}
use Rattle.image_mount.specs.Rings.{AreKeptWays, AreRings, HasPlaces, IsRingOf, IsSearched, all_places}
use Rattle.image_mount.specs.Searching.{ShowsSystem}
use Rattle.image_mount.specs.System.{HasDinodes, HasReadSystem, IsSystemOf, layout_of}
use Rattle.image_mount.specs.declared.journals.Ring.{Ring}
use Rattle.image_mount.specs.declared.listing.Link.{Link}
use Rattle.image_mount.specs.declared.system.System.{System}
use Rattle.image_mount.proofs.KeptContent.{block_led, high_led, way_led}
use Rattle.image_mount.proofs.Marked.{times_among}
use Rattle.image_mount.proofs.Marks.{wanted_system}
use Rattle.image_mount.proofs.Names.{all_at, from_mapped, mapped_at}
use Rattle.image_mount.proofs.Places.{block_there}

-- ---- numbers

power_three : (n : ℕ) → (2 ^ n % 3 ≡ 1) ⊎ (2 ^ n % 3 ≡ 2)
power_three zero = inl refl
power_three (suc n) = let twice : 2 ^ suc n ≡ 2 ^ n * 2 = pow-suc 2 n in elim (power_three n) [
  | inl one ↦ inr (omega (arith, twice, one))
  | inr two ↦ inl (omega (arith, twice, two))
]

-- the pointers of a table are no whole entries of a list of groups
no_entries : (n : ℕ) → 8 * 2 ^ n % 96 ≡ 0 → ⊥
no_entries n whole = elim (power_three n) [ inl one ↦ absurd (omega (arith, whole, one)) | inr two ↦ absurd (omega (arith, whole, two)) ]

-- of whole blocks there are no more pieces
less_places : (size each first : ℕ) → 0 < each → size % each ≡ 0 → first < pieces size each → first < size / each
less_places size each first pos whole low =
    let rises : (first + 1) * each ≤ (size + each - 1) / each * each = mul-le-mul_right each (omega (arith, low)) in
    let more : (first + 1) * each ≡ first * each + each = omega arith in
    let all : size / each * each + size % each ≡ size = div-add-mod' size each in
    elim (cases_lt first (size / each)) [
      | inl less ↦ less
      | inr high ↦ let up : size / each * each ≤ first * each = mul-le-mul_right each high in absurd (omega (arith, rises, more, all, whole, up, div-mul-le_self (size + each - 1) each))
    ]

marked_true : (o : Option Bool) → 1 ≤ one_if o → o ≡ Some true
marked_true None low = absurd (omega (arith, low))
marked_true (Some true) low = refl
marked_true (Some false) low = absurd (omega (arith, low))

-- what is kept was read
pub taken_kept : (k : Kept) (b : ℕ) → IsKept k b → IsTaken k b
taken_kept k b kept = each ((seen_of k).block_at b) refl
  where
    each : (o : Option (List ℕ)) → (seen_of k).block_at b ≡ o → IsTaken k b
    each None e = absurd (kept e)
    each (Some bytes) e = of_kept bytes e

records_directory : (im : Image) (a : ℕ) (records : List Record) → HasRecords im a records → HasDirectory im a
records_directory im a _ (from_dinode_block dir plain) = dir
records_directory im a _ (from_leaves leaves dir hashed are) = dir

-- ---- what was read is of the system files

pub taken_block : (im : Image) (done : List ℕ) (d n : ℕ) (k : Kept) → IsSearched im done d n k → (b : ℕ) → IsTaken k b → IsSystemBlock im b
taken_block im done d n k known b (of_place at) = (known.marked b at).system
taken_block im done d n k known b (read_as_leaf at) = let by = known.leaves b at in wanted_system im b by.0 by.1
taken_block im done d n k known b (of_kept bytes at) = let by = known.wanted b bytes at in wanted_system im b by.0 by.1

-- ---- a journal is no directory

module _ (im : Image) (d places : ℕ) (has : HasPlaces im d places) where
  no_table : is_hashed_in (every im d) ≡ true → ⊥
  no_table hashed =
      let size = (dinode_in (every im d)).size in
      let sized = has.looked.sized.hashed hashed in
      let rises : 512 * im.size ≤ size / im.size * im.size = mul-le-mul_right im.size (let least = has.least in let count = has.count in omega (arith, least, count)) in
      let below : size / im.size * im.size ≤ size = div-mul-le_self size im.size in
      let bytes = sized.size in
      let greatest = sized.greatest in
      let large = has.large in
      absurd (omega (arith, rises, below, bytes, greatest, large))

  first_place : (p j level first b : ℕ) → Leads (every im d) p j level first b → first < content_count (every im d) → first < (ring_of (every im d)).places
  first_place p j level first b leads within = elim (cases_Bool (is_directory_in (every im d))) [
    | inl directory ↦ elim (cases_Bool (is_hashed_in (every im d))) [
      | inl hashed ↦ absurd (no_table hashed)
      | inr plain ↦ absurd (high_led (every im d) p j level first b leads (has.looked.sized.linear directory plain).height)
    ]
    | inr file ↦
        let some = has.large in
        less_places (dinode_in (every im d)).size im.size first (omega (arith, some)) has.whole (subst (λ n. first < pieces (dinode_in (every im d)).size n) (cond-false _ _ _ file) within)
  ]

-- ---- all blocks of the system files were read

-- the file that is in a block
data IsFileOf (system : System) (rings : List Ring) (d : ℕ) : Type 0 where
  a_listing : IsListing (layout_of system) d → IsFileOf system rings d
  a_ring : (i : ℕ) (ring : Ring) → slice_get rings i ≡ Some ring → ring.dinode ≡ d → IsFileOf system rings d

module _ (im : Image) (system : System) (rings : List Ring) (looked : IsSystemOf im system) (are : AreRings im system.journals.items rings) where
  file_of : (d : ℕ) → IsSystemFile im d → IsFileOf system rings d
  file_of d (is_master e) = a_listing (subst (IsListing (layout_of system)) (ap (λ (s : SuperBlock). s.master.address) looked.superblock ∙ sym e) the_master)
  file_of d (is_rindex way) = a_listing (subst (IsListing (layout_of system)) (sym (looked.one_rindex d way)) the_rindex)
  file_of d (is_jindex way) = a_listing (subst (IsListing (layout_of system)) (sym (looked.one_jindex d way)) the_jindex)
  file_of d (is_journal j has) =
      let other = looked.journals.others (journal_name j) d (subst (λ a. LeadsTo im a (journal_name j) d) (looked.one_jindex has.0 has.1) has.2) in
      let ring = from_mapped (λ (r : Ring). r.dinode) rings other.0 d
      (ap (λ ds. slice_get ds other.0) are.dinodes ∙ mapped_at (λ (e : Link). e.entry.addr) system.journals.items other.0 other.1.0 other.1.1 ∙ ap Some other.1.2) in
      a_ring other.0 ring.0 ring.1 ring.2

  ring_at : (i : ℕ) (ring : Ring) → slice_get rings i ≡ Some ring → IsRingOf im ring.dinode ring.blocks.items
  ring_at i ring at = all_at (λ (r : Ring). IsRingOf im r.dinode r.blocks.items) rings i ring are.each at

  listing_fits : (d : ℕ) → IsListing (layout_of system) d → Fits (every im d)
  listing_fits _ the_master = looked.master_looked.dinode.fits
  listing_fits _ the_rindex = looked.rindex_looked.dinode.fits
  listing_fits _ the_jindex = looked.journals.looked.dinode.fits

  fits_by : (d : ℕ) → IsFileOf system rings d → Fits (every im d)
  fits_by d (a_listing of) = listing_fits d of
  fits_by d (a_ring i ring at e) = subst (λ a. Fits (every im a)) e (ring_at i ring at).places.looked.dinode.fits

  -- each of them fits its dinode
  pub files_fit : (d : ℕ) → IsSystemFile im d → Fits (every im d)
  files_fit d file = fits_by d (file_of d file)

  -- the blocks below the list of groups and the directories were read
  module _ (k : Kept) (read : HasReadSystem im k system) where
    -- the content of a directory is that of a table
    directory_kept : (a parent : ℕ) → (is_hashed_in (every im a) ≡ true → HasReadDirectory im k a) → IsLookedAt im a → IsSoundDirectory im a parent → (p j level first b : ℕ) → Leads (every im a) p j level first b
        → first < content_count (every im a) → IsKept k b
    directory_kept a parent over at sound p j level first b leads within = elim (cases_Bool (is_hashed_in (every im a))) [
      | inl hashed ↦ (over hashed).content p j level first b leads within
      | inr plain ↦
          let directory = records_directory im a sound.counts.records sound.counts.are in
          absurd (high_led (every im a) p j level first b leads (at.sized.linear directory.dir plain).height)
    ]

    table_taken : (a : ℕ) → IsListing (layout_of system) a → (p j level first b : ℕ) → Leads (every im a) p j level first b → first < content_count (every im a) → IsTaken k b
    table_taken _ the_master p j level first b leads within =
        taken_kept k b (directory_kept system.superblock.master.address system.superblock.master.address read.master looked.master_looked looked.master_sound p j level first b leads within)
    table_taken _ the_rindex p j level first b leads within = taken_kept k b (read.rindex p j level first b leads within)
    table_taken _ the_jindex p j level first b leads within = taken_kept k b (directory_kept system.jindex (master_of im) read.jindex looked.journals.looked looked.journals.sound p j level first b leads within)

    leaf_taken : (a : ℕ) → IsListing (layout_of system) a → (by b hash place : ℕ) → Claims im by b (Chained a hash place) → IsTaken k b
    leaf_taken _ the_master by b hash place claim = (read.master (leaf_is_hashed im by b system.superblock.master.address hash place claim)).leaves by b hash place claim
    leaf_taken _ the_rindex by b hash place claim =
        let sized = looked.rindex_looked.sized.hashed (leaf_is_hashed im by b system.rindex hash place claim) in
        absurd (no_entries (depth_in (every im system.rindex)) (ap (λ n. n % 96) (sym sized.size) ∙ looked.names.groups.list.whole))
    leaf_taken _ the_jindex by b hash place claim = (read.jindex (leaf_is_hashed im by b system.jindex hash place claim)).leaves by b hash place claim

    pub listing_taken : (b : ℕ) → IsListingBlock im (layout_of system) b → IsTaken k b
    listing_taken b (led_to d p j level first of leads within) = table_taken d of p j level first b leads within
    listing_taken b (a_leaf d by hash place of claim) = leaf_taken d of by b hash place claim

  module _ (old k : Kept) (dinodes : HasDinodes im k system) (read : HasReadSystem im k system) (kept : All (λ (r : Ring). IsKept k r.dinode) rings)
      (ways : All (λ (r : Ring). AreKeptWays im k r.dinode r.blocks.items) rings) (marked : AreMarked old k (all_places rings)) where
    place_taken : (i p b : ℕ) (ring : Ring) → slice_get rings i ≡ Some ring → slice_get ring.blocks.items p ≡ Some b → IsTaken k b
    place_taken i p b ring at there =
        let some : 1 ≤ marks_of k b = omega (arith, marked b, times_among rings i p b ring at there) in
        of_place (marked_true (slice_get k.places b) some)

    ring_taken : (i : ℕ) (ring : Ring) → slice_get rings i ≡ Some ring → (p j level first b : ℕ) → Leads (every im ring.dinode) p j level first b → first < content_count (every im ring.dinode) → IsTaken k b
    ring_taken i ring at p j level first b leads within = by level leads
      where
        d : ℕ
        d = ring.dinode

        of : IsRingOf im ring.dinode ring.blocks.items
        of = ring_at i ring at

        low : (l : ℕ) → Leads (every im ring.dinode) p j l first b → first < (ring_of (every im ring.dinode)).places
        low l led = first_place im ring.dinode (ring_of (every im ring.dinode)).places of.places p j l first b led within

        long : length ring.blocks.items ≡ (ring_of (every im ring.dinode)).places
        long = ap length of.are.all ∙ length-map-range_with_len (content_block (every im ring.dinode)) 0 (ring_of (every im ring.dinode)).places

        by : (l : ℕ) → Leads (every im ring.dinode) p j l first b → IsTaken k b
        by zero led =
            place_taken i first b ring at
            (block_there im ring.dinode (ring_of (every im ring.dinode)).places ring.blocks.items first of.are (low zero led) ∙ ap Some (block_led (every im ring.dinode) p j first b led))
        by (suc l) led =
            taken_kept k b
            (way_led k (every im ring.dinode) p j l first b of.places.large led
            (all_at (λ (r : Ring). AreKeptWays im k r.dinode r.blocks.items) rings i ring ways at first (subst (λ n. first < n) (sym long) (low (suc l) led))))

    content_taken : (d p j level first b : ℕ) → IsFileOf system rings d → Leads (every im d) p j level first b → first < content_count (every im d) → IsTaken k b
    content_taken d p j level first b (a_listing of) leads within = table_taken k read d of p j level first b leads within
    content_taken d p j level first b (a_ring i ring at e) leads within =
        subst (λ x. Leads (every im x) p j level first b → first < content_count (every im x) → IsTaken k b) e (λ leads within. ring_taken i ring at p j level first b leads within) leads within

    leaf_read : (d by b hash place : ℕ) → IsFileOf system rings d → Claims im by b (Chained d hash place) → IsTaken k b
    leaf_read d by b hash place (a_listing of) claim = leaf_taken k read d of by b hash place claim
    leaf_read d by b hash place (a_ring i ring at e) claim =
        absurd (no_table im ring.dinode (ring_of (every im ring.dinode)).places (ring_at i ring at).places (subst (λ x. is_hashed_in (every im x) ≡ true) (sym e) (leaf_is_hashed im by b d hash place claim)))

    listing_kept : (d : ℕ) → IsListing (layout_of system) d → IsKept k d
    listing_kept _ the_master = subst (IsKept k) (sym (ap (λ (s : SuperBlock). s.master.address) looked.superblock)) dinodes.master
    listing_kept _ the_rindex = dinodes.rindex
    listing_kept _ the_jindex = dinodes.jindex

    dinode_kept : (d : ℕ) → IsFileOf system rings d → IsKept k d
    dinode_kept d (a_listing of) = listing_kept d of
    dinode_kept d (a_ring i ring at e) = subst (IsKept k) e (all_at (λ (r : Ring). IsKept k r.dinode) rings i ring kept at)

    pub block_taken : (b : ℕ) → IsSystemBlock im b → IsTaken k b
    block_taken b (of_superblock e) = taken_kept k b (subst (IsKept k) (sym e) read.superblock)
    block_taken b (of_dinode file) = taken_kept k b (dinode_kept b (file_of b file))
    block_taken b (of_content d p j level first file leads within) = content_taken d p j level first b (file_of d file) leads within
    block_taken b (of_leaf d by hash place file claim) = leaf_read d by b hash place (file_of d file) claim

-- ---- images of which a disk shows the system files

pub shows_own : (s : DiskState) → IsTrue s.tells → ShowsSystem s (image_of s)
shows_own s tells = record { tells = tells; size = refl; count = refl; same = λ b is. refl }

pub shows_same : (s : DiskState) (im : Image) → IsTrue s.tells → HasSameSystem (image_of s) im → ((d : ℕ) → IsSystemFile (image_of s) d → IsSystemFile im d → Fits (every (image_of s) d) ⊎ Fits (every im d)) → ShowsSystem s im
shows_same s im tells same fits = record { tells = tells; size = same.size; count = same.count; same = λ b is. same.same b (system_back (image_of s) im same fits b is) }

-- the system files of an image that stands fit their dinodes
pub laid_fits : (im : Image) (o : Owners) (l : Layout) → IsLaid im o l → (d : ℕ) → IsSystemFile im d → Fits (every im d)
laid_fits im o l laid d file = record {
  low = elim (cases_lt 10 (height_in (every im d))) [ inl high ↦ absurd (nothing 8 d (too_high d (file_inode im d file) high)) | inr low ↦ low ];
  stuffed = λ none. elim (cases_lt im.size (dinode_length + (dinode_in (every im d)).size)) [
    | inl large ↦ absurd (nothing 8 d (too_large_for_dinode d (file_inode im d file) none large))
    | inr fit ↦ fit
  ];
  under = λ level high. elim (cases_lt (fan im.size dinode_length * span im.size level) (content_count (every im d))) [
    | inl large ↦ absurd (nothing 8 d (too_large_for_height d level (file_inode im d file) high large))
    | inr fit ↦ fit
  ];
}
  where
    nothing : (rule b : ℕ) → Breaks im rule b → ⊥
    nothing = laid_breaks_nothing im o l laid

-- what is mounted of each image of which the disk shows the system files
module _ (s : DiskState) (m : MountedValue) (all : (im : Image) → ShowsSystem s im → IsMounted im m × ((d : ℕ) → IsSystemFile im d → Fits (every im d))) where
  pub is_mounted : IsTrue s.tells → IsMounted (image_of s) m
  is_mounted tells = (all (image_of s) (shows_own s tells)).0

  pub is_alike : (im : Image) → HasSameBlocks s m.system im → IsMounted im m
  is_alike im blocks =
      let own = all (image_of s) (shows_own s blocks.tells) in
      let same : HasSameSystem (image_of s) im = record { size = blocks.size; count = blocks.count; same = λ b is. blocks.same b ((own.0.system b).1 is) } in
      (all im (shows_same s im blocks.tells same (λ d is is'. inl (own.1 d is)))).0
