-- The image that a replay leaves stands for the tree for which the replayed image stands.
use Rattle.std.proofs.Common.{◌≡◌, ◌≢◌, ◌⊎◌, inl, inr, ℕ, suc, ◌/◌, ◌≤◌, ◌<◌, true, length, Option, None, Some, refl, sym, ap, subst, ◌∙◌, arith}
use Rattle.std.specs.Prelude.{◌==◌, if◌then◌else◌}
use Rattle.std.proofs.lemmas.Bool.{cases_eq, cond-false, ne_eqb}
use Rattle.file_tree.specs.Tree.{Tree}
use Rattle.gfs2_layout.specs.Device.{superblock_place}
use Rattle.gfs2_layout.specs.Holding.{Part, Pointed, bytes_at, cell_bytes, cell_part, part_at}
use Rattle.gfs2_layout.specs.Inode.{Leads, content_block, content_count, content_of, dinode_in}
use Rattle.gfs2_layout.specs.Structures.{dinode_of}
use Rattle.gfs2_layout.specs.declared.dinode.Dinode.{Dinode}
use Rattle.image_model.specs.Claims.{every, IsRindex}
use Rattle.image_model.specs.Groups.{groups_in}
use Rattle.image_model.specs.Image.{Image}
use Rattle.image_model.specs.Journals.{IsJournal}
use Rattle.image_model.specs.Owners.{Below, Owner, Owners, IsUsed, Super, cell_in, cell_of, holding, is_dinode, part_in}
use Rattle.image_model.specs.Replays.{HasItsJournals, StandsReplayed}
use Rattle.image_model.specs.Flat.{ReadsAs}
use Rattle.image_model.specs.Stands.{IsJournalAt, IsLaid, Layout, Stands, flat_of}
use Rattle.image_model.specs.SystemFiles.{IsSystemBlock, is_journal, is_rindex, of_content, of_dinode, of_superblock}
use Rattle.image_model.proofs.Facts.{journal_is, list_of}
use Rattle.image_model.proofs.Held.{block_same, none_some, own_block, own_part, pointed_owner, pointed_part}
use Rattle.image_model.proofs.Lengths.{place_is, places_same, size_large}
use Rattle.image_model.proofs.Lengths.{place_high as held_high, place_low as held_low}
use Rattle.image_model.proofs.Reach.{used_low}
use Rattle.image_model.proofs.Replaying.{clean_stand, journals_of_standing, one_replay, same_journals}
use Rattle.image_model.proofs.Same.{IsReached, content_block_is}
use Rattle.image_model.proofs.SystemStays.{replay_keeps}
use Rattle.image_model.proofs.Unique.{unused_part, used_or_not}
use Rattle.image_changes.specs.Changes.{IsRingPlace}
use Rattle.image_changes.specs.Contents.{IsAsLarge, PlacesDoNotMatter, SameButContent}
use Rattle.image_changes.specs.Instances.{StandsBy}
use Rattle.image_changes.proofs.FileContent.{content_block_after}
use Rattle.image_mount.specs.Mounted.{IsMounted, MountedValue}
use Rattle.image_replays.proofs.System.{has_journal}
use Rattle.log_layout.specs.Journal.{ring_of}
use Rattle.log_layout.specs.Live.{IsReadable}
use Rattle.log_layout.specs.Laws.{HasSamePlaces}
use Rattle.log_layout.proofs.SamePlaces.{nothing_live, says_the_same}
use Rattle.image_recovery.specs.Left.{IsLeft, LeftStands, LeftStandsBy}
use Rattle.image_recovery.proofs.Alike.{content_is_same, dinode_same, place_same}
use Rattle.image_recovery.proofs.JournalPlaces.{place_high, place_within}
use Rattle.image_recovery.proofs.Names.{jindex_file, journals_there, master_file, rindex_is_there, system_block, with_blocks}

-- ---- an inode of two images, of which one has other bytes in the places of journals

module _ (im im' : Image) (o : Owners) (l : Layout) (large : IsAsLarge im im') (bytes : (b : ℕ) → (im'.at b ≡ im.at b) ⊎ IsRingPlace o l b) (laid : IsLaid im o l) (d : ℕ) where
  part_none : (a : ℕ) (p : Part) → a ≢ d → (if a == d then Some p else None) ≡ None
  part_none a p apart = cond-false _ (Some p) None (ne_eqb a d apart)

  same_parts : (b : ℕ) → part_at (holding im' o d) b ≡ part_at (holding im o d) b
  unfolding cell_in
  same_parts b = each (part_in d b (o b))
    where
      each : (x : Option Part) → cell_part (cell_of x (im'.at b)) ≡ cell_part (cell_of x (im.at b))
      each None = refl
      each (Some p) = refl

  same_lengths : (b : ℕ) → length (bytes_at (holding im' o d) b) ≡ length (bytes_at (holding im o d) b)
  unfolding cell_in
  same_lengths b = each (part_in d b (o b)) refl
    where
      each : (x : Option Part) → part_in d b (o b) ≡ x → length (cell_bytes (cell_of x (im'.at b))) ≡ length (cell_bytes (cell_of x (im.at b)))
      each None e = refl
      each (Some p) e =
          let low = used_low im o l laid b (used_in (o b) e) in
          large.whole b low ∙ sym (laid.image.whole b low)
        where
          used_in : (x : Owner) → part_in d b x ≡ Some p → IsUsed x
          used_in x e = elim (used_or_not x) [ inl used ↦ used | inr un ↦ absurd (none_some (sym (unused_part d b x un) ∙ e)) ]

  same_bytes : (b : ℕ) → ((above k first : ℕ) → part_at (holding im o d) b ≢ Some (Pointed above k 0 first)) → bytes_at (holding im' o d) b ≡ bytes_at (holding im o d) b
  unfolding cell_in
  same_bytes b not = elim (bytes b) [
    | inl e ↦ ap (λ x. cell_bytes (cell_of (part_in d b (o b)) x)) e
    | inr place ↦ elim (cases_eq place.1 d) [
      | inl e ↦ absurd (not place.2 place.3 place.4 (pointed_part im o d b place.2 place.3 0 place.4 (place.6 ∙ ap (λ z. Below z place.2 place.3 0 place.4) e)))
      | inr apart ↦
          let none : part_in d b (o b) ≡ None = ap (part_in d b) place.6 ∙ part_none place.1 _ apart in
          ap (λ x. cell_bytes (cell_of x (im'.at b))) none ∙ sym (ap (λ x. cell_bytes (cell_of x (im.at b))) none)
    ]
  ]

  same_content : SameButContent (holding im o d) (holding im' o d)
  same_content = record { size = large.size; count = large.count; own = refl; parts = same_parts; lengths = same_lengths; bytes = same_bytes }

  module _ (dinode : is_dinode (o d) ≡ true) (journal : IsJournal (holding im o d)) where
    -- each of its places is where it was
    pub place_kept : (p : ℕ) → p < (ring_of (holding im o d)).places → content_block (holding im' o d) p ≡ content_block (holding im o d) p
    place_kept p low =
        let wide = size_large im.size laid.image.block_size in
        let sound = laid.inodes d dinode in
        let high = held_high im o wide d dinode sound journal p low in
        let inside = held_low im o wide d dinode sound journal p low in
        content_block_after (holding im o d) (holding im' o d) journal.file (own_part im o d dinode) same_content sound high.0 high.1 p (omega (arith, inside, sound.fits.under high.0 high.1))

-- ---- the image that is left

module _ (im left : Image) (m : MountedValue) (is : IsMounted im m) (x : IsLeft im is.layout left) (o : Owners) (l : Layout) (laid : IsLaid x.replayed o l) where
  abbrev r : Image
  r = x.replayed

  pub system_same : (b : ℕ) → IsSystemBlock im b → im.at b ≡ r.at b
  system_same b of = sym ((replay_keeps im r is.layout x.is).same b of)

  -- the replayed image with the numbers of the first one
  abbrev pub alike : Image
  alike = with_blocks im r.at

  pub alike_is : alike ≡ r
  alike_is = λ i. record { size = sym x.is.size i; count = sym x.is.count i; at = r.at }

  its_journals : HasItsJournals r is.layout
  its_journals =
      subst (λ y. HasItsJournals y is.layout) alike_is
      (journals_there im m is r.at (system_same (superblock_place im.size) (of_superblock refl)) (λ b of. system_same b (system_block im is.layout.master (master_file im m is) b of))
      (λ b of. system_same b (system_block im is.layout.jindex (jindex_file im m is) b of)))

  pub there : (j d : ℕ) → IsJournalAt is.layout j d → IsJournalAt l j d
  there = same_journals r is.layout l its_journals (journals_of_standing r o l laid)

  pub back : (j d : ℕ) → IsJournalAt l j d → IsJournalAt is.layout j d
  back = same_journals r l is.layout (journals_of_standing r o l laid) its_journals

  wide : 512 ≤ r.size
  wide = size_large r.size laid.image.block_size

  pub wide_first : 512 ≤ im.size
  wide_first = subst (λ n. 512 ≤ n) x.is.size wide

  large : IsAsLarge r left
  large = record {
    size = x.size ∙ sym x.is.size;
    count = x.count ∙ sym x.is.count;
    whole = λ b low. elim (x.blocks b) [ inl same ↦ ap length same ∙ laid.image.whole b low | inr holds ↦ holds.whole ∙ sym x.is.size ];
  }

  -- ---- a journal

  module _ (j d : ℕ) (at : IsJournalAt is.layout j d) where
    own_same : im.at d ≡ r.at d
    own_same = system_same d (of_dinode (is_journal j (has_journal im m is j d at)))

    ways_same : (p k level first c i : ℕ) → Leads (every im d) p k (suc level) first c → first < content_count (every im d) → Unit {0} → im.at c ≡ r.at c
    ways_same p k level first c i leads within off = system_same c (of_content d p k (suc level) first (is_journal j (has_journal im m is j d at)) leads within)

    pub as_many : (ring_of (every r d)).places ≡ (ring_of (every im d)).places
    as_many =
        ap (λ y. (ring_of (every y d)).places) (sym alike_is)
        ∙ ap (λ (y : Dinode). y.size / im.size)
        (sym (dinode_same im.size im.count im.at r.at d (is.looked.journals j d at).dinode.fits own_same (λ level c i. Unit {0}) (λ level c i off. tt) ways_same))

    journal : (is_dinode (o d) ≡ true) × IsJournal (holding r o d)
    journal = journal_is r o l laid j d (its_journals.there j d at)

    many_held : (ring_of (holding r o d)).places ≡ (ring_of (every im d)).places
    many_held = places_same r o wide d journal.0 (laid.inodes d journal.0) journal.1 ∙ as_many

    module _ (p : ℕ) (low : p < (ring_of (every im d)).places) where
      place_replayed : content_block (every r d) p ≡ content_block (every im d) p
      place_replayed =
          let high = place_high im m is wide_first j d at p low in
          ap (λ y. content_block (every y d) p) (sym alike_is)
          ∙ sym (place_same im.size im.count im.at r.at d (is.looked.journals j d at).dinode.fits own_same (λ level c i. Unit {0}) (λ level c i off. tt) ways_same
          high.0 high.1 p (place_within im m is wide_first j d at p low) tt).0

      low_held : p < (ring_of (holding r o d)).places
      low_held = subst (λ n. p < n) (sym many_held) low

      place_held : content_block (holding r o d) p ≡ content_block (every im d) p
      place_held = (place_is r o wide d journal.0 (laid.inodes d journal.0) journal.1 p low_held).0 ∙ place_replayed

      -- its block is one of the journal's blocks of content
      ring_place : (above k first : ℕ) × (o (content_block (every im d) p) ≡ Below d above k 0 first)
      ring_place =
          let sound = laid.inodes d journal.0 in
          let high = held_high r o wide d journal.0 sound journal.1 p low_held in
          let inside = held_low r o wide d journal.0 sound journal.1 p low_held in
          let reached = (content_block_is r o d journal.0 sound high.0 high.1 p (omega (arith, inside, sound.fits.under high.0 high.1))).0 in
          by reached
        where
          by : IsReached (holding r o d) 0 (content_block (holding r o d) p) → (above k first : ℕ) × (o (content_block (every im d) p) ≡ Below d above k 0 first)
          by (inl none) = absurd (journal.1.filled p low_held none)
          by (inr g) = (g.0, g.1, g.2, sym (ap o place_held) ∙ pointed_owner r o d (content_block (holding r o d) p) g.0 g.1 0 g.2 g.3)

  pub places : (b : ℕ) → (left.at b ≡ r.at b) ⊎ IsRingPlace o l b
  places b = elim (x.blocks b) [
    | inl same ↦ inl same
    | inr holds ↦
        let place = holds.is in
        let ring = ring_place holds.journal place.dinode place.at holds.place place.low in
        inr (holds.journal, place.dinode, ring.0, ring.1, ring.2, there holds.journal place.dinode place.at, sym (ap o place.is) ∙ ring.3)
  ]

  -- ---- its superblock, and the list of groups

  pub super_left : left.at (superblock_place im.size) ≡ r.at (superblock_place im.size)
  super_left = elim (places (superblock_place im.size)) [
    | inl same ↦ same
    | inr ring ↦ absurd (not_below ring.1 ring.2 ring.3 ring.4 (sym row ∙ ring.6))
  ]
    where
      row : o (superblock_place im.size) ≡ Super
      row = laid.zoned.low (superblock_place im.size) (let same : superblock_place r.size ≡ superblock_place im.size = ap superblock_place x.is.size in omega (arith, same))

      not_below : (d above k first : ℕ) → Super ≡ Below d above k 0 first → ⊥
      not_below d above k first e = cc

  pub super_stays : left.at (superblock_place im.size) ≡ im.at (superblock_place im.size)
  super_stays = super_left ∙ sym (system_same (superblock_place im.size) (of_superblock refl))

  pub list_stays : groups_in (content_of (every im is.layout.rindex)) ≡ l.groups
  list_stays =
      let file = is_rindex is.found.groups.list.master.rindex in
      ap groups_in (content_is_same im.size im.count im.at r.at is.layout.rindex is.looked.rindex.dinode.fits (system_same is.layout.rindex (of_dinode file))
      (λ p k level first c leads within. system_same c (of_content is.layout.rindex p k level first file leads within)))
      ∙ ap (λ y. groups_in (content_of (every y is.layout.rindex))) alike_is
      ∙ list_of r o l laid is.layout.rindex (subst (λ y. IsRindex y is.layout.rindex) alike_is
      (rindex_is_there im m is r.at (system_same (superblock_place im.size) (of_superblock refl)) (λ b of. system_same b (system_block im is.layout.master (master_file im m is) b of))
      (λ b of. system_same b (system_block im is.layout.jindex (jindex_file im m is) b of))))

  -- ---- it can be read

  module _ (j d : ℕ) (at : IsJournalAt is.layout j d) where
    left_dinode : dinode_in (every left d) ≡ dinode_in (holding left o d)
    unfolding dinode_in
    left_dinode = ap dinode_of (sym (own_block left o d (journal j d at).0))

    left_place : (p : ℕ) → p < (ring_of (every im d)).places → content_block (every left d) p ≡ content_block (holding left o d) p
    left_place p low =
        x.places j d p at low ∙ sym (place_held j d at p low)
        ∙ sym (place_kept r left o l large places laid d (journal j d at).0 (journal j d at).1 p (low_held j d at p low))

    left_bytes : (p : ℕ) → p < (ring_of (every im d)).places → left.at (content_block (every left d) p) ≡ bytes_at (holding left o d) (content_block (holding left o d) p)
    left_bytes p low =
        let ring = ring_place j d at p low in
        let c = content_block (holding left o d) p in
        let owner : o c ≡ Below d ring.0 ring.1 0 ring.2 = ap o (sym (left_place p low) ∙ x.places j d p at low) ∙ ring.3 in
        ap left.at (left_place p low) ∙ sym (block_same left o d c (Pointed ring.0 ring.1 0 ring.2) (pointed_part left o d c ring.0 ring.1 0 ring.2 owner))

    left_rings : HasSamePlaces (ring_of (every left d)) (ring_of (holding left o d))
    left_rings = record {
      size = refl;
      places = ap (λ (y : Dinode). y.size / left.size) left_dinode;
      blocks = λ p low. left_bytes p (subst (λ n. p < n) (x.as_many j d at) low);
    }

    pub left_readable : IsReadable (ring_of (holding left o d))
    left_readable = (says_the_same (ring_of (every left d)) (ring_of (holding left o d)) left_rings).readable (nothing_live (ring_of (every left d)) (x.clean j d at)).readable

  readable : (j d : ℕ) → IsJournalAt l j d → IsReadable (ring_of (holding left o d))
  readable j d at = left_readable j d (back j d at)

  module _ (given : PlacesDoNotMatter) (t : Tree) (stands : StandsBy r o l t) where
    pub stands_by : StandsBy left o l t
    stands_by = (given r left o l t large places readable stands).0

-- ---- the law

stands_left : PlacesDoNotMatter → (im left : Image) (m : MountedValue) (is : IsMounted im m) (t : Tree) (x : IsLeft im is.layout left) → Stands x.replayed t → Stands left t × StandsReplayed left t
stands_left given im left m is t x s = (stands, clean_stand left t stands (λ j d at. x.clean j d (back im left m is x s.owners s.layout s.laid j d at)))
  where
    stands : Stands left t
    stands =
        let by = stands_by im left m is x s.owners s.layout s.laid given t (record { laid = s.laid; reads = s.reads }) in
        record { owners = s.owners; layout = s.layout; laid = by.laid; reads = by.reads }

pub left_stands : PlacesDoNotMatter → LeftStands
left_stands given im left m is t x replayed =
    stands_left given im left m is t x (subst (λ r. Stands r t) (one_replay im replayed.replayed x.replayed replayed.layout is.layout replayed.is x.is) replayed.stands)

pub left_stands_by : PlacesDoNotMatter → LeftStandsBy
left_stands_by given im left m is t x it =
    let one = one_replay im it.replayed x.replayed it.layout is.layout it.is x.is in
    let laid = subst (λ r. IsLaid r it.stands.owners it.stands.layout) one it.stands.laid in
    stands_by im left m is x it.stands.owners it.stands.layout laid given t (record { laid = laid; reads = subst (λ r. ReadsAs (flat_of r it.stands.owners) it.stands.layout.root t) one it.stands.reads })
