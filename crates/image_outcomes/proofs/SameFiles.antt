-- Images that have the system files of one that stands.
use Rattle.std.proofs.Common.{◌≡◌, ◌≤◌, ℕ, suc, ◌/◌, ◌<◌, true, refl, sym, ap, subst, ◌∙◌, inl, inr, arith}
use Rattle.std.specs.Prelude.{◌↔◌, codes, List}
use Rattle.gfs2_layout.specs.Device.{superblock_place}
use Rattle.gfs2_layout.specs.Inode.{Fits, Leads, IsInode, content_block, content_count, content_of, height_in}
use Rattle.gfs2_layout.specs.Structures.{superblock_of}
use Rattle.gfs2_layout.specs.declared.dinode.Dinode.{Dinode}
use Rattle.gfs2_layout.specs.declared.rindex.Rindex.{Rindex}
use Rattle.image_model.specs.Claims.{every, HasGroup, HasInode, HasJournal, IsJindex, IsRindex, LeadsTo, master_of}
use Rattle.image_model.specs.Groups.{IsListed, groups_in}
use Rattle.image_model.specs.Image.{Blocks, Image}
use Rattle.image_model.specs.Journals.{IsJournal, journal_name}
use Rattle.image_model.specs.Owners.{Below, Owners, holding, is_dinode}
use Rattle.image_model.specs.Replays.{HasItsJournals}
use Rattle.image_model.specs.Stands.{IsJournalAt, IsLaid, Layout}
use Rattle.image_model.specs.SystemFiles.{HasSameSystem, IsSystemBlock, IsSystemFile, is_jindex, is_journal, is_master, is_rindex, of_content, of_dinode, of_superblock}
use Rattle.image_model.proofs.Facts.{child_leads, has_jindex, has_rindex, jindex_is, journal_is, list_is, master_is, rindex_is}
use Rattle.image_model.proofs.Held.{pointed_owner}
use Rattle.image_model.proofs.Lengths.{place_high, place_is, place_low, places_same, size_large}
use Rattle.image_model.proofs.Replaying.{journals_of_standing}
use Rattle.image_model.proofs.Same.{IsReached, content_block_is, count_same, dinode_same}
use Rattle.image_model.proofs.SystemStays.{file_inode, system_back, system_there}
use Rattle.image_model.proofs.UnbrokenInodes.{height_low, stuffed_fits, under_fits}
use Rattle.journal_outcomes.specs.Images.{ring_at}
use Rattle.log_layout.specs.Journal.{ring_of}
use Rattle.image_recovery.proofs.Alike.{content_is_same, place_same}
use Rattle.image_recovery.proofs.Alike.{dinode_same as dinode_alike}
use Rattle.image_recovery.proofs.Names.{AreAlike, led_back, led_there, system_block, with_blocks}

-- The other image finds the journals and the groups of this layout, and has the same system files.
pub record HasSameFiles (im : Image) (m : Layout) (other : Image) : Type 0 where
  pub size : other.size ≡ im.size
  pub count : other.count ≡ im.count
  pub journals : HasItsJournals other m
  pub groups : (r : Rindex) → HasGroup other r ↔ IsListed m.groups r
  pub system : (b : ℕ) → IsSystemBlock other b ↔ IsSystemBlock im b
  pub many : (j d : ℕ) → IsJournalAt m j d → (ring_at other d).places ≡ (ring_at im d).places
  pub place : (j d p : ℕ) → IsJournalAt m j d → p < (ring_at im d).places → content_block (every other d) p ≡ content_block (every im d) p

module _ (im : Image) (o : Owners) (m : Layout) (laid : IsLaid im o m) where
  pub fits : (d : ℕ) → IsSystemFile im d → Fits (every im d)
  fits d file =
      let has = file_inode im d file in
      record { low = height_low im o m laid d has; stuffed = stuffed_fits im o m laid d has; under = under_fits im o m laid d has }

  master_file : IsSystemFile im m.master
  master_file = is_master (sym (master_is im o m laid))

  rindex_file : IsSystemFile im m.rindex
  rindex_file = is_rindex (has_rindex im o m laid)

  jindex_file : IsSystemFile im m.jindex
  jindex_file = is_jindex (has_jindex im o m laid)

  has_journal : (j d : ℕ) → IsJournalAt m j d → HasJournal im j d
  has_journal = (journals_of_standing im o m laid).there

  wide : 512 ≤ im.size
  wide = size_large im.size laid.image.block_size

  -- ---- a journal's places

  module _ (j d : ℕ) (at : IsJournalAt m j d) where
    pub its_inode : (is_dinode (o d) ≡ true) × IsJournal (holding im o d)
    its_inode = journal_is im o m laid j d (has_journal j d at)

    sound : IsInode (holding im o d)
    sound = laid.inodes d its_inode.0

    pub as_held : (ring_of (holding im o d)).places ≡ (ring_at im d).places
    as_held = places_same im o wide d its_inode.0 sound its_inode.1

    module _ (p : ℕ) (low : p < (ring_at im d).places) where
      pub low_held : p < (ring_of (holding im o d)).places
      low_held = subst (λ n. p < n) (sym as_held) low

      high_held : (level : ℕ) × (height_in (holding im o d) ≡ suc level)
      high_held = place_high im o wide d its_inode.0 sound its_inode.1 p low_held

      within_held : p < content_count (holding im o d)
      within_held = place_low im o wide d its_inode.0 sound its_inode.1 p low_held

      pub place_held : content_block (holding im o d) p ≡ content_block (every im d) p
      place_held = (place_is im o wide d its_inode.0 sound its_inode.1 p low_held).0

      -- its block is one of the journal's blocks of content
      pub place_row : (above k first : ℕ) × (o (content_block (every im d) p) ≡ Below d above k 0 first)
      place_row = by (content_block_is im o d its_inode.0 sound high_held.0 high_held.1 p (let inside = within_held in omega (arith, inside, sound.fits.under high_held.0 high_held.1))).0
        where
          by : IsReached (holding im o d) 0 (content_block (holding im o d) p) → (above k first : ℕ) × (o (content_block (every im d) p) ≡ Below d above k 0 first)
          by (inl none) = absurd (its_inode.1.filled p low_held none)
          by (inr g) = (g.0, g.1, g.2, sym (ap o place_held) ∙ pointed_owner im o d (content_block (holding im o d) p) g.0 g.1 0 g.2 g.3)

      high : height_in (every im d) ≡ suc high_held.0
      high = ap (λ (x : Dinode). x.height) (sym (dinode_same im o d its_inode.0 sound)) ∙ high_held.1

      within : p < content_count (every im d)
      within = subst (λ n. p < n) (count_same im o d its_inode.0 sound) within_held

  -- ---- another image with the same blocks of the system files

  module _ (g : Blocks) (same : (b : ℕ) → IsSystemBlock im b → im.at b ≡ g b) where
    abbrev other : Image
    other = with_blocks im g

    alike : (d : ℕ) → IsSystemFile im d → AreAlike im g d
    alike d file b of = same b (system_block im d file b of)

    master_same : master_of other ≡ m.master
    master_same = ap (λ bs. (superblock_of bs).master.address) (sym (same (superblock_place im.size) (of_superblock refl))) ∙ master_is im o m laid

    master_there : HasInode other m.master
    master_there = file_inode other m.master (is_master (sym master_same))

    from_master : (name : List ℕ) (d : ℕ) → LeadsTo im (master_of im) name d → LeadsTo other (master_of other) name d
    from_master name d way =
        subst (λ a. LeadsTo other a name d) (sym master_same)
        (led_there im g m.master (fits m.master master_file) (alike m.master master_file) master_there name d (subst (λ a. LeadsTo im a name d) (master_is im o m laid) way))

    to_master : (name : List ℕ) (d : ℕ) → LeadsTo other (master_of other) name d → LeadsTo im (master_of im) name d
    to_master name d way =
        subst (λ a. LeadsTo im a name d) (sym (master_is im o m laid))
        (led_back im g m.master (fits m.master master_file) (alike m.master master_file) (file_inode im m.master master_file) name d (subst (λ a. LeadsTo other a name d) master_same way))

    jindex_there : IsJindex other m.jindex
    jindex_there = from_master (codes "jindex") m.jindex (has_jindex im o m laid)

    rindex_there : IsRindex other m.rindex
    rindex_there = from_master (codes "rindex") m.rindex (has_rindex im o m laid)

    jindex_one : (d : ℕ) → IsJindex other d → d ≡ m.jindex
    jindex_one d way = jindex_is im o m laid d (to_master (codes "jindex") d way)

    rindex_one : (d : ℕ) → IsRindex other d → d ≡ m.rindex
    rindex_one d way = rindex_is im o m laid d (to_master (codes "rindex") d way)

    journal_there : (j d : ℕ) → IsJournalAt m j d → HasJournal other j d
    journal_there j d at = (
      m.jindex,
      jindex_there,
      led_there im g m.jindex (fits m.jindex jindex_file) (alike m.jindex jindex_file) (file_inode other m.jindex (is_jindex jindex_there)) (journal_name j) d
          (child_leads im o m laid m.jindex (journal_name j) d (laid.system.journals j d at)),
    )

    journal_back : (j d : ℕ) → HasJournal other j d → HasJournal im j d
    journal_back j d has = (
      m.jindex,
      has_jindex im o m laid,
      led_back im g m.jindex (fits m.jindex jindex_file) (alike m.jindex jindex_file) (file_inode im m.jindex jindex_file) (journal_name j) d
          (subst (λ a. LeadsTo other a (journal_name j) d) (jindex_one has.0 has.1) has.2),
    )

    list_same : groups_in (content_of (every other m.rindex)) ≡ m.groups
    list_same =
        ap groups_in (sym (content_is_same im.size im.count im.at g m.rindex (fits m.rindex rindex_file) (same m.rindex (of_dinode rindex_file))
        (λ p k level first c leads within. same c (of_content m.rindex p k level first rindex_file leads within))))
        ∙ list_is im o m laid

    groups_same : (r : Rindex) → HasGroup other r ↔ IsListed m.groups r
    groups_same r = (
      λ has. subst (λ gs. IsListed gs r) (ap (λ d. groups_in (content_of (every other d))) (rindex_one has.0 has.1) ∙ list_same) has.2,
      λ at. (m.rindex, rindex_there, subst (λ gs. IsListed gs r) (sym list_same) at),
    )

    has_same : HasSameSystem im other
    has_same = record { size = refl; count = refl; same = λ b of. sym (same b of) }

    module _ (j d : ℕ) (at : IsJournalAt m j d) where
      file : IsSystemFile im d
      file = is_journal j (has_journal j d at)

      ways : (p k level first c i : ℕ) → Leads (every im d) p k (suc level) first c → first < content_count (every im d) → Unit {0} → im.at c ≡ g c
      ways p k level first c i leads inside off = same c (of_content d p k (suc level) first file leads inside)

      many_same : (ring_at other d).places ≡ (ring_at im d).places
      many_same = ap (λ (x : Dinode). x.size / im.size) (sym (dinode_alike im.size im.count im.at g d (fits d file) (same d (of_dinode file)) (λ level c i. Unit {0}) (λ level c i off. tt) ways))

      place_there : (p : ℕ) → p < (ring_at im d).places → content_block (every other d) p ≡ content_block (every im d) p
      place_there p low =
          sym (place_same im.size im.count im.at g d (fits d file) (same d (of_dinode file)) (λ level c i. Unit {0}) (λ level c i off. tt) ways (high_held j d at p low).0 (high j d at p low) p (within j d at p low) tt).0

    files_same : HasSameFiles im m other
    files_same = record {
      size = refl;
      count = refl;
      journals = record { there = journal_there; all = λ j d has most. (journals_of_standing im o m laid).all j d (journal_back j d has) most };
      groups = groups_same;
      system = λ b. (system_back im other has_same (λ d here there. inl (fits d here)) b, system_there im other has_same (λ d here there. inl (fits d here)) b);
      many = many_same;
      place = λ j d p at low. place_there j d at p low;
    }

  -- so it is with each image that has the blocks of the system files
  pub same_files : (other : Image) → HasSameSystem im other → HasSameFiles im m other
  same_files other has = subst (HasSameFiles im m) (λ i. record { size = sym has.size i; count = sym has.count i; at = other.at }) (files_same other.at (λ b of. sym (has.same b of)))
