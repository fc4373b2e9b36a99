-- An image that stands, with other bytes in places of its journals.
use Rattle.std.proofs.Common.{◌≡◌, ◌⊎◌, ℕ, ◌-◌, ◌/◌, ◌<◌, true, false, sym, ap, subst, ◌∙◌, inl, inr, arith}
use Rattle.file_tree.specs.Tree.{Tree}
use Rattle.gfs2_layout.specs.Device.{superblock_place}
use Rattle.gfs2_layout.specs.Holding.{Pointed, bytes_at}
use Rattle.gfs2_layout.specs.Inode.{content_block, dinode_in, height_in}
use Rattle.gfs2_layout.specs.Structures.{dinode_of}
use Rattle.image_model.specs.Claims.{every, Claims, below}
use Rattle.image_model.specs.Image.{Image}
use Rattle.image_model.specs.Journals.{journal_name}
use Rattle.image_model.specs.Owners.{Below, Chained, Named, Owners, Up, holding, is_dinode, up_of}
use Rattle.image_model.specs.Stands.{IsJournalAt, IsLaid, Layout}
use Rattle.image_model.specs.SystemFiles.{IsSystemBlock, IsSystemFile, is_jindex, is_journal, is_master, is_rindex, of_content, of_dinode, of_leaf, of_superblock}
use Rattle.image_model.proofs.Facts.{child_leads, has_jindex, has_rindex, jindex_is, leads_row, master_is, rindex_is}
use Rattle.image_model.proofs.Held.{block_same, own_block, pointed_part}
use Rattle.image_model.proofs.Reach.{inode_claim, part_leads, used_claim}
use Rattle.image_model.proofs.Rows.{claim_row, sound}
use Rattle.image_model.proofs.SystemStays.{file_inode}
use Rattle.image_model.proofs.UnbrokenInodes.{within_end}
use Rattle.image_changes.specs.Changes.{IsRingPlace}
use Rattle.image_changes.specs.Contents.{IsAsLarge, OnlyPlacesChange}
use Rattle.image_changes.specs.Instances.{StandsBy}
use Rattle.image_changes.proofs.Unminded.{places_do_not_matter}
use Rattle.image_recovery.proofs.LeftStanding.{place_kept}
use Rattle.journal_outcomes.specs.Images.{ring_at}
use Rattle.log_layout.specs.Journal.{Ring, ring_of}
use Rattle.log_layout.specs.Laws.{HasSamePlaces}
use Rattle.log_layout.specs.Live.{IsReadable}
use Rattle.log_layout.proofs.SamePlaces.{says_the_same}
use Rattle.image_outcomes.proofs.SameFiles.{as_held, its_inode, low_held, place_held, place_row}

-- ---- two images that one table lays out have the same system files

module _ (im im' : Image) (o : Owners) (m : Layout) (laid : IsLaid im o m) (laid' : IsLaid im' o m) (size : im'.size ≡ im.size) where
  file_stays : (d : ℕ) → IsSystemFile im' d → IsSystemFile im d
  file_stays d (is_master e) = is_master (e ∙ master_is im' o m laid' ∙ sym (master_is im o m laid))
  file_stays d (is_rindex way) = subst (IsSystemFile im) (sym (rindex_is im' o m laid' d way)) (is_rindex (has_rindex im o m laid))
  file_stays d (is_jindex way) = subst (IsSystemFile im) (sym (jindex_is im' o m laid' d way)) (is_jindex (has_jindex im o m laid))
  file_stays d (is_journal j has) = is_journal j (m.jindex, has_jindex im o m laid, child_leads im o m laid m.jindex (journal_name j) d (laid.names d up (ap up_of row)))
    where
      up : Up
      up = record { parent = m.jindex; name = journal_name j }

      row : o d ≡ Named m.jindex (journal_name j)
      row = leads_row im' o m laid' m.jindex (journal_name j) d (has.2.0, subst (λ a. Claims im' has.2.0 d (Named a (journal_name j))) (jindex_is im' o m laid' has.0 has.1) has.2.1)

  pub system_by_table : (b : ℕ) → IsSystemBlock im' b → IsSystemBlock im b
  system_by_table b (of_superblock e) = of_superblock (e ∙ ap superblock_place size)
  system_by_table b (of_dinode file) = of_dinode (file_stays b file)
  system_by_table b (of_content d p k level first file leads within) =
      let has = file_inode im' d file in
      let row : o b ≡ Below d p k level first = claim_row im' o m laid' p b (Below d p k level first) (below has.1.by d has.0 p k level first b has.1.claimed has.1.dinode leads) in
      let dinode : is_dinode (o d) ≡ true = ap is_dinode (claim_row im' o m laid' has.1.by d has.0 has.1.claimed) ∙ has.1.dinode in
      let part = pointed_part im o d b p k level first row in
      let low = (sound im o m laid d dinode).tree.below b p k level first part in
      let leads' = part_leads im o m laid d dinode (inode_claim im o m laid d dinode) (height_in (holding im o d) - level) level b p k first (omega (arith, low)) part in
      of_content d p k level first (file_stays d file) leads' (within_end im o m laid d (file_inode im d (file_stays d file)) p k level first b leads')
  system_by_table b (of_leaf d by hash place file claim) =
      let claims = used_claim im o m laid b (Chained d hash place) (claim_row im' o m laid' by b (Chained d hash place) claim) tt in
      of_leaf d claims.0 hash place (file_stays d file) claims.1

-- ---- other bytes in places of journals

module _ (im im' : Image) (o : Owners) (m : Layout) (t : Tree) (by : StandsBy im o m t) (large : IsAsLarge im im') (bytes : (b : ℕ) → (im'.at b ≡ im.at b) ⊎ IsRingPlace o m b) where
  -- a journal of the other image, by the places that it has in the first one
  abbrev pub ring_by : ℕ → Ring
  ring_by d = record { size = im.size; places = (ring_at im d).places; at = λ p. im'.at (content_block (every im d) p) }

  not_place : (d a above k first : ℕ) → is_dinode (o d) ≡ true → o d ≡ Below a above k 0 first → ⊥
  not_place d a above k first dinode row = let no : false ≡ true = sym (ap is_dinode row) ∙ dinode in cc

  module _ (j d : ℕ) (at : IsJournalAt m j d) where
    inode : is_dinode (o d) ≡ true
    inode = (its_inode im o m by.laid j d at).0

    own_same : im'.at d ≡ im.at d
    own_same = elim (bytes d) [ inl e ↦ e | inr place ↦ absurd (not_place d place.1 place.2 place.3 place.4 inode place.6) ]

    dinode_held : dinode_in (holding im' o d) ≡ dinode_in (holding im o d)
    unfolding dinode_in
    dinode_held = ap dinode_of (own_block im' o d inode ∙ own_same ∙ sym (own_block im o d inode))

    block_held : (p : ℕ) → p < (ring_at im d).places → im'.at (content_block (every im d) p) ≡ bytes_at (holding im' o d) (content_block (holding im' o d) p)
    block_held p low =
        let kept : content_block (holding im' o d) p ≡ content_block (every im d) p =
        place_kept im im' o m large bytes by.laid d inode (its_inode im o m by.laid j d at).1 p (low_held im o m by.laid j d at p low) ∙ place_held im o m by.laid j d at p low in
        let row = place_row im o m by.laid j d at p low in
        let c = content_block (holding im' o d) p in
        let owner : o c ≡ Below d row.0 row.1 0 row.2 = ap o kept ∙ row.3 in
        ap im'.at (sym kept) ∙ sym (block_same im' o d c (Pointed row.0 row.1 0 row.2) (pointed_part im' o d c row.0 row.1 0 row.2 owner))

    ring_held : HasSamePlaces (ring_by d) (ring_of (holding im' o d))
    ring_held = record {
      size = sym large.size;
      places = sym (as_held im o m by.laid j d at) ∙ (λ i. (sym dinode_held i).size / sym large.size i);
      blocks = block_held;
    }

    pub readable_held : IsReadable (ring_by d) → IsReadable (ring_of (holding im' o d))
    readable_held = (says_the_same (ring_by d) (ring_of (holding im' o d)) ring_held).readable

  module _ (readable : (j d : ℕ) → IsJournalAt m j d → IsReadable (ring_by d)) where
    after : StandsBy im' o m t × OnlyPlacesChange im im' o m
    after = places_do_not_matter im im' o m t large bytes (λ j d at. readable_held j d at (readable j d at)) by

    -- where each can be read, it stands for the same tree
    pub stands_still : StandsBy im' o m t
    stands_still = after.0

    -- and the places of the journals are where they were
    pub many_still : (j d : ℕ) → IsJournalAt m j d → (ring_at im' d).places ≡ (ring_at im d).places
    many_still j d at = sym (as_held im' o m after.0.laid j d at) ∙ after.1.as_many j d at ∙ as_held im o m by.laid j d at

    pub place_still : (j d p : ℕ) → IsJournalAt m j d → p < (ring_at im d).places → content_block (every im' d) p ≡ content_block (every im d) p
    place_still j d p at low =
        sym (place_held im' o m after.0.laid j d at p (subst (λ n. p < n) (sym (many_still j d at)) low)) ∙ after.1.places j d p at (low_held im o m by.laid j d at p low) ∙ place_held im o m by.laid j d at p low
