-- What was mounted is mounted of the image that a replay leaves, where that stands.
use Rattle.std.proofs.Common.{◌≡◌, inl, inr, ℕ, suc, ◌^◌, ◌<◌, true, Some, refl, sym, ap, subst, ◌∙◌, arith}
use Rattle.std.proofs.lemmas.Bool.{cases_Bool, true≢false}
use Rattle.file_tree.specs.Tree.{Tree}
use Rattle.gfs2_layout.specs.Device.{superblock_place}
use Rattle.gfs2_layout.specs.Inode.{Fits, Leads, content_count}
use Rattle.log_layout.specs.Journal.{head_in, ring_of}
use Rattle.log_layout.specs.declared.log_header.LogHeader.{LogHeader}
use Rattle.image_model.specs.Claims.{every, Claims, below}
use Rattle.image_model.specs.Image.{Image}
use Rattle.image_model.specs.Owners.{Below, Chained, Owner, Owners, is_dinode}
use Rattle.image_model.specs.Stands.{IsJournalAt, IsLaid, Layout, Stands}
use Rattle.image_model.specs.SystemFiles.{IsSystemFile, is_jindex, is_journal, is_master, is_rindex, of_content, of_dinode, of_superblock}
use Rattle.image_model.proofs.Facts.{has_dinode}
use Rattle.image_model.proofs.Replaying.{one_replay}
use Rattle.image_model.proofs.Rows.{claim_row}
use Rattle.image_model.proofs.SystemStays.{file_inode}
use Rattle.image_changes.specs.Changes.{IsRingPlace}
use Rattle.image_mount.specs.Mounted.{IsMounted, MountedValue}
use Rattle.image_replays.proofs.System.{has_journal, mounted_at}
use Rattle.image_recovery.specs.Left.{HaveLowHeads, IsLeft, IsMountedAs, LeftIsMounted}
use Rattle.image_recovery.proofs.LeftStanding.{alike_is, back, places, super_stays, system_same, wide_first}
use Rattle.image_recovery.proofs.MountedThere.{mounted_there}
use Rattle.image_recovery.proofs.Names.{AreAlike, IsBlockOf, jindex_file, jindex_is_there, journal_there, leaf, led, master_file, master_same, own, rindex_file, rindex_is_there, system_block, with_blocks}
use Rattle.image_recovery.proofs.There.{leaf_forth}
use Rattle.image_recovery.proofs.Ways.{leads_forth}

module _ (im left : Image) (m : MountedValue) (is : IsMounted im m) (x : IsLeft im is.layout left) (o : Owners) (l : Layout) (laid : IsLaid x.replayed o l) where
  -- the replayed image with the numbers of the first one
  abbrev r : Image
  r = with_blocks im x.replayed.at

  laid_alike : IsLaid r o l
  laid_alike = subst (λ y. IsLaid y o l) (sym (alike_is im left m is x o l laid)) laid

  super_same : im.at (superblock_place im.size) ≡ r.at (superblock_place im.size)
  super_same = system_same im left m is x o l laid (superblock_place im.size) (of_superblock refl)

  in_replayed : (d : ℕ) → IsSystemFile im d → AreAlike im r.at d
  in_replayed d file b of = system_same im left m is x o l laid b (system_block im d file b of)

  abbrev IsNoJournal : ℕ → Type 0
  IsNoJournal d = (j : ℕ) → IsJournalAt is.layout j d → ⊥

  -- ---- a file of both

  module _ (d : ℕ) (here : IsSystemFile im d) (there : IsSystemFile r d) (fits : Fits (every im d)) where
    dinode : is_dinode (o d) ≡ true
    dinode = has_dinode r o l laid_alike d (file_inode r d there)

    led_row : (p k level first c : ℕ) → Leads (every im d) p k level first c → first < content_count (every im d) → o c ≡ Below d p k level first
    led_row p k level first c leads within =
        let inode = file_inode r d there in
        let leads' = leads_forth im r.at d (in_replayed d here d (own refl)) fits (λ q n above start y leads within. in_replayed d here y (led q n (suc above) start leads within)) p k level first c leads within in
        claim_row r o l laid_alike p c (Below d p k level first) (below inode.1.by d inode.0 p k level first c inode.1.claimed inode.1.dinode leads')

    leaf_row : (by c hash place : ℕ) → Claims im by c (Chained d hash place) → o c ≡ Chained d hash place
    leaf_row by c hash place claim =
        let it = leaf_forth im r.at d fits (in_replayed d here) (file_inode im d here) (file_inode r d there) by c hash place claim in
        claim_row r o l laid_alike it.0 c (Chained d hash place) it.1

    -- its dinode, and the blocks above its content, are no places of journals
    own_stays : im.at d ≡ left.at d
    own_stays = elim (places im left m is x o l laid d) [
      | inl same ↦ system_same im left m is x o l laid d (of_dinode here) ∙ sym same
      | inr ring ↦ absurd (true≢false (sym dinode ∙ ap is_dinode ring.6))
    ]

    above_stays : (p k level first c : ℕ) → Leads (every im d) p k (suc level) first c → first < content_count (every im d) → im.at c ≡ left.at c
    above_stays p k level first c leads within = elim (places im left m is x o l laid c) [
      | inl same ↦ system_same im left m is x o l laid c (of_content d p k (suc level) first here leads within) ∙ sym same
      | inr ring ↦ absurd (levels ring.1 ring.2 ring.3 ring.4 (sym (led_row p k (suc level) first c leads within) ∙ ring.6))
    ]
      where
        level_of : Owner → ℕ
        level_of (Below a b n above start) = above
        level_of _ = 0

        levels : (a b n start : ℕ) → Below d p k (suc level) first ≡ Below a b n 0 start → ⊥
        levels a b n start e = omega (arith, ap level_of e)

    -- nor is any block of a file that is no journal
    all_stay : IsNoJournal d → AreAlike im left.at d
    all_stay none b of = elim (places im left m is x o l laid b) [
      | inl same ↦ in_replayed d here b of ∙ sym same
      | inr ring ↦ absurd (no_place ring of)
    ]
      where
        owner_of : Owner → ℕ
        owner_of (Below a b n above start) = a
        owner_of _ = 0

        no_place : IsRingPlace o l b → IsBlockOf im d b → ⊥
        no_place ring (own e) = true≢false (sym dinode ∙ ap is_dinode (ap o (sym e) ∙ ring.6))
        no_place ring (led p k level first leads within) =
            let same : d ≡ ring.1 = ap owner_of (sym (led_row p k level first b leads within) ∙ ring.6) in
            none ring.0 (subst (IsJournalAt is.layout ring.0) (sym same) (back im left m is x o l laid ring.0 ring.1 ring.5))
        no_place ring (leaf by hash place claim) = apart hash place ring.1 ring.2 ring.3 ring.4 (sym (leaf_row by b hash place claim) ∙ ring.6)
          where
            apart : (hash place a c n start : ℕ) → Chained d hash place ≡ Below a c n 0 start → ⊥
            apart hash place a c n start e = cc

  -- ---- the files

  master_there : IsSystemFile r is.layout.master
  master_there = is_master (sym (master_same im m is r.at super_same (in_replayed is.layout.master (master_file im m is)) (in_replayed is.layout.jindex (jindex_file im m is))))

  rindex_there : IsSystemFile r is.layout.rindex
  rindex_there = is_rindex (rindex_is_there im m is r.at super_same (in_replayed is.layout.master (master_file im m is)) (in_replayed is.layout.jindex (jindex_file im m is)))

  jindex_there : IsSystemFile r is.layout.jindex
  jindex_there = is_jindex (jindex_is_there im m is r.at super_same (in_replayed is.layout.master (master_file im m is)) (in_replayed is.layout.jindex (jindex_file im m is)))

  journal_is_there : (j d : ℕ) → IsJournalAt is.layout j d → IsSystemFile r d
  journal_is_there j d at = is_journal j (journal_there im m is r.at super_same (in_replayed is.layout.master (master_file im m is)) (in_replayed is.layout.jindex (jindex_file im m is)) j d at)

  -- the image that is left, with the numbers of the first one
  left_is : with_blocks im left.at ≡ left
  left_is = λ i. record { size = sym x.size i; count = sym x.count i; at = left.at }

  low_heads : HaveLowHeads m → (j d : ℕ) (head : LogHeader) → IsJournalAt is.layout j d → head_in (ring_of (every (with_blocks im left.at) d)) ≡ Some head → head.sequence < 2 ^ 63
  low_heads low j d now at headed =
      let journal = mounted_at im m is j d at in
      let here = ap (λ y. head_in (ring_of (every y d))) (sym left_is) ∙ headed in
      elim (cases_Bool journal.0.head.clean) [
        | inl clean ↦
            let same : now.sequence ≡ journal.0.head.sequence = ap (λ (h : LogHeader). h.sequence) (x.still j d journal.0.head now at journal.2.head here clean) in
            let was : journal.0.head.sequence < 2 ^ 63 = is.profile.sequence j d journal.0.head at journal.2.head in
            omega (arith, same, was)
        | inr dirty ↦
            let next = x.sequence j d journal.0.head now at journal.2.head here in
            let below = low j journal.0 journal.1 dirty in
            omega (arith, next, below)
      ]

  pub mounted_left : HaveLowHeads m → (m' : MountedValue) → IsMountedAs left m m' → IsMounted left m'
  mounted_left low m' told =
      let not = is.looked.own in
      subst (λ y. IsMounted y m') left_is
      (mounted_there im m is (wide_first im left m is x o l laid) left.at (sym (super_stays im left m is x o l laid))
      (all_stay is.layout.master (master_file im m is) master_there is.looked.master.dinode.fits (λ j at. (not j is.layout.master at).0 refl))
      (all_stay is.layout.rindex (rindex_file im m is) rindex_there is.looked.rindex.dinode.fits (λ j at. (not j is.layout.rindex at).1 refl))
      (all_stay is.layout.jindex (jindex_file im m is) jindex_there is.looked.jindex.dinode.fits (λ j at. (not j is.layout.jindex at).2 refl))
      (λ j d at. own_stays d (is_journal j (has_journal im m is j d at)) (journal_is_there j d at) (is.looked.journals j d at).dinode.fits)
      (λ j d at. above_stays d (is_journal j (has_journal im m is j d at)) (journal_is_there j d at) (is.looked.journals j d at).dinode.fits)
      (low_heads low) m' (subst (λ y. IsMountedAs y m m') (sym left_is) told))

mounts : (im left : Image) (before m : MountedValue) (is : IsMounted im before) (t : Tree) (x : IsLeft im is.layout left) → Stands x.replayed t → HaveLowHeads before → IsMountedAs left before m → IsMounted left m
mounts im left before m is t x s low told = mounted_left im left before is x s.owners s.layout s.laid low m told

pub left_is_mounted : LeftIsMounted
left_is_mounted im left before m is t x replayed low told =
    mounts im left before m is t x (subst (λ r. Stands r t) (one_replay im replayed.replayed x.replayed replayed.layout is.layout replayed.is x.is) replayed.stands) low told
