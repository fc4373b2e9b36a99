-- An image with the system files of one of the profile is of the profile.
use Rattle.std.proofs.Common.{◌≡◌, ◌⊎◌, ℕ, ◌^◌, ◌<◌, ◌≤◌, inl, inr, true, false, List, Some, refl, sym, ap, subst, ◌∙◌, arith}
use Rattle.gfs2_layout.specs.Device.{superblock_place}
use Rattle.gfs2_layout.specs.Structures.{superblock_of}
use Rattle.gfs2_layout.specs.declared.superblock.SuperBlock.{SuperBlock}
use Rattle.image_journals.specs.Shown.{IsIndex, jindex, master}
use Rattle.image_journals.proofs.Frames.{no_journal}
use Rattle.image_model.specs.Claims.{HasInode, HasJournal, LeadsTo, below}
use Rattle.image_model.specs.Image.{Image, superblock_in}
use Rattle.image_model.specs.Journals.{journal_name}
use Rattle.image_model.specs.Owners.{Below, Chained, Owners, Super, is_dinode}
use Rattle.image_model.specs.Profile.{IsInProfile}
use Rattle.image_model.specs.Stands.{IsJournalAt, IsLaid, Layout}
use Rattle.image_model.specs.SystemFiles.{IsSystemFile, is_jindex, is_master, of_superblock}
use Rattle.image_model.proofs.Facts.{child_leads, has_jindex, master_is}
use Rattle.image_model.proofs.Replaying.{journals_of_standing}
use Rattle.image_model.proofs.Rows.{claim_row}
use Rattle.image_model.proofs.SystemStays.{file_inode}
use Rattle.image_outcomes.proofs.SameFiles.{fits, place_row}
use Rattle.image_recovery.proofs.Names.{AreAlike, IsBlockOf, leaf, led, led_back, own, system_block}
use Rattle.journal_outcomes.specs.Images.{IsPlaceIn, ring_at}
use Rattle.log_layout.specs.Journal.{head_in}
use Rattle.log_layout.specs.declared.log_header.LogHeader.{LogHeader}
use Rattle.profile_limits.specs.Limits.{least_journal_blocks, most_blocks, most_journal_blocks}
use Rattle.kept_profiles.specs.Keeping.{KeepsSystem}

below_own : (a b p q k i level level' first first' : ℕ) → Below a p k level first ≡ Below b q i level' first' → a ≡ b
below_own a b p q k i level level' first first' e = cc

module _ (im : Image) (o : Owners) (l : Layout) (laid : IsLaid im o l) where
  -- a place is one of its journal's blocks
  row : (b : ℕ) (place : IsPlaceIn im l b) → (above k first : ℕ) × (o b ≡ Below place.dinode above k 0 first)
  row b place =
      let is = place_row im o l laid place.journal place.dinode place.at place.place place.low in
      (is.0, is.1, is.2, ap o (sym place.is) ∙ is.3)

  super_off : IsPlaceIn im l (superblock_place im.size) → ⊥
  super_off place = let r = row (superblock_place im.size) place in differ r.0 r.1 r.2 (sym (laid.zoned.low (superblock_place im.size) (omega arith)) ∙ r.3)
    where
      differ : (above k first : ℕ) → Super ≡ Below place.dinode above k 0 first → ⊥
      differ above k first e = cc

  -- so no place is a block of a directory by which the journals are found
  module _ (a : ℕ) (index : IsIndex l a) (file : IsSystemFile im a) where
    has : HasInode im a
    has = file_inode im a file

    dinode : is_dinode (o a) ≡ true
    dinode = ap is_dinode (claim_row im o l laid has.1.by a has.0 has.1.claimed) ∙ has.1.dinode

    not_its : (k : ℕ) (j : ℕ) → IsJournalAt l j k → a ≡ k → ⊥
    not_its k j at same = no_journal im o l laid a index j (subst (HasJournal im j) (sym same) ((journals_of_standing im o l laid).there j k at))

    pub off : (b : ℕ) → IsBlockOf im a b → IsPlaceIn im l b → ⊥
    off b (own e) place =
        let r = row b place in
        let no : false ≡ true = sym (ap is_dinode r.3) ∙ ap (λ n. is_dinode (o n)) e ∙ dinode in
        cc
    off b (led p k level first leads within) place =
        let r = row b place in
        let mine : o b ≡ Below a p k level first = claim_row im o l laid p b (Below a p k level first) (below has.1.by a has.0 p k level first b has.1.claimed has.1.dinode leads) in
        not_its place.dinode place.journal place.at (below_own a place.dinode p r.0 k r.1 level 0 first r.2 (sym mine ∙ r.3))
    off b (leaf by hash level claim) place =
        let r = row b place in
        differ r.0 r.1 r.2 (sym (claim_row im o l laid by b (Chained a hash level) claim) ∙ r.3)
      where
        differ : (above k first : ℕ) → Chained a hash level ≡ Below place.dinode above k 0 first → ⊥
        differ above k first e = cc

  master_file : IsSystemFile im l.master
  master_file = is_master (sym (master_is im o l laid))

  jindex_file : IsSystemFile im l.jindex
  jindex_file = is_jindex (has_jindex im o l laid)

  module _ (other : Image) (other_owners : Owners) (laid_other : IsLaid other other_owners l) (d : ℕ) (kept : KeepsSystem l d im other) (was : IsInProfile im l)
      (low : (j k : ℕ) (head : LogHeader) → IsJournalAt l j k → head_in (ring_at other k) ≡ Some head → head.sequence < 2 ^ 63) where
    super_same : superblock_in other ≡ superblock_in im
    super_same = ap (λ n. superblock_of (other.at (superblock_place n))) kept.size ∙ ap superblock_of (by (kept.same (superblock_place im.size) (of_superblock refl)))
      where
        by : (other.at (superblock_place im.size) ≡ im.at (superblock_place im.size)) ⊎ IsPlaceIn im l (superblock_place im.size) → other.at (superblock_place im.size) ≡ im.at (superblock_place im.size)
        by (inl e) = e
        by (inr place) = absurd (super_off place)

    -- a name leads from such a directory nowhere else than before
    led_home : (a : ℕ) → IsIndex l a → IsSystemFile im a → (name : List ℕ) (c : ℕ) → LeadsTo other a name c → LeadsTo im a name c
    led_home a index file name c way =
        led_back im other.at a (fits im o l laid a file) alike (file_inode im a file) name c
        (subst (λ z. LeadsTo z a name c) (λ i. record { size = kept.size i; count = kept.count i; at = other.at }) way)
      where
        alike : AreAlike im other.at a
        alike b of = elim (kept.same b (system_block im a file b of)) [ inl e ↦ sym e | inr place ↦ absurd (off a index file b of place) ]

    pub profile_kept : IsInProfile other l
    profile_kept = record {
      fs_format = ap (λ (x : SuperBlock). x.fs_format) super_same ∙ was.fs_format;
      multihost_format = ap (λ (x : SuperBlock). x.multihost_format) super_same ∙ was.multihost_format;
      bsize = ap (λ (x : SuperBlock). x.bsize) super_same ∙ was.bsize ∙ sym kept.size;
      bsize_shift = ap (λ (x : SuperBlock). 2 ^ x.bsize_shift) super_same ∙ was.bsize_shift ∙ sym kept.size;
      master = λ name c way. was.master name c (led_home l.master (master refl) master_file name c way);
      device = subst (λ n. n ≤ most_blocks) (sym kept.count) was.device;
      journals = record {
        some = was.journals.some;
        few = was.journals.few;
        there = λ j k at. child_leads other other_owners l laid_other l.jindex (journal_name j) k (laid_other.system.journals j k at);
        others = λ name c way. was.journals.others name c (led_home l.jindex (jindex refl) jindex_file name c way);
      };
      journal = λ j k at. subst (λ n. (least_journal_blocks ≤ n) × (n ≤ most_journal_blocks)) (sym (kept.many j k at)) (was.journal j k at);
      groups = was.groups;
      group_blocks = was.group_blocks;
      sequence = λ j k head at is. low j k head at is;
    }
