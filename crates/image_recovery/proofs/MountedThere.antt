-- What is mounted of an image is mounted of another that has the blocks alike by which it was found, with the heads that its journals have there.
use Rattle.std.proofs.Common.{◌≡◌, ◌≢◌, ◌⊎◌, inl, inr, ℕ, suc, ◌*◌, ◌/◌, ◌%◌, ◌^◌, ◌<◌, ◌≤◌, true, List, length, map, Some, refl, sym, ap, subst, ◌∙◌, arith}
use Rattle.std.specs.Prelude.{◌&&◌, codes, slice_get, Contains}
use Rattle.std.specs.List.{range_with_len}
use Rattle.std.proofs.Math.Nat.{div-mul-le_self, mul-le-mul_right}
use Rattle.gfs2_layout.specs.Device.{superblock_place}
use Rattle.gfs2_layout.specs.Headers.{HasHeader}
use Rattle.gfs2_layout.specs.Inode.{Fits, Head, Leads, content_block, content_count, dinode_in, has_hash_flag, head_of, is_hashed_in}
use Rattle.gfs2_layout.specs.Structures.{is_directory, superblock_of}
use Rattle.gfs2_layout.specs.declared.dinode.Dinode.{Dinode}
use Rattle.gfs2_layout.specs.declared.superblock.SuperBlock.{SuperBlock}
use Rattle.gfs2_layout.proofs.StatePuts.{map_same}
use Rattle.log_layout.specs.Journal.{head_in, ring_of}
use Rattle.log_layout.specs.declared.log_header.LogHeader.{LogHeader}
use Rattle.profile_limits.specs.Limits.{least_journal_blocks, most_journal_blocks}
use Rattle.image_model.specs.Claims.{every, Claims, HasInode, LeadsTo, first_leaf, next_leaf}
use Rattle.image_model.specs.Groups.{groups_in}
use Rattle.image_model.specs.Image.{Blocks, Image, superblock_in}
use Rattle.image_model.specs.Journals.{journal_name}
use Rattle.image_model.specs.Owners.{Chained}
use Rattle.image_model.specs.Profile.{IsInProfile}
use Rattle.image_model.specs.Stands.{IsJournalAt, kind_of}
use Rattle.image_model.specs.SystemFiles.{IsSystemBlock, IsSystemFile, is_jindex, is_journal, is_master, is_rindex, of_content, of_dinode, of_leaf, of_superblock}
use Rattle.image_model.proofs.SystemStays.{file_inode}
use Rattle.image_changes.proofs.Laid.{fits_still}
use Rattle.dinode_tree.specs.Reading.{IsHeadedWay}
use Rattle.image_mount.specs.Found.{HasFormat, HasMaster, HasNames}
use Rattle.image_mount.specs.Looks.{HasSoundLeaves, HasTrueRecord, IsListing, IsListingBlock, IsLookedOver, IsOffWay, IsPlaceOf, a_leaf, led_to, the_jindex, the_master, the_rindex}
use Rattle.image_mount.specs.Mounted.{IsJournalOf, IsMounted, Journal, MountedValue}
use Rattle.image_replays.proofs.System.{has_journal, mounted_at, one_jindex, one_rindex}
use Rattle.image_recovery.specs.Left.{IsMountedAs}
use Rattle.image_recovery.proofs.Alike.{content_is_same, place_same}
use Rattle.image_recovery.proofs.JournalPlaces.{place_high, place_within}
use Rattle.image_recovery.proofs.Names.{AreAlike, jindex_file, jindex_is_there, jindex_there, led, led_back, led_there, master_file, master_same, master_there, one_jindex_there, own, rindex_file, rindex_is_there, with_blocks}
use Rattle.image_recovery.proofs.There.{depths_forth, hashed_is, leaf_forth, leaf_home, leaves_are, once_forth, pointers_are, record_forth, record_home, records_home, sound_forth}
use Rattle.image_recovery.proofs.Ways.{count_is, dinode_is, headed_forth, leads_forth, leads_home, looked_forth, way_forth}

-- a directory with a leaf is a hashed one
chained_hashed : (im : Image) (by x d hash place : ℕ) → Claims im by x (Chained d hash place) → is_hashed_in (every im d) ≡ true
chained_hashed im _ _ _ _ _ (first_leaf by d o i claim dinode hashed low some) = hashed
chained_hashed im _ _ _ _ _ (next_leaf by x d hash place claim more) = chained_hashed im by x d hash place claim

module _ (im : Image) (m : MountedValue) (is : IsMounted im m) (large : 512 ≤ im.size) (g : Blocks) (super : im.at (superblock_place im.size) ≡ g (superblock_place im.size))
    (in_master : AreAlike im g is.layout.master) (in_rindex : AreAlike im g is.layout.rindex) (in_jindex : AreAlike im g is.layout.jindex)
    (journal_own : (j d : ℕ) → IsJournalAt is.layout j d → im.at d ≡ g d)
    (journal_ways : (j d : ℕ) → IsJournalAt is.layout j d → (p k level first c : ℕ) → Leads (every im d) p k (suc level) first c → first < content_count (every im d) → im.at c ≡ g c)
    (low : (j d : ℕ) (head : LogHeader) → IsJournalAt is.layout j d → head_in (ring_of (every (with_blocks im g) d)) ≡ Some head → head.sequence < 2 ^ 63) where
  abbrev other : Image
  other = with_blocks im g

  sb_same : superblock_in im ≡ superblock_in other
  sb_same = ap superblock_of super

  -- ---- the three files

  master_here : HasInode im is.layout.master
  master_here = file_inode im is.layout.master (master_file im m is)

  rindex_here : HasInode im is.layout.rindex
  rindex_here = file_inode im is.layout.rindex (rindex_file im m is)

  jindex_here : HasInode im is.layout.jindex
  jindex_here = file_inode im is.layout.jindex (jindex_file im m is)

  master_is : HasInode other is.layout.master
  master_is = master_there im m is g super in_master in_jindex

  jindex_is : HasInode other is.layout.jindex
  jindex_is = jindex_there im m is g super in_master in_jindex

  rindex_led : IsSystemFile other is.layout.rindex
  rindex_led = is_rindex (rindex_is_there im m is g super in_master in_jindex)

  rindex_is : HasInode other is.layout.rindex
  rindex_is = file_inode other is.layout.rindex rindex_led

  -- what is alike of them
  listed : (d : ℕ) → IsListing is.layout d → AreAlike im g d × HasInode im d × HasInode other d × Fits (every im d)
  listed _ the_master = (in_master, master_here, master_is, is.looked.master.dinode.fits)
  listed _ the_rindex = (in_rindex, rindex_here, rindex_is, is.looked.rindex.dinode.fits)
  listed _ the_jindex = (in_jindex, jindex_here, jindex_is, is.looked.jindex.dinode.fits)

  -- a block by which one of them is read there is one here
  listing_home : (b : ℕ) → IsListingBlock other is.layout b → IsListingBlock im is.layout b
  listing_home b (led_to d p k level first of leads within) =
      let it = listed d of in
      let same = it.0 d (own refl) in
      led_to d p k level first of (leads_home im g d same it.3 (λ q n l f c leads within. it.0 c (led q n (suc l) f leads within)) p k level first b leads within) (subst (λ n. first < n) (sym (count_is im g d same)) within)
  listing_home b (a_leaf d by hash place of claim) =
      let it = listed d of in
      let was = leaf_home im g d it.3 it.0 it.1 it.2 by b hash place claim in
      a_leaf d was.0 hash place of was.1

  format : HasFormat other
  format =
      let f = is.found.groups.list.master.format in
      record {
        super = record {
          few = f.super.few;
          inside = f.super.inside;
          whole = subst (λ (bytes : List ℕ). length bytes ≡ im.size) super f.super.whole;
          header = subst (HasHeader 1 100) super f.super.header;
        };
        fs_format = subst (λ (s : SuperBlock). s.fs_format ≡ 1801) sb_same f.fs_format;
        multihost_format = subst (λ (s : SuperBlock). s.multihost_format ≡ 1900) sb_same f.multihost_format;
        bsize = subst (λ (s : SuperBlock). s.bsize ≡ im.size) sb_same f.bsize;
        bsize_shift = subst (λ (s : SuperBlock). 2 ^ s.bsize_shift ≡ im.size) sb_same f.bsize_shift;
      }

  found_master : HasMaster other is.layout
  found_master =
      let f = is.found.groups.list.master in
      record {
        format = format;
        root = subst (λ (s : SuperBlock). s.root.address ≡ is.layout.root) sb_same f.root;
        master = subst (λ (s : SuperBlock). s.master.address ≡ is.layout.master) sb_same f.master;
        plain = λ x r has. f.plain x r (record_home im g is.layout.master is.looked.master.dinode.fits in_master master_here master_is x r has);
        rindex = rindex_is_there im m is g super in_master in_jindex;
        jindex = jindex_is_there im m is g super in_master in_jindex;
      }

  found : HasNames other is.layout
  found =
      let f = is.found in
      record {
        groups = record {
          list = record {
            master = found_master;
            whole = subst (λ (x : Dinode). x.size % 96 ≡ 0) (dinode_is im g is.layout.rindex (in_rindex is.layout.rindex (own refl))) f.groups.list.whole;
            listed = ap groups_in (sym (content_is_same im.size im.count im.at g is.layout.rindex is.looked.rindex.dinode.fits (in_rindex is.layout.rindex (own refl))
                (λ p k level first c leads within. in_rindex c (led p k level first leads within)))) ∙ f.groups.list.listed;
          };
          some = f.groups.some;
          few = f.groups.few;
          fit = fits_still im other is.layout.groups refl refl f.groups.fit;
          short = f.groups.short;
        };
        some = f.some;
        few = f.few;
        named = λ records are. f.named records (records_home im g is.layout.jindex is.looked.jindex.dinode.fits in_jindex jindex_here jindex_is records are);
        there = λ j d at. led_there im g is.layout.jindex is.looked.jindex.dinode.fits in_jindex jindex_is (journal_name j) d (f.there j d at);
      }

  -- ---- the journals

  module _ (j d : ℕ) (at : IsJournalAt is.layout j d) where
    as_many : (ring_of (every other d)).places ≡ (ring_of (every im d)).places
    as_many = ap (λ (x : Dinode). x.size / im.size) (sym (dinode_is im g d (journal_own j d at)))

    module _ (p : ℕ) (inside : p < (ring_of (every im d)).places) where
      place_stays : content_block (every other d) p ≡ content_block (every im d) p
      place_stays =
          let high = place_high im m is large j d at p inside in
          sym (place_same im.size im.count im.at g d (is.looked.journals j d at).dinode.fits (journal_own j d at) (λ level c i. Unit {0}) (λ level c i off. tt)
          (λ q k level first c i leads within off. journal_ways j d at q k level first c leads within) high.0 high.1 p (place_within im m is large j d at p inside) tt).0

      some_place : content_block (every im d) p ≢ 0
      some_place none =
          let of = is.looked.places j p (content_block (every im d) p) (record { dinode = d; at = at; low = inside; is = refl }) in
          let fit = is.found.groups.fit.each of.0 of.1 in
          let above = fit.above in
          let first = fit.first in
          let least = of.2.low in
          omega (arith, above, first, least, none)

      ways : (IsHeadedWay (every im d) p → IsHeadedWay (every other d) p) × ((x : ℕ) → IsOffWay x (every im d) p → IsOffWay x (every other d) p)
      ways =
          let high = place_high im m is large j d at p inside in
          way_forth im g d (journal_own j d at) (is.looked.journals j d at).dinode.fits (journal_ways j d at) high.0 high.1 p (place_within im m is large j d at p inside) some_place

    inside_home : (p : ℕ) → p < (ring_of (every other d)).places → p < (ring_of (every im d)).places
    inside_home p inside = subst (λ n. p < n) as_many inside

    no_leaves : is_hashed_in (every im d) ≡ true → ⊥
    no_leaves hashed =
        let size = (dinode_in (every im d)).size in
        let table = (is.looked.journals j d at).sized.hashed hashed in
        let least : 512 ≤ size / im.size = (is.profile.journal j d at).0 in
        let rises : 512 * im.size ≤ size / im.size * im.size = mul-le-mul_right im.size least in
        let below : size / im.size * im.size ≤ size = div-mul-le_self size im.size in
        let bytes = table.size in
        let greatest = table.greatest in
        omega (arith, rises, below, bytes, greatest, large)

  place_home : (j p b : ℕ) → IsPlaceOf other is.layout j p b → IsPlaceOf im is.layout j p b
  place_home j p b place =
      let inside = inside_home j place.dinode place.at p place.low in
      record { dinode = place.dinode; at = place.at; low = inside; is = sym (place_stays j place.dinode place.at p inside) ∙ place.is }

  profile : IsInProfile other is.layout
  profile =
      let p = is.profile in
      record {
        fs_format = subst (λ (s : SuperBlock). s.fs_format ≡ 1801) sb_same p.fs_format;
        multihost_format = subst (λ (s : SuperBlock). s.multihost_format ≡ 1900) sb_same p.multihost_format;
        bsize = subst (λ (s : SuperBlock). s.bsize ≡ im.size) sb_same p.bsize;
        bsize_shift = subst (λ (s : SuperBlock). 2 ^ s.bsize_shift ≡ im.size) sb_same p.bsize_shift;
        master = λ name d way. p.master name d (led_back im g is.layout.master is.looked.master.dinode.fits in_master master_here name d way);
        device = p.device;
        journals = record {
          some = p.journals.some;
          few = p.journals.few;
          there = λ j d at. led_there im g is.layout.jindex is.looked.jindex.dinode.fits in_jindex jindex_is (journal_name j) d (p.journals.there j d at);
          others = λ name d way. p.journals.others name d (led_back im g is.layout.jindex is.looked.jindex.dinode.fits in_jindex jindex_here name d way);
        };
        journal = λ j d at. subst (λ n. (least_journal_blocks ≤ n) × (n ≤ most_journal_blocks)) (sym (as_many j d at)) (p.journal j d at);
        groups = p.groups;
        group_blocks = p.group_blocks;
        sequence = low;
      }

  -- ---- what was looked at

  head_same : (d : ℕ) → im.at d ≡ g d → head_of (every im d) ≡ head_of (every other d)
  head_same d same = ap (λ (x : Dinode). record { number = x.num.number; is_dir = is_directory x }) (dinode_is im g d same)

  true_forth : (a : ℕ) (name : List ℕ) (d : ℕ) → AreAlike im g a → HasInode im a → HasInode other a → Fits (every im a) → im.at d ≡ g d → HasTrueRecord im a name d → HasTrueRecord other a name d
  true_forth a name d alike here there fits same has = record {
    block = has.block;
    row = has.row;
    there = record_forth im g a fits alike here there has.block has.row has.there;
    named = has.named;
    one = λ x r has' named. has.one x r (record_home im g a fits alike here there x r has') named;
    true_of = record {
      address = has.true_of.address;
      number = has.true_of.number ∙ ap (λ (h : Head). h.number) (head_same d same);
      kind = has.true_of.kind ∙ ap kind_of (head_same d same);
    };
  }

  leaves_forth : (d : ℕ) (alike : AreAlike im g d) → HasInode im d → HasInode other d → Fits (every im d) → (is_hashed_in (every im d) ≡ true → HasSoundLeaves im d) → is_hashed_in (every other d) ≡ true → HasSoundLeaves other d
  leaves_forth d alike here there fits was hashed =
      let before : is_hashed_in (every im d) ≡ true = hashed_is im g d fits alike here there ∙ hashed in
      let sound = was before in
      record {
        table = headed_forth im g d (alike d (own refl)) fits (λ p k level first c leads within. alike c (led p k (suc level) first leads within)) (λ p k first c leads within. alike c (led p k 0 first leads within)) sound.table;
        pointers = pointers_are im g d fits alike here there before sound.pointers;
        leaves = leaves_are im g d fits alike here there before sound.leaves;
        depths = λ by x hash place claim more. depths_forth im g d fits alike here there before by x hash place claim sound.depths more;
        once = once_forth im g d fits alike here there before sound.once;
      }

  rindex_same : im.at is.layout.rindex ≡ g is.layout.rindex
  rindex_same = in_rindex is.layout.rindex (own refl)

  looked : IsLookedOver other is.layout
  looked =
      let k = is.looked in
      record {
        rindex_record = true_forth is.layout.master (codes "rindex") is.layout.rindex in_master master_here master_is k.master.dinode.fits rindex_same k.rindex_record;
        jindex_record = true_forth is.layout.master (codes "jindex") is.layout.jindex in_master master_here master_is k.master.dinode.fits (in_jindex is.layout.jindex (own refl)) k.jindex_record;
        journal_records = λ j d at. true_forth is.layout.jindex (journal_name j) d in_jindex jindex_here jindex_is k.jindex.dinode.fits (journal_own j d at) (k.journal_records j d at);
        master = looked_forth im g is.layout.master (in_master is.layout.master (own refl)) k.master;
        rindex = looked_forth im g is.layout.rindex rindex_same k.rindex;
        jindex = looked_forth im g is.layout.jindex (in_jindex is.layout.jindex (own refl)) k.jindex;
        journals = λ j d at. looked_forth im g d (journal_own j d at) (k.journals j d at);
        whole = λ j d at. subst (λ (x : Dinode). x.size % im.size ≡ 0) (dinode_is im g d (journal_own j d at)) (k.whole j d at);
        list = headed_forth im g is.layout.rindex rindex_same k.rindex.dinode.fits (λ p n level first c leads within. in_rindex c (led p n (suc level) first leads within))
            (λ p n first c leads within. in_rindex c (led p n 0 first leads within)) k.list;
        master_records = sound_forth im g is.layout.master k.master.dinode.fits in_master master_here master_is is.layout.master k.master_records;
        jindex_records = sound_forth im g is.layout.jindex k.jindex.dinode.fits in_jindex jindex_here jindex_is is.layout.master k.jindex_records;
        master_leaves = leaves_forth is.layout.master in_master master_here master_is k.master.dinode.fits k.master_leaves;
        jindex_leaves = leaves_forth is.layout.jindex in_jindex jindex_here jindex_is k.jindex.dinode.fits k.jindex_leaves;
        own = k.own;
        places = λ j p b place. k.places j p b (place_home j p b place);
        apart = λ j i p q b place place'. k.apart j i p q b (place_home j p b place) (place_home i q b place');
        ways = λ j d p at inside. let was = inside_home j d at p inside in (ways j d at p was).0 (k.ways j d p at was);
        clear = λ j p b place i d q at inside. let was = inside_home i d at q inside in (ways i d at q was).1 b (k.clear j p b (place_home j p b place) i d q at was);
        beside = λ j p b place. k.beside j p b (place_home j p b place);
        listings = λ j p b place of. k.listings j p b (place_home j p b place) (listing_home b of);
      }

  -- ---- the blocks of the system files

  file_forth : (d : ℕ) → IsSystemFile im d → IsSystemFile other d
  file_forth d (is_master e) = is_master (e ∙ is.found.groups.list.master.master ∙ sym (master_same im m is g super in_master in_jindex))
  file_forth d (is_rindex way) = subst (IsSystemFile other) (sym (one_rindex im m is d way)) rindex_led
  file_forth d (is_jindex way) = subst (IsSystemFile other) (sym (one_jindex im m is d way)) (is_jindex (jindex_is_there im m is g super in_master in_jindex))
  file_forth d (is_journal j has) =
      let way : LeadsTo im is.layout.jindex (journal_name j) d = subst (λ a. LeadsTo im a (journal_name j) d) (one_jindex im m is has.0 has.1) has.2 in
      is_journal j (is.layout.jindex, jindex_is_there im m is g super in_master in_jindex, led_there im g is.layout.jindex is.looked.jindex.dinode.fits in_jindex jindex_is (journal_name j) d way)

  -- a file of the other is one of the four
  data IsOfFour (d : ℕ) : Type 0 where
    a_listing : IsListing is.layout d → IsOfFour d
    a_journal : (j : ℕ) → IsJournalAt is.layout j d → IsOfFour d

  journal_of_four : (j d : ℕ) → LeadsTo im is.layout.jindex (journal_name j) d → IsOfFour d
  journal_of_four j d way = let named = is.profile.journals.others (journal_name j) d way in a_journal named.0 named.1

  four_here : (d : ℕ) → IsSystemFile im d → IsOfFour d
  four_here d (is_master e) = a_listing (subst (IsListing is.layout) (sym (e ∙ is.found.groups.list.master.master)) the_master)
  four_here d (is_rindex way) = a_listing (subst (IsListing is.layout) (sym (one_rindex im m is d way)) the_rindex)
  four_here d (is_jindex way) = a_listing (subst (IsListing is.layout) (sym (one_jindex im m is d way)) the_jindex)
  four_here d (is_journal j has) = journal_of_four j d (subst (λ a. LeadsTo im a (journal_name j) d) (one_jindex im m is has.0 has.1) has.2)

  four_there : (d : ℕ) → IsSystemFile other d → IsOfFour d
  four_there d (is_master e) = a_listing (subst (IsListing is.layout) (sym (e ∙ master_same im m is g super in_master in_jindex)) the_master)
  four_there d (is_rindex way) =
      let back = led_back im g is.layout.master is.looked.master.dinode.fits in_master master_here (codes "rindex") d (subst (λ a. LeadsTo other a (codes "rindex") d) (master_same im m is g super in_master in_jindex) way) in
      a_listing (subst (IsListing is.layout) (sym (one_rindex im m is d (subst (λ a. LeadsTo im a (codes "rindex") d) (sym is.found.groups.list.master.master) back))) the_rindex)
  four_there d (is_jindex way) = a_listing (subst (IsListing is.layout) (sym (one_jindex_there im m is g super in_master in_jindex d way)) the_jindex)
  four_there d (is_journal j has) =
      journal_of_four j d
      (led_back im g is.layout.jindex is.looked.jindex.dinode.fits in_jindex jindex_here (journal_name j) d (subst (λ a. LeadsTo other a (journal_name j) d) (one_jindex_there im m is g super in_master in_jindex has.0 has.1) has.2))

  file_of_listing : (d : ℕ) → IsListing is.layout d → IsSystemFile im d
  file_of_listing _ the_master = master_file im m is
  file_of_listing _ the_rindex = rindex_file im m is
  file_of_listing _ the_jindex = jindex_file im m is

  file_of_four : (d : ℕ) → IsOfFour d → IsSystemFile im d
  file_of_four d (a_listing of) = file_of_listing d of
  file_of_four d (a_journal j at) = is_journal j (has_journal im m is j d at)

  -- all blocks of the file are alike, or it is a journal
  alike_or_journal : (d : ℕ) → IsOfFour d → AreAlike im g d ⊎ ((j : ℕ) × IsJournalAt is.layout j d)
  alike_or_journal d (a_listing of) = inl (listed d of).0
  alike_or_journal d (a_journal j at) = inr (j, at)

  fits_of : (d : ℕ) → IsOfFour d → Fits (every im d)
  fits_of d (a_listing of) = (listed d of).3
  fits_of d (a_journal j at) = (is.looked.journals j d at).dinode.fits

  own_of : (d : ℕ) → IsOfFour d → im.at d ≡ g d
  own_of d four = elim (alike_or_journal d four) [ inl alike ↦ alike d (own refl) | inr journal ↦ journal_own journal.0 d journal.1 ]

  ways_of : (d : ℕ) → IsOfFour d → (p k level first c : ℕ) → Leads (every im d) p k (suc level) first c → first < content_count (every im d) → im.at c ≡ g c
  ways_of d four p k level first c leads within = elim (alike_or_journal d four) [ inl alike ↦ alike c (led p k (suc level) first leads within) | inr journal ↦ journal_ways journal.0 d journal.1 p k level first c leads within ]

  hashed_home : (d : ℕ) → IsOfFour d → is_hashed_in (every other d) ≡ true → is_hashed_in (every im d) ≡ true
  hashed_home d four hashed = ap (λ (x : Dinode). is_directory x && has_hash_flag x) (dinode_is im g d (own_of d four)) ∙ hashed

  block_forth : (b : ℕ) → IsSystemBlock im b → IsSystemBlock other b
  block_forth b (of_superblock e) = of_superblock e
  block_forth b (of_dinode file) = of_dinode (file_forth b file)
  block_forth b (of_content d p k level first file leads within) =
      let four = four_here d file in
      of_content d p k level first (file_forth d file) (leads_forth im g d (own_of d four) (fits_of d four) (ways_of d four) p k level first b leads within)
      (subst (λ n. first < n) (count_is im g d (own_of d four)) within)
  block_forth b (of_leaf d by hash place file claim) =
      let four = four_here d file in
      elim (alike_or_journal d four) [
        | inl alike ↦
            let it = leaf_forth im g d (fits_of d four) alike (file_inode im d file) (file_inode other d (file_forth d file)) by b hash place claim in
            of_leaf d it.0 hash place (file_forth d file) it.1
        | inr journal ↦ absurd (no_leaves journal.0 d journal.1 (chained_hashed im by b d hash place claim))
      ]

  block_home : (b : ℕ) → IsSystemBlock other b → IsSystemBlock im b
  block_home b (of_superblock e) = of_superblock e
  block_home b (of_dinode file) = of_dinode (file_of_four b (four_there b file))
  block_home b (of_content d p k level first file leads within) =
      let four = four_there d file in
      of_content d p k level first (file_of_four d four) (leads_home im g d (own_of d four) (fits_of d four) (ways_of d four) p k level first b leads within)
      (subst (λ n. first < n) (sym (count_is im g d (own_of d four))) within)
  block_home b (of_leaf d by hash place file claim) =
      let four = four_there d file in
      let file' = file_of_four d four in
      elim (alike_or_journal d four) [
        | inl alike ↦
            let it = leaf_home im g d (fits_of d four) alike (file_inode im d file') (file_inode other d file) by b hash place claim in
            of_leaf d it.0 hash place file' it.1
        | inr journal ↦ absurd (no_leaves journal.0 d journal.1 (hashed_home d four (chained_hashed other by b d hash place claim)))
      ]

  -- ---- all of it

  pub mounted_there : (m' : MountedValue) → IsMountedAs other m m' → IsMounted other m'
  mounted_there m' told = record {
    layout = is.layout;
    found = found;
    profile = profile;
    looked = looked;
    superblock = told.same.superblock ∙ is.superblock ∙ sb_same;
    groups = told.same.groups ∙ is.groups;
    count = told.same.count ∙ is.count;
    journals = journal_is;
    system = λ b. (λ has. block_forth b ((is.system b).0 (subst (λ bs. Contains bs b) told.system has)), λ of. subst (λ bs. Contains bs b) (sym told.system) ((is.system b).1 (block_home b of)));
    inside = λ b of. is.inside b (block_home b of);
  }
    where
      journal_is : (j d : ℕ) (journal : Journal) → IsJournalAt is.layout j d → slice_get m'.journals j ≡ Some journal → IsJournalOf other d journal
      journal_is j d journal at there =
          let x = mounted_at im m is j d at in
          let n = (ring_of (every im d)).places in
          let dinode : journal.dinode ≡ d = told.same.dinodes j x.0 journal x.1 there ∙ x.2.dinode in
          record {
            dinode = dinode;
            blocks = told.same.places j x.0 journal x.1 there ∙ x.2.blocks
                ∙ map_same (content_block (every im d)) (content_block (every other d)) 0 n (λ p least below. sym (place_stays j d at p (omega (arith, below))))
                ∙ ap (λ k. map (content_block (every other d)) (range_with_len 0 k)) (sym (as_many j d at));
            head = subst (λ a. head_in (ring_of (every other a)) ≡ Some journal.head) dinode (told.heads j journal there);
          }
