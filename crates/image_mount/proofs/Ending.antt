-- What mounting tells in the end.
use Rattle.std.proofs.Common.{inr, refl, ◌≡◌, ℕ, ◌^◌, ◌<◌, ◌≤◌, List, length, Some, IsTrue, sym, ap, subst, ◌∙◌}
use Rattle.std.specs.Prelude.{◌↔◌, map, slice_get, Contains, Result, IfErr, IsErrAnd}
use Rattle.std.specs.List.{All}
use Rattle.std.proofs.lemmas.List.{length-map}
use Rattle.std.proofs.lemmas.Option.{slice_get_within, get_or_from_slice_get}
use Rattle.glock_names.specs.Views.{group_of_entry}
use Rattle.log_layout.specs.declared.log_header.LogHeader.{LogHeader}
use Rattle.gfs2_layout.specs.declared.superblock.SuperBlock.{SuperBlock}
use Rattle.image_mount.specs.declared.listing.Link.{Link}
use Rattle.gfs2_layout.specs.Inode.{content_block}
use Rattle.log_layout.specs.Journal.{ring_of}
use Rattle.image_model.specs.Claims.{every}
use Rattle.image_model.specs.Image.{Image, image_of}
use Rattle.image_model.specs.Owners.{Owners}
use Rattle.image_model.specs.Stands.{IsLaid, Layout, IsJournalAt}
use Rattle.image_model.specs.SystemFiles.{HasSameSystem}
use Rattle.image_mount.specs.Found.{HasFormat}
use Rattle.image_model.specs.Journals.{journal_name}
use Rattle.image_mount.specs.Looks.{HasTrueRecord, IsInGroups, IsPlaceOf, IsSoundDirectory, IsSystemDinode, IsTrueEntry, of_journal, of_jindex, of_master, of_rindex}
use Rattle.image_mount.specs.Marked.{AreMarked, AreUnread, IsGrown, IsKept, IsKeptWay, IsTaken, times_in}
use Rattle.image_mount.specs.Mounted.{Journal, MountedValue, IsMounted, IsOfProfile, IsJournalOf}
use Rattle.image_mount.specs.Refusals.{RefusesRightly, IsExcused}
use Rattle.image_mount.specs.Rings.{AreKeptWays, IsSearched, AreRings, AreJournals, IsLowJournal, IsOwn, IsRingOf, all_places}
use Rattle.image_mount.specs.Searching.{ShowsSystem}
use Rattle.image_mount.specs.System.{HasDinodes, HasReadSystem, IsSystemOf, layout_of}
use Rattle.image_mount.specs.Kept.{Kept}
use Rattle.shared_disk.specs.Disk.{DiskState}
use Rattle.image_mount.specs.declared.fault.MountFault.{MountFault}
use Rattle.image_mount.specs.declared.journals.Ring.{Ring}
use Rattle.image_mount.specs.declared.system.System.{System}
use Rattle.image_mount.proofs.Accepts.{excused}
use Rattle.image_mount.proofs.Looks.{true_record}
use Rattle.image_mount.proofs.KeptWays.{off_way}
use Rattle.image_mount.proofs.Marked.{place_unkept, place_untaken, places_apart}
use Rattle.image_mount.proofs.Names.{all_at, mapped_at, from_mapped}
use Rattle.image_mount.proofs.Places.{block_there}
use Rattle.image_mount.proofs.Stops.{handed}
use Rattle.image_mount.proofs.SystemRead.{block_taken, laid_fits, listing_taken, shows_own, shows_same, taken_block}
use Rattle.image_mount.proofs.Systems.{read_on}

-- a refusal that is handed on, where the disk tells: of its own image
pub refused_where : {T : Type 0} (s : DiskState) (r : Result T MountFault) (f : MountFault) → IsErrAnd r (λ g. g ≡ f) → ((im : Image) → ShowsSystem s im → RefusesRightly im f) → IfErr r (λ g. IsTrue s.tells → RefusesRightly (image_of s) g)
refused_where {T} s r f is right = handed {T = T} r (λ g. g ≡ f) (λ g. IsTrue s.tells → RefusesRightly (image_of s) g) is (λ g e tells. subst (RefusesRightly (image_of s)) (sym e) (right (image_of s) (shows_own s tells)))

-- and of each image of which the disk shows the system files
pub told_where : {T : Type 0} (s : DiskState) (r : Result T MountFault) (f : MountFault) → IsErrAnd r (λ g. g ≡ f) → ((im : Image) → ShowsSystem s im → RefusesRightly im f)
    → IfErr r (λ g. (im : Image) → ShowsSystem s im → RefusesRightly im g)
told_where {T} s r f is right = handed {T = T} r (λ g. g ≡ f) (λ g. (im : Image) → ShowsSystem s im → RefusesRightly im g) is (λ g e im shows. subst (RefusesRightly im) (sym e) (right im shows))

-- so of one that stands and has its system files
pub standing_where : {T : Type 0} (s : DiskState) (r : Result T MountFault) (f : MountFault) → IsErrAnd r (λ g. g ≡ f) → ((im : Image) → ShowsSystem s im → RefusesRightly im f)
    → IfErr r (λ g. IsTrue s.tells → (im : Image) (o : Owners) (l : Layout) → HasSameSystem (image_of s) im → IsLaid im o l → RefusesRightly im g)
standing_where {T} s r f is right =
    handed {T = T} r (λ g. g ≡ f) (λ g. IsTrue s.tells → (im : Image) (o : Owners) (l : Layout) → HasSameSystem (image_of s) im → IsLaid im o l → RefusesRightly im g) is
    (λ g e tells im o l same laid. subst (RefusesRightly im) (sym e) (right im (shows_same s im tells same (λ d is is'. inr (laid_fits im o l laid d is')))))

-- so one of the profile is refused only for want of memory, or where the disk failed
pub excused_where : {T : Type 0} (s : DiskState) (r : Result T MountFault) (f : MountFault) → IsErrAnd r (λ g. g ≡ f) → ((im : Image) → ShowsSystem s im → RefusesRightly im f)
    → IfErr r (λ g. IsTrue s.tells → (im : Image) → HasSameSystem (image_of s) im → IsOfProfile im → IsExcused g)
excused_where {T} s r f is right =
    handed {T = T} r (λ g. g ≡ f) (λ g. IsTrue s.tells → (im : Image) → HasSameSystem (image_of s) im → IsOfProfile im → IsExcused g) is
    (λ g e tells im same of. subst IsExcused (sym e) (excused im f (right im (shows_same s im tells same (λ d is is'. inr (laid_fits im of.owners of.layout of.laid d is')))) of))

same_some : {X : Type 0} (x y : X) → Some x ≡ Some y → x ≡ y
same_some x y e = cc

-- what was found is what is mounted
pub mounted : (im : Image) (system : System) (rings : List Ring) (journals : List Journal) (m : MountedValue) → IsSystemOf im system → AreRings im system.journals.items rings → AreJournals im rings journals
    → All (λ (r : Ring). All (IsInGroups system.groups.items) r.blocks.items) rings → ((b : ℕ) → times_in (all_places rings) b ≤ 1)
    → All (λ (r : Ring). IsOwn system r.dinode) rings
    → (k : Kept) → HasDinodes im k system → All (λ (r : Ring). IsKept k r.dinode) rings
    → All (λ (r : Ring). AreKeptWays im k r.dinode r.blocks.items) rings
    → (old : Kept) → IsGrown old k → AreUnread k → HasReadSystem im old system → AreMarked old k (all_places rings) → IsSearched im (map (λ (r : Ring). r.dinode) rings) 0 0 k → ((b : ℕ) → Contains m.system b ↔ IsTaken k b)
    → ((b : ℕ) → IsTaken k b → b < im.count)
    → m.superblock ≡ system.superblock → m.groups ≡ map group_of_entry system.groups.items → m.journals ≡ journals → IsMounted im m
mounted im system rings journals m looked are found placed once own k dinodes_kept rings_kept ways_kept old grown unread read marked known taken within super groups same = record {
  system = λ b. (
    λ has. taken_block im (map (λ (r : Ring). r.dinode) rings) 0 0 k known b ((taken b).0 has),
    λ is. (taken b).1 (block_taken im system rings looked are old k dinodes_kept (read_on im old k system grown read) rings_kept ways_kept marked b is),
  );
  inside = λ b is. within b (block_taken im system rings looked are old k dinodes_kept (read_on im old k system grown read) rings_kept ways_kept marked b is);
  layout = l;
  found = looked.names;
  profile = record {
    fs_format = format.fs_format;
    multihost_format = format.multihost_format;
    bsize = format.bsize;
    bsize_shift = format.bsize_shift;
    master = looked.master;
    device = format.super.few;
    journals = record {
      some = looked.names.some;
      few = looked.names.few;
      there = looked.names.there;
      others = λ name d way.
          let other = looked.journals.others name d way in
          (other.0, subst (IsJournalAt l other.0) other.1.2 (mapped_at (λ (e : Link). e.entry.addr) system.journals.items other.0 other.1.0 other.1.1), other.1.3);
    };
    journal = λ j d at.
        let ring = ring_at j d at in
        let has = ring.2.places in
        (has.least, has.most);
    groups = (looked.names.groups.some, looked.names.groups.few);
    group_blocks = looked.names.groups.short;
    sequence = λ j d head at is.
        let journal = journal_at j d at in
        let low = journal.2.1 in
        subst (λ (h : LogHeader). h.sequence < 2 ^ 63) (same_some journal.0.head head (sym journal.2.0.head ∙ is)) low;
  };
  looked = record {
    rindex_record = looked.rindex_record;
    jindex_record = looked.jindex_record;
    journal_records = λ j d at.
        let entry = from_mapped (λ (e : Link). e.entry.addr) system.journals.items j d at in
        let low = slice_get_within system.journals.items j entry.0 entry.1 in
        let is_true = subst (λ (e : Link). IsTrueEntry im e.entry) (get_or_from_slice_get system.journals.items j entry.0 entry.0 entry.1) (are.entries j entry.0 low) in
        subst (HasTrueRecord im system.jindex (journal_name j)) entry.2 (true_record im system.jindex entry.0.from (journal_name j) entry.0.entry (looked.journals.each j entry.0 entry.1) is_true);
    master = looked.master_looked;
    rindex = looked.rindex_looked;
    jindex = looked.journals.looked;
    journals = λ j d at. (ring_at j d at).2.places.looked;
    whole = λ j d at. (ring_at j d at).2.places.whole;
    list = looked.rindex_headed;
    master_records = looked.master_sound;
    master_leaves = looked.master_leaves;
    jindex_leaves = looked.journals.leaves;
    jindex_records = subst (IsSoundDirectory im system.jindex) (sym (ap (λ (s : SuperBlock). s.master.address) looked.superblock)) looked.journals.sound;
    own = λ j d at.
        let ring = from_mapped (λ (r : Ring). r.dinode) rings j d (ap (λ ds. slice_get ds j) are.dinodes ∙ at) in
        let is = subst (IsOwn system) ring.2 (all_at (λ (r : Ring). IsOwn system r.dinode) rings j ring.0 own ring.1) in
        (is.master, is.rindex, is.jindex);
    places = λ j p b place.
        let here = place_at j p b place in
        all_at (IsInGroups system.groups.items) here.0.blocks.items p b (all_at (λ (r : Ring). All (IsInGroups system.groups.items) r.blocks.items) rings j here.0 placed here.1) here.2;
    apart = λ j i p q b place other.
        let here = place_at j p b place in
        let there = place_at i q b other in
        places_apart rings j i p q b here.0 there.0 (once b) here.1 there.1 here.2 there.2;
    ways = λ j d p at low. (ring_at j d at).2.are.headed p low;
    clear = λ j p b place i d q at low.
        let here = place_at j p b place in
        let ring = from_mapped (λ (r : Ring). r.dinode) rings i d (ap (λ ds. slice_get ds i) are.dinodes ∙ at) in
        let to = place_at i q (content_block (every im d) q) (record { dinode = d; at = at; low = low; is = refl }) in
        let way = all_at (λ (r : Ring). AreKeptWays im k r.dinode r.blocks.items) rings i to.0 ways_kept to.1 q (slice_get_within to.0.blocks.items q (content_block (every im d) q) to.2) in
        let dinode : to.0.dinode ≡ d = ap (λ (r : Ring). r.dinode) (same_some to.0 ring.0 (sym to.1 ∙ ring.1)) ∙ ring.2 in
        off_way k b (unkept j p b here.0 here.1 here.2) (every im d) q (subst (λ x. IsKeptWay k (every im x) q) dinode way);
    beside = λ j p b place dinode. let here = place_at j p b place in unkept j p b here.0 here.1 here.2 (dinode_kept b dinode);
    listings = λ j p b place of.
        let here = place_at j p b place in
        place_untaken old k rings marked unread grown j p b here.0 here.1 here.2 (listing_taken im system rings looked are old read b of);
  };
  superblock = super ∙ looked.superblock;
  groups = groups;
  count = ap length same ∙ sym (length-map journals (λ (j : Journal). j.dinode)) ∙ ap length dinodes;
  journals = λ j d journal at there.
      let one = journal_at j d at in
      subst (IsJournalOf im d) (same_some one.0 journal (sym one.1 ∙ ap (λ js. slice_get js j) (sym same) ∙ there)) one.2.0;
}
  where
    l : Layout
    l = layout_of system

    format : HasFormat im
    format = looked.names.groups.list.master.format

    dinodes : map (λ (j : Journal). j.dinode) journals ≡ l.journals
    dinodes = found.dinodes ∙ are.dinodes

    unkept : (j p b : ℕ) (r : Ring) → slice_get rings j ≡ Some r → slice_get r.blocks.items p ≡ Some b → ¬ (IsKept k b)
    unkept = place_unkept old k rings marked unread

    ring_at : (j d : ℕ) → IsJournalAt l j d → (ring : Ring) × (slice_get rings j ≡ Some ring) × IsRingOf im d ring.blocks.items
    ring_at j d at =
        let ring = from_mapped (λ (r : Ring). r.dinode) rings j d (ap (λ ds. slice_get ds j) are.dinodes ∙ at) in
        let low = slice_get_within rings j ring.0 ring.1 in
        let of = subst (λ (r : Ring). IsRingOf im r.dinode r.blocks.items) (get_or_from_slice_get rings j ring.0 ring.0 ring.1) (are.each j ring.0 low) in
        (ring.0, ring.1, subst (λ x. IsRingOf im x ring.0.blocks.items) ring.2 of)

    dinode_kept : (b : ℕ) → IsSystemDinode l b → IsKept k b
    dinode_kept _ of_master = subst (IsKept k) (sym (ap (λ (s : SuperBlock). s.master.address) looked.superblock)) dinodes_kept.master
    dinode_kept _ of_rindex = dinodes_kept.rindex
    dinode_kept _ of_jindex = dinodes_kept.jindex
    dinode_kept _ (of_journal j d at) =
        let ring = from_mapped (λ (r : Ring). r.dinode) rings j d (ap (λ ds. slice_get ds j) are.dinodes ∙ at) in
        subst (IsKept k) ring.2 (all_at (λ (r : Ring). IsKept k r.dinode) rings j ring.0 rings_kept ring.1)

    place_at : (j p b : ℕ) → IsPlaceOf im l j p b → (ring : Ring) × (slice_get rings j ≡ Some ring) × (slice_get ring.blocks.items p ≡ Some b)
    place_at j p b place =
        let ring = ring_at j place.dinode place.at in
        (ring.0, ring.1, block_there im place.dinode (ring_of (every im place.dinode)).places ring.0.blocks.items p ring.2.are place.low ∙ ap Some place.is)

    journal_at : (j d : ℕ) → IsJournalAt l j d → (journal : Journal) × (slice_get journals j ≡ Some journal) × (IsJournalOf im d journal × (journal.head.sequence < 2 ^ 63))
    journal_at j d at =
        let journal = from_mapped (λ (x : Journal). x.dinode) journals j d (ap (λ ds. slice_get ds j) dinodes ∙ at) in
        let low = slice_get_within journals j journal.0 journal.1 in
        let of = subst (IsLowJournal im) (get_or_from_slice_get journals j journal.0 journal.0 journal.1) (found.each j journal.0 low) in
        (journal.0, journal.1, (subst (λ x. IsJournalOf im x journal.0) journal.2 of.is, of.low))
