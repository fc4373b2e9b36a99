-- The image that a replay leaves is of the profile.
use Rattle.std.proofs.Common.{◌≡◌, inl, inr, ℕ, ◌^◌, ◌<◌, ◌≤◌, List, sym, ap, subst, ◌∙◌, arith}
use Rattle.std.proofs.lemmas.Bool.{cases_Bool}
use Rattle.file_tree.specs.Tree.{Tree}
use Rattle.gfs2_layout.specs.Device.{superblock_place}
use Rattle.gfs2_layout.specs.Structures.{superblock_of}
use Rattle.gfs2_layout.specs.declared.superblock.SuperBlock.{SuperBlock}
use Rattle.log_layout.specs.Journal.{ring_of}
use Rattle.log_layout.specs.declared.log_header.LogHeader.{LogHeader}
use Rattle.profile_limits.specs.Limits.{least_journal_blocks, most_blocks, most_journal_blocks}
use Rattle.image_model.specs.Claims.{every, LeadsTo}
use Rattle.image_model.specs.Image.{Image, superblock_in}
use Rattle.image_model.specs.Journals.{journal_name}
use Rattle.image_model.specs.Owners.{Owners}
use Rattle.image_model.specs.Profile.{HasJournals, IsInProfile}
use Rattle.image_model.specs.Stands.{IsJournalAt, IsLaid, Layout, Stands}
use Rattle.image_model.proofs.Facts.{child_leads, leads_row}
use Rattle.image_model.proofs.Replaying.{one_replay}
use Rattle.image_changes.specs.Contents.{PlacesDoNotMatter}
use Rattle.image_changes.specs.Laws.{OneLayout}
use Rattle.image_changes.proofs.Laid.{row_up}
use Rattle.image_mount.specs.Mounted.{IsMounted, IsOfProfile, MountedValue}
use Rattle.image_replays.proofs.System.{mounted_at}
use Rattle.image_recovery.specs.Left.{HaveLowHeads, IsLeft, LeftIsOfProfile}
use Rattle.image_recovery.proofs.LeftStanding.{as_many, back, stands_by, super_left}

-- a name that leads to an inode of one leads there in another of the same table
led_in : (im other : Image) (o : Owners) (l : Layout) → IsLaid im o l → IsLaid other o l → (a : ℕ) (name : List ℕ) (d : ℕ) → LeadsTo im a name d → LeadsTo other a name d
led_in im other o l laid laid' a name d way =
    child_leads other o l laid' a name d (laid'.names d (record { parent = a; name = name }) (row_up (o d) a name (leads_row im o l laid a name d way)))

module _ (im left : Image) (m : MountedValue) (is : IsMounted im m) (x : IsLeft im is.layout left) (o : Owners) (l : Layout) (laid : IsLaid x.replayed o l) (laid_left : IsLaid left o l)
    (profile : IsInProfile x.replayed l) (low : HaveLowHeads m) where
  abbrev r : Image
  r = x.replayed

  size_same : left.size ≡ r.size
  size_same = x.size ∙ sym x.is.size

  super_same : superblock_in left ≡ superblock_in r
  super_same = ap (λ n. superblock_of (left.at (superblock_place n))) x.size ∙ ap superblock_of (super_left im left m is x o l laid) ∙ ap (λ n. superblock_of (r.at (superblock_place n))) (sym x.is.size)

  journals : HasJournals left l
  journals = record {
    some = profile.journals.some;
    few = profile.journals.few;
    there = λ j d at. led_in r left o l laid laid_left l.jindex (journal_name j) d (profile.journals.there j d at);
    others = λ name d way. profile.journals.others name d (led_in left r o l laid_left laid l.jindex name d way);
  }

  places_same : (j d : ℕ) → IsJournalAt l j d → (ring_of (every r d)).places ≡ (ring_of (every left d)).places
  places_same j d at =
      let first = back im left m is x o l laid j d at in
      as_many im left m is x o l laid j d first ∙ sym (x.as_many j d first)

  pub in_profile : IsInProfile left l
  in_profile = record {
    fs_format = ap (λ (s : SuperBlock). s.fs_format) super_same ∙ profile.fs_format;
    multihost_format = ap (λ (s : SuperBlock). s.multihost_format) super_same ∙ profile.multihost_format;
    bsize = ap (λ (s : SuperBlock). s.bsize) super_same ∙ profile.bsize ∙ sym size_same;
    bsize_shift = ap (λ (s : SuperBlock). 2 ^ s.bsize_shift) super_same ∙ profile.bsize_shift ∙ sym size_same;
    master = λ name d way. profile.master name d (led_in left r o l laid_left laid l.master name d way);
    device = subst (λ n. n ≤ most_blocks) (x.is.count ∙ sym x.count) profile.device;
    journals = journals;
    journal = λ j d at. subst (λ n. (least_journal_blocks ≤ n) × (n ≤ most_journal_blocks)) (places_same j d at) (profile.journal j d at);
    groups = profile.groups;
    group_blocks = profile.group_blocks;
    sequence = λ j d now at headed.
        let first = back im left m is x o l laid j d at in
        let journal = mounted_at im m is j d first in
        elim (cases_Bool journal.0.head.clean) [
          | inl clean ↦
              let same : now.sequence ≡ journal.0.head.sequence = ap (λ (h : LogHeader). h.sequence) (x.still j d journal.0.head now first journal.2.head headed clean) in
              let was : journal.0.head.sequence < 2 ^ 63 = is.profile.sequence j d journal.0.head first journal.2.head in
              omega (arith, same, was)
          | inr dirty ↦
              let next = x.sequence j d journal.0.head now first journal.2.head headed in
              let below = low j journal.0 journal.1 dirty in
              omega (arith, next, below)
        ];
  }

of_stands : PlacesDoNotMatter → OneLayout → (im left : Image) (m : MountedValue) (is : IsMounted im m) (t : Tree) (x : IsLeft im is.layout left) → Stands x.replayed t → IsOfProfile x.replayed → HaveLowHeads m → IsOfProfile left
of_stands given one im left m is t x s of low =
    let by = stands_by im left m is x s.owners s.layout s.laid given t (record { laid = s.laid; reads = s.reads }) in
    let profile : IsInProfile x.replayed s.layout = subst (IsInProfile x.replayed) (one x.replayed of.owners s.owners of.layout s.layout of.laid s.laid) of.profile in
    record { owners = s.owners; layout = s.layout; laid = by.laid; profile = in_profile im left m is x s.owners s.layout s.laid by.laid profile low }

pub left_is_of_profile : PlacesDoNotMatter → OneLayout → LeftIsOfProfile
left_is_of_profile given one im left replayed m is l t x stands is_replayed of low =
    of_stands given one im left m is t x (subst (λ r. Stands r t) (one_replay im stands.replayed x.replayed stands.layout is.layout stands.is x.is) stands.stands)
    (subst IsOfProfile (one_replay im replayed x.replayed l is.layout is_replayed x.is) of) low
